-- The fields of loop objects, as the code's values.
use Rattle.std.specs.Prelude.{ℕ, ◌+◌, ◌-◌, Bool, cond, List, ℤ, pos, Some, None, codes, Option, ◌==◌}
use Rattle.tray.specs.Parts.{same_text}
use Rattle.held.specs.declared.value.Value.TheVariants as value
use Rattle.frames.specs.declared.met.Met as code_met
use Rattle.frames.specs.declared.met.Met.TheVariants as met
use Rattle.meaning.specs.Frames.{column, row_number, is_last, is_col_first, is_col_last}

abbrev pub number : ℕ → code_met.Met
number n = met.Value (value.Whole (pos n))

abbrev pub truth : Bool → code_met.Met
truth b = met.Value (value.Boolean b)

-- the fields that both kinds of loop object have
abbrev pub common_met : ℕ → ℕ → List ℕ → Option code_met.Met
common_met n i k =
    cond (same_text k (codes "length")) (Some (number n))
    (cond (same_text k (codes "index0")) (Some (number i))
    (cond (same_text k (codes "index")) (Some (number (i + 1)))
    (cond (same_text k (codes "rindex0")) (Some (number (n - i - 1)))
    (cond (same_text k (codes "rindex")) (Some (number (n - i)))
    (cond (same_text k (codes "first")) (Some (truth (i == 0)))
    (cond (same_text k (codes "last")) (Some (truth (is_last n i))) None))))))

-- the fields that only the object of a table has
abbrev pub table_met : ℤ → ℕ → ℕ → List ℕ → Option code_met.Met
table_met c n i k =
    cond (same_text k (codes "col0")) (Some (number (column c i)))
    (cond (same_text k (codes "col")) (Some (number (column c i + 1)))
    (cond (same_text k (codes "row")) (Some (number (row_number c i + 1)))
    (cond (same_text k (codes "col_first")) (Some (truth (is_col_first c i)))
    (cond (same_text k (codes "col_last")) (Some (truth (is_col_last c n i))) None))))
