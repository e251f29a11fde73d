-- The fields of loop objects, in the definition's values.
use Rattle.std.proofs.Common.{◌≡◌, ℕ, Bool, true, false, cond, List, ℤ, Some, None, Option, refl}
use Rattle.std.specs.Option.{option_map, option_or}
use Rattle.frames.specs.declared.met.Met as code_met
use Rattle.frames.specs.Views.{met_of}
use Rattle.frames.specs.Fields.{common_met, table_met}
use Rattle.meaning.specs.Frames.{Frames, Met, common_field, field, of_table}

module _ (fs : Frames) where
  -- what the code found, else what the definition goes on with
  abbrev pub or_other : Option code_met.Met → Option Met → Option Met
  or_other found other = option_or (option_map (met_of fs) found) other

  choice : (b : Bool) (m : code_met.Met) (found : Option code_met.Met) (other : Option Met) → or_other (cond b (Some m) found) other ≡ cond b (Some (met_of fs m)) (or_other found other)
  choice true m found other = refl
  choice false m found other = refl

  pub common_is : (n i : ℕ) (k : List ℕ) (other : Option Met) → or_other (common_met n i k) other ≡ common_field n i k other
  common_is n i k other = simp choice

  pub table_is : (c : ℤ) (n i : ℕ) (k : List ℕ) → or_other (common_met n i k) (or_other (table_met c n i k) None) ≡ field (of_table n i c) k
  table_is c n i k = simp choice
