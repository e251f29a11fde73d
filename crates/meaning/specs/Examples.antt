-- Small templates, each with its source above it, and the host data that they are rendered with.
use Rattle.std.specs.Prelude.{ℕ, Bool, true, false, List, [], ◌∷◌, ℤ, pos, Some, None, codes, Option}
use Rattle.tray.specs.declared.records.Record.TheVariants.{Text, Array, Object}
use Rattle.tray.specs.Parts.{span}
use Rattle.tree.specs.Expressions.{forloop, named, key, Expr, boolean_literal, number_literal, path, row_from}
use Rattle.tree.specs.Conditions.{equals, exists, compares, only, both, either}
use Rattle.tree.specs.Elements.{Leaf, plain, output, increment, decrement, cycle, break}
use Rattle.tree.specs.Elements.{if_block, for_block, tablerow_block, capture_block, ifchanged_block, holds, has_items, always, Tree, done, leaf, block, no_arms, arm}
use Rattle.meaning.specs.Hosts.{Host}

-- `l` is an array of the texts a, b, c
abbrev pub abc : Host
abc =
    record {
      records = Object (span 1 1) ∷ Text (span 0 1) ∷ Array (span 3 3) ∷ Text (span 1 1) ∷ Text (span 2 1) ∷ Text (span 3 1) ∷ [];
      letters = codes "labc";
    }

-- the names n, m, l and i are the numbers 0, 1, 2 and 3
abbrev pub names : List (List ℕ)
names = codes "n" ∷ codes "m" ∷ codes "l" ∷ codes "i" ∷ []

abbrev pub bare_name : ℕ → Expr
bare_name n = path (named n) []

abbrev pub shown_name : ℕ → Leaf
shown_name n = output (record { value = bare_name n; filters = [] })

abbrev pub a_number : ℤ → Option Expr
a_number z = Some (number_literal z)

-- {{ n }}, {% increment n %}, {% increment m %}, {% decrement n %}
abbrev pub show_n : Tree
show_n = leaf 0 (shown_name 0) done

abbrev pub count_n : Tree
count_n = leaf 0 (increment 0) done

abbrev pub count_m : Tree
count_m = leaf 0 (increment 1) done

abbrev pub count_down_n : Tree
count_down_n = leaf 0 (decrement 0) done

-- {% cycle "g": 1, 2, 3 %}
abbrev pub cycle_of_three : Tree
cycle_of_three = leaf 0 (cycle 0 (number_literal (pos 1) ∷ number_literal (pos 2) ∷ number_literal (pos 3) ∷ [])) done

-- {% cycle "g": 1, 2 %}
abbrev pub cycle_of_two : Tree
cycle_of_two = leaf 0 (cycle 0 (number_literal (pos 1) ∷ number_literal (pos 2) ∷ [])) done

-- {% tablerow i in l cols:2 %}{{ i }}{% endtablerow %}
abbrev pub table_of_two : Tree
table_of_two =
    block 0 (tablerow_block 3 (row_from (bare_name 2)) (a_number (pos 2)) None None)
    (arm has_items (leaf 30 (shown_name 3) done) no_arms) done

-- {% tablerow i in l cols:2 %}{{i}}{% break %}!{% endtablerow %}.
abbrev pub broken_table : Tree
broken_table =
    block 0 (tablerow_block 3 (row_from (bare_name 2)) (a_number (pos 2)) None None)
    (arm has_items (leaf 28 (shown_name 3) (leaf 33 break (leaf 44 (plain (codes "!")) done))) no_arms)
    (leaf 62 (plain (codes ".")) done)

-- {% if false and false or true %}A{% else %}B{% endif %}
abbrev pub grouped : Tree
grouped =
    block 0 if_block
    (arm (holds (both (exists (boolean_literal false)) (either (exists (boolean_literal false)) (only (exists (boolean_literal true))))))
    (leaf 32 (plain (codes "A")) done)
    (arm always (leaf 43 (plain (codes "B")) done) no_arms)) done

-- {% if false and n == 1 or true %}A{% else %}B{% endif %}: there is no n, but it is not asked for
abbrev pub not_asked : Tree
not_asked =
    block 0 if_block
    (arm (holds (both (exists (boolean_literal false)) (either (compares (bare_name 0) equals (number_literal (pos 1))) (only (exists (boolean_literal true))))))
    (leaf 33 (plain (codes "A")) done)
    (arm always (leaf 44 (plain (codes "B")) done) no_arms)) done

-- {% for i in l limit:.. offset:.. reversed %}{{ i }}{% else %}-{% endfor %}
abbrev pub window_of : (offset limit : Option Expr) → Bool → Tree
window_of offset limit reversed =
    block 0 (for_block 3 (row_from (bare_name 2)) limit offset reversed)
    (arm has_items (leaf 50 (shown_name 3) done) (arm always (leaf 67 (plain (codes "-")) done) no_arms)) done

-- {% for i in l %}{% increment n %}{% endfor %}
abbrev pub counted_visits : Tree
counted_visits =
    block 0 (for_block 3 (row_from (bare_name 2)) None None false)
    (arm has_items (leaf 16 (increment 0) done) no_arms) done

-- {% for i in l %}{% break %}{% else %}-{% endfor %}.
abbrev pub broken_at_once : Tree
broken_at_once =
    block 0 (for_block 3 (row_from (bare_name 2)) None None false)
    (arm has_items (leaf 16 break done) (arm always (leaf 37 (plain (codes "-")) done) no_arms))
    (leaf 50 (plain (codes ".")) done)

-- {% capture n %}ab{% endcapture %}{{ n }}
abbrev pub captured : Tree
captured = block 0 (capture_block 0) (arm always (leaf 15 (plain (codes "ab")) done) no_arms) (leaf 33 (shown_name 0) done)

-- {% ifchanged %}A{% endifchanged %}
abbrev pub watched : Tree
watched = block 0 ifchanged_block (arm always (leaf 15 (plain (codes "A")) done) no_arms) done

-- {% for i in l %}{% if forloop.last %}{{ n }}{% endif %}{% endfor %}
abbrev pub fault_inside : Tree
fault_inside =
    block 0 (for_block 3 (row_from (bare_name 2)) None None false)
    (arm has_items
    (block 16 if_block (arm (holds (only (exists (path forloop (key (codes "last") ∷ []))))) (leaf 35 (shown_name 0) done) no_arms) done)
    no_arms)
    done
