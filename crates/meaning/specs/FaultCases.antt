-- For each fault a template that gives it (25 is among the worked cases), with its source above it.
use Rattle.std.specs.Prelude.{◌≡◌, ℕ, ◌-◌, ◌^◌, true, false, List, [], ◌∷◌, ◌++◌, length, replicate, ℤ, pos, negsuc, Some, None, codes, Option}
use Rattle.banks.specs.Joined.{nothing}
use Rattle.banks.specs.Meaning.{Meaning}
use Rattle.banks.specs.Sums.{sums}
use Rattle.tree.specs.Expressions.{forloop, Expr, nil_literal, boolean_literal, number_literal, text_literal, path, row_from, range}
use Rattle.tree.specs.Conditions.{Condition, equals, contains, compares, only}
use Rattle.tree.specs.Elements.{Leaf, plain, output, assign, increment, decrement, cycle, if_block, for_block, tablerow_block, capture_block, holds, has_items, always, Tree, done, leaf, block, no_arms, arm}
use Rattle.meaning.specs.Things.{name, cycle_name, Drawers, unset, altered, with_counter, whole}
use Rattle.meaning.specs.Frames.{TrailRecord, blank, stands}
use Rattle.meaning.specs.Calls.{rendered, run}
use Rattle.meaning.specs.Examples.{bare_name, shown_name, a_number, count_n, cycle_of_three}
use Rattle.meaning.specs.Worked.{sheet, ticket_into, Says}

-- from some drawers, with an empty buffer: a fault of the element at a place, inside some blocks
abbrev pub Faults : Meaning → Drawers → Tree → (number : ℕ) → (cause : Option ℕ) → (place : ℕ) → (around : List TrailRecord) → Type 0
Faults bank d t number cause place around =
    (run (sheet (t ∷ [])) bank (ticket_into 0 0 ∷ []) d).0 ≡
    rendered (Some (record { number = number; cause = cause; place = place; trail = around })) [] (around ++ replicate (16 - length around) blank) ∷ []

abbrev pub one_leaf : Leaf → Tree
one_leaf l = leaf 0 l done

-- {% if .. %}{% endif %}
abbrev pub asks : Condition → Tree
asks c = block 0 if_block (arm (holds c) done no_arms) done

-- {{ value | name: argument }}
abbrev pub filtered : Expr → List ℕ → Option Expr → Leaf
filtered x f a = output (record { value = x; filters = record { filter = f; argument = a } ∷ [] })

-- {% for i in l %}{{ forloop }}{% endfor %}
abbrev pub shows_a_loop : Tree
shows_a_loop =
    block 0 (for_block 3 (row_from (bare_name 2)) None None false)
    (arm has_items (leaf 16 (output (record { value = path forloop []; filters = [] })) done) no_arms) done

-- {% capture n %}..{% endcapture %}, with a text of k bytes
abbrev pub captures : ℕ → Tree
captures k = block 0 (capture_block 0) (arm always (leaf 15 (plain (replicate k 97)) done) no_arms) done

-- a counter at an edge of 64 bits
abbrev pub counted_to : ℤ → Drawers
counted_to z = altered (name 0) (with_counter z) unset

pub record FaultCases : Type 0 where
  -- {{ n }}, where there is no n
  pub absent : Faults nothing unset (one_leaf (shown_name 0)) 21 None 0 []
  -- {% if n == nil %}: absent is not nil
  pub absent_compared : Faults nothing unset (asks (only (compares (bare_name 0) equals nil_literal))) 21 None 0 []
  -- {% for i in l limit:nil %}
  pub no_number : Faults nothing unset (block 0 (for_block 3 (row_from (bare_name 2)) (Some nil_literal) None false) no_arms done) 22 None 0 []
  -- {% for i in "x" %}
  pub no_row : Faults nothing unset (block 0 (for_block 3 (row_from (text_literal (codes "x"))) None None false) no_arms done) 23 None 0 []
  -- {% tablerow i in l cols:0 %}, but not where there is no item
  pub no_column : Faults nothing unset (block 0 (tablerow_block 3 (row_from (bare_name 2)) (a_number (pos 0)) None None) no_arms done) 24 None 0 []
  pub empty_table : Says (block 0 (tablerow_block 3 (row_from nil_literal) (a_number (pos 0)) None None) no_arms done) ""
  -- {% cycle "g": %}
  pub no_values : Faults nothing unset (one_leaf (cycle 0 [])) 26 None 0 []
  -- {% for i in (1..4097) %}
  pub long_range : Faults nothing unset (block 0 (for_block 3 (range (number_literal (pos 1)) (number_literal (pos 4097))) None None false) no_arms done) 27 None 0 []
  -- {% increment n %}, {% decrement n %} at the edges
  pub upper_edge : Faults nothing (counted_to (pos (2 ^ 63 - 1))) (one_leaf (increment 0)) 28 None 0 []
  pub lower_edge : Faults nothing (counted_to (negsuc (2 ^ 63 - 1))) (one_leaf (decrement 0)) 28 None 0 []
  -- {% if nil contains 1 %}
  pub in_nil : Faults nothing unset (asks (only (compares nil_literal contains (number_literal (pos 1))))) 29 None 0 []
  pub loop_object : Faults nothing unset shows_a_loop 30 None 16 (stands 0 1 ∷ [])
  -- {% assign n = ".." %} of 257 bytes; 256 are kept
  pub long_text : Faults nothing unset (one_leaf (assign 0 (record { value = text_literal (replicate 257 97); filters = [] }))) 31 None 0 []
  pub long_capture :
      (run (sheet (captures 257 ∷ [])) nothing (ticket_into 300 0 ∷ []) unset).0 ≡
      rendered (Some (record { number = 31; cause = None; place = 0; trail = [] })) (replicate 300 0) (replicate 16 blank) ∷ []
  pub short_capture : (run (sheet (captures 256 ∷ [])) nothing (ticket_into 256 0 ∷ []) unset).0 ≡ rendered None (replicate 256 0) (replicate 16 blank) ∷ []
  -- {{ 1 | plus: 1 }} without a bank that knows it
  pub unknown_filter : Faults nothing unset (one_leaf (filtered (number_literal (pos 1)) (codes "plus") (a_number (pos 1)))) 32 (Some 1) 0 []
  -- {{ true | plus: 1 }}, {{ 1 | plus }}, {{ l | plus: 1 }}
  pub wrong_operand : Faults sums unset (one_leaf (filtered (boolean_literal true) (codes "plus") (a_number (pos 1)))) 32 (Some 2) 0 []
  pub missing_operand : Faults sums unset (one_leaf (filtered (number_literal (pos 1)) (codes "plus") None)) 32 (Some 2) 0 []
  pub unfit_operand : Faults sums unset (one_leaf (filtered (bare_name 2) (codes "plus") (a_number (pos 1)))) 32 (Some 2) 0 []
  -- {{ l | plus: n }}: the argument is evaluated before the input is found unfit
  pub argument_first : Faults sums unset (one_leaf (filtered (bare_name 2) (codes "plus") (Some (bare_name 0)))) 21 None 0 []
  -- {{ 9223372036854775807 | plus: 1 }}
  pub beyond : Faults sums unset (one_leaf (filtered (number_literal (pos (2 ^ 63 - 1))) (codes "plus") (a_number (pos 1)))) 32 (Some 3) 0 []
  -- text into an empty buffer
  pub no_room : Faults nothing unset (one_leaf (plain (codes "x"))) 33 None 0 []
  -- what a fault leaves: a counter that found no room is not stored, a cycle is advanced, a long capture is not kept, and what was done before is
  pub not_counted : ((run (sheet (count_n ∷ [])) nothing (ticket_into 0 0 ∷ []) unset).1 (name 0)).counter ≡ None
  pub still_advanced : ((run (sheet (cycle_of_three ∷ [])) nothing (ticket_into 0 0 ∷ []) unset).1 (cycle_name 0)).position ≡ 1
  pub not_kept : ((run (sheet (captures 257 ∷ [])) nothing (ticket_into 300 0 ∷ []) unset).1 (name 0)).variable ≡ None
  pub done_before :
      ((run (sheet (leaf 0 (assign 0 (record { value = number_literal (pos 5); filters = [] })) (leaf 1 (shown_name 1) done) ∷ [])) nothing (ticket_into 0 0 ∷ []) unset).1 (name 0)).variable ≡
      Some (whole (pos 5))
