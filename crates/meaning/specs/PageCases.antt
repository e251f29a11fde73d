-- The examples of the pages on order, formats and filters, and cases of loop objects, `case` and held values.
use Rattle.std.specs.Prelude.{◌≡◌, ℕ, false, List, [], ◌∷◌, replicate, pos, negsuc, Some, None, codes}
use Rattle.banks.specs.Joined.{nothing}
use Rattle.banks.specs.Operands as operand
use Rattle.banks.specs.Sums.{sums}
use Rattle.tray.specs.declared.records.Record.TheVariants.{Text, Object}
use Rattle.tray.specs.Parts.{span}
use Rattle.tree.specs.Expressions.{forloop, tablerowloop, key, number_literal, text_literal, path, range}
use Rattle.tree.specs.Conditions.{equals, compares, only}
use Rattle.tree.specs.Elements.{Leaf, plain, output, assign, if_block, case_block, for_block, tablerow_block, ifchanged_block, holds, equals_one, has_items, always, Tree, done, leaf, block, no_arms, arm}
use Rattle.meaning.specs.Things.{unset}
use Rattle.meaning.specs.Hosts.{Host}
use Rattle.meaning.specs.Frames.{blank, stands}
use Rattle.meaning.specs.Calls.{put, page, refused, accepted, rendered, run}
use Rattle.meaning.specs.Examples.{abc, bare_name, shown_name, watched}
use Rattle.meaning.specs.Worked.{sheet, ticket_into, says, faulted, Says}
use Rattle.meaning.specs.FaultCases.{one_leaf, filtered}

-- {% for i in (1..3) %}{% if i == 2 %}{{ n }}{% endif %}{% endfor %}
abbrev pub fault_in_visit_2 : Tree
fault_in_visit_2 =
    block 0 (for_block 3 (range (number_literal (pos 1)) (number_literal (pos 3))) None None false)
    (arm has_items
    (block 21 if_block (arm (holds (only (compares (bare_name 3) equals (number_literal (pos 2))))) (leaf 36 (shown_name 0) done) no_arms) done)
    no_arms)
    done

-- {% ifchanged %}B{% endifchanged %}
abbrev pub watched_b : Tree
watched_b = block 0 ifchanged_block (arm always (leaf 15 (plain (codes "B")) done) no_arms) done

-- {{ forloop.NAME }}
abbrev pub loop_field : List ℕ → Leaf
loop_field k = output (record { value = path forloop (key k ∷ []); filters = [] })

-- {{ forloop.parentloop.index }}
abbrev pub parent_index : Leaf
parent_index = output (record { value = path forloop (key (codes "parentloop") ∷ key (codes "index") ∷ []); filters = [] })

-- {{ tablerowloop.NAME }}
abbrev pub table_field : List ℕ → Leaf
table_field k = output (record { value = path tablerowloop (key k ∷ []); filters = [] })

abbrev pub over_1_to_2 : Tree → Tree
over_1_to_2 body =
    block 0 (for_block 3 (range (number_literal (pos 1)) (number_literal (pos 2))) None None false) (arm has_items body no_arms) done

-- {% for i in (1..2) %}{% tablerow i in (1..1) %}{{ forloop.index }}{{ tablerowloop.row }}{% for i in (1..2) %}{{ forloop.parentloop.index }}{{ forloop.rindex }}{% endfor %}{% endtablerow %}{% endfor %}
-- (all places are 0 here): `forloop` and `parentloop` see through the table
abbrev pub nested : Tree
nested =
    over_1_to_2
    (block 0 (tablerow_block 3 (range (number_literal (pos 1)) (number_literal (pos 1))) None None None)
    (arm has_items (leaf 0 (loop_field (codes "index")) (leaf 0 (table_field (codes "row")) (over_1_to_2 (leaf 0 parent_index (leaf 0 (loop_field (codes "rindex")) done))))) no_arms) done)

-- {% case 5 %}{% when 4, 5 %}A{% when 5 %}B{% else %}E{% endcase %}
abbrev pub first_when : Tree
first_when =
    block 0 (case_block (number_literal (pos 5)))
    (arm (equals_one (number_literal (pos 4) ∷ number_literal (pos 5) ∷ [])) (leaf 1 (plain (codes "A")) done)
    (arm (equals_one (number_literal (pos 5) ∷ [])) (leaf 2 (plain (codes "B")) done)
    (arm always (leaf 3 (plain (codes "E")) done) no_arms)))
    done

-- {% assign n = l %}
abbrev pub keep_l : Tree
keep_l = one_leaf (assign 0 (record { value = bare_name 2; filters = [] }))

-- another tray, in which record 2 is a text
abbrev pub no_array : Host
no_array = record { records = Object (span 1 1) ∷ Text (span 0 1) ∷ Text (span 1 1) ∷ []; letters = codes "lx" }

pub record PageCases : Type 0 where
  -- a fault in the second visit: the `if` at 21, then the `for` at 0 in its visit 2
  pub trail :
      (run (sheet (fault_in_visit_2 ∷ [])) nothing (ticket_into 1 0 ∷ []) unset).0 ≡
      faulted 21 36 (0 ∷ []) (stands 21 0 ∷ stands 0 2 ∷ []) (replicate 14 blank) ∷ []
  -- the changed text is shared: A, nothing, B in one order, A, B, A in the other
  pub changed_twice :
      (run (sheet (watched ∷ watched_b ∷ [])) nothing (ticket_into 1 0 ∷ ticket_into 1 0 ∷ ticket_into 1 1 ∷ []) unset).0 ≡
      says "A" ∷ rendered None (0 ∷ []) (replicate 16 blank) ∷ says "B" ∷ []
  pub changed_always :
      (run (sheet (watched ∷ watched_b ∷ [])) nothing (ticket_into 1 0 ∷ ticket_into 1 1 ∷ ticket_into 1 0 ∷ []) unset).0 ≡
      says "A" ∷ says "B" ∷ says "A" ∷ []
  -- {{ "4" | times: "+5" }}
  pub filter : (run (sheet (one_leaf (filtered (text_literal (codes "4")) (codes "times") (Some (text_literal (codes "+5")))) ∷ [])) sums (ticket_into 2 0 ∷ []) unset).0 ≡ says "20" ∷ []
  pub loops : Says nested "<tr class=\"row1\"><td class=\"col1\">111211</td></tr><tr class=\"row1\"><td class=\"col1\">212221</td></tr>"
  pub case_once : Says first_when "A"
  -- an array that was kept is read in the tray of the call, and is nil where that has none
  pub read_again : (run (sheet (keep_l ∷ one_leaf (shown_name 0) ∷ [])) nothing (ticket_into 0 0 ∷ ticket_into 3 1 ∷ page 1 no_array 0 16 ∷ []) unset).0 ≡ says "" ∷ says "abc" ∷ says "" ∷ []
  -- `put` of a name of the sheet, of one that is not, and a render with too short a trail
  pub puts : (run (sheet (one_leaf (shown_name 0) ∷ [])) nothing (put (codes "n") (operand.whole (negsuc 4)) ∷ put (codes "q") operand.nil ∷ page 0 abc 2 15 ∷ page 1 abc 2 16 ∷ ticket_into 2 0 ∷ []) unset).0 ≡
      accepted ∷ refused 11 ∷ refused 12 ∷ refused 12 ∷ says "-5" ∷ []
