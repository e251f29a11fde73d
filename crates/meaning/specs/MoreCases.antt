-- Cases of lookup, steps, comparisons, `contains`, interrupts and tables.
use Rattle.std.specs.Prelude.{◌≡◌, ℕ, true, false, List, [], ◌∷◌, ℤ, pos, negsuc, None, codes, Option}
use Prim.Native.String.{String}
use Rattle.banks.specs.Joined.{nothing}
use Rattle.banks.specs.Operands.{Datum}
use Rattle.banks.specs.Operands as operand
use Rattle.tree.specs.Expressions.{tablerowloop, named, Step, index, key, Expr, nil_literal, boolean_literal, number_literal, text_literal, path, row_from}
use Rattle.tree.specs.Conditions.{Comparison, equals, differs, is_less, is_more, at_most, at_least, contains, exists, compares, only}
use Rattle.tree.specs.Elements.{plain, output, increment, break, continue, if_block, for_block, tablerow_block, capture_block, holds, fails, has_items, always, Tree, done, leaf, block, no_arms, arm}
use Rattle.meaning.specs.Things.{unset}
use Rattle.meaning.specs.Calls.{put, accepted, run}
use Rattle.meaning.specs.Examples.{bare_name, shown_name, a_number}
use Rattle.meaning.specs.Worked.{sheet, ticket_into, says, Says}
use Rattle.meaning.specs.FaultCases.{Faults, one_leaf, asks}

-- {{ l STEP }}
abbrev pub step_into_l : Step → Tree
step_into_l s = one_leaf (output (record { value = path (named 2) (s ∷ []); filters = [] }))

-- {% if a COMPARISON b %}yes{% else %}no{% endif %}
abbrev pub answers : Expr → Comparison → Expr → Tree
answers a c b =
    block 0 if_block (arm (holds (only (compares a c b))) (leaf 1 (plain (codes "yes")) done) (arm always (leaf 2 (plain (codes "no")) done) no_arms)) done

abbrev pub num : ℤ → Expr
num z = number_literal z

abbrev pub txt : String → Expr
txt s = text_literal (codes s)

-- {% for i in l %} .. {% endfor %}
abbrev pub over_l : Tree → Tree → Tree
over_l body rest = block 0 (for_block 3 (row_from (bare_name 2)) None None false) (arm has_items body no_arms) rest

abbrev pub dot : Tree
dot = leaf 9 (plain (codes ".")) done

-- {% tablerow i in l cols:.. %}{{ tablerowloop.NAME }}{% endtablerow %}
abbrev pub table_shows : Option Expr → List ℕ → Tree
table_shows cols k =
    block 0 (tablerow_block 3 (row_from (bare_name 2)) cols None None)
    (arm has_items (leaf 1 (output (record { value = path tablerowloop (key k ∷ []); filters = [] })) done) no_arms) done

-- after `put` of a value under a name, a template says a text
abbrev pub SaysAfter : List ℕ → Datum → Tree → ℕ → String → Type 0
SaysAfter k v t n s = (run (sheet (t ∷ [])) nothing (put k v ∷ ticket_into n 0 ∷ []) unset).0 ≡ accepted ∷ says s ∷ []

pub record MoreCases : Type 0 where
  -- a variable comes before the tray, nil too, and the tray before a counter; a frame before all
  pub variable_first : SaysAfter (codes "l") (operand.whole (pos 7)) (one_leaf (shown_name 2)) 1 "7"
  pub held_nil : SaysAfter (codes "l") operand.nil (one_leaf (shown_name 2)) 0 ""
  pub tray_before_counter : Says (leaf 0 (increment 2) (leaf 1 (shown_name 2) done)) "0abc"
  pub counter_last : Says (leaf 0 (increment 0) (leaf 1 (shown_name 0) done)) "01"
  pub frame_first : SaysAfter (codes "i") (operand.whole (pos 7)) (over_l (leaf 1 (shown_name 3) done) (leaf 2 (shown_name 3) done)) 4 "abc7"
  -- l[1], l[-1], l.first, l.last, l.size; l[3] and l["0"] are absent
  pub index_1 : Says (step_into_l (index (pos 1))) "b"
  pub from_the_end : Says (step_into_l (index (negsuc 0))) "c"
  pub first : Says (step_into_l (key (codes "first"))) "a"
  pub last : Says (step_into_l (key (codes "last"))) "c"
  pub size : Says (step_into_l (key (codes "size"))) "3"
  pub past : Faults nothing unset (step_into_l (index (pos 3))) 21 None 0 []
  pub before : Faults nothing unset (step_into_l (index (negsuc 3))) 21 None 0 []
  pub text_key : Faults nothing unset (step_into_l (key (codes "0"))) 21 None 0 []
  -- comparisons
  pub unequal_kinds : Says (answers (num (pos 1)) equals (txt "1")) "no"
  pub differing_kinds : Says (answers (num (pos 1)) differs (txt "1")) "yes"
  pub less : Says (answers (num (negsuc 0)) is_less (num (pos 0))) "yes"
  pub not_less : Says (answers (num (pos 1)) is_less (num (pos 1))) "no"
  pub more : Says (answers (txt "b") is_more (txt "ab")) "yes"
  pub beginning : Says (answers (txt "a") is_less (txt "ab")) "yes"
  pub at_most_itself : Says (answers (num (pos 1)) at_most (num (pos 1))) "yes"
  pub not_at_most : Says (answers (num (pos 2)) at_most (num (pos 1))) "no"
  pub at_least_itself : Says (answers (txt "a") at_least (txt "a")) "yes"
  pub not_at_least : Says (answers (txt "a") at_least (txt "b")) "no"
  pub no_order : Says (answers (boolean_literal true) at_most (boolean_literal true)) "no"
  pub no_mixed_order : Says (answers (num (pos 1)) is_less (txt "2")) "no"
  -- contains
  pub text_in_text : Says (answers (txt "abc") contains (txt "bc")) "yes"
  pub text_not_in_text : Says (answers (txt "abc") contains (txt "cb")) "no"
  pub number_in_number : Says (answers (num (pos 123)) contains (num (pos 23))) "yes"
  pub item_of_array : Says (answers (bare_name 2) contains (txt "b")) "yes"
  pub no_item_of_array : Says (answers (bare_name 2) contains (txt "bc")) "no"
  pub joined : Says (answers (txt "xabcx") contains (bare_name 2)) "yes"
  pub never_nil : Says (answers (txt "") contains nil_literal) "no"
  -- {% unless false %}A{% endunless %}; only nil and false fail an existence test
  pub unless : Says (block 0 if_block (arm (fails (only (exists (boolean_literal false)))) (leaf 1 (plain (codes "A")) done) no_arms) done) "A"
  pub zero_is_true : Says (block 0 if_block (arm (holds (only (exists (num (pos 0))))) (leaf 1 (plain (codes "A")) done) no_arms) done) "A"
  pub absent_is_false : Says (asks (only (exists (bare_name 0)))) ""
  -- {% for i in l %}{{ i }}{% continue %}!{% endfor %}.
  pub continues : Says (over_l (leaf 1 (shown_name 3) (leaf 2 continue (leaf 3 (plain (codes "!")) done))) dot) "abc."
  pub breaks : Says (over_l (leaf 1 (shown_name 3) (leaf 2 break (leaf 3 (plain (codes "!")) done))) dot) "a."
  -- {% for i in l %}{% if true %}{% break %}{% endif %}!{% endfor %}.
  pub breaks_out_of_if :
      Says (over_l (block 1 if_block (arm (holds (only (exists (boolean_literal true)))) (leaf 2 break done) no_arms) (leaf 3 (plain (codes "!")) done)) dot) "."
  -- {% for i in l %}{% capture n %}x{% break %}y{% endcapture %}!{% endfor %}{{ n }}: the capture that is left still stores
  pub breaks_out_of_capture :
      Says (over_l (block 1 (capture_block 0) (arm always (leaf 2 (plain (codes "x")) (leaf 3 break (leaf 4 (plain (codes "y")) done))) no_arms) (leaf 5 (plain (codes "!")) done)) (leaf 6 (shown_name 0) done)) "x"
  -- {% for i in l %}{% for i in nil %}{% else %}{% break %}{% endfor %}!{% endfor %}.: an `else` is no visit
  pub breaks_out_of_else :
      Says (over_l (block 1 (for_block 3 (row_from nil_literal) None None false) (arm has_items done (arm always (leaf 2 break done) no_arms)) (leaf 3 (plain (codes "!")) done)) dot) "."
  -- a break outside every loop ends the ticket, and means nothing more
  pub breaks_at_the_end : Says (leaf 0 (plain (codes "a")) (leaf 1 break (leaf 2 (plain (codes "b")) done))) "a"
  -- tables without `cols`, with a negative one, and the fields of their objects
  pub one_row : Says (table_shows None (codes "col")) "<tr class=\"row1\"><td class=\"col1\">1</td><td class=\"col2\">2</td><td class=\"col3\">3</td></tr>"
  pub negative_cols : Says (table_shows (a_number (negsuc 0)) (codes "row")) "<tr class=\"row1\"><td class=\"col1\">1</td><td class=\"col2\">1</td><td class=\"col3\">1</td></tr>"
  pub last_columns : Says (table_shows (a_number (pos 2)) (codes "col_last")) "<tr class=\"row1\"><td class=\"col1\">false</td><td class=\"col2\">true</td></tr><tr class=\"row2\"><td class=\"col1\">true</td></tr>"
  pub first_columns : Says (table_shows (a_number (pos 2)) (codes "col_first")) "<tr class=\"row1\"><td class=\"col1\">true</td><td class=\"col2\">false</td></tr><tr class=\"row2\"><td class=\"col1\">true</td></tr>"
  -- a mark that does not fit is a fault of the table itself
  pub mark_without_room : Faults nothing unset (table_shows None (codes "col")) 33 None 0 []
