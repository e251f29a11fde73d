-- Worked cases: what the examples give.
use Rattle.std.specs.Prelude.{◌≡◌, ℕ, true, false, List, [], ◌∷◌, ◌++◌, length, replicate, pos, negsuc, Some, None, codes}
use Prim.Native.String.{String}
use Rattle.banks.specs.Joined.{nothing}
use Rattle.tree.specs.Elements.{Tree}
use Rattle.meaning.specs.Things.{name, cycle_name, unset}
use Rattle.meaning.specs.Frames.{TrailRecord, blank, stands}
use Rattle.meaning.specs.Calls.{Sheet, Call, page, Clash, Result, rendered, run}
use Rattle.meaning.specs.Examples.{abc, names, a_number, show_n, count_n, count_m, count_down_n, cycle_of_three, cycle_of_two, table_of_two, broken_table, grouped, not_asked, window_of, counted_visits, broken_at_once, captured, watched, fault_inside}

abbrev pub sheet : List Tree → Sheet
sheet ts = record { names = names; templates = ts }

-- the template with a number, rendered with the host data into a buffer of a length
abbrev pub ticket_into : ℕ → ℕ → Call
ticket_into buffer i = page i abc buffer 16

-- a ticket without a fault that fills its buffer
abbrev pub says : String → Result
says t = rendered None (codes t) (replicate 16 blank)

-- a fault, what stands in the buffer, and the blocks around
abbrev pub faulted : ℕ → ℕ → List ℕ → List TrailRecord → List TrailRecord → Result
faulted number place buffer around rest =
    rendered (Some (record { number = number; cause = None; place = place; trail = around })) buffer (around ++ rest)

-- from unset drawers, a template gives a text into a buffer that it just fills
abbrev pub Says : Tree → String → Type 0
Says t s = (run (sheet (t ∷ [])) nothing (ticket_into (length (codes s)) 0 ∷ []) unset).0 ≡ says s ∷ []

-- `cycle "g"` of three values twice, then of two: the position is 0, 1 and 2, and 2 is not below 2
pub record Cycles : Type 0 where
  pub results :
      (run (sheet (cycle_of_three ∷ cycle_of_two ∷ [])) nothing (ticket_into 1 0 ∷ ticket_into 1 0 ∷ ticket_into 1 1 ∷ []) unset).0 ≡
      says "1" ∷ says "2" ∷ faulted 25 0 (0 ∷ []) [] (replicate 16 blank) ∷ []
  pub position :
      ((run (sheet (cycle_of_three ∷ cycle_of_two ∷ [])) nothing (ticket_into 1 0 ∷ ticket_into 1 0 ∷ ticket_into 1 1 ∷ []) unset).1 (cycle_name 0)).position ≡ 1

-- `decrement` of an unset counter, then `increment`
pub record Counters : Type 0 where
  pub results : (run (sheet (count_down_n ∷ count_n ∷ [])) nothing (ticket_into 2 0 ∷ ticket_into 2 1 ∷ []) unset).0 ≡ says "-1" ∷ says "-1" ∷ []
  pub counter : ((run (sheet (count_down_n ∷ count_n ∷ [])) nothing (ticket_into 2 0 ∷ ticket_into 2 1 ∷ []) unset).1 (name 0)).counter ≡ Some (pos 0)

-- a table of a, b, c in two columns; a `break` ends its row and the table, and the ticket goes on
pub record Tables : Type 0 where
  pub two_columns : Says table_of_two "<tr class=\"row1\"><td class=\"col1\">a</td><td class=\"col2\">b</td></tr><tr class=\"row2\"><td class=\"col1\">c</td></tr>"
  pub broken_off : Says broken_table "<tr class=\"row1\"><td class=\"col1\">a</td></tr>."

-- `false and false or true` is `false and (false or true)`, and only its first test is made
pub record Conditions : Type 0 where
  pub from_the_right : Says grouped "B"
  pub as_far_as_needed : Says not_asked "B"

-- windows over a, b, c as a `for` with an `else` shows them
pub record Windows : Type 0 where
  pub cut_off : Says (window_of (a_number (pos 2)) (a_number (pos 3)) false) "c"
  pub backwards : Says (window_of (a_number (pos 1)) (a_number (pos 3)) true) "cb"
  pub past_the_row : Says (window_of (a_number (pos 5)) (a_number (pos 1)) false) "-"
  pub limit_0 : Says (window_of None (a_number (pos 0)) false) "-"
  pub limit_below_0 : Says (window_of None (a_number (negsuc 0)) false) "-"
  pub offset_below_0 : Says (window_of (a_number (negsuc 0)) (a_number (pos 2)) false) "a"
  pub offset_below_0_only : Says (window_of (a_number (negsuc 0)) None false) "abc"
  pub both_ways : Says (window_of (a_number (pos 2)) (a_number (negsuc 0)) false) "-"

-- each visit finds what the one before left; a `break` in the first visit makes no `else` run
pub record Visits : Type 0 where
  pub one_after_another : Says counted_visits "012"
  pub no_else : Says broken_at_once "."

-- a text fits where it just fills the buffer, captured text takes its space while the capture is open, and gives it back
pub record Pieces : Type 0 where
  pub exactly : Says captured "ab"
  pub too_short :
      (run (sheet (captured ∷ [])) nothing (ticket_into 1 0 ∷ []) unset).0 ≡
      faulted 33 15 (0 ∷ []) (stands 0 0 ∷ []) (replicate 15 blank) ∷ []
  -- the changed text outlives a ticket
  pub shown_once : (run (sheet (watched ∷ [])) nothing (ticket_into 1 0 ∷ ticket_into 0 0 ∷ ticket_into 1 0 ∷ []) unset).0 ≡
      says "A" ∷ faulted 33 15 [] (stands 0 0 ∷ []) (replicate 15 blank) ∷ rendered None (0 ∷ []) (replicate 16 blank) ∷ []

-- a fault in the third visit of a loop: the `if` at 16, then the `for` at 0 in its visit 3
abbrev pub Trail : Type 0
Trail =
    (run (sheet (fault_inside ∷ [])) nothing (ticket_into 2 0 ∷ []) unset).0 ≡
    faulted 21 35 (0 ∷ 0 ∷ []) (stands 16 0 ∷ stands 0 3 ∷ []) (replicate 14 blank) ∷ []

-- `{{ n }}` may find the counter n
pub record Clashes : Type 0 where
  pub with_its_counter : Clash (sheet (show_n ∷ count_n ∷ count_m ∷ [])) (ticket_into 9 0) (ticket_into 9 1)
  pub not_with_another : ¬ (Clash (sheet (show_n ∷ count_n ∷ count_m ∷ [])) (ticket_into 9 0) (ticket_into 9 2))

pub record WorkedCases : Type 0 where
  pub cycles : Cycles
  pub counters : Counters
  pub tables : Tables
  pub conditions : Conditions
  pub windows : Windows
  pub visits : Visits
  pub pieces : Pieces
  pub trail : Trail
  pub clashes : Clashes
