-- The worked cases, by computation.
use Rattle.std.proofs.Common.{◌≡◌, ℕ, refl, inl, inr, arith}
use Rattle.numerals.specs.Decimal.{natural_text, whole_text, whole_of}
use Rattle.rows.specs.Windows.{windowed}
use Rattle.tray.specs.Parts.{same_text}
use Rattle.values.specs.Meaning.{value_at}
use Rattle.meaning.specs.Things.{Thing, name}
use Rattle.meaning.specs.Acts.{◌and_then◌, still, emit, append, look, alter, aside}
use Rattle.meaning.specs.Looking.{find, reach, eval}
use Rattle.meaning.specs.Tests.{tested}
use Rattle.meaning.specs.Chains.{chained}
use Rattle.meaning.specs.Leaves.{leaf_act}
use Rattle.meaning.specs.Openings.{gone_over, opened}
use Rattle.meaning.specs.Blocks.{around, passes}
use Rattle.meaning.specs.Rendering.{render, taken}
use Rattle.meaning.specs.Calls.{perform}
use Rattle.meaning.specs.FaultCases.{FaultCases}
use Rattle.meaning.specs.MoreCases.{MoreCases}
use Rattle.meaning.specs.ObjectCases.{ObjectCases}
use Rattle.meaning.specs.PageCases.{PageCases}
use Rattle.meaning.specs.Worked.{Cycles, Counters, Tables, Conditions, Windows, Visits, Pieces, Trail, Clashes, WorkedCases}

cycles_stand : Cycles
unfolding natural_text whole_text whole_of windowed same_text value_at ◌and_then◌ still emit append look alter aside find reach eval tested chained leaf_act gone_over opened around passes render taken perform
cycles_stand = record { results = refl; position = refl }

counters_stand : Counters
unfolding natural_text whole_text whole_of windowed same_text value_at ◌and_then◌ still emit append look alter aside find reach eval tested chained leaf_act gone_over opened around passes render taken perform
counters_stand = record { results = refl; counter = refl }

tables_stand : Tables
unfolding natural_text whole_text whole_of windowed same_text value_at ◌and_then◌ still emit append look alter aside find reach eval tested chained leaf_act gone_over opened around passes render taken perform
tables_stand = record { two_columns = refl; broken_off = refl }

conditions_stand : Conditions
unfolding natural_text whole_text whole_of windowed same_text value_at ◌and_then◌ still emit append look alter aside find reach eval tested chained leaf_act gone_over opened around passes render taken perform
conditions_stand = record { from_the_right = refl; as_far_as_needed = refl }

windows_stand : Windows
unfolding natural_text whole_text whole_of windowed same_text value_at ◌and_then◌ still emit append look alter aside find reach eval tested chained leaf_act gone_over opened around passes render taken perform
windows_stand = record { cut_off = refl; backwards = refl; past_the_row = refl; limit_0 = refl; limit_below_0 = refl; offset_below_0 = refl; offset_below_0_only = refl; both_ways = refl }

visits_stand : Visits
unfolding natural_text whole_text whole_of windowed same_text value_at ◌and_then◌ still emit append look alter aside find reach eval tested chained leaf_act gone_over opened around passes render taken perform
visits_stand = record { one_after_another = refl; no_else = refl }

pieces_stand : Pieces
unfolding natural_text whole_text whole_of windowed same_text value_at ◌and_then◌ still emit append look alter aside find reach eval tested chained leaf_act gone_over opened around passes render taken perform
pieces_stand = record { exactly = refl; too_short = refl; shown_once = refl }

trail_stands : Trail
unfolding natural_text whole_text whole_of windowed same_text value_at ◌and_then◌ still emit append look alter aside find reach eval tested chained leaf_act gone_over opened around passes render taken perform
trail_stands = refl

apart : {x : Thing} → x ≡ name 1 → x ≡ name 0 → ⊥
apart e f = let z : ◌≡◌ {A = ℕ} 1 0 = cc in absurd (omega arith)

clashes_stand : Clashes
clashes_stand =
    record {
      with_its_counter = inr (name 0, inl refl, inl refl);
      not_with_another = λ c. elim c [
        | inl m ↦ m.1
        | inr m ↦ elim m.1 [ inl e ↦ (elim m.2 [ inl f ↦ apart e f | inr i ↦ absurd i ]) | inr i ↦ absurd i ]
      ];
    }

pub worked_cases : WorkedCases
worked_cases =
    record {
      cycles = cycles_stand;
      counters = counters_stand;
      tables = tables_stand;
      conditions = conditions_stand;
      windows = windows_stand;
      visits = visits_stand;
      pieces = pieces_stand;
      trail = trail_stands;
      clashes = clashes_stand;
    }

pub fault_cases : FaultCases
unfolding natural_text whole_text whole_of windowed same_text value_at ◌and_then◌ still emit append look alter aside find reach eval tested chained leaf_act gone_over opened around passes render taken perform
fault_cases =
    record {
      absent = refl;
      absent_compared = refl;
      no_number = refl;
      no_row = refl;
      no_column = refl;
      empty_table = refl;
      no_values = refl;
      long_range = refl;
      upper_edge = refl;
      lower_edge = refl;
      in_nil = refl;
      loop_object = refl;
      long_text = refl;
      long_capture = refl;
      short_capture = refl;
      unknown_filter = refl;
      wrong_operand = refl;
      missing_operand = refl;
      unfit_operand = refl;
      argument_first = refl;
      beyond = refl;
      no_room = refl;
      not_counted = refl;
      still_advanced = refl;
      not_kept = refl;
      done_before = refl;
    }

pub page_cases : PageCases
unfolding natural_text whole_text whole_of windowed same_text value_at ◌and_then◌ still emit append look alter aside find reach eval tested chained leaf_act gone_over opened around passes render taken perform
page_cases =
    record {
      trail = refl;
      changed_twice = refl;
      changed_always = refl;
      filter = refl;
      loops = refl;
      case_once = refl;
      read_again = refl;
      puts = refl;
    }

pub more_cases : MoreCases
unfolding natural_text whole_text whole_of windowed same_text value_at ◌and_then◌ still emit append look alter aside find reach eval tested chained leaf_act gone_over opened around passes render taken perform
more_cases =
    record {
      variable_first = refl;
      held_nil = refl;
      tray_before_counter = refl;
      counter_last = refl;
      frame_first = refl;
      index_1 = refl;
      from_the_end = refl;
      first = refl;
      last = refl;
      size = refl;
      past = refl;
      before = refl;
      text_key = refl;
      unequal_kinds = refl;
      differing_kinds = refl;
      less = refl;
      not_less = refl;
      more = refl;
      beginning = refl;
      at_most_itself = refl;
      not_at_most = refl;
      at_least_itself = refl;
      not_at_least = refl;
      no_order = refl;
      no_mixed_order = refl;
      text_in_text = refl;
      text_not_in_text = refl;
      number_in_number = refl;
      item_of_array = refl;
      no_item_of_array = refl;
      joined = refl;
      never_nil = refl;
      unless = refl;
      zero_is_true = refl;
      absent_is_false = refl;
      continues = refl;
      breaks = refl;
      breaks_out_of_if = refl;
      breaks_out_of_capture = refl;
      breaks_out_of_else = refl;
      breaks_at_the_end = refl;
      one_row = refl;
      negative_cols = refl;
      last_columns = refl;
      first_columns = refl;
      mark_without_room = refl;
    }

pub object_cases : ObjectCases
unfolding natural_text whole_text whole_of windowed same_text value_at ◌and_then◌ still emit append look alter aside find reach eval tested chained leaf_act gone_over opened around passes render taken perform
object_cases =
    record {
      by_key = refl;
      by_number = refl;
      size = refl;
      as_text = refl;
      entries = refl;
      pair_kept = refl;
      has_key = refl;
      has_number_as_key = refl;
      values_are_no_keys = refl;
      itself = refl;
    }
