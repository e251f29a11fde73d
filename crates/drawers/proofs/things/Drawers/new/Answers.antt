use Rattle.drawers.proofs.Unset.{shows_unset}
use Rattle.drawers.proofs.things.Drawers.new.Goals as goal

pub returns : goal.returns
returns c =
    shows_unset
    (record {
      variables = c.in_ok-new.field-0;
      counters = c.in_ok-new-2.field-0;
      positions = c.in_ok-new-3.field-0;
      changed = c.new-4.result;
      variable_places = c.in_ok-new.ensures.places;
      counter_places = c.in_ok-new-2.ensures.places;
      position_places = c.in_ok-new-3.ensures.places;
    })
    128 128 32 c.in_ok-new.ensures.items c.in_ok-new-2.ensures.items c.in_ok-new-3.ensures.items c.new-4.ensures
