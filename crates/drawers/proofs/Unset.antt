-- Drawers with nothing in them.
use Rattle.std.proofs.Common.{◌≡◌, ℕ, zero, suc, [], None, replicate, refl, ap, ◌∙◌}
use Rattle.std.specs.Prelude.{Option, slice_index_or}
use Rattle.std.specs.Option.{option_map, unwrap_or}
use mathlib.Core.Path.{fun_ext}
use Rattle.drawers.specs.Shown.{held_of, at, shows}
use Rattle.drawers.specs.declared.things.Drawers as code
use Rattle.meaning.specs.Things.{Thing, name, cycle_name, changed, Content, unset}

none_at : {T : Type 0} (k n : ℕ) → slice_index_or (replicate {A = Option T} k None) n None ≡ None
none_at zero n = refl
none_at (suc k) zero = refl
none_at (suc k) (suc n) = none_at k n

pub shows_unset : (d : code.Drawers) (k l m : ℕ) → d.variables.slots.items ≡ replicate k None → d.counters.slots.items ≡ replicate l None → d.positions.slots.items ≡ replicate m None → d.changed.items ≡ [] → shows d ≡ unset
shows_unset d k l m ev ec ep et = fun_ext at_thing
  where
    at_thing : (t : Thing) → shows d t ≡ unset t
    at_thing (name n) =
        let v : at d.variables n ≡ None = ap (λ xs. slice_index_or xs n None) ev ∙ none_at k n in
        let c : at d.counters n ≡ None = ap (λ xs. slice_index_or xs n None) ec ∙ none_at l n in
        ap {B = Content} (λ x. record { variable = option_map held_of x; counter = at d.counters n; position = 0; shown = [] }) v ∙
        ap {B = Content} (λ x. record { variable = None; counter = x; position = 0; shown = [] }) c
    at_thing (cycle_name n) =
        let p : at d.positions n ≡ None = ap (λ xs. slice_index_or xs n None) ep ∙ none_at m n in
        ap {B = Content} (λ x. record { variable = None; counter = None; position = unwrap_or x 0; shown = [] }) p
    at_thing changed = ap {B = Content} (λ x. record { variable = None; counter = None; position = 0; shown = x }) et
