use Rattle.std.proofs.Common.{⊎_elim, refl, sym, subst, w64, SFits, rules}
use Rattle.std.proofs.lemmas.Int.{to_z-of_z}
use Rattle.held.specs.Value.{held_by}
use Rattle.meaning.specs.Things.{boolean, whole, text}
use Rattle.meaning.specs.Tests.{in_text}
use Rattle.comparisons.specs.Ends.{Ends}
use Rattle.comparisons.proofs.Holds.{gives_ends, nil_ends}
use Rattle.comparisons.proofs.contains.contains.Goals as goal

pub returns-in-Nil : goal.returns-in-Nil
returns-in-Nil c = λ w h. rw c.in-Nil.is nil_ends

pub returns-in-Boolean : goal.returns-in-Boolean
returns-in-Boolean c = λ w h. rw c.in-Boolean.is (c.in_text.ensures w h (boolean c.in-Boolean.b) (sym c.boolean_text.ensures))

pub returns-in-Whole : goal.returns-in-Whole
returns-in-Whole c =
    let f : SFits w64 c.in-Whole.n = search rules in
    λ w h. rw c.in-Whole.is (subst (λ z. Ends (in_text w (whole z) (held_by (λ t. t.now) c.args.sought)) c.in_number.result) (to_z-of_z w64 c.in-Whole.n f) (c.in_number.ensures w h))

pub returns-in-Text : goal.returns-in-Text
returns-in-Text c = λ w h. rw c.in-Text.is (c.in_text-in-Text.ensures w h (text c.in-Text.t.now) refl)

pub returns-in-Array : goal.returns-in-Array
returns-in-Array c =
    λ w h. ⊎_elim (λ q. rw q.1 (gives_ends _ _ (rw q.1 at c.in_items.ensures w h))) (λ q. rw q.1 (gives_ends _ _ (rw q.1 at c.in_items.ensures w h))) c.in-Array.is

pub returns-in-Object : goal.returns-in-Object
returns-in-Object c = λ w h. rw c.in-Object.is (gives_ends _ _ (c.in_keys.ensures w h))
