use Rattle.std.proofs.Common.{refl, sym, ap, ap₂, ◌∙◌, w64, SFits, rules}
use Rattle.std.proofs.lemmas.Int.{to_z-of_z}
use Rattle.numerals.specs.Decimal.{whole_text}
use Rattle.values.specs.Value.{written}
use Rattle.meaning.specs.Things.{array, object, pair}
use Rattle.meaning.specs.Hosts.{value_of}
use Rattle.meaning.specs.Tests.{stands_in}
use Rattle.comparisons.specs.Ends.{sought_in}
use Rattle.comparisons.proofs.Holds.{gives_ends, sought_ends}
use Rattle.comparisons.proofs.contains.in_text.Goals as goal

pub returns-in-Nil : goal.returns-in-Nil
returns-in-Nil c = λ w h a x. rw c.in-Nil.is (gives_ends _ _ refl)

pub returns-in-Boolean : goal.returns-in-Boolean
returns-in-Boolean c = λ w h a x. rw c.in-Boolean.is (gives_ends _ _ (c.stands_in.ensures ∙ ap₂ stands_in c.boolean_text.ensures (sym x)))

pub returns-in-Whole : goal.returns-in-Whole
returns-in-Whole c =
    let f : SFits w64 c.in-Whole.n = search rules in
    λ w h a x. rw c.in-Whole.is (gives_ends _ _ (c.number_in.ensures ∙ ap₂ (λ z t. stands_in (whole_text z) t) (to_z-of_z w64 c.in-Whole.n f) (sym x)))

pub returns-in-Text : goal.returns-in-Text
returns-in-Text c = λ w h a x. rw c.in-Text.is (gives_ends _ _ (c.stands_in-in-Text.ensures ∙ ap (stands_in c.in-Text.t.now) (sym x)))

pub returns-in-Array : goal.returns-in-Array
returns-in-Array c =
    λ w h a x. rw c.in-Array.is (sought_ends _ _ _ (c.record_in.ensures ∙ ap₂ sought_in (ap (λ q. written (value_of q (array c.in-Array.i))) (sym h)) (sym x)))

pub returns-in-Object : goal.returns-in-Object
returns-in-Object c =
    λ w h a x. rw c.in-Object.is (sought_ends _ _ _ (c.record_in-in-Object.ensures ∙ ap₂ sought_in (ap (λ q. written (value_of q (object c.in-Object.i))) (sym h)) (sym x)))

pub returns-in-Pair : goal.returns-in-Pair
returns-in-Pair c = λ w h a x. rw c.in-Pair.is (sought_ends _ _ _ (c.pair_in.ensures ∙ ap₂ sought_in (ap (λ q. written (value_of q (pair c.in-Pair.i))) (sym h)) (sym x)))
