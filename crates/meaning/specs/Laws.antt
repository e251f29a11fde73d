-- Laws of calls and of rendered text.
use Rattle.std.specs.Prelude.{◌≡◌, ℕ, ◌≤◌, List, ◌++◌, length, Option}
use Rattle.banks.specs.Meaning.{Meaning}
use Rattle.tree.specs.Elements.{Tree}
use Rattle.meaning.specs.Things.{Thing, Drawers}
use Rattle.meaning.specs.Hosts.{Host}
use Rattle.meaning.specs.Frames.{Frames, TrailRecord}
use Rattle.meaning.specs.Acts.{Fault}
use Rattle.meaning.specs.Looking.{World}
use Rattle.meaning.specs.Rendering.{render}
use Rattle.meaning.specs.Calls.{Sheet, Call, page, refusal, judged, call_reads, call_writes, In, Clash, refused, rendered, text_after, perform}

-- a call changes only what it writes
abbrev pub ChangesOnlyWhatItWrites : Type 0
ChangesOnlyWhatItWrites =
    (s : Sheet) (bank : Meaning) (c : Call) (d : Drawers) (t : Thing) →
    ¬ (In t (call_writes s c)) → (perform s bank c d).1 t ≡ d t

-- where two drawers have the same in all that a call reads, it gives the same result, and they still have the same wherever they had
pub record AlikeFor (s : Sheet) (bank : Meaning) (c : Call) (d e : Drawers) : Type 0 where
  pub result : (perform s bank c d).0 ≡ (perform s bank c e).0
  pub drawers : (t : Thing) → d t ≡ e t → (perform s bank c d).1 t ≡ (perform s bank c e).1 t

abbrev pub DependsOnlyOnWhatItReads : Type 0
DependsOnlyOnWhatItReads =
    (s : Sheet) (bank : Meaning) (c : Call) (d e : Drawers) →
    ((t : Thing) → In t (call_reads s c) → d t ≡ e t) → AlikeFor s bank c d e

-- two calls that do not clash give the same results and leave the same drawers in either order
pub record EitherOrder (s : Sheet) (bank : Meaning) (a b : Call) (d : Drawers) : Type 0 where
  pub first : (perform s bank a (perform s bank b d).1).0 ≡ (perform s bank a d).0
  pub second : (perform s bank b (perform s bank a d).1).0 ≡ (perform s bank b d).0
  pub drawers : (t : Thing) → (perform s bank a (perform s bank b d).1).1 t ≡ (perform s bank b (perform s bank a d).1).1 t

abbrev pub WithoutAClashTheyCommute : Type 0
WithoutAClashTheyCommute =
    (s : Sheet) (bank : Meaning) (a b : Call) → ¬ (Clash s a b) → (d : Drawers) → EitherOrder s bank a b d

-- a refused call gives its number and touches nothing
abbrev pub RefusedCallsTouchNothing : Type 0
RefusedCallsTouchNothing =
    (s : Sheet) (bank : Meaning) (c : Call) (n : ℕ) (d : Drawers) → judged s c ≡ refusal n → perform s bank c d ≡ (refused n, d)

-- Rendering only adds to the text that stands in the buffer, faulted or not, and what stands there then still fits.
pub record Adds (limit : ℕ) (old new : List ℕ) : Type 0 where
  pub added : List ℕ
  pub is : new ≡ old ++ added
  pub fits : length new ≤ limit

abbrev pub RenderingOnlyAdds : Type 0
RenderingOnlyAdds =
    (w : World) (t : Tree) (e : Frames) (d : Drawers) (o : List ℕ) →
    length o ≤ w.limit → Adds w.limit o (text_after (render w t e d o))

-- a ticket has its whole buffer and sixteen trail records
pub record Whole (buffer : ℕ) (bytes : List ℕ) (trail : List TrailRecord) : Type 0 where
  pub bytes_of_the_buffer : length bytes ≡ buffer
  pub records_of_the_trail : length trail ≡ 16

abbrev pub TicketsAreWhole : Type 0
TicketsAreWhole =
    (s : Sheet) (bank : Meaning) (i : ℕ) (h : Host) (buffer trail : ℕ) (d : Drawers) (f : Option Fault) (bytes : List ℕ) (ts : List TrailRecord) →
    (perform s bank (page i h buffer trail) d).0 ≡ rendered f bytes ts → Whole buffer bytes ts
