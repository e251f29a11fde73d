-- Acts in the elements that hold no others, one after the other.
use Rattle.std.proofs.Common.{◌≡◌, ℕ, ◌<◌, ◌≤◌, Bool, true, false, cond, ltb, List, length, take, Some, None, Ok, Err, Option, refl, ap, sym, ◌∙◌, arith}
use Rattle.std.specs.Prelude.{Result}
use Rattle.std.specs.Option.{ok_or}
use Rattle.std.proofs.lemmas.Bool.{ltb-true}
use Rattle.held.specs.declared.faults.Fault.{Fault}
use Rattle.held.specs.Faults.{ended}
use Rattle.nodes.proofs.Options.{some_is, none_some}
use Rattle.pages.specs.Pieces.{Emits}
use Rattle.pages.specs.Written.{to}
use Rattle.meaning.specs.Things.{Drawers}
use Rattle.meaning.specs.Frames.{Frames}
use Rattle.meaning.specs.Acts.{Act, step, gives, go_on, still, pure, emit, ◌and_then◌}
use Rattle.meaning.specs.Looking.{World}
use Rattle.meaning.specs.Leaves.{Flow, onward, write}
use Rattle.renderer.specs.Acts.{Does}

-- an act that leaves the text alone, and what comes of it
pub then_does : {A : Type 0} (m : Act A) (k : A → Act Flow) (x : A) (f : Flow) (p : ℕ) (e : Frames) (d mid after : Drawers) (filled : ℕ) (old new : List ℕ) (r : Result ℕ Fault) →
    m d (take filled old) ≡ step mid (take filled old) (gives x) → Does (k x) f p e mid after filled old new r → Does (m and_then k) f p e d after filled old new r
unfolding ◌and_then◌
then_does m k x f p e d mid after filled old new r is h = record { long = h.long; within = h.within; did = ap (λ q. go_on q k) is ∙ h.did }

-- the same, where the act is a fault
pub then_stops : {A B : Type 0} (m : Act A) (k : A → Act Flow) (g : B → A) (c : Fault) (f : Flow) (p : ℕ) (e : Frames) (d after : Drawers) (filled : ℕ) (old : List ℕ) →
    m d (take filled old) ≡ step after (take filled old) (ended g (Err c) p e) → filled ≤ length old → Does (m and_then k) f p e d after filled old old (Err c)
unfolding ◌and_then◌
then_stops m k g c f p e d after filled old is l = record { long = refl; within = l; did = ap (λ q. go_on q k) is }

-- a fault at once
pub stops_does : (m : Act Flow) (c : Fault) (f : Flow) (p : ℕ) (e : Frames) (d : Drawers) (filled : ℕ) (old : List ℕ) →
    m d (take filled old) ≡ step d (take filled old) (ended {A = ℕ} (λ _. f) (Err c) p e) → filled ≤ length old → Does m f p e d d filled old old (Err c)
stops_does m c f p e d filled old is l = record { long = refl; within = l; did = is }

goes_onward : (p : ℕ) (e : Frames) (d : Drawers) (r : Result ℕ Fault) (o : List ℕ) →
    go_on (step d o (ended {B = Unit {0}} (λ _. tt) r p e)) (λ _. pure onward) ≡ step d o (ended (λ _. onward) r p e)
unfolding still
goes_onward p e d (Ok n) o = refl
goes_onward p e d (Err k) o = refl

-- one piece
pub wrote_does : (w : World) (t : List ℕ) (p : ℕ) (e : Frames) (d : Drawers) (filled : ℕ) (old new : List ℕ) (r : Result ℕ Fault) →
    w.limit ≡ length old → Emits t filled old new r → filled ≤ length old → Does (write w t p e) onward p e d d filled old new r
unfolding ◌and_then◌ still
wrote_does w t p e d filled old new r lim h l =
    let did = h.wrote l in
    record {
      long = did.long;
      within = did.within;
      did =
          ap (λ n. go_on (emit n p e t d (take filled old)) (λ _. pure onward)) lim ∙ ap (λ q. go_on q (λ _. pure onward)) (did.did p e d) ∙ goes_onward p e d r (take (to filled r) new);
    }

-- what is given where a test passes
pub cond_parts : {A : Type 0} (b : Bool) (k v : A) → Some k ≡ cond b (Some v) None → (b ≡ true) × (k ≡ v)
cond_parts true k v h = (refl, some_is k v h)
cond_parts false k v h = none_some k (sym h)

pub cond_not : {A : Type 0} (b : Bool) (v : A) → None ≡ cond b (Some v) None → b ≡ false
cond_not true v h = none_some v h
cond_not false v h = refl

-- what is asked for and is not there
pub not_there : {A : Type 0} (o : Option A) (k x : Fault) → ok_or o k ≡ Err x → (o ≡ None) × (x ≡ k)
not_there None k x h = (refl, cc)
not_there (Some a) k x h = let z : ◌≡◌ {A = ℕ} 0 1 = cc in absurd (omega arith)

pub is_there : {A B : Type 0} (o : Option A) (k : B) (x : A) → ok_or o k ≡ Ok x → o ≡ Some x
is_there None k x h = let z : ◌≡◌ {A = ℕ} 0 1 = cc in absurd (omega arith)
is_there (Some a) k x h = cc

-- a number of the sheet
pub below : (n names most : ℕ) → ltb n names ≡ true → names ≤ most → n < most
below n names most h l = let a : n < names = ltb-true n names h in omega arith
