-- One call after another.
use Rattle.std.proofs.Common.{◌≡◌, ℕ, ◌+◌, ◌-◌, ◌≤◌, List, length, take, drop, Some, Ok, Err, vec_items, Result, refl, sym, ap, ◌∙◌, subst, arith}
use Rattle.std.proofs.lemmas.Bool.{le-leb}
use Rattle.std.proofs.lemmas.List.{drop-drop, take-take, drop-take}
use Rattle.cutter.specs.Tokens as cutter
use Rattle.nodes.specs.Exprs.{only, bytes_of}
use Rattle.nodes.specs.Wider.{Front}
use Rattle.nodes.proofs.Options.{front_refl, front_then}
use Rattle.nodes.proofs.Widens.{wider_refl, wider_then}
use Rattle.arguments.specs.declared.reader.Reader.{Reader}
use Rattle.arguments.specs.declared.refusals.Stop.{Stop}
use Rattle.arguments.specs.declared.refusals.Stop.TheVariants.{Refused, Memory}
use Rattle.arguments.specs.Judging.{State, Verdict, passes, Judge, went}
use Rattle.arguments.specs.Tables.{pool_of, Refuses, Said, Grown, Longer, Lies}

pub grown_then : (d e f : Reader) → Grown d e → Grown e f → Grown d f
grown_then d e f h k =
    record {
      pool = wider_then (pool_of d) (pool_of e) (pool_of f) h.pool k.pool;
      names = front_then (vec_items d.names) (vec_items e.names) (vec_items f.names) h.names k.names;
      cycles = front_then (vec_items d.cycles) (vec_items e.cycles) (vec_items f.cycles) h.cycles k.cycles;
      values = k.values ∙ h.values;
      nodes = k.nodes ∙ h.nodes;
      mark = k.mark ∙ h.mark;
    }

pub grown_refl : (d : Reader) → Grown d d
grown_refl d = record { pool = wider_refl (pool_of d); names = front_refl _; cycles = front_refl _; values = refl; nodes = refl; mark = refl }

pub grown_longer : (d e : Reader) → Grown d e → Longer d e
grown_longer d e h = record { pool = h.pool; names = h.names; cycles = h.cycles; nodes = subst (Front (vec_items d.nodes)) (sym h.nodes) (front_refl _); mark = h.mark }

pub longer_refl : (d : Reader) → Longer d d
longer_refl d = record { pool = wider_refl (pool_of d); names = front_refl _; cycles = front_refl _; nodes = front_refl _; mark = refl }

pub longer_then : (d e f : Reader) → Longer d e → Longer e f → Longer d f
longer_then d e f h k =
    record {
      pool = wider_then (pool_of d) (pool_of e) (pool_of f) h.pool k.pool;
      names = front_then (vec_items d.names) (vec_items e.names) (vec_items f.names) h.names k.names;
      cycles = front_then (vec_items d.cycles) (vec_items e.cycles) (vec_items f.cycles) h.cycles k.cycles;
      nodes = front_then (vec_items d.nodes) (vec_items e.nodes) (vec_items f.nodes) h.nodes k.nodes;
      mark = k.mark ∙ h.mark;
    }

-- a refusal stays one, whatever would follow
pub refuses_went : {B C : Type 0} (e : Stop) (v : Verdict B) (k : B → Judge C) → Refuses e v → Refuses e (went v k)
refuses_went (Refused r p) v k h = ap (λ x. went x k) h
refuses_went Memory v k h = tt

-- what follows a call that went well
pub said_went : {A B C : Type 0} (r : Result A Stop) (v : Verdict B) (k : B → Judge C) (y : B) (s : State) (D : A → C → Type 0) (s' : State) →
    v ≡ passes y s → Said r (k y s) D s' → Said r (went v k) D s'
said_went r v k y s D s' e h = subst (λ t. Said r t D s') (sym (ap (λ t. went t k) e)) h

-- the same by a weaker tie
pub said_weaker : {A B : Type 0} (r : Result A Stop) (v : Verdict B) (D E : A → B → Type 0) (s : State) → ((x : A) (y : B) → D x y → E x y) → Said r v D s → Said r v E s
said_weaker (Ok x) v D E s f h = (h.0, f x h.0 h.1, h.2)
said_weaker (Err e) v D E s f h = h

-- the same of an equal verdict
pub said_same : {A B : Type 0} (r : Result A Stop) (v w : Verdict B) (D : A → B → Type 0) (s : State) → w ≡ v → Said r v D s → Said r w D s
said_same r v w D s q h = subst (λ t. Said r t D s) (sym q) h

-- bytes that stand in the source, as a part of it
pub part_bytes : (source : List ℕ) (p : ℕ) (b : List ℕ) → Lies source p b → bytes_of source (record { place = p; len = length b }) ≡ Some b
part_bytes source p b h = ap (λ t. only t (take (length b) (drop p source))) (le-leb (p + length b) (length source) h.to) ∙ ap Some (sym h.is)

-- a part of bytes that stand in the source stands there too
pub lies_within : (source : List ℕ) (p : ℕ) (bs : List ℕ) (q : ℕ) (b : List ℕ) → Lies source p bs → cutter.Part p bs q b → Lies source q b
lies_within source p bs q b h k =
    let n = length bs in
    let m = length b in
    let off = q - p in
    let less : off + m ≤ n = omega (arith, k.from, k.to) in
    let whole : n ≡ off + (n - off) = omega arith in
    let there : p + off ≡ q = omega (arith, k.from) in
    record {
      to = omega (arith, k.to, h.to);
      is =
          k.is
          ∙ ap (λ l. take m (drop off l)) h.is
          ∙ ap (λ j. take m (drop off (take j (drop p source)))) whole
          ∙ ap (take m) (drop-take off (n - off) (drop p source))
          ∙ take-take m (n - off) (drop off (drop p source)) (omega arith)
          ∙ ap (take m) (drop-drop off p source)
          ∙ ap (λ j. take m (drop j source)) there;
    }
