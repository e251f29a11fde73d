-- What `increment` and `decrement` come to.
use Rattle.std.proofs.Common.{◌≡◌, ℕ, ◌<◌, true, false, cond, List, length, take, ℤ, pos, negsuc, to_z, of_z, w64, to_z-of_z, SFits, ◌+ℤ◌, ◌-ℤ◌, Some, None, Ok, Err, refl, ap, ap₂, sym, ◌∙◌, subst, arith}
use Rattle.std.proofs.lemmas.Int.{ints}
use Rattle.std.specs.Prelude.{Result}
use Rattle.banks.specs.Meaning.{Meaning}
use Rattle.frames.specs.declared.stack.Frames as code
use Rattle.frames.specs.Views.{around_in}
use Rattle.held.specs.declared.faults.Fault.{Fault}
use Rattle.held.specs.declared.faults.Fault.TheVariants.{FullCounter}
use Rattle.held.specs.declared.scenes.Scene.{Scene}
use Rattle.held.specs.Scenes.{host_in}
use Rattle.nodes.specs.declared.table.Leaf.TheVariants.{Increment, Decrement}
use Rattle.nodes.specs.Trees.{leaf_of}
use Rattle.nodes.proofs.Options.{only_parts}
use Rattle.numerals.specs.Decimal.{fits, if_fits, whole_text}
use Rattle.numerals.proofs.Lawful.{fits_to}
use Rattle.pages.specs.Pieces.{Emits}
use Rattle.meaning.specs.Things.{Drawers, name, altered, with_counter}
use Rattle.meaning.specs.Frames.{Frames}
use Rattle.meaning.specs.Acts.{Act, step, gives, go_on, still, pure, look, alter, emit, faults, ◌and_then◌}
use Rattle.meaning.specs.Looking.{World}
use Rattle.meaning.specs.Leaves.{Flow, onward, count_of, count_on, leaf_act}
use Rattle.renderer.specs.Acts.{world, Does}
use Rattle.renderer.specs.Leaves.{LeafDone, Counted}
use Rattle.renderer.proofs.Doing.{cond_parts, cond_not, below}

-- the number is written, and the next one stored
pub counted_done : (n : ℕ) (shown next : ℤ) (d after : Drawers) (filled : ℕ) (old new : List ℕ) (end : ℕ) →
    Emits (whole_text shown) filled old new (Ok end) → (n < 128 → after ≡ altered (name n) (with_counter next) d) → Counted n shown next d after filled old new (Ok end)
unfolding ◌and_then◌ alter still
counted_done n shown next d after filled old new end h set w p e lim fit low l =
    let did = h.wrote l in
    let last : Act Flow = alter (name n) (with_counter next) and_then λ _. pure onward in
    let o = take filled old in
    record {
      long = did.long;
      within = did.within;
      did =
          ap (λ b. cond b (emit w.limit p e (whole_text shown) and_then λ _. last) (faults 28 p e) d o) fit
          ∙ ap (λ k. go_on (emit k p e (whole_text shown) d o) (λ _. last)) lim
          ∙ ap (λ q. go_on q (λ _. last)) (did.did p e d)
          ∙ ap (λ q. step q (take end new) (gives onward)) (sym (set low));
    }

pub counted_stops : (n : ℕ) (shown next : ℤ) (d : Drawers) (filled : ℕ) (old new : List ℕ) (k : Fault) →
    Emits (whole_text shown) filled old new (Err k) → Counted n shown next d d filled old new (Err k)
unfolding ◌and_then◌ still
counted_stops n shown next d filled old new k h w p e lim fit low l =
    let did = h.wrote l in
    let last : Act Flow = alter (name n) (with_counter next) and_then λ _. pure onward in
    let o = take filled old in
    record {
      long = did.long;
      within = did.within;
      did =
          ap (λ b. cond b (emit w.limit p e (whole_text shown) and_then λ _. last) (faults 28 p e) d o) fit
          ∙ ap (λ k. go_on (emit k p e (whole_text shown) d o) (λ _. last)) lim
          ∙ ap (λ q. go_on q (λ _. last)) (did.did p e d);
    }

-- a number that fits has 64 bits
ranged : (z : ℤ) → fits z ≡ true → SFits w64 z
ranged (pos n) e = let f = fits_to (pos n) e in record { sfits = omega (arith, ints, f.most) }
ranged (negsuc n) e = let f = fits_to (negsuc n) e in record { sfits = omega (arith, ints, f.least) }

pub read_back : (z x : ℤ) → Some x ≡ if_fits (Some z) → to_z w64 (of_z w64 x) ≡ x
read_back z x h = let (fit, same) = cond_parts (fits z) x z h in to_z-of_z {w = w64} {z = x} (ranged x (ap fits same ∙ fit))

module _ (s : Scene) (fs : code.Frames) (m : Meaning) (filled : ℕ) (old : List ℕ) where
  abbrev w : World
  w = world s m (length old)

  abbrev e : Frames
  e = around_in (host_in s) fs

  pub increment_done : (d after : Drawers) (n : ℕ) (shown next : ℤ) (new : List ℕ) (r : Result ℕ Fault) → shown ≡ count_of (d (name n)) → Some next ≡ if_fits (Some (shown +ℤ pos 1)) →
      Counted n shown next d after filled old new r → LeafDone s fs m d after filled old new r (Increment n)
  unfolding leaf_of leaf_act look ◌and_then◌
  increment_done d after n shown next new r is more h t p given few l =
      let (b, q) = only_parts _ _ t given in
      let (fit, same) = cond_parts (fits (shown +ℤ pos 1)) next (shown +ℤ pos 1) more in
      let low = below n (length s.book.names.now) 128 b few.names in
      let done = h w p e refl (ap fits same ∙ fit) low l in
      let is_next : next ≡ count_of (d (name n)) +ℤ pos 1 = same ∙ ap (λ z. z +ℤ pos 1) is in
      subst (λ t. Does (leaf_act w t p e) onward p e d after filled old new r) q
      (record {
        long = done.long;
        within = done.within;
        did = ap₂ (λ x y. count_on w n x y p e d (take filled old)) (sym is) (sym is_next) ∙ done.did;
      })

  pub increment_full : (d : Drawers) (n : ℕ) (shown : ℤ) → shown ≡ count_of (d (name n)) → None ≡ if_fits (Some (shown +ℤ pos 1)) →
      LeafDone s fs m d d filled old old (Err FullCounter) (Increment n)
  unfolding leaf_of leaf_act look still ◌and_then◌
  increment_full d n shown is none t p given few l =
      let (b, q) = only_parts _ _ t given in
      let full : fits (count_of (d (name n)) +ℤ pos 1) ≡ false = ap (λ z. fits (z +ℤ pos 1)) (sym is) ∙ cond_not (fits (shown +ℤ pos 1)) (shown +ℤ pos 1) none in
      let c = count_of (d (name n)) in
      subst (λ t. Does (leaf_act w t p e) onward p e d d filled old old (Err FullCounter)) q
      (record {
        long = refl;
        within = l;
        did =
            ap (λ b. cond b (emit w.limit p e (whole_text c) and_then λ _. alter (name n) (with_counter (c +ℤ pos 1)) and_then λ _. pure onward) (faults 28 p e) d (take filled old)) full;
      })

  pub decrement_done : (d after : Drawers) (n : ℕ) (count next : ℤ) (new : List ℕ) (r : Result ℕ Fault) → count ≡ count_of (d (name n)) → Some next ≡ if_fits (Some (count -ℤ pos 1)) →
      Counted n next next d after filled old new r → LeafDone s fs m d after filled old new r (Decrement n)
  unfolding leaf_of leaf_act look ◌and_then◌
  decrement_done d after n count next new r is less h t p given few l =
      let (b, q) = only_parts _ _ t given in
      let (fit, same) = cond_parts (fits (count -ℤ pos 1)) next (count -ℤ pos 1) less in
      let low = below n (length s.book.names.now) 128 b few.names in
      let done = h w p e refl (ap fits same ∙ fit) low l in
      let is_next : next ≡ count_of (d (name n)) -ℤ pos 1 = same ∙ ap (λ z. z -ℤ pos 1) is in
      subst (λ t. Does (leaf_act w t p e) onward p e d after filled old new r) q
      (record {
        long = done.long;
        within = done.within;
        did = ap (λ x. count_on w n x x p e d (take filled old)) (sym is_next) ∙ done.did;
      })

  pub decrement_full : (d : Drawers) (n : ℕ) (count : ℤ) → count ≡ count_of (d (name n)) → None ≡ if_fits (Some (count -ℤ pos 1)) →
      LeafDone s fs m d d filled old old (Err FullCounter) (Decrement n)
  unfolding leaf_of leaf_act look still ◌and_then◌
  decrement_full d n count is none t p given few l =
      let (b, q) = only_parts _ _ t given in
      let full : fits (count_of (d (name n)) -ℤ pos 1) ≡ false = ap (λ z. fits (z -ℤ pos 1)) (sym is) ∙ cond_not (fits (count -ℤ pos 1)) (count -ℤ pos 1) none in
      let c = count_of (d (name n)) in
      subst (λ t. Does (leaf_act w t p e) onward p e d d filled old old (Err FullCounter)) q
      (record {
        long = refl;
        within = l;
        did =
            ap (λ b. cond b (emit w.limit p e (whole_text (c -ℤ pos 1)) and_then λ _. alter (name n) (with_counter (c -ℤ pos 1)) and_then λ _. pure onward) (faults 28 p e) d (take filled old)) full;
      })
