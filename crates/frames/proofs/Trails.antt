-- A list that is written into another, place by place, and trails in the definition's records.
use Rattle.std.proofs.Common.{◌≡◌, ℕ, zero, suc, ◌+◌, ◌-◌, ◌<◌, List, [], ◌∷◌, ◌++◌, map, length, get_or, set, take, drop, replicate, sym, refl, ap, ap₂, ◌∙◌, append_assoc, arith}
use Rattle.std.proofs.lemmas.List.{length-take-le, set-append_right, drop_more, take_more, take_all, take-map, map-append, length-append, length-replicate, get_or-take}
use Rattle.meaning.specs.Hosts.{Host}
use Rattle.meaning.specs.Frames as meaning
use Rattle.meaning.specs.Frames.{blank, stands, trail_of, sixteen}
use Rattle.frames.specs.declared.frame.Manner as code_manner
use Rattle.frames.specs.declared.frame.Manner.TheVariants.{Once, Each, Cells, Keeping, Watching}
use Rattle.frames.specs.declared.frame.Frame.{Frame}
use Rattle.frames.specs.declared.frame.TrailRecord as code_record
use Rattle.frames.specs.declared.frame.TrailRecord.TheVariants.{Blank}
use Rattle.frames.specs.Trails.{counted, record_for, trail_for}
use Rattle.frames.specs.Views.{manner_of, frames_of, trail_record_of}

module _ {X : Type 0} (new old : List X) where
  pub written_more : (k : ℕ) (d : X) → k < length new → k < length old → set (take k new ++ drop k old) k (get_or new k d) ≡ take (k + 1) new ++ drop (k + 1) old
  written_more k d l m =
      let x = get_or new k d in
      set-append_right (take k new) (drop k old) k k x (length-take-le k new (omega arith)) (omega arith)
      ∙ ap (λ n. take k new ++ set (drop k old) n x) (let e : k - k ≡ 0 = omega arith in e)
      ∙ ap (λ ys. take k new ++ set ys 0 x) (drop_more old k d m)
      ∙ sym (append_assoc (take k new) (x ∷ []) (drop (k + 1) old)) ∙ ap (λ ys. ys ++ drop (k + 1) old) (sym (take_more new k d l))

  pub written_all : (k : ℕ) → length new ≡ k → take k new ++ drop k old ≡ new ++ drop k old
  written_all k e = ap (λ ys. ys ++ drop k old) (take_all k new (omega arith))

padding_at : {X : Type 0} (n k : ℕ) (d : X) → get_or (replicate n d) k d ≡ d
padding_at zero k d = refl
padding_at (suc n) zero d = refl
padding_at (suc n) (suc k) d = padding_at n k d

padded_at : {X : Type 0} (xs : List X) (n k : ℕ) (d : X) → get_or (xs ++ replicate n d) k d ≡ get_or xs k d
padded_at [] n k d = padding_at n k d
padded_at (x ∷ xs) n zero d = refl
padded_at (x ∷ xs) n (suc k) d = padded_at xs n k d

pub trail_at : (fs : List Frame) (k : ℕ) → k < 16 → get_or (trail_for fs) k Blank ≡ get_or (map record_for fs) k Blank
trail_at fs k l = get_or-take 16 (map record_for fs ++ replicate 16 Blank) k Blank l ∙ padded_at (map record_for fs) 16 k Blank

pub trail_length : (fs : List Frame) → length (trail_for fs) ≡ 16
trail_length fs =
    length-take-le 16 (map record_for fs ++ replicate 16 Blank) (omega (arith, length-append (map record_for fs) (replicate 16 Blank), length-replicate 16 Blank))

counted_is : (m : code_manner.Manner) (v : ℕ) → counted m v ≡ meaning.counted (manner_of m) v
counted_is Once v = refl
counted_is (Each x n) v = refl
counted_is (Cells x n k) v = refl
counted_is (Keeping t) v = refl
counted_is Watching v = refl

records_are : (h : Host) (fs : List Frame) → map trail_record_of (map record_for fs) ≡ trail_of (frames_of h fs)
records_are h [] = refl
records_are h (f ∷ fs) = ap₂ (λ v rs. stands f.place v ∷ rs) (counted_is f.manner f.visit) (records_are h fs)

pub trail_means : (h : Host) (fs : List Frame) → map trail_record_of (trail_for fs) ≡ sixteen (trail_of (frames_of h fs))
trail_means h fs =
    sym (take-map trail_record_of 16 (map record_for fs ++ replicate 16 Blank))
    ∙ ap (take 16) (map-append trail_record_of (map record_for fs) (replicate 16 Blank) ∙ ap (λ rs. rs ++ replicate 16 blank) (records_are h fs))

pub written_means : (h : Host) (fs : List Frame) (old new : List code_record.TrailRecord) → new ≡ trail_for fs ++ drop 16 old → map trail_record_of new ≡ sixteen (trail_of (frames_of h fs)) ++ map trail_record_of (drop 16 old)
written_means h fs old new e =
    ap (map trail_record_of) e ∙ map-append trail_record_of (trail_for fs) (drop 16 old) ∙ ap (λ rs. rs ++ map trail_record_of (drop 16 old)) (trail_means h fs)
