-- A buffer that is a text and zeros behind it.
use Rattle.std.proofs.Common.{◌≡◌, ℕ, suc, ◌-◌, ◌<◌, ◌≤◌, List, [], ◌∷◌, ◌++◌, length, get_or, take, replicate, ap, ap₂, sym, subst, ◌∙◌, append_assoc, arith}
use Rattle.std.proofs.Math.Seq.{take-suc}
use Rattle.std.proofs.lemmas.List.{append-nil, length-take-le, take_all}
use Rattle.meaning.specs.Calls.{filled}

-- behind the place k there are only zeros
pub record Zeros (b : List ℕ) (k : ℕ) : Type 0 where
  pub inside : k ≤ length b
  pub is : take k b ++ replicate (length b - k) 0 ≡ b

pub zeros_none : (b : List ℕ) → Zeros b (length b)
zeros_none b =
    let n : length b - length b ≡ 0 = omega arith in
    record { inside = omega arith; is = ap₂ (λ t r. t ++ replicate r 0) (take_all (length b) b (omega arith)) n ∙ append-nil b }

zeros_more : {b : List ℕ} {k : ℕ} → Zeros b (suc k) → get_or b k 0 ≡ 0 → Zeros b k
zeros_more {b} {k} z e =
    let l = z.inside in
    let n : length b - k ≡ suc (length b - suc k) = omega arith in
    let more : take (suc k) b ≡ take k b ++ (0 ∷ []) = take-suc b k 0 (omega arith) ∙ ap (λ x. take k b ++ (x ∷ [])) e in
    record {
      inside = omega arith;
      is = ap (λ r. take k b ++ replicate r 0) n ∙ sym (append_assoc (take k b) (0 ∷ []) (replicate (length b - suc k) 0)) ∙ sym (ap (λ t. t ++ replicate (length b - suc k) 0) more) ∙ z.is;
    }

pub zeros_less : {b : List ℕ} {n : ℕ} → Zeros b n → 0 < n → get_or b (n - 1) 0 ≡ 0 → Zeros b (n - 1)
zeros_less {b} {n} z l e = let q : n ≡ suc (n - 1) = omega arith in zeros_more (subst (Zeros b) q z) e

pub zeros_filled : {b : List ℕ} {k : ℕ} → Zeros b k → filled (length b) (take k b) ≡ b
zeros_filled {b} {k} z = ap (λ n. take k b ++ replicate (length b - n) 0) (length-take-le k b z.inside) ∙ z.is
