-- Where a list falls into two, and marks at the front of one.
use Rattle.std.proofs.Common.{◌≡◌, ℕ, ◌≤◌, List, [], ◌∷◌, ◌++◌, length, Option, sym, refl, ◌∙◌, subst, arith}
use Rattle.std.proofs.lemmas.List.{append_assoc, length_push}
use Rattle.cutter.specs.Cuts.{turned, quote_after, NoneBefore}

pub same_front : (a b c d : List ℕ) → a ++ b ≡ c ++ d → length a ≡ length c → (a ≡ c) × (b ≡ d)
same_front [] b [] d e h = (refl, e)
same_front [] b (y ∷ c) d e h = absurd (omega arith)
same_front (x ∷ a) b [] d e h = absurd (omega arith)
same_front (x ∷ a) b (y ∷ c) d e h =
    let head : x ≡ y = cc in
    let tail : a ++ b ≡ c ++ d = cc in
    let (p, q) = same_front a b c d tail (omega arith) in
    (let k : x ∷ a ≡ y ∷ c = cc in k, q)

pub push_front : (x : List ℕ) (y : ℕ) (zs : List ℕ) → (x ++ (y ∷ [])) ++ zs ≡ x ++ (y ∷ zs)
push_front x y zs = append_assoc x (y ∷ []) zs

pub quote_push : (q : Option ℕ) (x : List ℕ) (y : ℕ) → quote_after q (x ++ (y ∷ [])) ≡ turned (quote_after q x) y
quote_push q [] y = refl
quote_push q (b ∷ x) y = quote_push (turned q b) x y

-- one more byte in which P does not begin
pub none_more : {P : List ℕ → List ℕ → Type 0} (x : List ℕ) (y : ℕ) (zs : List ℕ) → NoneBefore P (x ++ (y ∷ zs)) (length x) → (P x (y ∷ zs) → ⊥) → NoneBefore P ((x ++ (y ∷ [])) ++ zs) (length (x ++ (y ∷ [])))
none_more {P} x y zs none no-here a b e p =
    let f : x ++ (y ∷ zs) ≡ a ++ b = sym (push_front x y zs) ∙ e in
    let less : length x ≤ length a = none a b f p in
    let apart : length x ≡ length a → ⊥ = λ h. let (i, j) = same_front x (y ∷ zs) a b f h in no-here (subst (λ (b : List ℕ). P x b) (sym j) (subst (λ (a : List ℕ). P a b) (sym i) p)) in
    omega (arith, length_push x y, apart)
