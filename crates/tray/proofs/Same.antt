-- Two texts are the same where the library's test of two slices says so, and where one has the other's length and bytes.
use Rattle.std.specs.Cmp.Lexicographic.{pointwise}
use Rattle.std.proofs.Common.{◌≡◌, ℕ, suc, Bool, true, false, ◌&&◌, ◌||◌, List, [], ◌∷◌, length, get_or, sym, refl, ap, ap₂, ◌∙◌, nat_eq, codes, arith}
use Rattle.std.proofs.lemmas.Slice.Eq.{slice_eq-Decides, bytes_eq-Decides}
use Rattle.std.proofs.lemmas.Bool.Decides.{same_from_decides, Decides-eqb, nat_tests}
use Rattle.tray.specs.Parts.{same_text}
use Rattle.tray.specs.Sound.{reserved}

pub slices_same : (xs ys : List ℕ) → pointwise nat_eq xs ys ≡ same_text xs ys
unfolding same_text
slices_same xs ys = same_from_decides _ _ (slice_eq-Decides Decides-eqb xs ys (pointwise nat_eq xs ys) refl) (bytes_eq-Decides xs ys)

-- the bytes of p stand in s, from place i on
abbrev pub has_bytes : List ℕ → ℕ → List ℕ → Bool
has_bytes s i [] = true
has_bytes s i (c ∷ p) = nat_eq (get_or s i 0) c && has_bytes s (suc i) p

shift : (x : ℕ) (xs : List ℕ) (i : ℕ) (p : List ℕ) → has_bytes (x ∷ xs) (suc i) p ≡ has_bytes xs i p
shift x xs i [] = refl
shift x xs i (c ∷ p) = ap (λ b. nat_eq (get_or xs i 0) c && b) (shift x xs (suc i) p)

swapped : (a l h : Bool) → (a && (l && h)) ≡ (l && (a && h))
swapped true true h = refl
swapped true false h = refl
swapped false true h = refl
swapped false false h = refl

suc_eq : (m n : ℕ) → nat_eq (suc m) (suc n) ≡ nat_eq m n
suc_eq m n = grind (arith, nat_tests)

pub same_reads : (s p : List ℕ) → same_text s p ≡ (nat_eq (length s) (length p) && has_bytes s 0 p)
unfolding same_text
same_reads [] [] = refl
same_reads [] (y ∷ ys) = grind (arith, nat_tests)
same_reads (x ∷ xs) [] = grind (arith, nat_tests)
same_reads (x ∷ xs) (y ∷ ys) =
    ap (λ b. nat_eq x y && b) (same_reads xs ys) ∙ swapped (nat_eq x y) (nat_eq (length xs) (length ys)) (has_bytes xs 0 ys)
    ∙ ap (λ b. b && (nat_eq x y && has_bytes xs 0 ys)) (sym (suc_eq (length xs) (length ys)))
    ∙ ap (λ b. nat_eq (length (x ∷ xs)) (length (y ∷ ys)) && (nat_eq x y && b)) (sym (shift x xs 0 ys))

-- the same for each of the words that the language keeps
abbrev pub reads : List ℕ → List ℕ → Bool
reads s p = nat_eq (length s) (length p) && has_bytes s 0 p

pub reserved_reads : (s : List ℕ) → reserved s ≡ (reads s (codes "forloop") || (reads s (codes "tablerowloop") || (reads s (codes "empty") || reads s (codes "blank"))))
reserved_reads s =
    ap₂ (λ a b. a || b) (same_reads s (codes "forloop"))
    (ap₂ (λ a b. a || b) (same_reads s (codes "tablerowloop")) (ap₂ (λ a b. a || b) (same_reads s (codes "empty")) (same_reads s (codes "blank"))))
