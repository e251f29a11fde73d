-- A part has at most one right cut.
use Rattle.std.proofs.Common.{◌≡◌, ℕ, ◌+◌, ◌≤◌, ◌⊎◌, List, [], ◌++◌, length, sym, refl, ap, ◌∙◌, subst, inl, inr, arith}
use Rattle.std.proofs.lemmas.List.{append_cancel_left, length-append}
use Rattle.cutter.specs.declared.state.Kind.{Kind}
use Rattle.cutter.specs.declared.state.Kind.TheVariants.{Tag, Output}
use Rattle.cutter.specs.Cuts.{Cut, done, unclosed, text, mark, opening, closing, Opens, Closes, IsText, IsMark, IsUnclosed, Cuts}
use Rattle.cutter.proofs.Splits.{same_front}

same_opening : (k j : Kind) (x y : List ℕ) → opening k ++ x ≡ opening j ++ y → (k ≡ j) × (x ≡ y)
same_opening Tag Tag x y e = (refl, let h : x ≡ y = cc in h)
same_opening Output Output x y e = (refl, let h : x ≡ y = cc in h)
same_opening Tag Output x y e = let h : ◌≡◌ {A = ℕ} 37 123 = cc in absurd (omega arith)
same_opening Output Tag x y e = let h : ◌≡◌ {A = ℕ} 123 37 = cc in absurd (omega arith)

not_empty : {p : List ℕ} (k : Kind) (x : List ℕ) → p ≡ opening k ++ x → p ≡ [] → ⊥
not_empty Tag x e f = omega (arith, ap length e, ap length f)
not_empty Output x e f = omega (arith, ap length e, ap length f)

module _ {p t r : List ℕ} (x : IsText p t r) where
  not_done : p ≡ [] → ⊥
  not_done e = omega (arith, ap length e, ap length x.joins, length-append t r, x.some)

  not_mark : (k : Kind) (y : List ℕ) → p ≡ opening k ++ y → ⊥
  not_mark k y e = omega (arith, x.none [] p refl (record { kind = k; behind = y; is = e }), x.some)

  shorter : {u s : List ℕ} → IsText p u s → length t ≤ length u
  shorter {u} {s} y = go y.ahead
    where
      go : (s ≡ []) ⊎ Opens u s → length t ≤ length u
      go (inl e) = omega (arith, ap length x.joins, length-append t r, ap length y.joins, length-append u s, ap length e)
      go (inr o) = x.none u s y.joins o

same_text : {p t r u s : List ℕ} → IsText p t r → IsText p u s → (t ≡ u) × (r ≡ s)
same_text {p} {t} {r} {u} {s} x y = same_front t r u s (sym x.joins ∙ y.joins) (omega (arith, shorter x y, shorter y x))

earlier : {p : List ℕ} {k : Kind} {i r j s : List ℕ} → IsMark k p i r → IsMark k p j s → length i ≤ length j
earlier {p} {k} {i} {r} {j} {s} x y =
    x.first j (closing k ++ s) (same_opening k k _ _ (sym x.joins ∙ y.joins)).1 (record { outside = y.outside; behind = s; is = refl })

same_mark : {p : List ℕ} {k : Kind} {i r j s : List ℕ} → IsMark k p i r → IsMark k p j s → (i ≡ j) × (r ≡ s)
same_mark {p} {k} {i} {r} {j} {s} x y =
    let (e, f) = same_front i (closing k ++ r) j (closing k ++ s) (same_opening k k _ _ (sym x.joins ∙ y.joins)).1 (omega (arith, earlier x y, earlier y x)) in
    (e, append_cancel_left (closing k) r s f)

not_both : {p : List ℕ} {k : Kind} {i r : List ℕ} → IsUnclosed p → IsMark k p i r → ⊥
not_both {p} {k} {i} {r} u m =
    let (e, f) = same_opening u.kind k u.behind (i ++ (closing k ++ r)) (sym u.joins ∙ m.joins) in
    u.never i (closing k ++ r) f (subst (λ (j : Kind). Closes j i (closing k ++ r)) (sym e) (record { outside = m.outside; behind = r; is = refl }))

pub only : (w v : Cut) (at : ℕ) (p : List ℕ) → Cuts at p w → Cuts at p v → w ≡ v
only done done at p c d = refl
only done (unclosed x) at p c d = absurd (not_empty d.1.kind d.1.behind d.1.joins c)
only done (text x t v) at p c d = absurd (not_done d.1.1 c)
only done (mark k x i v) at p c d = absurd (not_empty k _ d.1.1.joins c)
only (unclosed x) done at p c d = absurd (not_empty c.1.kind c.1.behind c.1.joins d)
only (unclosed x) (unclosed y) at p c d = ap unclosed (c.0 ∙ sym d.0)
only (unclosed x) (text y t v) at p c d = absurd (not_mark d.1.1 c.1.kind c.1.behind c.1.joins)
only (unclosed x) (mark k y i v) at p c d = absurd (not_both c.1 d.1.1)
only (text x t w) done at p c d = absurd (not_done c.1.1 d)
only (text x t w) (unclosed y) at p c d = absurd (not_mark c.1.1 d.1.kind d.1.behind d.1.joins)
only (text x t w) (text y u v) at p c d =
    let (e, f) = same_text c.1.1 d.1.1 in
    let there : Cuts (at + length t) c.1.0 v = subst (λ (u : List ℕ). Cuts (at + length u) c.1.0 v) (sym e) (subst (λ (r : List ℕ). Cuts (at + length u) r v) (sym f) d.1.2) in
    let rest = only w v (at + length t) c.1.0 c.1.2 there in
    let place : x ≡ y = c.0 ∙ sym d.0 in
    cc
only (text x t w) (mark k y i v) at p c d = absurd (not_mark c.1.1 k _ d.1.1.joins)
only (mark k x i w) done at p c d = absurd (not_empty k _ c.1.1.joins d)
only (mark k x i w) (unclosed y) at p c d = absurd (not_both d.1 c.1.1)
only (mark k x i w) (text y t v) at p c d = absurd (not_mark d.1.1 k _ c.1.1.joins)
only (mark k x i w) (mark j y l v) at p c d =
    let (kinds, _) = same_opening k j _ _ (sym c.1.1.joins ∙ d.1.1.joins) in
    let (e, f) = same_mark c.1.1 (subst (λ (j : Kind). IsMark j p l d.1.0) (sym kinds) d.1.1) in
    let there : Cuts (at + (length i + 4)) c.1.0 v = subst (λ (u : List ℕ). Cuts (at + (length u + 4)) c.1.0 v) (sym e) (subst (λ (r : List ℕ). Cuts (at + (length l + 4)) r v) (sym f) d.1.2) in
    let rest = only w v (at + (length i + 4)) c.1.0 c.1.2 there in
    let place : x ≡ y = c.0 ∙ sym d.0 in
    cc
