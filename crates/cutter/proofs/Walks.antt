-- The steps of a path one by one, and where their keys stand.
use Rattle.std.proofs.Common.{◌≡◌, ℕ, zero, suc, ◌+◌, ◌-◌, ◌^◌, ◌<◌, ◌≤◌, ◌&&◌, ltb, ◌⊎◌, List, [], ◌∷◌, length, take, drop, ℤ, Some, None, Option, sym, refl, ap, ◌∙◌, subst, inl, inr, arith}
use Rattle.std.proofs.lemmas.List.{at_drop_more, drop-drop, drop-take, take-take, take_rest, length-take, length-drop, nil_from_length}
use Rattle.std.proofs.lemmas.Bool.{cond_both, and_parts, ltb-true, cases_lt}
use Rattle.numerals.specs.Decimal.{whole_of}
use Rattle.cutter.specs.Left.{slice}
use Rattle.cutter.specs.Lengths.{stands, longer, name_length, key_length, bracketed, step_length, run_at}
use Rattle.cutter.specs.Tokens.{inner, Part}
use Rattle.cutter.specs.Paths.{PlacedStep, at_key, bracket_of, step_of, step_begun, stepping, steps_from, steps_of, KeysInside, KeysAreInside}
use Rattle.cutter.specs.declared.lengths.Class.TheVariants.{Initial, Named, Is}
use Rattle.cutter.proofs.Parts.{slice_part}
use Rattle.cutter.proofs.Runs.{stands_within}

skip : (place : ℕ) (bs : List ℕ) (at k : ℕ) (xs : List ℕ) → stepping place bs at k xs ≡ stepping place bs (at + k) 0 (drop k xs)
skip place bs at zero xs = let f : at ≡ at + 0 = omega arith in ap (λ n. stepping place bs n 0 xs) f
skip place bs at (suc k) [] = refl
skip place bs at (suc k) (x ∷ xs) =
    let f : at + 1 + k ≡ at + suc k = omega arith in
    skip place bs (at + 1) k xs ∙ ap (λ n. stepping place bs n 0 (drop k xs)) f

pub no_step : (place : ℕ) (bs : List ℕ) (at : ℕ) → step_length bs at ≡ 0 → steps_from place bs at ≡ []
unfolding steps_from
no_step place bs at z = go (drop at bs)
  where
    go : (xs : List ℕ) → stepping place bs at 0 xs ≡ []
    go [] = refl
    go (x ∷ xs) = ap (λ k. step_begun place bs at k (λ rest. stepping place bs (at + 1) rest xs)) z

-- a step has two bytes and more
abbrev Long : List ℕ → ℕ → ℕ → Type 0
Long bs at n = 0 < n → (2 ≤ n) × (at + 2 ≤ length bs)

pub long_step : (bs : List ℕ) (at : ℕ) → 0 < step_length bs at → (2 ≤ step_length bs at) × (at + 2 ≤ length bs)
unfolding step_length name_length
long_step bs at =
    cond_both (stands (Is 46) bs at) _ _ (Long bs at) (λ _. dotted)
    (λ _. cond_both (stands (Is 91) bs at) _ 0 (Long bs at) (λ _. between (key_length bs (at + 1))) (λ _ h. absurd (omega arith)))
  where
    behind : (m : ℕ) → 0 < m → at + 2 ≤ length bs → Long bs at (longer 1 m)
    behind zero h l z = absurd (omega arith)
    behind (suc m) h l z = (omega arith, l)

    dotted : Long bs at (longer 1 (name_length bs (at + 1)))
    dotted =
        cond_both (stands Initial bs (at + 1)) (1 + run_at Named bs (at + 1 + 1)) 0 (λ m. Long bs at (longer 1 m))
        (λ e. behind _ (omega arith) (omega (arith, stands_within Initial bs (at + 1) (sym e)))) (λ _ h. absurd (omega arith))

    between : (n : ℕ) → Long bs at (bracketed bs (at + 1) n)
    between n =
        cond_both (ltb 0 n && stands (Is 93) bs (at + 1 + n)) (n + 2) 0 (Long bs at)
        (λ e _. let (some, end) = and_parts (ltb 0 n) (stands (Is 93) bs (at + 1 + n)) e in (omega arith, omega (arith, ltb-true 0 n some, stands_within (Is 93) bs (at + 1 + n) (sym end)))) (λ _ h. absurd (omega arith))

pub one_step : (place : ℕ) (bs : List ℕ) (at : ℕ) → 0 < step_length bs at → steps_from place bs at ≡ step_of (place + at) (slice bs at (at + step_length bs at)) ∷ steps_from place bs (at + step_length bs at)
unfolding steps_from
one_step place bs at h = go (step_length bs at) refl
  where
    room : at + 2 ≤ length bs
    room = (long_step bs at h).1

    go : (n : ℕ) → n ≡ step_length bs at → stepping place bs at 0 (drop at bs) ≡ step_of (place + at) (slice bs at (at + n)) ∷ stepping place bs (at + n) 0 (drop (at + n) bs)
    go zero e = absurd (omega (arith, h, e))
    go (suc n) e =
        let f : at + 1 + n ≡ at + suc n = omega arith in
        at_drop_more (stepping place bs at 0) bs at 0 (omega (arith, room))
        ∙ ap (λ k. step_begun place bs at k (λ rest. stepping place bs (at + 1) rest (drop (at + 1) bs))) (sym e)
        ∙ ap (λ l. step_of (place + at) (slice bs at (at + suc n)) ∷ l) (skip place bs (at + 1) n (drop (at + 1) bs) ∙ ap (λ l. stepping place bs (at + 1 + n) 0 l) (drop-drop n (at + 1) bs) ∙ ap (λ n. stepping place bs n 0 (drop n bs)) f)

-- a part of a part
part_of_part : {p q r : ℕ} {bs b c : List ℕ} → Part p bs q b → Part q b r c → Part p bs r c
part_of_part {p} {q} {r} {bs} {b} {c} x y =
    record { from = omega (arith, x.from, y.from); to = omega (arith, x.to, y.to); is = is }
  where
    is : c ≡ take (length c) (drop (r - p) bs)
    is =
        let k = r - q in
        let m = length b - k in
        let e : length b ≡ k + m = omega (arith, y.from, y.to) in
        let f : q - p + k ≡ r - p = omega (arith, x.from, y.from) in
        let short : length c ≤ m = omega (arith, y.from, y.to) in
        y.is ∙ ap (λ l. take (length c) (drop k l)) (x.is ∙ ap (λ n. take n (drop (q - p) bs)) e)
        ∙ ap (take (length c)) (drop-take k m (drop (q - p) bs)) ∙ take-take (length c) m (drop k (drop (q - p) bs)) short
        ∙ ap (take (length c)) (drop-drop k (q - p) bs ∙ ap (λ n. drop n bs) f)

tail_part : (p : ℕ) (bs : List ℕ) → 1 ≤ length bs → Part p bs (p + 1) (drop 1 bs)
tail_part p bs h = subst (λ (l : List ℕ). Part p bs (p + 1) l) (take_rest bs 1) (slice_part p bs 1 (length bs) h)

inner_part : (p : ℕ) (bs : List ℕ) → 1 ≤ length bs → Part p bs (p + 1) (inner bs)
inner_part p bs h = subst (λ (n : ℕ). Part p bs (p + 1) (take n (drop 1 bs))) (let e : length bs - 1 - 1 ≡ length bs - 2 = omega arith in e) (slice_part p bs 1 (length bs - 1) h)

inner_inner : (p : ℕ) (bs : List ℕ) → 2 ≤ length bs → Part p bs (p + 2) (inner (inner bs))
inner_inner p bs h = go (cases_lt 2 (length bs))
  where
    go : (2 < length bs) ⊎ (length bs ≤ 2) → Part p bs (p + 2) (inner (inner bs))
    go (inl l) =
        subst (λ (n : ℕ). Part p bs n (inner (inner bs))) (let e : p + 1 + 1 ≡ p + 2 = omega arith in e)
        (part_of_part (inner_part p bs (omega arith)) (inner_part (p + 1) (inner bs) (omega (arith, length-take (length bs - 2) (drop 1 bs), length-drop 1 bs))))
    go (inr l) =
        subst (λ (l : List ℕ). Part p bs (p + 2) (inner l)) (sym (nil_from_length (inner bs) (omega (arith, length-take (length bs - 2) (drop 1 bs)))))
        (record { from = omega arith; to = omega arith; is = refl })

step_inside : (p : ℕ) (bs : List ℕ) (q : ℕ) (s : List ℕ) (rest : List PlacedStep) → Part p bs q s → 2 ≤ length s → KeysInside p bs rest → KeysInside p bs (step_of q s ∷ rest)
step_inside p bs q s rest x h r =
    cond_both (stands (Is 46) s 0) (at_key (q + 1) (drop 1 s)) _ (λ t. KeysInside p bs (t ∷ rest))
    (λ _. (part_of_part x (tail_part q s (omega arith)), r)) (λ _. bracket (whole_of (inner s)))
  where
    bracket : (o : Option ℤ) → KeysInside p bs (bracket_of q (inner s) o ∷ rest)
    bracket (Some z) = r
    bracket None = (part_of_part x (inner_inner q s h), r)

inside : (place : ℕ) (bs : List ℕ) (fuel at : ℕ) → length bs ≤ at + fuel → KeysInside place bs (steps_from place bs at)
inside place bs zero at h = go (cases_lt 0 (step_length bs at))
  where
    go : (0 < step_length bs at) ⊎ (step_length bs at ≤ 0) → KeysInside place bs (steps_from place bs at)
    go (inl l) = absurd (omega (arith, (long_step bs at l).1))
    go (inr l) = subst (KeysInside place bs) (sym (no_step place bs at (omega arith))) tt
inside place bs (suc fuel) at h = go (cases_lt 0 (step_length bs at)) (λ m l. inside place bs fuel m l)
  where
    go : (0 < step_length bs at) ⊎ (step_length bs at ≤ 0) → ((m : ℕ) → length bs ≤ m + fuel → KeysInside place bs (steps_from place bs m)) → KeysInside place bs (steps_from place bs at)
    go (inr l) ih = subst (KeysInside place bs) (sym (no_step place bs at (omega arith))) tt
    go (inl l) ih =
        let n = step_length bs at in
        let (two, room) = long_step bs at l in
        subst (KeysInside place bs) (sym (one_step place bs at l))
        (step_inside place bs (place + at) (slice bs at (at + n)) (steps_from place bs (at + n)) (slice_part place bs at (at + n) (omega arith))
        (omega (arith, length-take (at + n - at) (drop at bs), length-drop at bs)) (ih (at + n) (omega arith)))

pub keys_inside : KeysAreInside
unfolding steps_of
keys_inside place bs =
    cond_both (ltb (place + length bs) (2 ^ 64)) (steps_from place bs 0) [] (KeysInside place bs) (λ _. inside place bs (length bs) 0 (omega arith)) (λ _. tt)
