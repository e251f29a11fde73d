-- Reading digits by a loop: what is left gives the answer. Then the sign.
use lib.Signed.{lt_z}
use Rattle.std.proofs.Common.{◌≡◌, ℕ, zero, suc, ◌+◌, ◌-◌, ◌*◌, ◌^◌, ◌<◌, ◌≤◌, Bool, true, false, cond, ◌&&◌, eqb, leb, ◌⊎◌, List, [], ◌∷◌, length, get_or, take, drop, ℤ, pos, negsuc, neg_ℤ, Some, None, Option, sym, refl, ap, ◌∙◌, inl, inr, arith}
use Rattle.std.specs.Option.{option_map}
use Rattle.std.proofs.lemmas.List.{take_all, drop_all, drop_more}
use Rattle.std.proofs.lemmas.Bool.{le-leb, lt-leb, le-ltb, and_from, and_left, and_right, cond-true, cond-false, eq-eqb, ne_eqb}
use Rattle.numerals.specs.Decimal.{is_digit, are_digits, value_after, natural_of, fits, if_fits, whole_of}
use Rattle.numerals.specs.Bounds.{at_most}
use Rattle.numerals.proofs.Bounded.{at_most_lem}

-- what digits come to after others of the value n
abbrev read_on : ℕ → List ℕ → Option ℕ
read_on n ds = cond (are_digits ds) (Some (value_after n ds)) None

-- the bytes before i were digits of the value n
pub record Reading (text : List ℕ) (i n : ℕ) : Type 0 where
  pub small : n ≤ 2 ^ 63
  pub is : at_most (2 ^ 63) (natural_of text) ≡ at_most (2 ^ 63) (read_on n (drop i text))

natural_some : (c : ℕ) (cs ds : List ℕ) → ds ≡ c ∷ cs → natural_of ds ≡ read_on 0 ds
natural_some c cs ds e = ap natural_of e ∙ sym (ap (read_on 0) e)

pub reading_none : (text : List ℕ) → 0 < length text → Reading text 0 0
reading_none text l =
    record { small = omega arith; is = ap (at_most (2 ^ 63)) (natural_some (get_or text 0 0) (drop 1 text) text (drop_more text 0 0 l)) }

pub reading_all : {text : List ℕ} {i n : ℕ} → Reading text i n → length text ≤ i → Some n ≡ at_most (2 ^ 63) (natural_of text)
reading_all {text} {i} {n} r l =
    sym (r.is ∙ ap (λ ds. at_most (2 ^ 63) (read_on n ds)) (drop_all i text l) ∙ ap (λ b. cond b (Some n) None) (le-leb n (2 ^ 63) r.small))

value_after_ge : (n : ℕ) (ds : List ℕ) → n ≤ value_after n ds
value_after_ge n [] = omega arith
value_after_ge n (c ∷ cs) = omega (arith, value_after_ge (n * 10 + (c - 48)) cs)

read_digit : (n c : ℕ) (cs : List ℕ) → 48 ≤ c → c ≤ 57 → read_on n (c ∷ cs) ≡ read_on (n * 10 + (c - 48)) cs
read_digit n c cs l h =
    ap (λ b. cond (b && are_digits cs) (Some (value_after (n * 10 + (c - 48)) cs)) None) (and_from (leb 48 c) (leb c 57) (le-leb 48 c l) (le-leb c 57 h))

no_digit : (c : ℕ) → (c < 48) ⊎ (57 < c) → is_digit c ≡ false
no_digit c (inl h) = and_left (leb 48 c) (leb c 57) (lt-leb 48 c h)
no_digit c (inr h) = and_right (leb 48 c) (leb c 57) (lt-leb c 57 h)

beyond : (b : Bool) (n : ℕ) → 2 ^ 63 < n → at_most (2 ^ 63) (cond b (Some n) None) ≡ None
beyond true n h = ap (λ t. cond t (Some n) None) (lt-leb n (2 ^ 63) h)
beyond false n h = refl

-- the next byte
module _ {text : List ℕ} {i n : ℕ} (r : Reading text i n) (l : i < length text) where
  at : at_most (2 ^ 63) (natural_of text) ≡ at_most (2 ^ 63) (read_on n (get_or text i 0 ∷ drop (i + 1) text))
  at = r.is ∙ ap (λ ds. at_most (2 ^ 63) (read_on n ds)) (drop_more text i 0 l)

  pub reading_more : 48 ≤ get_or text i 0 → get_or text i 0 ≤ 57 → n * 10 + (get_or text i 0 - 48) ≤ 2 ^ 63 → Reading text (i + 1) (n * 10 + (get_or text i 0 - 48))
  reading_more p q s = record { small = s; is = at ∙ ap (at_most (2 ^ 63)) (read_digit n (get_or text i 0) (drop (i + 1) text) p q) }

  pub reading_other : (get_or text i 0 < 48) ⊎ (57 < get_or text i 0) → None ≡ at_most (2 ^ 63) (natural_of text)
  reading_other d =
      sym (at ∙ ap (λ b. at_most (2 ^ 63) (cond (b && are_digits (drop (i + 1) text)) (Some (value_after (n * 10 + (get_or text i 0 - 48)) (drop (i + 1) text))) None)) (no_digit (get_or text i 0) d))

  pub reading_beyond : 48 ≤ get_or text i 0 → get_or text i 0 ≤ 57 → 2 ^ 63 < n * 10 + (get_or text i 0 - 48) → None ≡ at_most (2 ^ 63) (natural_of text)
  reading_beyond p q s =
      let cs = drop (i + 1) text in
      let m = n * 10 + (get_or text i 0 - 48) in
      sym (at ∙ ap (at_most (2 ^ 63)) (read_digit n (get_or text i 0) cs p q) ∙ beyond (are_digits cs) (value_after m cs) (omega (arith, value_after_ge m cs)))

-- a size beyond 2^63 fits with neither sign
pos_beyond : (n : ℕ) → 2 ^ 63 < n → fits (pos n) ≡ false
pos_beyond n h = le-ltb n (2 ^ 63) (omega arith)

neg_beyond : (n : ℕ) → 2 ^ 63 < n → fits (neg_ℤ (pos n)) ≡ false
neg_beyond zero h = absurd (omega arith)
neg_beyond (suc n) h = and_left (leb n (2 ^ 63 - 1)) (lt_z (negsuc n) (pos (2 ^ 63))) (lt-leb n (2 ^ 63 - 1) (omega arith))

-- what the code's calls give, r at each sign
pub whole_minus : (t : List ℕ) (o : Option ℕ) (r : Option ℤ) → 0 < length t → get_or t 0 0 ≡ 45 → o ≡ at_most (2 ^ 63) (natural_of (take (length t - 1) (drop 1 t))) → r ≡ if_fits (option_map (λ n. neg_ℤ (pos n)) o) → r ≡ whole_of t
unfolding whole_of
whole_minus [] o r l e p q = absurd (omega arith)
whole_minus (c ∷ cs) o r l e p q =
    q ∙ ap (λ x. if_fits (option_map (λ n. neg_ℤ (pos n)) x)) (p ∙ ap (λ ds. at_most (2 ^ 63) (natural_of ds)) (take_all (length (c ∷ cs) - 1) cs (omega arith))) ∙ at_most_lem (λ n. neg_ℤ (pos n)) neg_beyond (natural_of cs)
    ∙ ap if_fits (sym (cond-true (eqb c 45) _ _ (eq-eqb c 45 e)))

pub whole_plus : (t : List ℕ) (o : Option ℕ) (r : Option ℤ) → 0 < length t → get_or t 0 0 ≡ 43 → o ≡ at_most (2 ^ 63) (natural_of (take (length t - 1) (drop 1 t))) → r ≡ if_fits (option_map pos o) → r ≡ whole_of t
unfolding whole_of
whole_plus [] o r l e p q = absurd (omega arith)
whole_plus (c ∷ cs) o r l e p q =
    q ∙ ap (λ x. if_fits (option_map pos x)) (p ∙ ap (λ ds. at_most (2 ^ 63) (natural_of ds)) (take_all (length (c ∷ cs) - 1) cs (omega arith))) ∙ at_most_lem pos pos_beyond (natural_of cs)
    ∙ ap (λ x. if_fits (option_map pos x)) (sym (cond-true (eqb c 43) (natural_of cs) (natural_of (c ∷ cs)) (eq-eqb c 43 e)))
    ∙ ap if_fits (sym (cond-false (eqb c 45) _ _ (ne_eqb c 45 (λ h. omega arith))))

pub whole_plain : (t : List ℕ) (o : Option ℕ) (r : Option ℤ) → (get_or t 0 0 ≡ 45 → ⊥) → (get_or t 0 0 ≡ 43 → ⊥) → o ≡ at_most (2 ^ 63) (natural_of t) → r ≡ if_fits (option_map pos o) → r ≡ whole_of t
unfolding whole_of
whole_plain [] o r m e p q = q ∙ ap (λ x. if_fits (option_map pos x)) p
whole_plain (c ∷ cs) o r m e p q =
    q ∙ ap (λ x. if_fits (option_map pos x)) p ∙ at_most_lem pos pos_beyond (natural_of (c ∷ cs))
    ∙ ap (λ x. if_fits (option_map pos x)) (sym (cond-false (eqb c 43) (natural_of cs) (natural_of (c ∷ cs)) (ne_eqb c 43 e)))
    ∙ ap if_fits (sym (cond-false (eqb c 45) _ _ (ne_eqb c 45 m)))
