-- Reading and writing are inverse.
use Rattle.std.proofs.Common.{◌≡◌, ℕ, suc, ◌^◌, ◌<◌, ◌≤◌, Bool, true, false, cond, eqb, leb, List, [], ◌∷◌, get_or, ℤ, pos, negsuc, neg_ℤ, Some, None, Option, sym, refl, ap, ◌∙◌, subst, arith, rules}
use Rattle.std.specs.Option.{option_map}
use Rattle.std.proofs.lemmas.Fmt.{digits_decimal, digits_value-decimal, first_decimal}
use Rattle.std.proofs.lemmas.Str.Parse.{IsNumeralModel, numerals_by_fold}
use Rattle.std.proofs.lemmas.Int.{ints}
use Rattle.std.proofs.lemmas.Bool.{eqb-true, ne_eqb, and_parts, leb-true, cond-true, cond-false}
use Rattle.numerals.specs.Decimal.{is_digit, are_digits, value_after, value_of, natural_text, whole_text, natural_of, signed_of, fits, if_fits, whole_of}
use Rattle.numerals.specs.Laws.{Fits64, Digits, Spells, plain, plus, minus, ReadsWhatIsSpelled, ReadsBack, AtMost20Bytes, NoLeadingZero}
use Rattle.numerals.proofs.Texts.{text_is, text_some, length_text_le}

pub own : IsNumeralModel (λ ds. are_digits ds ≡ true) value_of
own = numerals_by_fold _ (search rules) value_after (search rules)

-- 64 bits
pub fits_from : (z : ℤ) → Fits64 z → fits z ≡ true
fits_from z f = grind (arith, ints, f.least, f.most)

pub fits_to : (z : ℤ) → fits z ≡ true → Fits64 z
fits_to z e = record { least = grind (arith, ints); most = grind (arith, ints) }

mag_fits : (n : ℕ) → Fits64 (pos n) → n < 2 ^ 63
mag_fits n f = omega (arith, ints, f.most)

neg_fits : (n : ℕ) → Fits64 (negsuc n) → n < 2 ^ 63
neg_fits n f = omega (arith, ints, f.least)

-- texts of digits
text_digits : (n : ℕ) → n < 2 ^ 64 → Digits (natural_text n)
text_digits n h = record { some = text_some n h; all = ap are_digits (text_is n h) ∙ digits_decimal own n h }

text_value : (n : ℕ) → n < 2 ^ 64 → value_of (natural_text n) ≡ n
text_value n h = ap value_of (text_is n h) ∙ digits_value-decimal own n h

text_spells : (n : ℤ) → Fits64 n → Spells (whole_text n) n
unfolding whole_text
text_spells (pos n) f =
    subst (λ (v : ℕ). Spells (natural_text n) (pos v)) (text_value n (omega (arith, mag_fits n f))) (plain (text_digits n (omega (arith, mag_fits n f))))
text_spells (negsuc n) f =
    subst (λ (v : ℕ). Spells (45 ∷ natural_text (suc n)) (neg_ℤ (pos v))) (text_value (suc n) (omega (arith, neg_fits n f))) (minus (text_digits (suc n) (omega (arith, neg_fits n f))))

natural_from : (ds : List ℕ) → Digits ds → natural_of ds ≡ Some (value_of ds)
natural_from [] d = absurd (omega (arith, d.some))
natural_from (c ∷ cs) d = cond-true (are_digits (c ∷ cs)) (Some (value_of (c ∷ cs))) None d.all

natural_to : (ds : List ℕ) (n : ℕ) → natural_of ds ≡ Some n → Digits ds × (n ≡ value_of ds)
natural_to [] n e = let z : ◌≡◌ {A = ℕ} 0 1 = cc in absurd (omega arith)
natural_to (c ∷ cs) n e = go (are_digits (c ∷ cs)) refl e
  where
    go : (b : Bool) → b ≡ are_digits (c ∷ cs) → cond b (Some (value_of (c ∷ cs))) None ≡ Some n → Digits (c ∷ cs) × (n ≡ value_of (c ∷ cs))
    go true p q = (record { some = omega arith; all = sym p }, let k : n ≡ value_of (c ∷ cs) = cc in k)
    go false p q = let z : ◌≡◌ {A = ℕ} 0 1 = cc in absurd (omega arith)

-- a digit is no sign
unsigned : (c : ℕ) (cs : List ℕ) → are_digits (c ∷ cs) ≡ true → signed_of (c ∷ cs) ≡ option_map pos (natural_of (c ∷ cs))
unsigned c cs h =
    let d = (and_parts (is_digit c) (are_digits cs) h).0 in
    let l : 48 ≤ c = leb-true 48 c (and_parts (leb 48 c) (leb c 57) d).0 in
    cond-false (eqb c 45) (option_map (λ n. neg_ℤ (pos n)) (natural_of cs)) (option_map pos (cond (eqb c 43) (natural_of cs) (natural_of (c ∷ cs)))) (ne_eqb c 45 (λ e. omega arith))
    ∙ ap (option_map pos) (cond-false (eqb c 43) (natural_of cs) (natural_of (c ∷ cs)) (ne_eqb c 43 (λ e. omega arith)))

plain_signed : (ds : List ℕ) → Digits ds → signed_of ds ≡ Some (pos (value_of ds))
plain_signed [] d = absurd (omega (arith, d.some))
plain_signed (c ∷ cs) d = unsigned c cs d.all ∙ ap (option_map pos) (natural_from (c ∷ cs) d)

spells_signed : {t : List ℕ} {n : ℤ} → Spells t n → signed_of t ≡ Some n
spells_signed (plain {ds} d) = plain_signed ds d
spells_signed (plus {ds} d) = ap (option_map pos) (natural_from ds d)
spells_signed (minus {ds} d) = ap (option_map (λ n. neg_ℤ (pos n))) (natural_from ds d)

-- and back
mapped_to : (f : ℕ → ℤ) (o : Option ℕ) (z : ℤ) → option_map f o ≡ Some z → (n : ℕ) × (o ≡ Some n) × (f n ≡ z)
mapped_to f None z e = let k : ◌≡◌ {A = ℕ} 0 1 = cc in absurd (omega arith)
mapped_to f (Some n) z e = (n, refl, let k : f n ≡ z = cc in k)

from_mapped : (t ds : List ℕ) (f : ℕ → ℤ) (z : ℤ) → option_map f (natural_of ds) ≡ Some z → (Digits ds → Spells t (f (value_of ds))) → Spells t z
from_mapped t ds f z e s =
    let m = mapped_to f (natural_of ds) z e in
    let d = natural_to ds m.0 m.1 in
    subst (λ (y : ℤ). Spells t y) (ap f (sym d.1) ∙ m.2) (s d.0)

signed_spells : (t : List ℕ) (n : ℤ) → signed_of t ≡ Some n → Spells t n
signed_spells [] n e = let k : ◌≡◌ {A = ℕ} 0 1 = cc in absurd (omega arith)
signed_spells (c ∷ cs) n e = go (eqb c 45) (eqb c 43) refl refl e
  where
    go : (m p : Bool) → eqb c 45 ≡ m → eqb c 43 ≡ p → cond m (option_map (λ k. neg_ℤ (pos k)) (natural_of cs)) (option_map pos (cond p (natural_of cs) (natural_of (c ∷ cs)))) ≡ Some n → Spells (c ∷ cs) n
    go true p i j h = subst (λ (b : ℕ). Spells (b ∷ cs) n) (sym (eqb-true c 45 i)) (from_mapped (45 ∷ cs) cs (λ k. neg_ℤ (pos k)) n h (λ d. minus d))
    go false true i j h = subst (λ (b : ℕ). Spells (b ∷ cs) n) (sym (eqb-true c 43 j)) (from_mapped (43 ∷ cs) cs pos n h (λ d. plus d))
    go false false i j h = from_mapped (c ∷ cs) (c ∷ cs) pos n h (λ d. plain d)

fits_some : (o : Option ℤ) (n : ℤ) → if_fits o ≡ Some n → (o ≡ Some n) × (fits n ≡ true)
fits_some None n e = let k : ◌≡◌ {A = ℕ} 0 1 = cc in absurd (omega arith)
fits_some (Some z) n e = go (fits z) refl e
  where
    go : (b : Bool) → fits z ≡ b → cond b (Some z) None ≡ Some n → (Some z ≡ Some n) × (fits n ≡ true)
    go true p q = let k : z ≡ n = cc in (ap Some k, ap fits (sym k) ∙ p)
    go false p q = let k : ◌≡◌ {A = ℕ} 0 1 = cc in absurd (omega arith)

spells_whole : (t : List ℕ) (n : ℤ) → Spells t n → Fits64 n → whole_of t ≡ Some n
unfolding whole_of
spells_whole t n s f = ap if_fits (spells_signed s) ∙ cond-true (fits n) (Some n) None (fits_from n f)

whole_spells : (t : List ℕ) (n : ℤ) → whole_of t ≡ Some n → Spells t n × Fits64 n
unfolding whole_of
whole_spells t n e = let p = fits_some (signed_of t) n e in (signed_spells t n p.0, fits_to n p.1)

pub reads_what_is_spelled : ReadsWhatIsSpelled
reads_what_is_spelled t n = (whole_spells t n, spells_whole t n)

pub reads_back : ReadsBack
reads_back n f = spells_whole (whole_text n) n (text_spells n f) f

pub at_most_20_bytes : AtMost20Bytes
unfolding whole_text
at_most_20_bytes (pos n) f = let h = mag_fits n f in length_text_le 20 n (omega arith) (omega arith) (omega arith)
at_most_20_bytes (negsuc n) f = let h = neg_fits n f in omega (arith, length_text_le 19 (suc n) (omega arith) (omega arith) (omega arith))

pub no_leading_zero : NoLeadingZero
no_leading_zero n p h = omega (arith, ap (λ ds. get_or ds 0 0) (text_is n (omega arith)), first_decimal n p (omega arith))
