-- The decimal text of a number is the text that the library writes.
use Rattle.std.proofs.Common.{◌≡◌, ℕ, suc, ◌^◌, ◌<◌, ◌≤◌, ◌∷◌, List, length, ℤ, pos, negsuc, decimal, sym, ap, ◌∙◌, arith, w64, SFits, to_z, of_z, rules}
use lib.Signed.{mag}
use Rattle.std.specs.Fmt.{signed_decimal}
use Rattle.std.proofs.lemmas.Fmt.{decimal_from_appends, length-decimal-le, length-decimal-le_succ, decimal_nonempty}
use Rattle.std.proofs.lemmas.Int.{to_z-of_z}
use Rattle.numerals.specs.Decimal.{digits_up_to, natural_text, whole_text}

pub text_is : (n : ℕ) → n < 2 ^ 64 → natural_text n ≡ decimal n
unfolding natural_text
text_is n h = decimal_from_appends digits_up_to (search rules) (suc n) n h (omega (arith, length-decimal-le_succ n h))

pub length_text_le : (k n : ℕ) → 0 < k → n < 10 ^ k → n < 2 ^ 64 → length (natural_text n) ≤ k
length_text_le k n p h f = omega (arith, ap length (text_is n f), length-decimal-le k n p h f)

pub text_some : (n : ℕ) → n < 2 ^ 64 → 0 < length (natural_text n)
text_some n h = omega (arith, ap length (text_is n h), decimal_nonempty n h)

whole_text_is : (z : ℤ) → mag z < 2 ^ 63 → whole_text z ≡ signed_decimal z
unfolding whole_text
whole_text_is (pos n) h = text_is n (omega (arith, h))
whole_text_is (negsuc n) h = ap (λ ds. 45 ∷ ds) (text_is (suc n) (omega (arith, h)))

-- the same of bytes that were copied from what the library wrote of a 64-bit number
pub written_is : (z : ℤ) (bytes text : List ℕ) → SFits w64 z → bytes ≡ text → text ≡ signed_decimal (to_z w64 (of_z w64 z)) → bytes ≡ whole_text z
written_is z bytes text f e h = e ∙ h ∙ ap signed_decimal (to_z-of_z w64 z f) ∙ sym (whole_text_is z f.sfits)
