-- What is written for a record is what the format says of it.
use Rattle.std.proofs.Common.{◌≡◌, ℕ, suc, ◌+◌, ◌*◌, ◌/◌, ◌%◌, ◌<◌, ◌≤◌, true, false, [], ◌∷◌, sym, ap, ap₂, ◌∙◌, subst, arith, to_z-of_z, w64, SFits, to_z, of_z}
use native.Mathlib.Nat.{mod-add-div}
use mir.Facts.{Fits-of_z}
use Rattle.tray.specs.Format.{little, RecordBytes, a_nil, a_false, a_true, a_whole, a_text, an_array, an_object, none, more}
use Rattle.tray.specs.declared.records.Span.{Span}
use Rattle.tray.specs.Parts.{span}
use Rattle.tray.specs.declared.records.Record.{Record}
use Rattle.tray.specs.declared.records.Record.TheVariants.{Nil, Boolean, Whole, Text, Array, Object}
use Rattle.ticket.specs.Spelling.{low_first, spelt, Sayable, ReadAsWritten}

-- k bytes say a number below 256 ^ k; `most` is that power
more_bytes : (k n most : ℕ) → ((m : ℕ) → m < most → little (low_first k m) ≡ m) → n < 256 * most → little (low_first (suc k) n) ≡ n
more_bytes k n most h l =
    let small : n / 256 < most = omega (arith, mod-add-div n 256) in
    ap (λ x. n % 256 + 256 * x) (h (n / 256) small) ∙ mod-add-div n 256

no_bytes : (m : ℕ) → m < 1 → little (low_first 0 m) ≡ m
no_bytes m l = omega arith

pub two_bytes : (n : ℕ) → n < 65536 → little (low_first 2 n) ≡ n
two_bytes n l = more_bytes 1 n 256 (λ m b. more_bytes 0 m 1 no_bytes b) l

four_bytes : (n : ℕ) → n < 4294967296 → little (low_first 4 n) ≡ n
four_bytes n l = more_bytes 3 n 16777216 (λ m b. more_bytes 2 m 65536 two_bytes b) l

pub eight_bytes : (n : ℕ) → n < 18446744073709551616 → little (low_first 8 n) ≡ n
eight_bytes n l =
    more_bytes 7 n 72057594037927936
    (λ m b. more_bytes 6 m 281474976710656 (λ m b. more_bytes 5 m 1099511627776 (λ m b. more_bytes 4 m 4294967296 four_bytes b) b) b) l

whole_spelt : (room : ℕ) (z : _) → SFits w64 z → RecordBytes room (spelt (Whole z)) (Whole z)
whole_spelt room z f =
    let bytes = low_first 8 (of_z w64 z) in
    let fits : of_z w64 z < 18446744073709551616 = omega (arith, Fits-of_z f) in
    subst (λ x. RecordBytes room (2 ∷ bytes) (Whole x)) (ap (to_z w64) (eight_bytes (of_z w64 z) fits) ∙ to_z-of_z f) (a_whole _ _ _ _ _ _ _ _)

span_back : (s : Span) → s.first < 65536 → s.count < 65536 → span (little (low_first 2 s.first)) (little (low_first 2 s.count)) ≡ s
span_back s f n = ap₂ span (two_bytes s.first f) (two_bytes s.count n)

text_spelt : (room : ℕ) (s : Span) → Sayable room (Text s) → RecordBytes room (spelt (Text s)) (Text s)
text_spelt room s h =
    let ep = two_bytes s.first h.0 in
    let en = two_bytes s.count (omega arith) in
    let short : little (low_first 2 s.count) ≤ 256 = subst (λ x. x ≤ 256) (sym en) h.1 in
    let inside : little (low_first 2 s.first) + little (low_first 2 s.count) ≤ room = omega (arith, ep, en) in
    subst (λ x. RecordBytes room (spelt (Text s)) (Text x)) (span_back s h.0 (omega arith)) (a_text _ _ _ _ short inside)

array_spelt : (room : ℕ) (s : Span) → Sayable room (Array s) → RecordBytes room (spelt (Array s)) (Array s)
array_spelt room s h = subst (λ x. RecordBytes room (spelt (Array s)) (Array x)) (span_back s h.0 h.1) (an_array _ _ _ _)

object_spelt : (room : ℕ) (s : Span) → Sayable room (Object s) → RecordBytes room (spelt (Object s)) (Object s)
object_spelt room s h = subst (λ x. RecordBytes room (spelt (Object s)) (Object x)) (span_back s h.0 h.1) (an_object _ _ _ _)

one_spelt : (room : ℕ) (r : Record) → Sayable room r → RecordBytes room (spelt r) r
one_spelt room Nil s = a_nil
one_spelt room (Boolean true) s = a_true
one_spelt room (Boolean false) s = a_false
one_spelt room (Whole z) s = whole_spelt room z s
one_spelt room (Text t) s = text_spelt room t s
one_spelt room (Array t) s = array_spelt room t s
one_spelt room (Object t) s = object_spelt room t s

pub read_as_written : ReadAsWritten
read_as_written room [] s = none
read_as_written room (r ∷ rs) s = more (one_spelt room r s.0) (read_as_written room rs s.1)
