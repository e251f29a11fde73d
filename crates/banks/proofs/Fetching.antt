-- Whether a record of a tray is a phrase.
use Rattle.std.proofs.Common.{◌≡◌, ℕ, ◌<◌, leb, List, length, Option, Some, None, Ok, Err, vec_items, sym, refl, ap, ◌∙◌, arith}
use Rattle.std.specs.Option.{MatchOption, ok_or}
use Rattle.std.proofs.lemmas.List.{length-take}
use Rattle.std.proofs.lemmas.Bool.{cond-true, cond-false, le-leb, lt-leb}
use Rattle.tray.specs.declared.records.Span.{Span}
use Rattle.tray.specs.declared.records.Record.{Record}
use Rattle.tray.specs.declared.records.Record.TheVariants.{Nil, Boolean, Whole, Text, Array, Object}
use Rattle.tray.specs.declared.trays.Tray.{Tray}
use Rattle.tray.specs.Sound.{at}
use Rattle.tray.specs.Parts.{key_of}
use Rattle.values.specs.Value.{Value, text}
use Rattle.values.specs.Meaning.{shape, key_at, value_at, value_of}
use Rattle.values.proofs.Unfolds.{stands}
use Rattle.banks.specs.declared.causes.Cause.TheVariants.{NoPhrase}
use Rattle.banks.specs.declared.operands.Short.{Short}
use Rattle.banks.specs.Fetched.{texted}
use Rattle.banks.specs.Meaning.{a_text}
use Rattle.banks.specs.Operands.{text_of}
use Rattle.banks.specs.Phrases.{phrase_of}

shape_no_phrase : (tx : List ℕ) (key : ℕ → List ℕ) (f : ℕ → Value) (r : Record) → ((s : Span) → r ≡ Text s → ⊥) → phrase_of (shape tx key f r) ≡ Err NoPhrase
shape_no_phrase tx key f Nil h = refl
shape_no_phrase tx key f (Boolean b) h = refl
shape_no_phrase tx key f (Whole z) h = refl
shape_no_phrase tx key f (Text s) h = absurd (h s refl)
shape_no_phrase tx key f (Array s) h = refl
shape_no_phrase tx key f (Object s) h = refl

-- the value of record i, where r was read there
value_is : (t : Tray) (i : ℕ) (r : Record) → r ≡ at (vec_items t.records) i → phrase_of (value_of t i) ≡ phrase_of (shape t.text.now (key_at (vec_items t.records) t.text.now) (value_at (vec_items t.records) t.text.now) r)
value_is t i r e = ap phrase_of (stands (vec_items t.records) t.text.now i r t.behind e)

pub no_phrase : (t : Tray) (i : ℕ) (r : Record) → r ≡ at (vec_items t.records) i → ((s : Span) → r ≡ Text s → ⊥) → phrase_of (value_of t i) ≡ Err NoPhrase
no_phrase t i r e h = value_is t i r e ∙ shape_no_phrase _ _ _ r h

-- the text record i, by the bytes that were read there
text_is : (t : Tray) (i : ℕ) (s : Span) (bytes : List ℕ) → Text s ≡ at (vec_items t.records) i → bytes ≡ key_of t.text.now (at (vec_items t.records) i) → phrase_of (value_of t i) ≡ phrase_of (text bytes)
text_is t i s bytes e h = value_is t i (Text s) e ∙ ap (λ x. phrase_of (text x)) (ap (key_of t.text.now) e ∙ sym h)

-- a text that is short enough is a phrase, s
measured : (bytes : List ℕ) (o : Option Short) → MatchOption o (256 < length bytes) (λ s. text_of s ≡ bytes) → texted (ok_or o NoPhrase) ≡ phrase_of (text bytes)
measured bytes None h = sym (cond-false (leb (length bytes) 256) _ _ (lt-leb (length bytes) 256 h))
measured bytes (Some s) h =
    ap (λ t. Ok (a_text t)) h ∙ sym (cond-true (leb (length bytes) 256) _ _ (le-leb (length bytes) 256 (omega (arith, ap length h, length-take 256 s.bytes.now))))

pub a_text_record : (t : Tray) (i : ℕ) (s : Span) (bytes : List ℕ) (o : Option Short) → Text s ≡ at (vec_items t.records) i → bytes ≡ key_of t.text.now (at (vec_items t.records) i) → MatchOption o (256 < length bytes) (λ s. text_of s ≡ bytes) → texted (ok_or o NoPhrase) ≡ phrase_of (value_of t i)
a_text_record t i s bytes o e h m = measured bytes o m ∙ sym (text_is t i s bytes e h)
