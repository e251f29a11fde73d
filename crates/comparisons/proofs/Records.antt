-- The value of a record that was read.
use Rattle.std.proofs.Common.{◌≡◌, ℕ, ◌≤◌, length, vec_items, min, sym, ap, ◌∙◌, ⊎_elim, arith}
use Rattle.std.proofs.lemmas.List.{get_or_past}
use Rattle.std.proofs.lemmas.Bool.{cases_lt}
use Rattle.tray.specs.declared.records.Record.{Record}
use Rattle.tray.specs.declared.records.Record.TheVariants.{Nil}
use Rattle.tray.specs.declared.trays.Tray.{Tray}
use Rattle.tray.specs.Sound.{at}
use Rattle.values.specs.Value.{nil}
use Rattle.values.specs.Meaning.{shape, key_at, value_of}
use Rattle.values.proofs.Unfolds.{stands}

pub read_is : (t : Tray) (i : ℕ) (r : Record) → r ≡ at (vec_items t.records) i → value_of t i ≡ shape t.text.now (key_at (vec_items t.records) t.text.now) (value_of t) r
read_is t i r e = stands (vec_items t.records) t.text.now i r t.behind e

past_end : (t : Tray) (i : ℕ) → length (vec_items t.records) ≤ i → value_of t i ≡ nil
past_end t i l = read_is t i Nil (sym (get_or_past (vec_items t.records) i Nil l))

-- a number that was cut to 64 bits
pub cut_is : (t : Tray) (i r : ℕ) → r ≡ min i 18446744073709551615 → value_of t r ≡ value_of t i
cut_is t i r e =
    let k = t.records.ok in
    let s = t.records.small in
    ⊎_elim (λ l. ap (value_of t) (let q : r ≡ i = omega arith in q))
    (λ g. past_end t r (omega arith) ∙ sym (past_end t i (omega arith))) (cases_lt i 18446744073709551615)
