-- How much of a room is left after the parts of a text.
use Rattle.std.proofs.Common.{◌≡◌, ℕ, ◌+◌, ◌-◌, ◌<◌, ◌≤◌, leb, List, ◌++◌, length, Some, None, sym, ap, ◌∙◌, ⊎_elim, arith}
use Rattle.std.proofs.lemmas.Option.{none-some}
use Rattle.std.proofs.lemmas.List.{length-append}
use Rattle.std.proofs.lemmas.Bool.{le-leb, lt-leb, cond-true, cond-false, cases_Bool, leb-true, leb-false}
use Rattle.values.specs.Value.{Value, written}
use Rattle.texts.specs.Written.{leaves}
use Rattle.texts.proofs.LeafTexts.{written_all, all_more, all_done}

some_is : (m n : ℕ) → Some m ≡ Some n → m ≡ n
some_is m n e = cc

-- there is room, and what is left of it
pub left_some : (room n left : ℕ) → Some left ≡ leaves room n → (n ≤ room) × (left ≡ room - n)
left_some room n left e =
    ⊎_elim (λ t. (leb-true n room t, some_is left (room - n) (e ∙ cond-true (leb n room) (Some (room - n)) None t)))
    (λ f. absurd (none-some left (sym (e ∙ cond-false (leb n room) (Some (room - n)) None f)))) (cases_Bool (leb n room))

pub left_none : (room n : ℕ) → None ≡ leaves room n → room < n
left_none room n e =
    ⊎_elim (λ t. absurd (none-some (room - n) (e ∙ cond-true (leb n room) (Some (room - n)) None t)))
    (λ f. leb-false n room f) (cases_Bool (leb n room))

-- a text too long leaves nothing, and so does a longer one
pub none_left : (room n : ℕ) → room < n → None ≡ leaves room n
none_left room n l = sym (cond-false (leb n room) (Some (room - n)) None (lt-leb n room l))

pub some_left : (room n left : ℕ) → left + n ≡ room → Some left ≡ leaves room n
some_left room n left e = ap Some (let q : left ≡ room - n = omega arith in q) ∙ sym (cond-true (leb n room) (Some (room - n)) None (le-leb n room (omega arith)))

-- what is used, with what is still to come, is the whole
pub record Left (f : ℕ → Value) (whole : List ℕ) (room c stop left : ℕ) : Type 0 where
  pub used : ℕ
  pub rest : left + used ≡ room
  pub is : used + length (written_all f c (stop - c)) ≡ length whole

-- the record's own text alone has no room
pub left_short : (f : ℕ → Value) (whole : List ℕ) (room : ℕ) (own : List ℕ) (first stop n : ℕ) → whole ≡ own ++ written_all f first (stop - first) → n ≡ length own → None ≡ leaves room n → None ≡ leaves room (length whole)
left_short f whole room own first stop n e en s =
    none_left _ _ (omega (arith, left_none room n s, ap length e, length-append own (written_all f first (stop - first))))

part : (f : ℕ → Value) (c stop : ℕ) → c < stop → length (written_all f c (stop - c)) ≡ length (written (f c)) + length (written_all f (c + 1) (stop - (c + 1)))
part f c stop l = ap length (all_more f c stop l) ∙ length-append (written (f c)) _

module _ {f : ℕ → Value} {whole : List ℕ} {room : ℕ} where
  pub left_start : (own : List ℕ) (first stop left n : ℕ) → whole ≡ own ++ written_all f first (stop - first) → n ≡ length own → Some left ≡ leaves room n → Left f whole room first stop left
  left_start own first stop left n e en s =
      let p = left_some room n left s in
      record { used = n; rest = omega (arith, p.0, p.1); is = ap (λ k. k + length (written_all f first (stop - first))) en ∙ sym (length-append own _) ∙ sym (ap length e) }

  pub left_step : {c stop left : ℕ} → Left f whole room c stop left → c < stop → (next : ℕ) → Some next ≡ leaves left (length (written (f c))) → Left f whole room (c + 1) stop next
  left_step {c} {stop} {left} inv l next s =
      let p = left_some left _ next s in
      record { used = inv.used + length (written (f c)); rest = omega (arith, inv.rest, p.0, p.1); is = omega (arith, inv.is, part f c stop l) }

  -- the same as a range goes on: c was its first, and it begins behind it now
  pub left_next : {at stop left : ℕ} → Left f whole room at stop left → {c behind end : ℕ} → at ≡ c → behind ≡ at + 1 → end ≡ stop → at < stop → (next : ℕ) → Some next ≡ leaves left (length (written (f c))) → Left f whole room behind end next
  left_next {at} {stop} {left} inv {c} {behind} {end} e b z l next s =
      let r = left_step inv l next (s ∙ ap (λ k. leaves left (length (written (f k)))) (sym e)) in
      rw (b, z) r

  pub left_stop : {c stop left : ℕ} → Left f whole room c stop left → c < stop → None ≡ leaves left (length (written (f c))) → None ≡ leaves room (length whole)
  left_stop {c} {stop} {left} inv l s =
      none_left _ _ (omega (arith, inv.rest, inv.is, part f c stop l, left_none left _ s))

  pub left_end : {c stop left : ℕ} → Left f whole room c stop left → stop ≤ c → Some left ≡ leaves room (length whole)
  left_end {c} {stop} {left} inv l = some_left _ _ _ (omega (arith, inv.rest, inv.is, ap length (all_done f c stop l)))
