-- Texts laid one behind another, and loops that lay what an array or an object holds.
use Rattle.std.proofs.Common.{◌≡◌, ℕ, ◌+◌, ◌-◌, ◌<◌, ◌≤◌, List, ◌++◌, length, take, drop, sym, ap, ◌∙◌, subst, arith}
use Rattle.std.proofs.lemmas.List.{append_assoc, append-nil, length-append, length-take-le, take_at, drop_at, drop-drop}
use Rattle.values.specs.Value.{Value, written}
use Rattle.texts.specs.Written.{LaidAt}
use Rattle.texts.proofs.LeafTexts.{written_all, all_more, all_done}

-- one text, and another behind it
pub lay_more : {from : ℕ} {a old mid : List ℕ} {end : ℕ} → LaidAt from a old mid end → from ≤ length old → {b new : List ℕ} {last : ℕ} → LaidAt end b mid new last → LaidAt from (a ++ b) old new last
lay_more {from} {a} {old} {mid} {end} x l {b} {new} {last} y =
    record { long = omega (arith, x.long, y.long, length-append a b); holds = y.holds ∙ ap (λ t. t ++ (b ++ drop last mid)) front ∙ ap (λ t. (take from old ++ a) ++ (b ++ t)) behind ∙ group }
  where
    whole : mid ≡ (take from old ++ a) ++ drop end old
    whole = x.holds ∙ sym (append_assoc (take from old) a (drop end old))

    long : length (take from old ++ a) ≡ end
    long = length-append (take from old) a ∙ omega (arith, length-take-le from old l, x.long)

    front : take end mid ≡ take from old ++ a
    front = ap (take end) whole ∙ take_at (take from old ++ a) (drop end old) end long

    step : last ≡ end + (last - end)
    step = omega (arith, y.long)

    behind : drop last mid ≡ drop last old
    behind =
        ap (λ n. drop n mid) step ∙ sym (drop-drop (last - end) end mid)
        ∙ ap (drop (last - end)) (ap (drop end) whole ∙ drop_at (take from old ++ a) (drop end old) end long)
        ∙ drop-drop (last - end) end old ∙ ap (λ n. drop n old) (sym step)

    group : (take from old ++ a) ++ (b ++ drop last old) ≡ take from old ++ ((a ++ b) ++ drop last old)
    group = append_assoc (take from old) a (b ++ drop last old) ∙ ap (λ t. take from old ++ t) (sym (append_assoc a b (drop last old)))

-- the same text by another name
pub lay_as : {from : ℕ} {a old new : List ℕ} {end : ℕ} → LaidAt from a old new end → (b : List ℕ) → b ≡ a → LaidAt from b old new end
lay_as {from} {a} {old} {new} {end} x b e = subst (λ t. LaidAt from t old new end) (sym e) x

-- what is laid, with what is to come, is the whole
pub record Laying (f : ℕ → Value) (whole : List ℕ) (c stop from : ℕ) (old new : List ℕ) (end : ℕ) : Type 0 where
  pub done : List ℕ
  pub laid : LaidAt from done old new end
  pub is : done ++ written_all f c (stop - c) ≡ whole

module _ {f : ℕ → Value} {whole : List ℕ} {from : ℕ} {old : List ℕ} where
  pub laying_start : (own : List ℕ) (first stop : ℕ) {new : List ℕ} {end : ℕ} → whole ≡ own ++ written_all f first (stop - first) → LaidAt from own old new end → Laying f whole first stop from old new end
  laying_start own first stop e x = record { done = own; laid = x; is = sym e }

  -- what is to come begins with the part, and has room
  pub laying_room : {c stop : ℕ} {new : List ℕ} {end : ℕ} → Laying f whole c stop from old new end → c < stop → from + length whole ≤ length old → end + length (written (f c)) ≤ length old
  laying_room {c} {stop} inv l r =
      let all : length inv.done + length (written_all f c (stop - c)) ≡ length whole = sym (length-append inv.done _) ∙ ap length inv.is in
      let part : length (written_all f c (stop - c)) ≡ length (written (f c)) + length (written_all f (c + 1) (stop - (c + 1))) = ap length (all_more f c stop l) ∙ length-append (written (f c)) _ in
      omega (arith, inv.laid.long)

  pub laying_step : {c stop : ℕ} {mid : List ℕ} {end : ℕ} → Laying f whole c stop from old mid end → c < stop → from ≤ length old → {new : List ℕ} {last : ℕ} → LaidAt end (written (f c)) mid new last → Laying f whole (c + 1) stop from old new last
  laying_step {c} {stop} {mid} {end} inv l r {new} {last} x =
      record { done = inv.done ++ written (f c); laid = lay_more inv.laid r x; is = append_assoc inv.done (written (f c)) (written_all f (c + 1) (stop - (c + 1))) ∙ ap (λ t. inv.done ++ t) (sym (all_more f c stop l)) ∙ inv.is }

  -- the same as a range goes on: c was its first, and it begins behind it now
  pub laying_next : {at stop : ℕ} {mid : List ℕ} {end : ℕ} → Laying f whole at stop from old mid end → {c behind last : ℕ} → at ≡ c → behind ≡ at + 1 → last ≡ stop → at < stop → from ≤ length old → {new : List ℕ} {next : ℕ} → LaidAt end (written (f c)) mid new next → Laying f whole behind last from old new next
  laying_next {at} {stop} {mid} {end} inv {c} {behind} {last} e b z l r {new} {next} x =
      let y = laying_step inv l r (subst (λ k. LaidAt end (written (f k)) mid new next) (sym e) x) in
      rw (b, z) y

  pub laying_end : {c stop : ℕ} {new : List ℕ} {end : ℕ} → Laying f whole c stop from old new end → stop ≤ c → LaidAt from whole old new end
  laying_end {c} {stop} inv l = lay_as inv.laid whole (sym inv.is ∙ ap (λ t. inv.done ++ t) (all_done f c stop l) ∙ append-nil inv.done)
