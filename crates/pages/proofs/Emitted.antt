-- What is put behind the text is what the definition's act writes.
use Rattle.std.proofs.Common.{◌≡◌, ℕ, ◌+◌, ◌<◌, ◌≤◌, Bool, cond, List, ◌++◌, length, take, drop, None, Ok, Err, sym, refl, ap, ◌∙◌, subst, arith}
use Rattle.std.specs.Prelude.{Result}
use Rattle.std.proofs.lemmas.Bool.{le-leb, lt-leb}
use Rattle.std.proofs.lemmas.List.{append_assoc, append-nil, length-append, length-take-le, length-drop, take_at}
use Rattle.held.specs.declared.faults.Fault.{Fault}
use Rattle.held.specs.declared.faults.Fault.TheVariants.{NoRoom}
use Rattle.held.specs.Faults.{ended}
use Rattle.values.specs.Value.{Value, written}
use Rattle.values.specs.RowsOf.{paired}
use Rattle.texts.specs.Written.{LaidAt}
use Rattle.texts.proofs.Fills.{lay_more, lay_as}
use Rattle.meaning.specs.Things.{Drawers}
use Rattle.meaning.specs.Frames.{Frames}
use Rattle.meaning.specs.Acts.{End, gives, stops, step, still, emit, fault_at}
use Rattle.pages.specs.Pieces.{Stands, Refused, Puts, Emits}

abbrev chosen : ℕ → Frames → List ℕ → List ℕ → Bool → List ℕ × End (Unit {0})
chosen p e w o b = cond b (o ++ w, gives tt) (o, stops (fault_at 33 None p e))

emit_fits : (limit p : ℕ) (e : Frames) (w : List ℕ) (d : Drawers) (o : List ℕ) → length o + length w ≤ limit → emit limit p e w d o ≡ step d (o ++ w) (gives tt)
unfolding emit still
emit_fits limit p e w d o h = ap (λ b. step d (chosen p e w o b).0 (chosen p e w o b).1) (le-leb _ _ h)

emit_full : (limit p : ℕ) (e : Frames) (w : List ℕ) (d : Drawers) (o : List ℕ) → limit < length o + length w → emit limit p e w d o ≡ step d o (stops (fault_at 33 None p e))
unfolding emit still
emit_full limit p e w d o h = ap (λ b. step d (chosen p e w o b).0 (chosen p e w o b).1) (lt-leb _ _ h)

module _ {w : List ℕ} {filled : ℕ} {old new : List ℕ} where
  stands_long : {end : ℕ} → Stands w filled old new end → length new ≡ length old
  stands_long {end} s =
      let a = ap length s.laid.holds ∙ length-append (take filled old) (w ++ drop end old) in
      omega (arith, a, length-append w (drop end old), length-take-le filled old (omega (arith, s.room)), length-drop end old, s.room, s.laid.long)

  stands_front : {end : ℕ} → Stands w filled old new end → take end new ≡ take filled old ++ w
  stands_front {end} s =
      let whole : new ≡ (take filled old ++ w) ++ drop end old = s.laid.holds ∙ sym (append_assoc (take filled old) w (drop end old)) in
      let long : length (take filled old ++ w) ≡ end =
      length-append (take filled old) w ∙ omega (arith, length-take-le filled old (omega (arith, s.room)), s.laid.long) in
      ap (take end) whole ∙ take_at (take filled old ++ w) (drop end old) end long

  pub emits : (r : Result ℕ Fault) → Puts w filled old new r → Emits w filled old new r
  emits (Ok end) s =
      record {
        wrote = λ l. record {
          long = stands_long s;
          within = omega (arith, stands_long s, s.room, s.laid.long);
          did = λ p e d. emit_fits (length old) p e w d (take filled old) (omega (arith, length-take-le filled old l, s.room)) ∙ ap (λ o. step d o (gives tt)) (sym (stands_front s));
        };
        puts = s;
        past = λ l. absurd (omega (arith, s.room));
      }
  emits (Err k) s =
      record {
        wrote = λ l. record {
          long = ap length s.same;
          within = omega (arith, ap length s.same);
          did = λ p e d. emit_full (length old) p e w d (take filled old) (omega (arith, length-take-le filled old l, s.short))
              ∙ ap (λ o. step d (take filled o) (stops (fault_at 33 None p e))) (sym s.same)
              ∙ ap (λ f. step d (take filled new) (ended {A = ℕ} (λ _. tt) (Err f) p e)) (sym s.why);
        };
        puts = s;
        past = λ _. s.same;
      }

-- one piece behind another
pub two_laid : {from : ℕ} {a old mid : List ℕ} {end : ℕ} → LaidAt from a old mid end → {b new : List ℕ} {last : ℕ} → LaidAt end b mid new last → from + (length a + length b) ≤ length old → Stands (a ++ b) from old new last
two_laid {from} {a} {old} x {b} y l = record { room = omega (arith, length-append a b, l); laid = lay_more x (omega (arith, l)) y }

pub three_laid : {from : ℕ} {a old mid : List ℕ} {end : ℕ} → LaidAt from a old mid end → {b more : List ℕ} {next : ℕ} → LaidAt end b mid more next → {w new : List ℕ} {last : ℕ} → LaidAt next w more new last →
    from + (length a + (length b + length w)) ≤ length old → Stands (a ++ (b ++ w)) from old new last
three_laid {from} {a} {old} x {b} y {w} z l =
    record {
      room = omega (arith, length-append a (b ++ w), length-append b w, l);
      laid = lay_as (lay_more (lay_more x (omega (arith, l)) y) (omega (arith, l)) z) (a ++ (b ++ w)) (sym (append_assoc a b w));
    }

-- a piece has no room behind the text, where the text ends past the buffer, or less is left
pub refuses : {w : List ℕ} {filled : ℕ} {old : List ℕ} → length old < filled + length w → Refused w filled old old NoRoom
refuses l = record { why = refl; short = l; same = refl }

-- the text of a pair
paired_text : (a b : Value) → written (paired a b) ≡ written a ++ written b
paired_text a b = ap (λ t. written a ++ t) (append-nil (written b))

pub pair_laid : (a b behind : Value) → b ≡ behind → {from : ℕ} {old mid : List ℕ} {end : ℕ} → LaidAt from (written a) old mid end → {new : List ℕ} {last : ℕ} → LaidAt end (written b) mid new last →
    from + (length (written a) + length (written b)) ≤ length old → Stands (written (paired a behind)) from old new last
pair_laid a b behind e {from} {old} x {new} {last} y l =
    subst (λ t. Stands t from old new last) (ap (λ v. written a ++ written v) e ∙ sym (paired_text a behind)) (two_laid x y l)

pub pair_long : (a b behind : Value) → b ≡ behind → length (written (paired a behind)) ≡ length (written a) + length (written b)
pair_long a b behind e = ap length (paired_text a behind) ∙ length-append (written a) (written behind) ∙ ap (λ v. length (written a) + length (written v)) (sym e)
