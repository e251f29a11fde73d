use Rattle.std.proofs.Common.{◌≡◌, ℕ, zero, suc, ◌-◌, ◌<◌, ◌≤◌, true, false, eqb, List, [], ◌∷◌, length, get_or, take, drop, Some, sym, ap, ◌∙◌, arith, rules}
use Rattle.std.proofs.lemmas.List.{take_rest}
use Rattle.tray.specs.declared.records.Record.TheVariants.{Nil, Boolean}
use Rattle.tray.specs.Decode.{Got, got, one}
use Rattle.tray.specs.Format.{a_nil, a_false, a_true}
use Rattle.tray.proofs.Formats.{front_one}
use Rattle.tray.proofs.decode.read_one.Goals as goal

nil_one : (room : ℕ) (bs : List ℕ) → 0 < length bs → get_or bs 0 0 ≡ 0 → ◌≡◌ {A = Got} (Some (Nil, take (length bs - 1) (drop 1 bs))) (one room bs)
nil_one room [] l k = absurd (omega arith)
nil_one room (b ∷ bs) l k = ap (got Nil) (take_rest (b ∷ bs) 1) ∙ sym (ap (λ x. one room (x ∷ bs)) k ∙ front_one room a_nil bs)

boolean_one : (room : ℕ) (bs : List ℕ) → 1 < length bs → get_or bs 0 0 ≡ 1 → get_or bs 1 0 ≤ 1 → ◌≡◌ {A = Got} (Some (Boolean (eqb (get_or bs 1 0) 1), take (length bs - 2) (drop 2 bs))) (one room bs)
boolean_one room [] l k h = absurd (omega arith)
boolean_one room (b ∷ []) l k h = absurd (omega arith)
boolean_one room (b ∷ zero ∷ bs) l k h = ap (got (Boolean false)) (take_rest (b ∷ 0 ∷ bs) 2) ∙ sym (ap (λ x. one room (x ∷ 0 ∷ bs)) k ∙ front_one room a_false bs)
boolean_one room (b ∷ suc zero ∷ bs) l k h = ap (got (Boolean true)) (take_rest (b ∷ 1 ∷ bs) 2) ∙ sym (ap (λ x. one room (x ∷ 1 ∷ bs)) k ∙ front_one room a_true bs)
boolean_one room (b ∷ suc (suc d) ∷ bs) l k h = absurd (omega arith)

pub returns-in-1 : goal.returns-in-1
returns-in-1 c = boolean_one c.args.room c.args.bytes.now (search rules) (search rules) (search rules)

pub returns-in-0 : goal.returns-in-0
returns-in-0 c = nil_one c.args.room c.args.bytes.now (search rules) (search rules)
