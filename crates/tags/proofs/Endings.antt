-- What follows a call.
use Rattle.std.proofs.Common.{◌≡◌, Ok, Err, Result, refl, sym, ap, subst}
use Rattle.arguments.specs.declared.refusals.Stop.{Stop}
use Rattle.arguments.specs.declared.refusals.Stop.TheVariants.{Refused, Memory}
use Rattle.arguments.specs.Judging.{State, Verdict, went, pure}
use Rattle.arguments.specs.Tables.{Refuses, Said}

-- a call that is the last, and what is made of what it read
pub said_last : {A B C : Type 0} (r : Result A Stop) (v : Verdict B) (f : B → C) (D : A → B → Type 0) (E : A → C → Type 0) (s : State) →
    ((x : A) (y : B) → r ≡ Ok x → D x y → E x (f y)) → Said r v D s → Said r (went v (λ y. pure (f y))) E s
said_last (Ok x) v f D E s k h = (f h.0, k x h.0 refl h.1, ap (λ w. went w (λ y. pure (f y))) h.2)
said_last (Err (Refused n p)) v f D E s k h = ap (λ w. went w (λ y. pure (f y))) h
said_last (Err Memory) v f D E s k h = tt

-- a refusal that is handed on
pub said_err : {A B : Type 0} (r : Result A Stop) (e : Stop) (v : Verdict B) (D : A → B → Type 0) (s : State) → r ≡ Err e → Refuses e v → Said r v D s
said_err r e v D s q h = subst (λ x. Said x v D s) (sym q) h
