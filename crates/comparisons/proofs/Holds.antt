-- How acts end that change nothing.
use Rattle.std.proofs.Common.{◌≡◌, ℕ, Bool, true, false, cond, List, [], length, Ok, Err, Result, refl, ap, sym, subst}
use Rattle.std.specs.Prelude.{nat_le}
use Rattle.held.specs.declared.faults.Fault.{Fault}
use Rattle.held.specs.declared.faults.Fault.TheVariants.{TooLong, InNil}
use Rattle.banks.specs.declared.causes.Cause.TheVariants.{UnknownName}
use Rattle.meaning.specs.Hosts.{Host}
use Rattle.meaning.specs.Looking.{World}
use Rattle.meaning.specs.Acts.{step, gives, still, pure, faults}
use Rattle.meaning.specs.Tests.{stands_in}
use Rattle.comparisons.specs.Ends.{Ends, sought_in}

-- a world with that host; nothing else of it matters
abbrev pub around : Host → World
around h = record { names = []; host = h; bank = record { known = λ _. false; gives = λ _ _ _. Err UnknownName }; limit = 0 }

pub gives_ends : (x y : Bool) → y ≡ x → Ends (λ p e. pure x) (Ok y)
unfolding still
gives_ends x y h p e d o = ap (λ z. step d o (gives z)) (sym h)

pub nil_ends : Ends {A = Bool} (λ p e. faults 29 p e) (Err InNil)
unfolding still
nil_ends p e d o = refl

limit_ends : (b y : Bool) → Ends (λ p e. cond b (pure y) (faults 31 p e)) (cond b (Ok y) (Err TooLong))
unfolding still
limit_ends true y p e d o = refl
limit_ends false y p e d o = refl

-- the text s is sought in x
pub sought_ends : (s x : List ℕ) (r : Result Bool Fault) → r ≡ sought_in s x → Ends (λ p e. cond (nat_le (length s) 256) (pure (stands_in s x)) (faults 31 p e)) r
sought_ends s x r h = subst (λ q. Ends (λ p e. cond (nat_le (length s) 256) (pure (stands_in s x)) (faults 31 p e)) q) (sym h) (limit_ends (nat_le (length s) 256) (stands_in s x))
