-- Filters: each is applied in turn to the value so far.
use Rattle.std.specs.Prelude.{ℕ, cond, List, [], ◌∷◌, length, Some, None, Ok, Err, Option, Result, nat_le}
use Rattle.banks.specs.declared.causes.Cause.{Cause}
use Rattle.banks.specs.Causes.{number_of}
use Rattle.banks.specs.Meaning.{Given, a_number, a_text, Meaning}
use Rattle.banks.specs.Operands.{Datum}
use Rattle.banks.specs.Operands as operand
use Rattle.tree.specs.Expressions.{Expr, Filter, Chain}
use Rattle.meaning.specs.Things.{Held, nil, boolean, whole, text, array, object, pair}
use Rattle.meaning.specs.Frames.{Frames}
use Rattle.meaning.specs.Acts.{Act, ◌and_then◌, pure, faults_for}
use Rattle.meaning.specs.Looking.{World, eval}

-- a value as an operand: no array, object or pair, and no text of over 256 bytes
abbrev pub fit : Held → Option Datum
fit nil = Some operand.nil
fit (boolean b) = Some (operand.boolean b)
fit (whole z) = Some (operand.whole z)
fit (text t) = cond (nat_le (length t) 256) (Some (operand.text t)) None
fit (array i) = None
fit (object i) = None
fit (pair i) = None

-- an argument that may be missing; one that is unfit is None
abbrev pub fit_argument : Option Held → Option (Option Datum)
fit_argument None = Some None
fit_argument (Some v) = elim (fit v) [ None ↦ None | Some d ↦ Some (Some d) ]

abbrev pub answered : Result Given Cause → ℕ → Frames → Act Held
answered (Ok (a_number z)) p e = pure (whole z)
answered (Ok (a_text t)) p e = pure (text t)
answered (Err c) p e = faults_for (number_of c) p e

-- an unfit operand is cause 2, and the bank is not called
abbrev pub called : Meaning → List ℕ → Option Datum → Option (Option Datum) → ℕ → Frames → Act Held
called m f None a p e = faults_for 2 p e
called m f (Some d) None p e = faults_for 2 p e
called m f (Some d) (Some a) p e = answered (m.gives f d a) p e

module _ (w : World) where
  abbrev pub argument_of : Option Expr → ℕ → Frames → Act (Option Held)
  argument_of None p e = pure None
  argument_of (Some x) p e = eval w x p e and_then λ v. pure (Some v)

  -- the argument is evaluated before either operand is found unfit
  abbrev pub through : List Filter → Held → ℕ → Frames → Act Held
  through [] v p e = pure v
  through (f ∷ fs) v p e =
      argument_of f.argument p e and_then λ a.
      called w.bank f.filter (fit v) (fit_argument a) p e and_then λ u.
      through fs u p e

  unfoldable pub chained : Chain → ℕ → Frames → Act Held
  chained c p e = eval w c.value p e and_then λ v. through c.filters v p e
