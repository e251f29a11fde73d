-- What calls that evaluate answer, as the definition's acts: they change neither drawers nor text.
use Rattle.std.specs.Prelude.{◌≡◌, ℕ, List, ℤ, Some, None, Ok, Err, Option, Result}
use Rattle.std.specs.Option.{option_map}
use Rattle.std.specs.Borrow.{Bor}
use Rattle.nodes.specs.declared.exprs.Head.{Head}
use Rattle.nodes.specs.declared.exprs.Expr.{Expr}
use Rattle.nodes.specs.Exprs.{head_of, expr_of}
use Rattle.held.specs.declared.faults.Fault.{Fault}
use Rattle.held.specs.declared.scenes.Scene.{Scene}
use Rattle.held.specs.declared.value.Value.{Value}
use Rattle.held.specs.Faults.{ended}
use Rattle.held.specs.Records.{held_in}
use Rattle.held.specs.Scenes.{host_in, pool_of, Fits}
use Rattle.frames.specs.declared.stack.Frames as code
use Rattle.frames.specs.declared.met.Met.{Met}
use Rattle.frames.specs.declared.met.Met.TheVariants as met
use Rattle.held.specs.declared.faults.Fault.TheVariants.{Absent, LoopObject}
use Rattle.frames.specs.Views.{around_in, met_of}
use Rattle.tree.specs.Expressions as tree
use Rattle.meaning.specs.Things.{Drawers}
use Rattle.meaning.specs.Frames.{Frames}
use Rattle.meaning.specs.Acts.{gives, step}
use Rattle.meaning.specs.Looking.{World, find, reach, eval}
use Rattle.meaning.specs.Openings.{number}

-- the value that was met; nothing and a loop object are faults
abbrev pub needed : Option Met → Result (Value (Bor (List ℕ))) Fault
needed None = Err Absent
needed (Some (met.Value v)) = Ok v
needed (Some (met.Loop l)) = Err LoopObject

module _ (s : Scene) (fs : code.Frames) (d : Drawers) where
  -- the frames around
  abbrev pub around : Frames
  around = around_in (host_in s) fs

  -- in every world of the scene, what stands for the head gives what was met
  abbrev pub Found : Head → Option Met → Type 0
  Found h r = (w : World) (t : tree.Head) (o : List ℕ) → Fits w s → head_of (pool_of s) h ≡ Some t → find w around t d o ≡ step d o (gives (option_map (met_of around) r))

  abbrev pub Reached : Expr → Option Met → Type 0
  Reached x r = (w : World) (t : tree.Expr) (o : List ℕ) → Fits w s → expr_of (pool_of s) x ≡ Some t → reach w t around d o ≡ step d o (gives (option_map (met_of around) r))

  abbrev pub Evaluated : Expr → Result (Value (Bor (List ℕ))) Fault → Type 0
  Evaluated x r = (w : World) (t : tree.Expr) (p : ℕ) (o : List ℕ) → Fits w s → expr_of (pool_of s) x ≡ Some t → eval w t p around d o ≡ step d o (ended held_in r p around)

  abbrev pub NumberFound : Expr → Result ℤ Fault → Type 0
  NumberFound x r = (w : World) (t : tree.Expr) (p : ℕ) (o : List ℕ) → Fits w s → expr_of (pool_of s) x ≡ Some t → number w t p around d o ≡ step d o (ended (λ z. z) r p around)
