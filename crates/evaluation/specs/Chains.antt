-- What chains come to, as the definition's acts: they change neither drawers nor text.
use Rattle.std.specs.Prelude.{◌≡◌, ℕ, List, take, Some, Option, Result}
use Rattle.std.specs.Option.{option_map}
use Rattle.std.specs.Borrow.{Bor}
use Rattle.banks.specs.declared.answers.Answer.{Answer}
use Rattle.banks.specs.declared.answers.Answer.TheVariants.{Whole, Text}
use Rattle.banks.specs.Meaning.{Meaning}
use Rattle.nodes.specs.declared.exprs.Expr.{Expr}
use Rattle.nodes.specs.declared.exprs.Filter.{Filter}
use Rattle.nodes.specs.declared.exprs.Chain.{Chain}
use Rattle.nodes.specs.Exprs.{if_any, expr_of, filter_of, chain_of}
use Rattle.held.specs.declared.faults.Fault.{Fault}
use Rattle.held.specs.declared.scenes.Scene.{Scene}
use Rattle.held.specs.declared.value.Value.{Value}
use Rattle.held.specs.Faults.{ended}
use Rattle.held.specs.Records.{held_in}
use Rattle.held.specs.Scenes.{pool_of, Fits}
use Rattle.frames.specs.declared.stack.Frames as code
use Rattle.tree.specs.Expressions as tree
use Rattle.meaning.specs.Things.{Drawers, Held, whole, text}
use Rattle.meaning.specs.Frames.{Frames}
use Rattle.meaning.specs.Acts.{step, ◌and_then◌}
use Rattle.meaning.specs.Looking.{World}
use Rattle.meaning.specs.Chains.{fit, fit_argument, argument_of, called, chained}
use Rattle.evaluation.specs.Values.{around}
use Rattle.evaluation.specs.declared.chains.Chained.{Chained}
use Rattle.evaluation.specs.declared.chains.Chained.TheVariants.{Same, Given}

-- what a filter gave, with the answer buffer
abbrev pub given_in : List ℕ → Answer → Held
given_in answer (Whole z) = whole z
given_in answer (Text n) = text (take n answer)

-- what a chain came to, with the answer buffer
abbrev pub chained_in : List ℕ → Chained → Held
chained_in answer (Same v) = held_in v
chained_in answer (Given g) = given_in answer g

-- what the filter of a name gives, at each place and from all drawers
abbrev pub Called : Meaning → List ℕ → Held → Option Held → List ℕ → Result Answer Fault → Type 0
Called m name v a answer r =
    (p : ℕ) (e : Frames) (d : Drawers) (o : List ℕ) → called m name (fit v) (fit_argument a) p e d o ≡ step d o (ended (given_in answer) r p e)

module _ (s : Scene) (fs : code.Frames) (d : Drawers) where
  abbrev pub Argued : Option Expr → Result (Option (Value (Bor (List ℕ)))) Fault → Type 0
  Argued x r = (w : World) (t : Option tree.Expr) (p : ℕ) (o : List ℕ) → Fits w s → if_any (expr_of (pool_of s)) x ≡ Some t → argument_of w t p (around s fs d) d o ≡ step d o (ended (option_map held_in) r p (around s fs d))

  -- what a filter of a bank gives for a value
  abbrev pub Applied : Meaning → Filter → Held → List ℕ → Result Answer Fault → Type 0
  Applied m f v answer r =
      (w : World) (t : tree.Filter) (p : ℕ) (o : List ℕ) → Fits w s → w.bank ≡ m → filter_of (pool_of s) f ≡ Some t →
      (argument_of w t.argument p (around s fs d) and_then λ a. called w.bank t.filter (fit v) (fit_argument a) p (around s fs d)) d o ≡ step d o (ended (given_in answer) r p (around s fs d))

  -- what a chain comes to behind the filters of a bank
  abbrev pub CameThrough : Meaning → Chain → List ℕ → Result Chained Fault → Type 0
  CameThrough m c answer r =
      (w : World) (t : tree.Chain) (p : ℕ) (o : List ℕ) → Fits w s → w.bank ≡ m → chain_of (pool_of s) c ≡ Some t →
      chained w t p (around s fs d) d o ≡ step d o (ended (chained_in answer) r p (around s fs d))
