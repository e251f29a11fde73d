-- What calls that judge answer, as the definition's acts: they change neither drawers nor text.
use Rattle.std.specs.Prelude.{◌≡◌, ℕ, ◌+◌, ◌<◌, ◌≤◌, Bool, List, Some, None, Ok, Err, Option, Result, nat_le}
use Rattle.std.specs.List.{slice_get}
use Rattle.nodes.specs.declared.exprs.Comparison.{Comparison}
use Rattle.nodes.specs.declared.exprs.Expr.{Expr}
use Rattle.nodes.specs.declared.exprs.Span.{Span}
use Rattle.nodes.specs.declared.table.Arm.{Arm}
use Rattle.nodes.specs.declared.table.Guard as table
use Rattle.nodes.specs.declared.table.Guard.TheVariants as guard
use Rattle.nodes.specs.declared.table.Next.TheVariants as next
use Rattle.nodes.specs.declared.table.Node.{Node}
use Rattle.nodes.specs.declared.table.Node.TheVariants as node
use Rattle.nodes.specs.Exprs.{Pool, only, expr_of, values_of, comparison_of}
use Rattle.nodes.specs.Trees.{test_of, condition_of, guard_of, arm_of, elements_of, arms_of}
use Rattle.held.specs.declared.faults.Fault.{Fault}
use Rattle.held.specs.declared.scenes.Scene.{Scene}
use Rattle.held.specs.Faults.{number_of, cause_of, ended}
use Rattle.held.specs.Records.{held_in}
use Rattle.held.specs.Scenes.{pool_of, Fits}
use Rattle.frames.specs.declared.stack.Frames as code
use Rattle.evaluation.specs.Values.{around}
use Rattle.tree.specs.Expressions as tree
use Rattle.tree.specs.Conditions.{Test, compares, Condition}
use Rattle.tree.specs.Elements.{Block, Guard, holds, fails, equals_one, has_items, always, Tree, Arms}
use Rattle.meaning.specs.Things.{Drawers, Held}
use Rattle.meaning.specs.Frames.{Frames}
use Rattle.meaning.specs.Acts.{Act, step, gives, stops, fault_at}
use Rattle.meaning.specs.Looking.{World}
use Rattle.meaning.specs.Tests.{tested, judged}
use Rattle.meaning.specs.Leaves.{Flow, onward}
use Rattle.meaning.specs.Openings.{Opening}
use Rattle.meaning.specs.Blocks.{one_equal, passes, items, target_of, is_filled, manner, visited, visits, visit, around as closing}
use Rattle.meaning.specs.Rendering.{render, taken}
use Rattle.renderer.specs.declared.guards.Seen.{Seen}
use Rattle.renderer.specs.declared.guards.First.{First}
use Rattle.renderer.specs.declared.guards.First.TheVariants as first
use Rattle.renderer.specs.declared.guards.Chosen.{Chosen}
use Rattle.renderer.specs.Running.{Spells, SpellsArms}

-- the opening is seen so
pub record Sees (s : Seen) (o : Opening) : Type 0 where
  pub target : held_in s.target ≡ target_of o
  pub filled : s.filled ≡ is_filled (items o)

module _ (s : Scene) (fs : code.Frames) (d : Drawers) where
  -- in every world of the scene, at every place, the act answers so
  abbrev pub Answered : (World → ℕ → Frames → Act Bool) → Result Bool Fault → Type 0
  Answered act r = (w : World) (p : ℕ) (o : List ℕ) → Fits w s → act w p (around s fs d) d o ≡ step d o (ended (λ y. y) r p (around s fs d))

  abbrev pub Compared : Expr → Comparison → Expr → Result Bool Fault → Type 0
  Compared x c y r = (t u : tree.Expr) → expr_of (pool_of s) x ≡ Some t → expr_of (pool_of s) y ≡ Some u → Answered (λ w. tested w (compares t (comparison_of c) u)) r

  abbrev pub Tested : Node → Result Bool Fault → Type 0
  Tested n r = (t : Test) → test_of (pool_of s) n ≡ Some t → Answered (λ w. tested w t) r

  abbrev pub Judged : ℕ → ℕ → Result Bool Fault → Type 0
  Judged i e r = (k : ℕ) (c : Condition) → condition_of (pool_of s) s.book.nodes.now k i e ≡ Some c → Answered (λ w. judged w c) r

  abbrev pub OneEqual : Span → Held → Result Bool Fault → Type 0
  OneEqual l v r = (xs : List tree.Expr) → values_of (pool_of s) l ≡ Some xs → Answered (λ w. one_equal w xs v) r

  abbrev pub Passed : Arm → ℕ → Seen → Result Bool Fault → Type 0
  Passed a i v r = (g : Guard) (o : Opening) → guard_of (pool_of s) s.book.nodes.now i a a.guard ≡ Some g → Sees v o → Answered (λ w. passes w g o) r

-- the arms begin with this arm, whose node stands at a number
abbrev pub IsFirst : List Node → First → ℕ → Arm → Type 0
IsFirst ns (first.Arm i a) j b = (i ≡ j) × (a ≡ b)
IsFirst ns (first.Behind next.Nothing i) j b = ⊥
IsFirst ns (first.Behind next.Arm i) j b = (i ≡ j) × (slice_get ns i ≡ Some (node.Arm b))
IsFirst ns (first.Behind next.Else i) j b = ⊥

-- and its elements stand behind the node, in a block that ends there
pub record Comes (ns : List Node) (end : ℕ) (f : First) (i : ℕ) (a : Arm) : Type 0 where
  pub is : IsFirst ns f i a
  pub behind : i < a.body
  pub order : a.body ≤ a.next
  pub before : a.next ≤ end

-- the elements of an `else`
abbrev pub else_at : ℕ → ℕ → Option Chosen
else_at i end = only (nat_le i end) (record { guard = guard.Always; body = i; end = end })

abbrev pub otherwise_in : ℕ → First → Option Chosen
otherwise_in end (first.Arm i a) = None
otherwise_in end (first.Behind next.Nothing i) = None
otherwise_in end (first.Behind next.Arm i) = None
otherwise_in end (first.Behind next.Else i) = else_at i end

-- the number behind which the elements of all arms stand
abbrev pub from : First → ℕ
from (first.Arm i a) = i + 1
from (first.Behind n i) = i

-- the arm whose node is at i, in a block that ends at e, is the first of these
pub record SpellsArm (b : Pool) (ns : List Node) (a : Arm) (room i e : ℕ) (r : Arms) : Type 0 where
  pub steps : ℕ
  pub is : arm_of b ns (λ q x z. elements_of b ns steps q x z) (λ n q x z. arms_of b ns steps n q x z) room i e a ≡ Some r

-- the arms of a block that ends at e
abbrev pub Stands : Pool → List Node → ℕ → ℕ → First → Arms → Type 0
Stands b ns room e (first.Arm i a) r = SpellsArm b ns a room i e r
Stands b ns room e (first.Behind n i) r = SpellsArms b ns n room i e r

-- what a guard of the table is
abbrev pub IsGuard : table.Guard → Guard → Type 0
IsGuard guard.Holds g = (c : Condition) × (g ≡ holds c)
IsGuard guard.Fails g = (c : Condition) × (g ≡ fails c)
IsGuard (guard.Equals s) g = (xs : List tree.Expr) × (g ≡ equals_one xs)
IsGuard guard.HasItems g = g ≡ has_items
IsGuard guard.Always g = g ≡ always

-- the visits of an arm that is taken
abbrev pub visiting : World → Block → ℕ → Opening → Guard → Tree → Frames → Act Flow
visiting w b p o g t e = closing (manner b o g) p e (visits (manner b o g) (visit w (manner b o g) p e (λ x. render w t x)) (visited (manner b o g) o) 1)

module _ (s : Scene) (fs : code.Frames) (d : Drawers) (room : ℕ) (v : Seen) (r : Arms) where
  -- in every world of the scene, for every block, place and opening that is seen so, the arms come to this
  abbrev pub ComesTo : (World → Block → ℕ → Opening → Frames → Act Flow) → Type 0
  ComesTo act = (w : World) (b : Block) (p : ℕ) (o : Opening) (t : List ℕ) → Fits w s → Sees v o → taken w b p o r (around s fs d) d t ≡ act w b p o (around s fs d) d t

  -- an arm that is taken
  pub record Takes (c : Chosen) : Type 0 where
    pub guard : Guard
    pub body : Tree
    pub kind : IsGuard c.guard guard
    pub spells : Spells (pool_of s) s.book.nodes.now room c.body c.end body
    pub visits : ComesTo (λ w b p o e. visiting w b p o guard body e)

  abbrev pub Taken : Result (Option Chosen) Fault → Type 0
  Taken (Err k) = ComesTo (λ w b p o e d t. step d t (stops (fault_at (number_of k) (cause_of k) p e)))
  Taken (Ok None) = ComesTo (λ w b p o e d t. step d t (gives onward))
  Taken (Ok (Some c)) = Takes c
