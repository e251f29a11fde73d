-- What calls that open blocks answer, as the definition's acts.
use Rattle.std.specs.Prelude.{◌≡◌, ℕ, Bool, List, map, length, ℤ, Some, Ok, Err, Option, Result}
use Rattle.rows.specs.Windows.{windowed}
use Rattle.rows.specs.declared.window.Window.{Window}
use Rattle.nodes.specs.declared.exprs.Expr.{Expr}
use Rattle.nodes.specs.declared.exprs.Row.{Row}
use Rattle.nodes.specs.declared.table.Block.{Block}
use Rattle.nodes.specs.Exprs.{expr_of, row_of, if_any}
use Rattle.nodes.specs.Trees.{block_of}
use Rattle.held.specs.declared.faults.Fault.{Fault}
use Rattle.held.specs.declared.scenes.Scene.{Scene}
use Rattle.held.specs.Faults.{ended}
use Rattle.held.specs.Records.{held_in}
use Rattle.held.specs.Scenes.{host_in, pool_of, Fits}
use Rattle.frames.specs.declared.item.Item.{Item}
use Rattle.frames.specs.declared.item.AnyRow.{AnyRow}
use Rattle.frames.specs.declared.stack.Frames as code
use Rattle.frames.specs.Items.{item_of, items_in}
use Rattle.frames.specs.Views.{around_in}
use Rattle.tree.specs.Expressions as tree
use Rattle.tree.specs.Elements as tree_block
use Rattle.renderer.specs.declared.openings.Opened.{Opened}
use Rattle.renderer.specs.declared.openings.Opened.TheVariants as found
use Rattle.meaning.specs.Hosts.{Host}
use Rattle.meaning.specs.Things.{Drawers, Held}
use Rattle.meaning.specs.Acts.{Act, step}
use Rattle.meaning.specs.Frames.{Frames}
use Rattle.meaning.specs.Looking.{World}
use Rattle.meaning.specs.Openings.{Opening, bare, target, window, table, gone_over, number_if, counted_row, laid_out, opened}

-- the values of a row
abbrev pub row_items : Host → AnyRow → List Held
row_items h r = map (item_of h) (items_in r)

-- the items of a window
abbrev pub items_of : Window AnyRow → List Item
items_of w = windowed w.offset w.limit w.reversed (items_in w.row)

abbrev pub opening_of : Host → Opened → Opening
opening_of h found.Bare = bare
opening_of h (found.Target v) = target (held_in v)
opening_of h (found.Loop w n) = window (map (item_of h) (items_of w))
opening_of h (found.Table w n k) = table (map (item_of h) (items_of w)) k

-- the count is that of the window's items
abbrev pub Counted : Opened → Type 0
Counted found.Bare = Unit {0}
Counted (found.Target v) = Unit {0}
Counted (found.Loop w n) = n ≡ length (items_of w)
Counted (found.Table w n k) = n ≡ length (items_of w)

abbrev pub CountedIf : Result Opened Fault → Type 0
CountedIf (Ok x) = Counted x
CountedIf (Err k) = Unit {0}

-- an act that leaves drawers and text alone, and its answer
abbrev pub Answers : {A B : Type 0} → (ℕ → Act B) → (A → B) → Frames → Drawers → Result A Fault → Type 0
Answers m f e d r = (p : ℕ) (o : List ℕ) → m p d o ≡ step d o (ended f r p e)

abbrev pub RangeMade : ℤ → ℤ → Result AnyRow Fault → Type 0
RangeMade a b r = (h : Host) (e : Frames) (d : Drawers) → Answers (λ p. counted_row a b p e) (row_items h) e d r

-- a table over a window, whose count of items is `n`
abbrev pub LaidOut : Window AnyRow → ℕ → Option ℤ → Result Opened Fault → Type 0
LaidOut w n k r =
    n ≡ length (items_of w) → CountedIf r × ((h : Host) (e : Frames) (d : Drawers) → Answers (λ p. laid_out (map (item_of h) (items_of w)) k p e) (opening_of h) e d r)

module _ (s : Scene) (fs : code.Frames) (d : Drawers) where
  abbrev pub around : Frames
  around = around_in (host_in s) fs

  abbrev pub RowFound : Row → Result AnyRow Fault → Type 0
  RowFound x r = (w : World) (t : tree.Row) → Fits w s → row_of (pool_of s) x ≡ Some t → Answers (λ p. gone_over w t p around) (row_items (host_in s)) around d r

  abbrev pub NumberIfFound : Option Expr → Result (Option ℤ) Fault → Type 0
  NumberIfFound x r = (w : World) (t : Option tree.Expr) → Fits w s → if_any (expr_of (pool_of s)) x ≡ Some t → Answers (λ p. number_if w t p around) (λ z. z) around d r

  abbrev pub Opens : tree_block.Block → World → Result Opened Fault → Type 0
  Opens t w r = CountedIf r × Answers (λ p. opened w t p around) (opening_of (host_in s)) around d r

  abbrev pub ForOpened : Row → Option Expr → Option Expr → Bool → Result Opened Fault → Type 0
  ForOpened x limit offset reversed r =
      (w : World) (t : tree.Row) (l o : Option tree.Expr) (v : ℕ) → Fits w s → row_of (pool_of s) x ≡ Some t → if_any (expr_of (pool_of s)) limit ≡ Some l → if_any (expr_of (pool_of s)) offset ≡ Some o →
      Opens (tree_block.for_block v t l o reversed) w r

  abbrev pub TableOpened : Row → Option Expr → Option Expr → Option Expr → Result Opened Fault → Type 0
  TableOpened x cols limit offset r =
      (w : World) (t : tree.Row) (k l o : Option tree.Expr) (v : ℕ) → Fits w s → row_of (pool_of s) x ≡ Some t → if_any (expr_of (pool_of s)) cols ≡ Some k → if_any (expr_of (pool_of s)) limit ≡ Some l → if_any (expr_of (pool_of s)) offset ≡ Some o →
      Opens (tree_block.tablerow_block v t k l o) w r

  abbrev pub BlockOpened : Block → Result Opened Fault → Type 0
  BlockOpened x r = (w : World) (t : tree_block.Block) → Fits w s → block_of (pool_of s) x ≡ Some t → Opens t w r

  abbrev pub CaseOpened : Expr → Result Opened Fault → Type 0
  CaseOpened x r = (w : World) (t : tree.Expr) → Fits w s → expr_of (pool_of s) x ≡ Some t → Opens (tree_block.case_block t) w r
