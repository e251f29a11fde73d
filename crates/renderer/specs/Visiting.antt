-- How the arms of blocks are visited.
use Rattle.std.specs.Prelude.{◌≡◌, ℕ, List, [], ◌∷◌, length, ℤ, pos}
use Rattle.frames.specs.declared.item.Item.{Item}
use Rattle.frames.specs.declared.item.Item.TheVariants.{Nil}
use Rattle.frames.specs.declared.frame.Manner.{Manner}
use Rattle.frames.specs.declared.frame.Manner.TheVariants.{Once, Each, Cells, Keeping, Watching}
use Rattle.nodes.specs.declared.table.Block.{Block}
use Rattle.nodes.specs.declared.table.Block.TheVariants.{If, For, Tablerow, Capture, Ifchanged}
use Rattle.nodes.specs.declared.table.Guard.{Guard}
use Rattle.nodes.specs.declared.table.Guard.TheVariants.{Holds, Fails, Equals, HasItems, Always}
use Rattle.renderer.specs.declared.openings.Opened.{Opened}
use Rattle.renderer.specs.declared.openings.Opened.TheVariants as found
use Rattle.renderer.specs.declared.machine.opening.Visits.{Visits}
use Rattle.renderer.specs.Openings.{items_of}

-- the items of a loop that was opened
abbrev pub shown_items : Opened → List Item
shown_items found.Bare = []
shown_items (found.Target v) = []
shown_items (found.Loop w n) = items_of w
shown_items (found.Table w n k) = items_of w

abbrev pub shown_cols : Opened → ℤ
shown_cols found.Bare = pos 0
shown_cols (found.Target v) = pos 0
shown_cols (found.Loop w n) = pos 0
shown_cols (found.Table w n k) = k

-- the arm is visited in this manner, to these items
pub record Visited (m : Manner) (xs : List Item) (v : Visits) : Type 0 where
  pub manner : v.manner ≡ m
  pub items : items_of v.row ≡ xs
  pub times : v.times ≡ length xs

-- the arm of a `for`, with so many items
abbrev pub for_manner : ℕ → ℕ → Guard → Manner
for_manner v n Holds = Once
for_manner v n Fails = Once
for_manner v n (Equals s) = Once
for_manner v n HasItems = Each v n
for_manner v n Always = Once

-- the manner of an arm, where a loop has so many items, and columns
abbrev pub manner_in : Block → ℕ → ℤ → Guard → Manner
manner_in If n k g = Once
manner_in (For v r limit offset reversed) n k g = for_manner v n g
manner_in (Tablerow v r cols limit offset) n k g = Cells v n k
manner_in (Capture t) n k g = Keeping t
manner_in Ifchanged n k g = Watching

abbrev pub visited_items : Manner → List Item → List Item
visited_items Once xs = Nil ∷ []
visited_items (Each v n) xs = xs
visited_items (Cells v n k) xs = xs
visited_items (Keeping t) xs = Nil ∷ []
visited_items Watching xs = Nil ∷ []

abbrev pub VisitsOf : Block → Opened → Guard → Visits → Type 0
VisitsOf b x g v = Visited (manner_in b (length (shown_items x)) (shown_cols x) g) (visited_items (manner_in b (length (shown_items x)) (shown_cols x) g) (shown_items x)) v
