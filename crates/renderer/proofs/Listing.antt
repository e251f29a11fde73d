-- The elements of a list, and the blocks among them.
use Rattle.std.proofs.Common.{◌≡◌, ℕ, ◌+◌, ◌-◌, ◌<◌, ◌≤◌, Bool, true, false, ltb, List, length, take, Some, None, Option, Ok, Err, sym, refl, ap, ap₂, ◌∙◌, subst, arith, ltb-true, ltb-false, lt-ltb, le-leb}
use Rattle.std.proofs.lemmas.List.{length-map}
use Rattle.std.specs.List.{slice_get}
use Rattle.banks.specs.Meaning.{Meaning}
use Rattle.tree.specs.Expressions as tree_expr
use Rattle.tree.specs.Elements as tree
use Rattle.tree.specs.Elements.{Tree, Arms}
use Rattle.nodes.specs.declared.exprs.Expr.{Expr}
use Rattle.nodes.specs.declared.exprs.Row.{Row}
use Rattle.frames.specs.Items.{item_of}
use Rattle.meaning.specs.Openings.{Opening}
use Rattle.nodes.specs.declared.table.Arm.{Arm}
use Rattle.nodes.specs.declared.table.Block.{Block}
use Rattle.nodes.specs.declared.table.Block.TheVariants.{If, For, Tablerow, Capture, Ifchanged}
use Rattle.nodes.specs.declared.table.Guard as table
use Rattle.nodes.specs.declared.table.Guard.TheVariants.{Holds, Fails, Equals, HasItems, Always}
use Rattle.nodes.specs.declared.table.Leaf.{Leaf}
use Rattle.nodes.specs.declared.table.Next.{Next}
use Rattle.nodes.specs.declared.table.Node.{Node}
use Rattle.nodes.specs.declared.table.Node.TheVariants as node
use Rattle.nodes.specs.Exprs.{Pool, only, ◌so◌, row_of, if_any, expr_of}
use Rattle.nodes.specs.Trees.{block_of}
use Rattle.nodes.proofs.Options.{none_some, some_is, so_parts, where_parts, only_parts}
use Rattle.held.specs.declared.faults.Fault.{Fault}
use Rattle.held.specs.declared.scenes.Scene.{Scene}
use Rattle.held.specs.Scenes.{host_in, pool_of, Fits}
use Rattle.frames.specs.declared.frame.Frame.{Frame}
use Rattle.frames.specs.Views.{open_in, around_in, manner_of}
use Rattle.meaning.specs.Hosts.{Host}
use Rattle.meaning.specs.Things.{Drawers}
use Rattle.meaning.specs.Frames.{Frames, each, cells}
use Rattle.meaning.specs.Acts.{Step, step, gives}
use Rattle.meaning.specs.Leaves.{Flow, leaf_act}
use Rattle.meaning.specs.Looking.{World}
use Rattle.meaning.specs.Blocks as blocks
use Rattle.renderer.specs.declared.flow.Flow as code_flow
use Rattle.renderer.specs.declared.flow.Flow.TheVariants.{Onward}
use Rattle.renderer.specs.declared.guards.First.{First}
use Rattle.renderer.specs.declared.guards.First.TheVariants as first
use Rattle.renderer.specs.declared.machine.Machine.{Machine}
use Rattle.renderer.specs.declared.machine.Mode.{Mode}
use Rattle.renderer.specs.declared.machine.Mode.TheVariants.{Elements, Ended}
use Rattle.renderer.specs.declared.machine.Move.{Move}
use Rattle.renderer.specs.declared.machine.Move.TheVariants as move
use Rattle.renderer.specs.declared.machine.arms.Tag.{Tag}
use Rattle.renderer.specs.declared.openings.Opened.{Opened}
use Rattle.renderer.specs.declared.openings.Opened.TheVariants as found
use Rattle.renderer.specs.Acts.{world}
use Rattle.renderer.specs.Arms.{VisitedLike, AtArms}
use Rattle.renderer.specs.Ends.{TargetFits}
use Rattle.renderer.specs.Flows.{flow_of}
use Rattle.renderer.specs.Guards.{IsGuard, Stands as ArmsStand}
use Rattle.renderer.specs.Leaves.{flow_behind, LeafDone}
use Rattle.renderer.specs.Machines.{CutFrom, block_fits, fits, node_in, Stands, Stepped}
use Rattle.renderer.specs.Openings.{opening_of, Opens, BlockOpened, CaseOpened}
use Rattle.renderer.specs.Running.{Going, mode_after}
use Rattle.renderer.specs.Visiting.{shown_items, shown_cols, for_manner}
use Rattle.renderer.proofs.Arming.{fits_parts, shown_opening}
use Rattle.renderer.proofs.Decodes.{LeafAt, BlockAt, ElementAt, element_here, node_here, not_past}
use Rattle.renderer.proofs.Runs.{list_ended, leaf_done, leaf_fault, open_fault, arms_left}
use Rattle.renderer.proofs.Stepping.{was, lands, fails}

-- the node under way
pub node_parts : (ns : List Node) (at end depth : ℕ) (n : Node) → node_in ns at end depth ≡ Some n → (at < end) × (slice_get ns at ≡ Some n) × (fits at end depth n ≡ true)
node_parts ns at end depth n h =
    let (lt, more) = where_parts _ _ _ h in
    let (k, there, rest) = so_parts _ _ _ more in
    let (fitting, same) = only_parts _ _ _ rest in
    (ltb-true at end lt, there ∙ ap Some same, subst (λ y. fits at end depth y ≡ true) same fitting)

pub before_end : (at end depth e : ℕ) → block_fits at end depth e ≡ true → at < end
before_end at end depth e h =
    let (after, within, room) = fits_parts at end depth e h in
    omega (arith, after, within)

count_is : (h : Host) (x : Opened) → length (shown_items x) ≡ length (blocks.items (opening_of h x))
count_is h x = sym (length-map (shown_items x) (item_of h)) ∙ ap length (shown_opening h x)

cols_are : (h : Host) (x : Opened) → shown_cols x ≡ blocks.cols_of (opening_of h x)
cols_are h found.Bare = refl
cols_are h (found.Target v) = refl
cols_are h (found.Loop w n) = refl
cols_are h (found.Table w n k) = refl

-- how arms are visited
for_like : (v n : ℕ) (o : Opening) (guard : table.Guard) (g : tree.Guard) → n ≡ length (blocks.items o) → IsGuard guard g → manner_of (for_manner v n guard) ≡ blocks.for_manner v o g
for_like v n o Holds g is k = ap (blocks.for_manner v o) (sym k.1)
for_like v n o Fails g is k = ap (blocks.for_manner v o) (sym k.1)
for_like v n o (Equals s) g is k = ap (blocks.for_manner v o) (sym k.1)
for_like v n o HasItems g is k = ap (each v) is ∙ ap (blocks.for_manner v o) (sym k)
for_like v n o Always g is k = ap (blocks.for_manner v o) (sym k)

for_target : (v n : ℕ) (guard : table.Guard) → TargetFits 128 (for_manner v n guard)
for_target v n Holds = tt
for_target v n Fails = tt
for_target v n (Equals s) = tt
for_target v n HasItems = tt
for_target v n Always = tt

like_for : (v : ℕ) (r : Row) (limit offset : Option Expr) (reversed : Bool) (row : tree_expr.Row) (l o : Option tree_expr.Expr) → VisitedLike (For v r limit offset reversed) (tree.for_block v row l o reversed)
like_for v r limit offset reversed row l o = record {
  manner = λ h x guard g k. for_like v (length (shown_items x)) (opening_of h x) guard g (count_is h x) k;
  target = λ x guard. for_target v (length (shown_items x)) guard;
}

like_table : (v : ℕ) (r : Row) (cols limit offset : Option Expr) (row : tree_expr.Row) (n l o : Option tree_expr.Expr) → VisitedLike (Tablerow v r cols limit offset) (tree.tablerow_block v row n l o)
like_table v r cols limit offset row n l o = record { manner = λ h x guard g k. ap₂ (cells v) (count_is h x) (cols_are h x); target = λ x guard. tt }

like_case : (y : tree_expr.Expr) → VisitedLike If (tree.case_block y)
like_case y = record { manner = λ h x guard g k. refl; target = λ x guard. tt }

like_block : (b : Pool) (k : Block) (t : tree.Block) → b.names ≤ 128 → block_of b k ≡ Some t → VisitedLike k t
unfolding block_of
like_block b If t few is = subst (VisitedLike If) (some_is _ _ is) (record { manner = λ h x guard g k. refl; target = λ x guard. tt })
like_block b (For v r limit offset reversed) t few is =
    let (row, a, more) = so_parts (row_of b r) (λ x. if_any (expr_of b) limit so λ l. if_any (expr_of b) offset so λ o. only (ltb v b.names) (tree.for_block v x l o reversed)) t is in
    let (l, c, behind) = so_parts (if_any (expr_of b) limit) (λ l. if_any (expr_of b) offset so λ o. only (ltb v b.names) (tree.for_block v row l o reversed)) t more in
    let (o, e, last) = so_parts (if_any (expr_of b) offset) (λ o. only (ltb v b.names) (tree.for_block v row l o reversed)) t behind in
    subst (VisitedLike (For v r limit offset reversed)) {x = tree.for_block v row l o reversed} ((only_parts (ltb v b.names) (tree.for_block v row l o reversed) t last).1) (like_for v r limit offset reversed row l o)
like_block b (Tablerow v r cols limit offset) t few is =
    let (row, a, more) = so_parts (row_of b r) (λ x. if_any (expr_of b) cols so λ n. if_any (expr_of b) limit so λ l. if_any (expr_of b) offset so λ o. only (ltb v b.names) (tree.tablerow_block v x n l o)) t is in
    let (n, c, behind) = so_parts (if_any (expr_of b) cols) (λ n. if_any (expr_of b) limit so λ l. if_any (expr_of b) offset so λ o. only (ltb v b.names) (tree.tablerow_block v row n l o)) t more in
    let (l, e, last) = so_parts (if_any (expr_of b) limit) (λ l. if_any (expr_of b) offset so λ o. only (ltb v b.names) (tree.tablerow_block v row n l o)) t behind in
    let (o, f, end) = so_parts (if_any (expr_of b) offset) (λ o. only (ltb v b.names) (tree.tablerow_block v row n l o)) t last in
    subst (VisitedLike (Tablerow v r cols limit offset)) {x = tree.tablerow_block v row n l o} ((only_parts (ltb v b.names) (tree.tablerow_block v row n l o) t end).1) (like_table v r cols limit offset row n l o)
like_block b (Capture n) t few is =
    let (lt, same) = only_parts (ltb n b.names) (tree.capture_block n) t is in
    let below = ltb-true n b.names lt in
    subst (VisitedLike (Capture n)) same (record { manner = λ h x guard g k. refl; target = λ x guard. omega (arith, below, few) })
like_block b Ifchanged t few is = subst (VisitedLike Ifchanged) (some_is _ _ is) (record { manner = λ h x guard g k. refl; target = λ x guard. tt })

module _ (s : Scene) (m : Meaning) (limit stop : ℕ) (fin : Step Flow) (c : Machine) (d : Drawers) (out : List ℕ) (h : Stands s m limit stop fin c d out) (elements : c.mode ≡ Elements) where
  abbrev fs : List Frame
  fs = open_in c.frames

  abbrev w : World
  w = world s m limit

  abbrev o : List ℕ
  o = take c.filled out

  abbrev e : Frames
  e = around_in (host_in s) c.frames

  abbrev here : Going (pool_of s) s.book.nodes.now stop w Elements c.at c.end fs d o fin
  here = was s m limit stop fin c d out h Elements fs elements refl

  there : (n : Node) → c.at < c.end → slice_get s.book.nodes.now c.at ≡ Some n → ElementAt (pool_of s) s.book.nodes.now (16 - length fs) c.at c.end here.list n
  there n lt at = element_here (pool_of s) s.book.nodes.now (16 - length fs) c.at c.end here.list n here.spelt lt at

  -- an element that is there can be rendered
  element_fits : (n : Node) → ElementAt (pool_of s) s.book.nodes.now (16 - length fs) c.at c.end here.list n → fits c.at c.end (length fs) n ≡ true
  element_fits (node.Leaf p l) x = refl
  element_fits (node.Open p k a end) x = rw (lt-ltb c.at end x.after, le-leb end c.end x.within, lt-ltb (length fs) 16 (omega (arith, x.some))) refl
  element_fits (node.Case p y n end) x = rw (lt-ltb c.at end x.after, le-leb end c.end x.within, lt-ltb (length fs) 16 (omega (arith, x.some))) refl
  element_fits (node.Arm a) x = refl
  element_fits (node.Exists y) x = refl
  element_fits (node.Compares y k z) x = refl
  element_fits node.And x = refl
  element_fits node.Or x = refl

  at_end : node_in s.book.nodes.now c.at c.end (length fs) ≡ None → c.at ≡ c.end
  at_end none = tested (ltb c.at c.end) refl
    where
      tested : (y : Bool) → ltb c.at c.end ≡ y → c.at ≡ c.end
      tested false q =
          let le = not_past (pool_of s) s.book.nodes.now (16 - length fs) c.at c.end here.list here.spelt in
          let ge = ltb-false c.at c.end q in
          omega (arith, le, ge)
      tested true q =
          let lt = ltb-true c.at c.end q in
          let (n, at) = node_here (pool_of s) s.book.nodes.now (16 - length fs) c.at c.end here.list here.spelt lt in
          let fitting = element_fits n (there n lt at) in
          none_some n (sym none ∙ rw (q, at, fitting) refl)

  -- the end of the list
  pub list_left : node_in s.book.nodes.now c.at c.end (length fs) ≡ None → Stands s m limit stop fin (record c { mode = Ended Onward }) d out
  list_left none =
      lands s m limit stop fin (record c { mode = Ended Onward }) d out (Ended Onward) fs refl refl h.few h.long h.within
      (list_ended (pool_of s) s.book.nodes.now stop w c.at c.end fs d o fin here (at_end none))

  -- a leaf
  abbrev leaf_at : (p : ℕ) (l : Leaf) → c.at < c.end → slice_get s.book.nodes.now c.at ≡ Some (node.Leaf p l) → LeafAt (pool_of s) s.book.nodes.now (16 - length fs) c.at c.end p l here.list
  leaf_at p l lt at = there (node.Leaf p l) lt at

  pub leaf_on : (p : ℕ) (l : Leaf) → c.at < c.end → slice_get s.book.nodes.now c.at ≡ Some (node.Leaf p l) → (d' : Drawers) (new : List ℕ) (n : ℕ) (r : code_flow.Flow) (k : Mode) → flow_of r ≡ flow_behind l → k ≡ mode_after r →
      LeafDone s c.frames m d d' c.filled out new (Ok n) l → Stands s m limit stop fin (record c { mode = k; at = c.at + 1; filled = n }) d' new
  leaf_on p l lt at d' new n r k flow is done =
      let x = leaf_at p l lt at in
      let y = done x.element p x.of h.few h.within in
      let did : leaf_act w x.element p e d o ≡ step d' (take n new) (gives (flow_of r)) =
      ap (λ j. leaf_act (world s m j) x.element p e d o) (sym h.long) ∙ y.did ∙ ap (λ j. step d' (take n new) (gives j)) (sym flow) in
      lands s m limit stop fin (record c { mode = k; at = c.at + 1; filled = n }) d' new (mode_after r) fs is refl h.few (y.long ∙ h.long) y.within
      (leaf_done (pool_of s) s.book.nodes.now stop w c.at c.end fs d o fin here p l x r d' (take n new) did)

  pub leaf_fails : (p : ℕ) (l : Leaf) → c.at < c.end → slice_get s.book.nodes.now c.at ≡ Some (node.Leaf p l) → (d' : Drawers) (new : List ℕ) (q : Fault) (c' : Machine) (v : Move) → v ≡ move.Fault q p → c'.frames ≡ c.frames → CutFrom fs c.filled c'.filled →
      LeafDone s c.frames m d d' c.filled out new (Err q) l → Stepped s m limit stop fin c' d' new v
  leaf_fails p l lt at d' new q c' v is ef cut done =
      let x = leaf_at p l lt at in
      let y = done x.element p x.of h.few h.within in
      fails s m limit stop fin c' d' new fs fs c.filled q p v is cut (ap open_in ef) (y.long ∙ h.long) y.within
      (leaf_fault (pool_of s) s.book.nodes.now stop w c.at c.end fs d o fin here p l x _ d' (take c.filled new) (ap (λ j. leaf_act (world s m j) x.element p e d o) (sym h.long) ∙ y.did))

  fits_world : Fits w s
  fits_world = record { names = refl; host = refl }

  -- a block that is opened
  at_arms : (t : Tag) (f : First) (x : Opened) {Of : tree.Block → Type 0} (y : BlockAt (pool_of s) s.book.nodes.now (16 - length fs) c.at c.end t.place t.end Of (λ r. ArmsStand (pool_of s) s.book.nodes.now (16 - length fs - 1) t.end f r) here.list) →
      VisitedLike t.block y.opened → Opens s c.frames d y.opened w (Ok x) → AtArms s m limit stop fin c d out t f x
  at_arms t f x y like came = record {
    few = h.few;
    long = h.long;
    within = h.within;
    block = y.opened;
    arms = y.arms;
    rest = y.rest;
    inside = here.inside;
    like = like;
    some = y.some;
    first = y.first;
    spelt = y.spelt;
    held = here.held;
    counted = came.0;
    comes = arms_left (pool_of s) s.book.nodes.now stop w c.at c.end fs d o fin here t.place t.end y (opening_of (host_in s) x) (came.1 t.place o);
  }

  opening_fails : (p end : ℕ) {Of : tree.Block → Type 0} {First : Arms → Type 0} (y : BlockAt (pool_of s) s.book.nodes.now (16 - length fs) c.at c.end p end Of First here.list) (q : Fault) (c' : Machine) (v : Move) → v ≡ move.Fault q p → c'.frames ≡ c.frames → CutFrom fs c.filled c'.filled →
      Opens s c.frames d y.opened w (Err q) → Stepped s m limit stop fin c' d out v
  opening_fails p end y q c' v is ef cut came =
      fails s m limit stop fin c' d out fs fs c.filled q p v is cut (ap open_in ef) h.long h.within
      (open_fault (pool_of s) s.book.nodes.now stop w c.at c.end fs d o fin here p end y _ (came.1 p o))

  pub block_at_arms : (t : Tag) (a : Arm) (x : Opened) → c.at < c.end → slice_get s.book.nodes.now c.at ≡ Some (node.Open t.place t.block a t.end) → BlockOpened s c.frames d t.block (Ok x) → AtArms s m limit stop fin c d out t (first.Arm c.at a) x
  block_at_arms t a x lt at came =
      let y = there (node.Open t.place t.block a t.end) lt at in
      at_arms t (first.Arm c.at a) x y (like_block (pool_of s) t.block y.opened h.few.names y.of) (came w y.opened fits_world y.of)

  pub block_fails : (t : Tag) (a : Arm) (q : Fault) (c' : Machine) (v : Move) → c.at < c.end → slice_get s.book.nodes.now c.at ≡ Some (node.Open t.place t.block a t.end) → v ≡ move.Fault q t.place → c'.frames ≡ c.frames → CutFrom fs c.filled c'.filled →
      BlockOpened s c.frames d t.block (Err q) → Stepped s m limit stop fin c' d out v
  block_fails t a q c' v lt at is ef cut came =
      let y = there (node.Open t.place t.block a t.end) lt at in
      opening_fails t.place t.end y q c' v is ef cut (came w y.opened fits_world y.of)

  pub case_at_arms : (p : ℕ) (target : Expr) (n : Next) (end : ℕ) (x : Opened) → c.at < c.end → slice_get s.book.nodes.now c.at ≡ Some (node.Case p target n end) → CaseOpened s c.frames d target (Ok x) →
      AtArms s m limit stop fin c d out (record { place = p; block = If; end = end }) (first.Behind n (c.at + 1)) x
  case_at_arms p target n end x lt at came =
      let y = there (node.Case p target n end) lt at in
      let (z, of, is) = y.of in
      at_arms (record { place = p; block = If; end = end }) (first.Behind n (c.at + 1)) x y (subst (VisitedLike If) (sym is) (like_case z)) (subst (λ b. Opens s c.frames d b w (Ok x)) (sym is) (came w z fits_world of))

  pub case_fails : (p : ℕ) (target : Expr) (n : Next) (end : ℕ) (q : Fault) (c' : Machine) (v : Move) → c.at < c.end → slice_get s.book.nodes.now c.at ≡ Some (node.Case p target n end) → v ≡ move.Fault q p → c'.frames ≡ c.frames → CutFrom fs c.filled c'.filled →
      CaseOpened s c.frames d target (Err q) → Stepped s m limit stop fin c' d out v
  case_fails p target n end q c' v lt at is ef cut came =
      let y = there (node.Case p target n end) lt at in
      let (z, of, same) = y.of in
      opening_fails p end y q c' v is ef cut (subst (λ b. Opens s c.frames d b w (Err q)) (sym same) (came w z fits_world of))
