-- What is left of a ticket from inside its open blocks, said with the acts of the definition.
use Rattle.std.specs.Prelude.{◌≡◌, ℕ, ◌+◌, ◌-◌, List, [], ◌∷◌, map, length, drop, Some}
use Rattle.rows.specs.Windows.{windowed}
use Rattle.tree.specs.Elements.{Tree, Arms}
use Rattle.nodes.specs.declared.table.Node.{Node}
use Rattle.nodes.specs.declared.table.Next.{Next}
use Rattle.nodes.specs.Exprs.{Pool}
use Rattle.nodes.specs.Trees.{elements_of, arms_of}
use Rattle.frames.specs.declared.frame.Frame as code
use Rattle.frames.specs.declared.frame.Manner as code_manner
use Rattle.frames.specs.declared.frame.Manner.TheVariants.{Once, Each, Cells, Keeping, Watching}
use Rattle.renderer.specs.declared.flow.Flow as code_flow
use Rattle.renderer.specs.declared.flow.Flow.TheVariants.{Onward, Broken, Continued}
use Rattle.renderer.specs.declared.machine.Mode.{Mode}
use Rattle.renderer.specs.declared.machine.Mode.TheVariants.{Elements, Ended, Between, Closing}
use Rattle.renderer.specs.Ends.{TargetFits}
use Rattle.renderer.specs.Flows.{flow_of}
use Rattle.frames.specs.declared.item.Item.{Item}
use Rattle.frames.specs.Items.{item_of, items_in}
use Rattle.frames.specs.Views.{manner_of, frames_of}
use Rattle.meaning.specs.Things.{Drawers, Held}
use Rattle.meaning.specs.Acts.{Act, Step, step, gives, go_on}
use Rattle.meaning.specs.Looking.{World}
use Rattle.meaning.specs.Leaves.{Flow, onward}
use Rattle.meaning.specs.Blocks.{visits, visit, leaves, after_visit, closed, after_element}
use Rattle.meaning.specs.Rendering.{render}

-- the items that a frame goes over
abbrev pub items_of : code.Frame → List Item
items_of f = windowed f.row.offset f.row.limit f.row.reversed (items_in f.row.row)

-- of an open block: the elements of the arm that is visited, and those behind the block
pub record Inside : Type 0 where
  pub body : Tree
  pub rest : Tree

module _ (w : World) where
  -- the items of the visits to come
  abbrev pub left_of : code.Frame → List Held
  left_of f = drop f.visit (map (item_of w.host) (items_of f))

  -- the visits to come
  abbrev pub more : code.Frame → Inside → List code.Frame → Act Flow
  more f t fs =
      visits (manner_of f.manner) (visit w (manner_of f.manner) f.place (frames_of w.host fs) (λ e. render w t.body e)) (left_of f) (f.visit + 1)

  -- a visit whose body came out so, and the visits to come
  abbrev pub after_body : code.Frame → Inside → List code.Frame → Step Flow → Step Flow
  after_body f t fs s =
      go_on (go_on s (λ r. leaves w (manner_of f.manner) (f.visit - 1) f.place (frames_of w.host fs) r)) (λ r. after_visit (manner_of f.manner) r (more f t fs))

  -- a block whose visits came out so, and the elements behind it
  abbrev pub after_block : code.Frame → Inside → List code.Frame → Step Flow → Step Flow
  after_block f t fs s =
      go_on (closed (manner_of f.manner) f.place (frames_of w.host fs) f.mark s) (λ r. after_element r (render w t.rest (frames_of w.host fs)))

  -- what comes of the open blocks around a list of elements that came out so
  abbrev pub resume : List code.Frame → List Inside → Step Flow → Step Flow
  resume [] ts s = s
  resume (f ∷ fs) [] s = s
  resume (f ∷ fs) (t ∷ ts) s = resume fs ts (after_block f t fs (after_body f t fs s))

  -- what comes of the innermost block whose visits came out so, and of the blocks around it
  abbrev pub shut : List code.Frame → List Inside → Step Flow → Step Flow
  shut [] ts s = s
  shut (f ∷ fs) [] s = s
  shut (f ∷ fs) (t ∷ ts) s = resume fs ts (after_block f t fs s)

  -- what comes of the visits to come
  abbrev pub next_visits : List code.Frame → List Inside → Act Flow
  next_visits [] ts d o = step d o (gives onward)
  next_visits (f ∷ fs) [] d o = step d o (gives onward)
  next_visits (f ∷ fs) (t ∷ ts) d o = more f t fs d o

  -- what is left of the ticket
  abbrev pub run : Mode → Tree → List code.Frame → List Inside → Act Flow
  run Elements t fs ts d o = resume fs ts (render w t (frames_of w.host fs) d o)
  run (Ended r) t fs ts d o = resume fs ts (step d o (gives (flow_of r)))
  run Between t fs ts d o = shut fs ts (next_visits fs ts d o)
  run (Closing r) t fs ts d o = shut fs ts (step d o (gives (flow_of r)))

-- the nodes from i up to e are the elements of this tree
pub record Spells (b : Pool) (ns : List Node) (room i e : ℕ) (t : Tree) : Type 0 where
  pub steps : ℕ
  pub is : elements_of b ns steps room i e ≡ Some t

-- what stands from i up to e behind an arm
pub record SpellsArms (b : Pool) (ns : List Node) (next : Next) (room i e : ℕ) (r : Arms) : Type 0 where
  pub steps : ℕ
  pub is : arms_of b ns steps next room i e ≡ Some r

-- a frame whose list of elements ends at e
pub record Framed (f : code.Frame) (e : ℕ) : Type 0 where
  pub stop : f.end ≡ e
  pub times : length (items_of f) ≡ f.times
  pub target : TargetFits 128 f.manner

-- The frames hold the trees; the list of elements that is under way ends at e, and the template at `stop`.
abbrev pub Holds : Pool → List Node → ℕ → List code.Frame → List Inside → ℕ → Type 0
Holds b ns stop [] [] e = e ≡ stop
Holds b ns stop [] (t ∷ ts) e = ⊥
Holds b ns stop (f ∷ fs) [] e = ⊥
Holds b ns stop (f ∷ fs) (t ∷ ts) e =
    Framed f e × Spells b ns (16 - length (f ∷ fs)) f.body f.end t.body × Spells b ns (16 - length fs) f.next f.outer t.rest × Holds b ns stop fs ts f.outer

-- where a ticket stands behind an element that came to a flow
abbrev pub mode_after : code_flow.Flow → Mode
mode_after Onward = Elements
mode_after Broken = Ended Broken
mode_after Continued = Ended Continued

-- where it stands behind a visit of a loop
abbrev pub mode_in_loop : code_flow.Flow → Mode
mode_in_loop Onward = Between
mode_in_loop Broken = Closing Onward
mode_in_loop Continued = Between

-- where it stands behind a visit
abbrev pub mode_after_visit : code_manner.Manner → code_flow.Flow → Mode
mode_after_visit Once r = Closing r
mode_after_visit (Each v n) r = mode_in_loop r
mode_after_visit (Cells v n k) r = mode_in_loop r
mode_after_visit (Keeping n) r = Closing r
mode_after_visit Watching r = Closing r

-- From here on the ticket comes to `fin`: the machine is in mode `m` at the node `at`, the list under way ends at e, and these frames are open.
pub record Going (b : Pool) (ns : List Node) (stop : ℕ) (w : World) (m : Mode) (at e : ℕ) (fs : List code.Frame) (d : Drawers) (o : List ℕ) (fin : Step Flow) : Type 0 where
  pub list : Tree
  pub inside : List Inside
  pub spelt : Spells b ns (16 - length fs) at e list
  pub held : Holds b ns stop fs inside e
  pub comes : run w m list fs inside d o ≡ fin
