-- What `break` and `continue` come to.
use Rattle.std.proofs.Common.{ℕ, List, length, Ok, refl, subst}
use Rattle.banks.specs.Meaning.{Meaning}
use Rattle.frames.specs.declared.stack.Frames as code
use Rattle.frames.specs.Views.{around_in}
use Rattle.held.specs.declared.scenes.Scene.{Scene}
use Rattle.held.specs.Scenes.{host_in}
use Rattle.nodes.specs.declared.table.Leaf.TheVariants.{Break, Continue}
use Rattle.nodes.specs.Trees.{leaf_of}
use Rattle.nodes.proofs.Options.{some_is}
use Rattle.tree.specs.Elements as tree
use Rattle.meaning.specs.Things.{Drawers}
use Rattle.meaning.specs.Acts.{still}
use Rattle.meaning.specs.Leaves.{broken, continued, leaf_act}
use Rattle.renderer.specs.Acts.{world, Does}
use Rattle.renderer.specs.Leaves.{LeafDone}

module _ (s : Scene) (fs : code.Frames) (m : Meaning) (d : Drawers) (filled : ℕ) (old : List ℕ) where
  pub break_done : LeafDone s fs m d d filled old old (Ok filled) Break
  unfolding leaf_of leaf_act still
  break_done t p given few l =
      subst (λ t. Does (leaf_act (world s m (length old)) t p (around_in (host_in s) fs)) broken p (around_in (host_in s) fs) d d filled old old (Ok filled)) (some_is tree.break t given)
      (record { long = refl; within = l; did = refl })

  pub continue_done : LeafDone s fs m d d filled old old (Ok filled) Continue
  unfolding leaf_of leaf_act still
  continue_done t p given few l =
      subst (λ t. Does (leaf_act (world s m (length old)) t p (around_in (host_in s) fs)) continued p (around_in (host_in s) fs) d d filled old old (Ok filled)) (some_is tree.continue t given)
      (record { long = refl; within = l; did = refl })
