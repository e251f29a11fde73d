-- What a template means.
use Rattle.std.specs.Prelude.{ℕ, cond}
use Rattle.tree.specs.Elements.{Block, Tree, done, leaf, block, Arms, no_arms, arm}
use Rattle.meaning.specs.Frames.{Frames}
use Rattle.meaning.specs.Acts.{Act, ◌and_then◌, pure}
use Rattle.meaning.specs.Looking.{World}
use Rattle.meaning.specs.Leaves.{Flow, onward, leaf_act}
use Rattle.meaning.specs.Openings.{Opening, opened}
use Rattle.meaning.specs.Blocks.{manner, visited, visits, visit, around, passes, after_element}

module _ (w : World) where
  unfoldable mutual
    -- the elements in order
    pub render : Tree → Frames → Act Flow
    render done e = pure onward
    render (leaf p l rest) e = leaf_act w l p e and_then λ f. after_element f (render rest e)
    render (block p b arms rest) e =
        opened w b p e and_then λ o. taken b p o arms e and_then λ f. after_element f (render rest e)

    -- The visits of the first arm whose guard passes.
    -- Kept from liquid-lib: of several `when`s that match, the first is rendered, and once.
    pub taken : Block → ℕ → Opening → Arms → Frames → Act Flow
    taken b p o no_arms e = pure onward
    taken b p o (arm g body arms) e =
        passes w g o p e and_then λ y.
        cond y
        (around (manner b o g) p e (visits (manner b o g) (visit w (manner b o g) p e (λ e'. render body e')) (visited (manner b o g) o) 1))
        (taken b p o arms e)
