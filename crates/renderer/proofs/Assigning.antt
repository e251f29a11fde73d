-- What `assign` comes to.
use Rattle.std.proofs.Common.{◌≡◌, ℕ, ◌<◌, cond, List, length, take, Some, None, Ok, Err, refl, ap, sym, ◌∙◌, subst}
use Rattle.banks.specs.Meaning.{Meaning}
use Rattle.drawers.specs.Kept.{if_short}
use Rattle.evaluation.specs.Chains.{chained_in, CameThrough}
use Rattle.evaluation.specs.declared.chains.Chained.{Chained}
use Rattle.frames.specs.declared.stack.Frames as code
use Rattle.frames.specs.Views.{around_in}
use Rattle.held.specs.declared.faults.Fault.{Fault}
use Rattle.held.specs.declared.faults.Fault.TheVariants.{TooLong}
use Rattle.held.specs.declared.scenes.Scene.{Scene}
use Rattle.held.specs.Scenes.{host_in, pool_of}
use Rattle.nodes.specs.declared.exprs.Chain as code_chain
use Rattle.nodes.specs.declared.table.Leaf.TheVariants.{Assign}
use Rattle.nodes.specs.Exprs.{chain_of}
use Rattle.nodes.specs.Trees.{leaf_of, numbered}
use Rattle.nodes.proofs.Options.{only_parts, so_parts}
use Rattle.tree.specs.Elements as tree
use Rattle.tree.specs.Expressions as tree_expr
use Rattle.meaning.specs.Things.{Drawers, Held, name, altered, with_variable}
use Rattle.meaning.specs.Frames.{Frames}
use Rattle.meaning.specs.Acts.{step, gives, still, pure, alter, faults, ◌and_then◌}
use Rattle.meaning.specs.Looking.{World}
use Rattle.meaning.specs.Leaves.{onward, short_enough, store, leaf_act}
use Rattle.renderer.specs.Acts.{world, Does}
use Rattle.renderer.specs.Leaves.{Few, LeafDone}
use Rattle.renderer.proofs.Doing.{stops_does, cond_parts, cond_not, below}
use Rattle.renderer.proofs.Writing.{chain_then, chain_stops}

module _ (s : Scene) (fs : code.Frames) (m : Meaning) (filled : ℕ) (old : List ℕ) where
  abbrev w : World
  w = world s m (length old)

  abbrev e : Frames
  e = around_in (host_in s) fs

  assign_parts : (n : ℕ) (c : code_chain.Chain) (t : tree.Leaf) → leaf_of (pool_of s) (Assign n c) ≡ Some t → Few s →
      (x : tree_expr.Chain) × (chain_of (pool_of s) c ≡ Some x) × (n < 128) × (tree.assign n x ≡ t)
  unfolding leaf_of
  assign_parts n c t given few =
      let (x, a, q) = so_parts (chain_of (pool_of s) c) (λ x. numbered (pool_of s) n (pool_of s).names (tree.assign n x)) t given in
      let (b, is) = only_parts _ _ t q in
      (x, a, below n (length s.book.names.now) 128 b few.names, is)

  pub assign_done : (d after : Drawers) (n : ℕ) (c : code_chain.Chain) (answer : List ℕ) (came : Chained) (v k : Held) →
      CameThrough s fs d m c answer (Ok came) → v ≡ chained_in answer came → Some k ≡ if_short v → (n < 128 → after ≡ altered (name n) (with_variable k) d) →
      LeafDone s fs m d after filled old old (Ok filled) (Assign n c)
  unfolding leaf_act alter still ◌and_then◌
  assign_done d after n c answer came v k through is kept set t p given few l =
      let (x, a, low, q) = assign_parts n c t given few in
      let (short, same) = cond_parts (short_enough v) k v kept in
      let o = take filled old in
      subst (λ t. Does (leaf_act w t p e) onward p e d after filled old old (Ok filled)) q
      (chain_then s fs m filled old old d after c answer came v (λ v. store w n v p e) (Ok filled) x p through is a
      (record {
        long = refl;
        within = l;
        did =
            ap (λ b. cond b (alter (name n) (with_variable v) and_then λ _. pure onward) (faults 31 p e) d o) short
            ∙ ap (λ q. step q o (gives onward)) (sym (set low ∙ ap (λ k. altered (name n) (with_variable k) d) same));
      }))

  pub assign_long : (d : Drawers) (n : ℕ) (c : code_chain.Chain) (answer : List ℕ) (came : Chained) (v : Held) →
      CameThrough s fs d m c answer (Ok came) → v ≡ chained_in answer came → None ≡ if_short v → LeafDone s fs m d d filled old old (Err TooLong) (Assign n c)
  unfolding leaf_act still
  assign_long d n c answer came v through is kept t p given few l =
      let (x, a, low, q) = assign_parts n c t given few in
      let o = take filled old in
      subst (λ t. Does (leaf_act w t p e) onward p e d d filled old old (Err TooLong)) q
      (chain_then s fs m filled old old d d c answer came v (λ v. store w n v p e) (Err TooLong) x p through is a
      (stops_does (store w n v p e) TooLong onward p e d filled old
      (ap (λ b. cond b (alter (name n) (with_variable v) and_then λ _. pure onward) (faults 31 p e) d o) (cond_not (short_enough v) v kept)) l))

  pub assign_stops : (d : Drawers) (n : ℕ) (c : code_chain.Chain) (answer : List ℕ) (k : Fault) → CameThrough s fs d m c answer (Err k) → LeafDone s fs m d d filled old old (Err k) (Assign n c)
  unfolding leaf_act
  assign_stops d n c answer k through t p given few l =
      let (x, a, low, q) = assign_parts n c t given few in
      subst (λ t. Does (leaf_act w t p e) onward p e d d filled old old (Err k)) q
      (chain_stops s fs m filled old old d c answer k (λ v. store w n v p e) x p through a l)
