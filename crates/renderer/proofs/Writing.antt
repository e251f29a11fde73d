-- What `plain text` and `{{ value }}` come to.
use Rattle.std.proofs.Common.{◌≡◌, ℕ, ◌≤◌, List, length, take, Some, Ok, Err, refl, ap, sym, ◌∙◌, subst}
use Rattle.std.specs.Prelude.{Result}
use Rattle.banks.specs.Meaning.{Meaning}
use Rattle.evaluation.specs.Chains.{chained_in, CameThrough}
use Rattle.evaluation.specs.declared.chains.Chained.{Chained}
use Rattle.frames.specs.declared.stack.Frames as code
use Rattle.frames.specs.Views.{around_in}
use Rattle.held.specs.declared.faults.Fault.{Fault}
use Rattle.held.specs.declared.scenes.Scene.{Scene}
use Rattle.held.specs.Scenes.{host_in, pool_of}
use Rattle.nodes.specs.declared.exprs.Part.{Part}
use Rattle.nodes.specs.declared.exprs.Chain as code_chain
use Rattle.nodes.specs.declared.table.Leaf.TheVariants.{Plain, Output}
use Rattle.nodes.specs.Books.{spelled}
use Rattle.nodes.specs.Exprs.{bytes_of, chain_of}
use Rattle.nodes.specs.Trees.{leaf_of}
use Rattle.nodes.proofs.Options.{only_parts, mapped_parts}
use Rattle.pages.specs.Pieces.{Emits, text_in}
use Rattle.tree.specs.Elements as tree
use Rattle.tree.specs.Expressions as tree_expr
use Rattle.meaning.specs.Things.{Drawers, Held}
use Rattle.meaning.specs.Frames.{Frames}
use Rattle.meaning.specs.Acts.{Act, step, gives, ◌and_then◌}
use Rattle.meaning.specs.Looking.{World, text_of}
use Rattle.meaning.specs.Chains.{chained}
use Rattle.meaning.specs.Leaves.{Flow, onward, write, leaf_act}
use Rattle.renderer.specs.Acts.{world, Does}
use Rattle.renderer.specs.Leaves.{LeafDone}
use Rattle.renderer.proofs.Doing.{then_does, then_stops, wrote_does}

module _ (s : Scene) (fs : code.Frames) (m : Meaning) (filled : ℕ) (old new : List ℕ) where
  abbrev w : World
  w = world s m (length old)

  abbrev e : Frames
  e = around_in (host_in s) fs

  pub plain_done : (d : Drawers) (part : Part) (bytes : List ℕ) (r : Result ℕ Fault) → bytes ≡ spelled s.book.source.now part → Emits bytes filled old new r →
      LeafDone s fs m d d filled old new r (Plain part)
  unfolding leaf_of leaf_act
  plain_done d part bytes r is h t p given few l =
      let (x, a, q) = mapped_parts tree.plain (bytes_of s.book.source.now part) t given in
      let b = only_parts _ _ x a in
      subst (λ t. Does (leaf_act w t p e) onward p e d d filled old new r) q
      (wrote_does w x p e d filled old new r refl (subst (λ b. Emits b filled old new r) (is ∙ b.1) h) l)

  -- a chain, and what is done with its value
  pub chain_then : (d after : Drawers) (c : code_chain.Chain) (answer : List ℕ) (came : Chained) (v : Held) (k : Held → Act Flow) (r : Result ℕ Fault) (t : tree_expr.Chain) (p : ℕ) →
      CameThrough s fs d m c answer (Ok came) → v ≡ chained_in answer came → chain_of (pool_of s) c ≡ Some t → Does (k v) onward p e d after filled old new r →
      Does (chained w t p e and_then k) onward p e d after filled old new r
  chain_then d after c answer came v k r t p through is given h =
      then_does (chained w t p e) k v onward p e d d after filled old new r
      (through w t p (take filled old) (record { names = refl; host = refl }) refl given ∙ ap (λ x. step d (take filled old) (gives x)) (sym is)) h

  pub chain_stops : (d : Drawers) (c : code_chain.Chain) (answer : List ℕ) (x : Fault) (k : Held → Act Flow) (t : tree_expr.Chain) (p : ℕ) →
      CameThrough s fs d m c answer (Err x) → chain_of (pool_of s) c ≡ Some t → filled ≤ length old → Does (chained w t p e and_then k) onward p e d d filled old old (Err x)
  chain_stops d c answer x k t p through given l =
      then_stops (chained w t p e) k (chained_in answer) x onward p e d d filled old (through w t p (take filled old) (record { names = refl; host = refl }) refl given) l

  pub output_done : (d : Drawers) (c : code_chain.Chain) (answer : List ℕ) (came : Chained) (v : Held) (r : Result ℕ Fault) →
      CameThrough s fs d m c answer (Ok came) → v ≡ chained_in answer came → Emits (text_in s.tray.now v) filled old new r → LeafDone s fs m d d filled old new r (Output c)
  unfolding leaf_of leaf_act
  output_done d c answer came v r through is h t p given few l =
      let (x, a, q) = mapped_parts tree.output (chain_of (pool_of s) c) t given in
      subst (λ t. Does (leaf_act w t p e) onward p e d d filled old new r) q
      (chain_then d d c answer came v (λ v. write w (text_of w v) p e) r x p through is a (wrote_does w (text_of w v) p e d filled old new r refl h l))

  pub output_stops : (d : Drawers) (c : code_chain.Chain) (answer : List ℕ) (k : Fault) → CameThrough s fs d m c answer (Err k) → LeafDone s fs m d d filled old old (Err k) (Output c)
  unfolding leaf_of leaf_act
  output_stops d c answer k through t p given few l =
      let (x, a, q) = mapped_parts tree.output (chain_of (pool_of s) c) t given in
      subst (λ t. Does (leaf_act w t p e) onward p e d d filled old old (Err k)) q
      (chain_stops d c answer k (λ v. write w (text_of w v) p e) x p through a l)
