use Rattle.std.proofs.Common.{◌≡◌, ℕ, true, cond, leb, List, map, length, vec_items, sym, ap, ◌∙◌}
use Rattle.cutter.specs.Paths.{steps_of, PlacedStep}
use Rattle.tree.specs.Expressions.{path}
use Rattle.nodes.proofs.Options.{keeps_entries}
use Rattle.arguments.specs.Judging.{State, went, pure, refuse, ◌next◌}
use Rattle.arguments.specs.Values.{head, tree_step_of, a_path}
use Rattle.arguments.specs.Tables.{part_in, pool_of, under}
use Rattle.arguments.proofs.Paths.{path_of, each_source}
use Rattle.arguments.proofs.reader.Reader.path.Goals as goal

-- what follows once the steps are found to be few
few_path : (p : ℕ) (n : List ℕ) (ss : List PlacedStep) (s : State) → leb (length ss) 4 ≡ true → a_path p n ss s ≡ went (head p n s) (λ h. pure (path h (map tree_step_of ss)))
few_path p n ss s e = ap (λ b. cond b (head p n next λ h. pure (path h (map tree_step_of ss))) (refuse 2 p) s) e

pub returns-clause-says : goal.returns-clause-says
returns-clause-says c =
    let d = c.args.self.now in
    let m = c.push_steps.new.self in
    let e = c.head.new.self in
    let p = c.args.place in
    let n = part_in d.source.now c.args.name in
    let ss = steps_of c.args.steps.place c.args.steps.bytes.now in
    let g = c.in_ok-steps.ensures in
    let h = c.in_ok-head.ensures in
    let (y, is, says) = h.says in
    let there = keeps_entries (vec_items m.steps) (vec_items e.steps) c.in_ok-steps.steps h.grown.pool.steps g.did.new g.did.there in
    let steps = each_source (pool_of m) (pool_of e) h.grown.pool.source g.did.new ∙ g.did.are in (
      path y (map tree_step_of ss),
      path_of (pool_of e) c.in_ok-head.head c.in_ok-steps.steps y g.did.new (map tree_step_of ss) is there steps,
      few_path p n ss (under d) g.did.few
          ∙ ap (λ v. went v (λ x. pure (path x (map tree_step_of ss)))) (ap (head p n) (sym g.same) ∙ ap (λ t. head p (part_in t c.args.name) (under m)) (sym g.grown.pool.source) ∙ says),
    )
