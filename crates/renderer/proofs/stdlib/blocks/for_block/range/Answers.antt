use Rattle.std.proofs.Common.{rules, w64, SFits, subst, ap₂, ◌∙◌, ◌<◌}
use Rattle.std.proofs.lemmas.Int.{to_z-of_z}
use Rattle.rows.specs.Counted.{between, how_many}
use Rattle.renderer.proofs.Opening.{range_some, range_none}
use Rattle.renderer.proofs.stdlib.blocks.for_block.range.Goals as goal

pub returns-in-Some : goal.returns-in-Some
returns-in-Some c =
    let f : SFits w64 c.args.from = search rules in
    let t : SFits w64 c.args.to = search rules in
    let a = to_z-of_z w64 c.args.from f in
    let b = to_z-of_z w64 c.args.to t in
    range_some c.args.from c.args.to c.in-Some.numbers (c.in-Some.ensures.made.2 ∙ ap₂ between a b) (c.in-Some.ensures.made.0 ∙ a) (c.in-Some.ensures.made.1 ∙ b)

pub returns-in-None : goal.returns-in-None
returns-in-None c =
    let f : SFits w64 c.args.from = search rules in
    let t : SFits w64 c.args.to = search rules in
    range_none c.args.from c.args.to (subst (λ n. 4096 < n) (ap₂ how_many (to_z-of_z w64 c.args.from f) (to_z-of_z w64 c.args.to t)) c.in-None.ensures.made)
