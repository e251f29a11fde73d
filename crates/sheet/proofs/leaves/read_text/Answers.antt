use Rattle.std.proofs.Common.{Some, ap, ◌∙◌, refl}
use Rattle.std.specs.Option.{option_map}
use Rattle.tree.specs.Elements.{plain}
use Rattle.nodes.specs.declared.table.Leaf.TheVariants.{Plain}
use Rattle.nodes.specs.Trees.{leaf_of}
use Rattle.arguments.specs.Judging.{pure}
use Rattle.arguments.specs.Tables.{pool_of, under}
use Rattle.arguments.proofs.Chaining.{part_bytes}
use Rattle.sheet.proofs.Leaving.{leaf_said}
use Rattle.sheet.proofs.leaves.read_text.Goals as goal

pub returns-clause-says : goal.returns-clause-says
unfolding leaf_of
returns-clause-says c =
    let d = c.args.reader.now in
    let e = c.push_node.new.self in
    let p = c.args.text.place in
    let b = c.args.text.bytes.now in
    let (u, s, room) = c.in_ok-room.ensures in
    let (v, t, more) = c.in_ok-push_node.ensures.says in (
      plain b,
      record { leaf = Plain (record { place = p; len = Rattle.std.proofs.Common.length b }); nodes = c.in_ok-push_node.ensures.pushed; is = ap (λ o. option_map plain (Rattle.nodes.specs.Exprs.bytes_of o (record { place = p; len = Rattle.std.proofs.Common.length b }))) (ap (λ z. z.source) c.push_node.ensures.pool) ∙ ap (option_map plain) (part_bytes d.source.now p b c.requires.lies) },
      leaf_said p (pure (plain b)) (under d) (plain b) (under d) (under e) room refl more,
    )
