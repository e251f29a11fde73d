use Rattle.std.proofs.Common.{Some, sym, ap, ◌∙◌, length}
use Rattle.frames.specs.Views.{open_in}
use Rattle.renderer.proofs.Listing.{list_left, node_parts}
use Rattle.renderer.proofs.machine.Machine.element.Goals as goal

pub returns-in_default-clause-did : goal.returns-in_default-clause-did
returns-in_default-clause-did g c limit stop fin h =
    list_left c.args.scene (g.B.Bank.meaning c.args.bank.now) limit stop fin c.args.self.now _ c.args.out.now h c.requires (sym c.node.ensures ∙ c.in_default.is)

pub returns-in-Leaf-clause-did : goal.returns-in-Leaf-clause-did
returns-in-Leaf-clause-did g c limit stop fin h =
    let (lt, there, fitting) = node_parts c.args.scene.book.nodes.now c.args.self.now.at c.args.self.now.end (length (open_in c.args.self.now.frames)) c.in-Some.node (sym c.node.ensures ∙ c.in-Some.is) in
    c.leaf.ensures.did limit stop fin (there ∙ ap Some c.in-Leaf.is) h

pub returns-in-Open-clause-did : goal.returns-in-Open-clause-did
returns-in-Open-clause-did g c limit stop fin h =
    let (lt, there, fitting) = node_parts c.args.scene.book.nodes.now c.args.self.now.at c.args.self.now.end (length (open_in c.args.self.now.frames)) c.in-Some.node (sym c.node.ensures ∙ c.in-Some.is) in
    c.open.ensures.did (g.B.Bank.meaning c.args.bank.now) limit stop fin c.args.out.now (there ∙ ap Some c.in-Open.is) h

pub returns-in-Case-clause-did : goal.returns-in-Case-clause-did
returns-in-Case-clause-did g c limit stop fin h =
    let (lt, there, fitting) = node_parts c.args.scene.book.nodes.now c.args.self.now.at c.args.self.now.end (length (open_in c.args.self.now.frames)) c.in-Some.node (sym c.node.ensures ∙ c.in-Some.is) in
    c.open_case.ensures.did (g.B.Bank.meaning c.args.bank.now) limit stop fin c.args.out.now (there ∙ ap Some c.in-Case.is) h
