use Rattle.renderer.proofs.Listing.{leaf_on, leaf_fails}
use Rattle.renderer.proofs.machine.Machine.leaf.Goals as goal

pub returns-in-Ok-clause-did : goal.returns-in-Ok-clause-did
returns-in-Ok-clause-did g c limit stop fin there h =
    leaf_on c.args.scene (g.B.Bank.meaning c.args.bank.now) limit stop fin c.args.self.now _ c.args.out.now h c.requires.elements c.args.place c.args.leaf c.requires.within there _ c.render_leaf.new.out c.in-Ok.filled c.flow_after.result _
    c.flow_after.ensures c.mode_after-self.ensures c.in-Ok.ensures.done

pub returns-in-Err-clause-did : goal.returns-in-Err-clause-did
returns-in-Err-clause-did g c limit stop fin there h =
    leaf_fails c.args.scene (g.B.Bank.meaning c.args.bank.now) limit stop fin c.args.self.now _ c.args.out.now h c.requires.elements c.args.place c.args.leaf c.requires.within there _ c.render_leaf.new.out c.in-Err.fault c.fail.new.self _
    c.fail.ensures.fault c.fail.ensures.frames c.fail.ensures.cut c.in-Err.ensures.done
