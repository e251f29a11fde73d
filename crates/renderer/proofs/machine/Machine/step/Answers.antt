use Rattle.renderer.proofs.machine.Machine.step.Goals as goal

pub returns-in-Closing-clause-did : goal.returns-in-Closing-clause-did
returns-in-Closing-clause-did g c limit stop fin h = c.close_block.ensures.did c.args.scene (g.B.Bank.meaning c.args.bank.now) limit stop fin c.in-Closing.is h
