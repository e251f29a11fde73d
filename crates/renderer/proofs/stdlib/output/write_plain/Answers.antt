use Rattle.renderer.proofs.Writing.{plain_done}
use Rattle.renderer.proofs.stdlib.output.write_plain.Goals as goal

pub returns : goal.returns
returns c fs m d = plain_done c.args.scene fs m c.args.filled c.args.out.now c.write_piece.new.out d c.args.part c.part_in.result.now c.write_piece.result c.part_in.ensures c.write_piece.ensures
