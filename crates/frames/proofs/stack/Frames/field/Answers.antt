use Rattle.std.proofs.Common.{w64, SFits, rules, arith, ap}
use Rattle.std.proofs.lemmas.Int.{to_z-of_z}
use Rattle.meaning.specs.Frames.{field}
use Rattle.frames.specs.Views.{around_in, loop_of}
use Rattle.frames.proofs.Found.{table_is}
use Rattle.frames.proofs.stack.Frames.field.Goals as goal

pub returns-in-Table : goal.returns-in-Table
returns-in-Table c = λ h. (
    let t = c.in-Table in
    let fits : SFits w64 t.cols = search rules in
    let e = to_z-of_z w64 t.cols fits in
    let f = table_is (around_in h c.args.self.now) t.cols t.count t.index c.args.key.now in
    let g = ap (λ l. field (loop_of (around_in h c.args.self.now) l) c.args.key.now) t.is in
    let q = c.or_else-in-Table.ensures in
    grind (arith, to_z-of_z))
