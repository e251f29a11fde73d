use Rattle.std.proofs.Common.{rules}
use Rattle.tray.specs.Sound.{HeldOnce}
use Rattle.tray.proofs.Walks.{span_inside}
use Rattle.tray.proofs.judging.sound.Goals as goal

pub names_free-requires : goal.names_free-requires
names_free-requires c =
    let held : HeldOnce c.args.records.now = search rules in
    span_inside held 0 _ (search rules)
