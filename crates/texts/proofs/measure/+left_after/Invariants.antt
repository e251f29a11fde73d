use Rattle.std.proofs.Common.{◌-◌}
use Rattle.values.specs.Value.{written}
use Rattle.values.specs.Meaning.{value_of, count_of}
use Rattle.texts.proofs.LeafTexts.{Walking}
use Rattle.texts.proofs.Sums.{Left}
use Rattle.texts.proofs.measure.+left_after.Given as goal

-- the distance to the last record falls
abbrev pub decreases-left_after : goal.decreases-left_after
decreases-left_after l = count_of l.tray.now - l.i

abbrev pub invariant-loop-c : goal.invariant-loop-c
invariant-loop-c l =
    Walking l.initial.c-iterator.start l.initial.c-iterator.end l.c-iterator.start l.c-iterator.end
    × Left (value_of l.tray) (written (value_of l.tray l.i)) l.room l.c-iterator.start l.c-iterator.end l.left
