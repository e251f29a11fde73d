use Rattle.std.proofs.Common.{sym, ◌∙◌}
use Rattle.tray.specs.Records.{record_of}
use Rattle.held.specs.Scenes.{host_of}
use Rattle.renderer.proofs.Rows.{array_row, object_row}
use Rattle.renderer.proofs.stdlib.blocks.for_block.record_row.Goals as goal

pub returns-in_ok-items_of-in-Array : goal.returns-in_ok-items_of-in-Array
returns-in_ok-items_of-in-Array c =
    array_row (host_of c.args.tray.now) (record_of c.args.tray.now c.args.i) c.in-Array.field-0 c.in_ok-items_of-in-Array.field-0 (sym c.record.ensures ∙ c.in-Array.is) c.in_ok-items_of-in-Array.ensures.number

pub returns-in_ok-pairs_of-in-Object : goal.returns-in_ok-pairs_of-in-Object
returns-in_ok-pairs_of-in-Object c =
    object_row (host_of c.args.tray.now) (record_of c.args.tray.now c.args.i) c.in-Object.field-0 c.in_ok-pairs_of-in-Object.field-0 (sym c.record.ensures ∙ c.in-Object.is) c.in_ok-pairs_of-in-Object.ensures.number
