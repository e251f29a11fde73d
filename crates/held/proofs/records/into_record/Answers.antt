use Rattle.std.proofs.Common.{ap, ◌∙◌, Some}
use Rattle.std.specs.Option.{option_map}
use Rattle.tray.specs.Records.{record_of}
use Rattle.held.specs.Records.{held_in, found_held}
use Rattle.held.specs.Scenes.{host_of}
use Rattle.held.proofs.Finding.{record_stepped}
use Rattle.held.proofs.records.into_record.Goals as goal

pub returns-in_err-found : goal.returns-in_err-found
returns-in_err-found c =
    let h = host_of c.args.tray.now in
    ap (option_map held_in) c.from_residual.ensures ∙ ap (option_map (found_held h)) c.in_err-found.ensures.number ∙ record_stepped h (record_of c.args.tray.now c.args.i) c.args.step

pub returns : goal.returns
returns c =
    let h = host_of c.args.tray.now in
    ap Some c.found_value.ensures ∙ ap (option_map (found_held h)) c.in_ok-found.ensures.number ∙ record_stepped h (record_of c.args.tray.now c.args.i) c.args.step
