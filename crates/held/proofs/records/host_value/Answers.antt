use Rattle.std.proofs.Common.{ap, ◌∙◌, Some}
use Rattle.std.specs.Option.{option_map}
use Rattle.tray.specs.Records.{record_of}
use Rattle.meaning.specs.Hosts.{record_at}
use Rattle.held.specs.Records.{held_in}
use Rattle.held.specs.Scenes.{host_of}
use Rattle.held.proofs.Finding.{member_held}
use Rattle.held.proofs.records.host_value.Goals as goal

pub returns-in_err-i : goal.returns-in_err-i
returns-in_err-i c =
    let h = host_of c.args.tray.now in
    ap (option_map held_in) c.from_residual.ensures ∙ ap (option_map (record_at h)) c.in_err-i.ensures.number ∙ member_held h (record_of c.args.tray.now 0) c.args.name.now

pub returns : goal.returns
returns c =
    let h = host_of c.args.tray.now in
    ap Some c.record_value.ensures ∙ ap (option_map (record_at h)) c.in_ok-i.ensures.number ∙ member_held h (record_of c.args.tray.now 0) c.args.name.now
