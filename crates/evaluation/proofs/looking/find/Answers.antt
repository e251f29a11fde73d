use Rattle.std.proofs.Common.{sym, subst}
use Rattle.drawers.specs.Shown.{shows}
use Rattle.held.specs.Scenes.{host_in}
use Rattle.evaluation.specs.Values.{Found}
use Rattle.evaluation.proofs.Founds.{found_for, found_table, found_name}
use Rattle.evaluation.proofs.looking.find.Goals as goal

pub returns-in-Forloop : goal.returns-in-Forloop
returns-in-Forloop c =
    subst (λ h. Found c.args.scene c.args.frames.now (shows c.args.drawers.now) h c.looped.result) (sym c.in-Forloop.is)
    (found_for c.args.scene c.args.frames.now (shows c.args.drawers.now) c.nearest_for.result c.looped.result (c.nearest_for.ensures (host_in c.args.scene)) c.looped.ensures)

pub returns-in-Tablerowloop : goal.returns-in-Tablerowloop
returns-in-Tablerowloop c =
    subst (λ h. Found c.args.scene c.args.frames.now (shows c.args.drawers.now) h c.looped-in-Tablerowloop.result) (sym c.in-Tablerowloop.is)
    (found_table c.args.scene c.args.frames.now (shows c.args.drawers.now) c.nearest_table.result c.looped-in-Tablerowloop.result (c.nearest_table.ensures (host_in c.args.scene)) c.looped-in-Tablerowloop.ensures)

pub returns-in-Name : goal.returns-in-Name
returns-in-Name c =
    subst (λ h. Found c.args.scene c.args.frames.now (shows c.args.drawers.now) h c.valued.result) (sym c.in-Name.is)
    (found_name c.args.scene c.args.frames.now (shows c.args.drawers.now) c.in-Name.n c.named.result c.valued.result c.named.ensures c.valued.ensures)
