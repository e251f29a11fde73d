use Rattle.std.proofs.Common.{ap, sym, ◌∙◌}
use Rattle.tray.specs.Parts.{same_text}
use Rattle.renderer.proofs.Endings.{same_shown, other_shown, unshown}
use Rattle.renderer.proofs.stdlib.blocks.ifchanged_block.show_text.Goals as goal

pub returns-then-not-set_changed : goal.returns-then-not-set_changed
returns-then-not-set_changed c p e f le =
    let long = sym c.set_changed.ensures.fits ∙ c.if-not-set_changed.true in
    unshown p c.args.mark e f _ c.args.filled _ c.args.out.now _ (c.text_from-text.ensures le) le c.min-cut.ensures long _ (c.set_changed.ensures.same c.if-not-set_changed.true)

pub returns-then-same : goal.returns-then-same
returns-then-same c p e f le =
    let short = sym c.set_changed.ensures.fits ∙ c.if-not-set_changed.false in
    let same = ap (λ t. same_text t c.text_from-text.result.now) (sym c.changed.ensures) ∙ sym c.same_text-same.ensures ∙ c.if-same.true in
    same_shown p c.args.mark e f _ c.args.filled _ c.args.out.now _ (c.text_from-text.ensures le) le c.min-cut.ensures short same _ (c.set_changed.ensures.set c.if-not-set_changed.false)

pub returns-else-same : goal.returns-else-same
returns-else-same c p e f le =
    let short = sym c.set_changed.ensures.fits ∙ c.if-not-set_changed.false in
    let same = ap (λ t. same_text t c.text_from-text.result.now) (sym c.changed.ensures) ∙ sym c.same_text-same.ensures ∙ c.if-same.false in
    other_shown p c.args.mark e f _ c.args.filled _ c.args.out.now _ (c.text_from-text.ensures le) le c.min-cut.ensures short same _ (c.set_changed.ensures.set c.if-not-set_changed.false)
