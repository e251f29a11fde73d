use Rattle.std.proofs.Common.{ap, sym, ◌∙◌}
use Rattle.std.specs.Option.{option_map}
use Rattle.drawers.specs.Shown.{shows, held_of}
use Rattle.meaning.specs.Things.{name, altered, with_variable}
use Rattle.renderer.proofs.Endings.{kept, unkept, was_given, was_not_given}
use Rattle.renderer.proofs.stdlib.blocks.capture_block.keep_text.Goals as goal

pub returns-in_default : goal.returns-in_default
returns-in_default c p e f few le =
    let long = was_not_given _ _ (sym (ap (option_map held_of) c.in_default.is) ∙ c.keep.ensures) in
    unkept c.args.target p c.args.mark e f _ c.args.filled _ c.args.out.now _ (c.text_from-text.ensures le) le c.min-filled.ensures long

pub returns : goal.returns
returns c p e f few le =
    let (short, is) = was_given _ _ _ (sym (ap (option_map held_of) c.in-Some.is) ∙ c.keep.ensures) in
    kept c.args.target p c.args.mark e f _ c.args.filled _ c.args.out.now _ (c.text_from-text.ensures le) le c.min-filled.ensures short _
    (c.set_variable.ensures.set few ∙ ap (λ v. altered (name c.args.target) (with_variable v) (shows c.args.drawers.now)) is)
