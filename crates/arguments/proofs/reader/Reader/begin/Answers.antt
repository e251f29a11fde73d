use Rattle.std.proofs.Common.{◌-◌, ◌^◌, Err, refl, sym, ap, ◌∙◌, subst, arith}
use Rattle.std.proofs.lemmas.Result.{err_from_is_err_and}
use Rattle.cutter.specs.Words.{verdict}
use Rattle.arguments.specs.Marks.{Begins}
use Rattle.arguments.proofs.Marks.{inside_is, marks_stand}
use Rattle.arguments.specs.Standing.{standing}
use Rattle.arguments.proofs.reader.Reader.begin.Goals as goal

pub invariant_of-self-clause-stands : goal.invariant_of-self-clause-stands
invariant_of-self-clause-stands c = ap (standing c.args.self.now.source.now) c.at-self.ensures.tokens ∙ marks_stand c.at-self.ensures.stand c.args.self.now.source.now c.min-to.result c.saturating_add-from.result

pub returns-in_err-check_from : goal.returns-in_err-check_from
returns-in_err-check_from c =
    let d = c.args.self.now in
    let p = c.args.mark.place in
    let b = c.args.mark.bytes.now in
    let (e, is, gave) = err_from_is_err_and c.from_residual.result c.from_residual.ensures.1 in
    let same = inside_is d.source.now p b (2 ^ 64 - 1) c.saturating_add-from.result c.saturating_add.result c.min-to.result (omega arith) (omega (arith, c.saturating_add-from.ensures)) (omega (arith, c.saturating_add.ensures)) (omega (arith, c.min-to.ensures)) in
    subst (λ r. Begins d p b r d) (sym (is ∙ ap Err gave)) (ap verdict (sym same) ∙ c.in_err-check_from.ensures, refl, refl)

pub returns : goal.returns
returns c =
    let d = c.args.self.now in
    let same = inside_is d.source.now c.args.mark.place c.args.mark.bytes.now (2 ^ 64 - 1) c.saturating_add-from.result c.saturating_add.result c.min-to.result (omega arith) (omega (arith, c.saturating_add-from.ensures)) (omega (arith, c.saturating_add.ensures)) (omega (arith, c.min-to.ensures)) in
    (ap verdict (sym same) ∙ c.in_ok-check_from.ensures, refl, c.at-self.ensures.tokens ∙ same, record { source = refl; names = refl; cycles = refl; steps = refl; values = refl; filters = refl; nodes = refl })
