use Rattle.std.proofs.Common.{◌≡◌, Some, sym, refl, ap, subst}
use Rattle.arguments.specs.Judging.{passes, went, pure}
use Rattle.arguments.specs.Values.{argument_behind}
use Rattle.arguments.specs.Tables.{under}
use Rattle.arguments.proofs.reader.Reader.argument_behind.Goals as goal

pub returns-in_ok-value-in-Some-clause-says : goal.returns-in_ok-value-in-Some-clause-says
returns-in_ok-value-in-Some-clause-says c =
    let d = c.args.self.now in
    let (y, is, says) = c.in_ok-value-in-Some.ensures.says in
    (Some y, (y, is, refl), subst (λ o. argument_behind d.mark o (under d) ≡ passes (Some y) (under c.value.new.self)) (sym c.in-Some.is) (ap (λ v. went v (λ x. pure (Some x))) says))
