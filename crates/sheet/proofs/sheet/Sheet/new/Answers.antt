use Rattle.std.proofs.Common.{◌≤◌, length, drop, take, ap, ◌∙◌, arith}
use Rattle.std.proofs.lemmas.List.{drop_all}
use Rattle.cutter.specs.Cuts.{Cut}
use Rattle.cutter.proofs.Filled.{ends}
use Rattle.arguments.specs.Standing.{standing}
use Rattle.sheet.proofs.sheet.Sheet.new.Goals as goal

pub invariant_of-result : goal.invariant_of-result
invariant_of-result c =
    record {
      few_names = omega (arith, c.new.ensures.len);
      few_cycles = omega (arith, c.new-2.ensures.len);
      stands = ap (standing c.args.text.now) (c.at.ensures.tokens ∙ ends c.args.text.now (length c.args.text.now) (omega arith));
    }
