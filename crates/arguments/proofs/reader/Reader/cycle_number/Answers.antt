use Rattle.std.proofs.Common.{rules, vec_items, sym, ◌∙◌}
use Rattle.std.proofs.lemmas.Iterator.{YieldsList-from_slice}
use Rattle.std.proofs.lemmas.Iterator.Adapters.{position_from-zero}
use Rattle.std.proofs.lemmas.Iterator.Search.{position_from_yields_List}
use Rattle.arguments.specs.declared.reader.CycleName.{CycleName}
use Rattle.arguments.specs.Judging.{same_cycle}
use Rattle.arguments.specs.Tables.{cycle_of}
use Rattle.arguments.proofs.Entering.{first_map, first_position}
use Rattle.arguments.proofs.reader.Reader.cycle_number.Goals as goal

pub returns-clause-is : goal.returns-clause-is
returns-clause-is c =
    let cycles = vec_items c.args.self.now.cycles in
    let name = cycle_of c.args.name in
    let test = λ (x : CycleName). same_cycle (cycle_of x) name in
    position_from_yields_List test _ _ c.position.result c.position.ensures.ran (YieldsList-from_slice cycles cc) (λ x b q k. search rules)
    ∙ position_from-zero test cycles ∙ first_position test 0 cycles ∙ sym (first_map (λ d. same_cycle d name) cycle_of 0 cycles)
