use Rattle.std.proofs.Common.{rules, vec_items, sym, ◌∙◌}
use Rattle.std.proofs.lemmas.Iterator.{YieldsList-from_slice}
use Rattle.std.proofs.lemmas.Iterator.Adapters.{position_from-zero}
use Rattle.std.proofs.lemmas.Iterator.Search.{position_from_yields_List}
use Rattle.nodes.specs.declared.exprs.Part.{Part}
use Rattle.tray.specs.Parts.{same_text}
use Rattle.arguments.specs.Tables.{part_in}
use Rattle.arguments.proofs.Entering.{first_map, first_position}
use Rattle.arguments.proofs.reader.Reader.number_of.Goals as goal

pub returns-clause-is : goal.returns-clause-is
returns-clause-is c =
    let d = c.args.self.now in
    let src = d.source.now in
    let n = c.args.name.now in
    let names = vec_items d.names in
    let test = λ (x : Part). same_text (part_in src x) n in
    position_from_yields_List test _ _ c.position.result c.position.ensures.ran (YieldsList-from_slice names cc) (λ x b q k. search rules)
    ∙ position_from-zero test names ∙ first_position test 0 names ∙ sym (first_map (λ m. same_text m n) (part_in src) 0 names)
