use Rattle.std.proofs.Common.{rules, cond, ap, sym, ◌∙◌, ◌≡◌, false}
use Rattle.std.proofs.lemmas.Iterator.{YieldsList-from_slice}
use Rattle.std.proofs.lemmas.Iterator.Adapters.{position_from-zero}
use Rattle.std.proofs.lemmas.Iterator.Search.{position_from_yields_List}
use Rattle.std.specs.Prelude.{None}
use Rattle.rows.specs.First.{first_from}
use Rattle.nodes.specs.declared.exprs.Part.{Part}
use Rattle.nodes.specs.Books.{spelled, names_in}
use Rattle.tray.specs.Parts.{same_text}
use Rattle.tray.specs.Sound.{reserved}
use Rattle.arguments.proofs.Entering.{first_map, first_position}
use Rattle.renderer.proofs.calls.name_number.Goals as goal

pub returns : goal.returns
returns c =
    let src = c.args.book.source.now in
    let n = c.args.name.now in
    let names = c.args.book.names.now in
    let test = λ (x : Part). same_text n (spelled src x) in
    let free : reserved n ≡ false = sym c.is_reserved.ensures ∙ c.if-is_reserved.false in
    position_from_yields_List test _ _ c.position.result c.position.ensures.ran (YieldsList-from_slice names cc) (λ x b q k. search rules)
    ∙ position_from-zero test names ∙ first_position test 0 names ∙ sym (first_map (same_text n) (spelled src) 0 names)
    ∙ sym (ap (λ b. cond b None (first_from (same_text n) 0 (names_in c.args.book))) free)
