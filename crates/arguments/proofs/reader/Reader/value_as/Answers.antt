use Rattle.std.proofs.Common.{rules, ◌≡◌, ◌+◌, Some, [], length, sym, refl, ap, ◌∙◌, subst}
use Rattle.std.specs.Option.{option_map}
use Rattle.cutter.specs.Paths.{steps_of}
use Rattle.cutter.specs.Tokens.{token_of, Parts}
use Rattle.tree.specs.Expressions.{boolean_literal, number_literal, text_literal}
use Rattle.nodes.specs.Exprs.{expr_of}
use Rattle.arguments.specs.Values.{a_path, value_as}
use Rattle.arguments.specs.Tables.{part_in, pool_of, under}
use Rattle.arguments.specs.Reading.{Exprs}
use Rattle.arguments.proofs.Chaining.{part_bytes, said_same}
use Rattle.arguments.proofs.Lying.{lies_text, lies_front, lies_back}
use Rattle.arguments.proofs.reader.Reader.value_as.Goals as goal

pub returns-in-Boolean-clause-says : goal.returns-in-Boolean-clause-says
unfolding value_as expr_of
returns-in-Boolean-clause-says c = (boolean_literal c.in-Boolean.b, refl, ap (λ t. value_as c.args.place c.args.word.place t (under c.args.self.now)) (sym c.in-Boolean.ensures.reads))

pub returns-in-Number-clause-says : goal.returns-in-Number-clause-says
unfolding value_as expr_of
returns-in-Number-clause-says c = (number_literal c.in-Number.n, ap (λ z. Some (number_literal z)) (search rules), ap (λ t. value_as c.args.place c.args.word.place t (under c.args.self.now)) (sym c.in-Number.ensures.reads))

pub returns-in-Text-clause-says : goal.returns-in-Text-clause-says
unfolding value_as expr_of
returns-in-Text-clause-says c =
    let d = c.args.self.now in
    let p = c.args.word.place in
    let bs = c.args.word.bytes.now in
    let t = c.in-Text.t.now in
    let e = c.in-Text.ensures in
    let (fits, is) = subst (Parts p bs) (sym e.reads) (e.parts p bs) in
    (text_literal t, ap (option_map text_literal) (part_bytes d.source.now (p + 1) t (lies_text d.source.now p bs c.requires.lies t fits is)), ap (λ r. value_as c.args.place p r (under d)) (sym e.reads))

pub returns-in-Name-clause-says : goal.returns-in-Name-clause-says
unfolding value_as
returns-in-Name-clause-says c =
    let d = c.args.self.now in
    let p = c.args.word.place in
    let bs = c.args.word.bytes.now in
    let n = c.in-Name.n.now in
    let e = c.in-Name.ensures in
    let is = subst (Parts p bs) (sym e.reads) (e.parts p bs) in
    let spelt : n ≡ part_in d.source.now (record { place = p; len = length n }) = is ∙ c.requires.lies.is ∙ ap (λ b. part_in d.source.now (record { place = p; len = length b })) (sym is) in
    said_same c.bare_path.result (a_path c.args.place (part_in d.source.now (record { place = p; len = length n })) [] (under d)) (value_as c.args.place p (token_of p bs) (under d)) (Exprs (pool_of c.bare_path.new.self)) (under c.bare_path.new.self) (ap (λ r. value_as c.args.place p r (under d)) (sym e.reads) ∙ ap (λ x. a_path c.args.place x [] (under d)) spelt) c.bare_path.ensures.says

pub path-requires : goal.path-requires
path-requires c =
    let p = c.args.word.place in
    let bs = c.args.word.bytes.now in
    let e = c.in-Path.ensures in
    record { lies = lies_back c.args.self.now.source.now p bs c.requires.lies c.in-Path.n.now c.in-Path.steps.now (subst (Parts p bs) (sym e.reads) (e.parts p bs)) }

pub returns-in-Path-clause-says : goal.returns-in-Path-clause-says
unfolding value_as
returns-in-Path-clause-says c =
    let d = c.args.self.now in
    let p = c.args.word.place in
    let bs = c.args.word.bytes.now in
    let n = c.in-Path.n.now in
    let ss = steps_of (p + length n) c.in-Path.steps.now in
    let e = c.in-Path.ensures in
    let is = subst (Parts p bs) (sym e.reads) (e.parts p bs) in
    let spelt : n ≡ part_in d.source.now (record { place = p; len = length n }) = (lies_front d.source.now p bs c.requires.lies n c.in-Path.steps.now is).is in
    said_same c.path.result (a_path c.args.place (part_in d.source.now (record { place = p; len = length n })) ss (under d)) (value_as c.args.place p (token_of p bs) (under d)) (Exprs (pool_of c.path.new.self)) (under c.path.new.self) (ap (λ r. value_as c.args.place p r (under d)) (sym e.reads) ∙ ap (λ x. a_path c.args.place x ss (under d)) spelt) c.path.ensures.says
