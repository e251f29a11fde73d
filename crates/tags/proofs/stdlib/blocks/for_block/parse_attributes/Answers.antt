use Rattle.std.proofs.Common.{rules, ◌≡◌, Some, None, arith}
use Rattle.arguments.specs.Judging.{token_if, seen}
use Rattle.arguments.specs.Values.{read, bare}
use Rattle.arguments.specs.Tables.{pool_of, under}
use Rattle.arguments.proofs.Tokens.{given_word, given_none}
use Rattle.tags.specs.Loops.{attribute_of}
use Rattle.tags.proofs.Loops.{settings_wider, attribute_fewer, token_fewer, attributing_none, attributing_end, attributing_wrong, attributing_none_named, attributing_stop, attributing_more}
use Rattle.tags.proofs.stdlib.blocks.for_block.parse_attributes.Goals as goal

pub loop-word-init : goal.loop-word-init
loop-word-init c = attributing_none c.args.which c.args.reader.now

pub returns-in_err-word-clause-says : goal.returns-in_err-word-clause-says
returns-in_err-word-clause-says c =
    let d = c.args.reader.now in
    let l = c.args.which in
    let m = c.loop-word.reader in
    let n = c.next_word.new.self in
    let x = c.loop-word.attributes in
    let f = c.loop-word.invariant in
    let wrong = attributing_wrong l d m n x f c.in_err-word.ensures.grown c.in_err-word.field-0.0 c.in_err-word.ensures.says in
    search rules

pub returns-in_err-attribute-clause-says : goal.returns-in_err-attribute-clause-says
returns-in_err-attribute-clause-says c =
    let d = c.args.reader.now in
    let l = c.args.which in
    let m = c.loop-word.reader in
    let n = c.next_word.new.self in
    let x = c.loop-word.attributes in
    let f = c.loop-word.invariant in
    let h = c.in_ok-word.ensures in
    let (o, shown, says) = h.says in
    let w = seen c.in-Some.word.place c.in-Some.word.bytes.now in
    let taken = given_word m.source.now c.in_ok-word.field-0 c.in-Some.word o (token_if Some (under m)) (under n) shown c.in-Some.is says in
    let none : attribute_of l (bare (read w)) ≡ None = search rules in
    let wrong = attributing_none_named l d m n x f h.grown w taken none in
    search rules

pub returns-in_err-attributes-clause-says : goal.returns-in_err-attributes-clause-says
returns-in_err-attributes-clause-says c =
    let d = c.args.reader.now in
    let l = c.args.which in
    let m = c.loop-word.reader in
    let n = c.next_word.new.self in
    let x = c.loop-word.attributes in
    let f = c.loop-word.invariant in
    let h = c.in_ok-word.ensures in
    let (o, shown, says) = h.says in
    let w = seen c.in-Some.word.place c.in-Some.word.bytes.now in
    let taken = given_word m.source.now c.in_ok-word.field-0 c.in-Some.word o (token_if Some (under m)) (under n) shown c.in-Some.is says in
    let t = c.in_ok-attribute.attribute in
    let named : attribute_of l (bare (read w)) ≡ Some t = search rules in
    let before = settings_wider (pool_of m) (pool_of n) h.grown.pool x f.found f.is in
    let wrong = attributing_stop l d m n x f h.grown w taken t named c.in_err-attributes.field-0.0 (c.in_err-attributes.ensures.says f.found before) in
    search rules

pub loop-word-smaller : goal.loop-word-smaller
loop-word-smaller c =
    let d = c.args.reader.now in
    let l = c.args.which in
    let m = c.loop-word.reader in
    let n = c.next_word.new.self in
    let x = c.loop-word.attributes in
    let f = c.loop-word.invariant in
    let h = c.in_ok-word.ensures in
    let (o, shown, says) = h.says in
    let w = seen c.in-Some.word.place c.in-Some.word.bytes.now in
    let taken = given_word m.source.now c.in_ok-word.field-0 c.in-Some.word o (token_if Some (under m)) (under n) shown c.in-Some.is says in
    let before = settings_wider (pool_of m) (pool_of n) h.grown.pool x f.found f.is in
    let (y, is, with) = c.in_ok-attributes.ensures.says f.found before in
    omega (arith, token_fewer (under m) (under n) w taken, attribute_fewer n.mark f.found c.in_ok-attribute.attribute (under n) y (under c.with_attribute.new.reader) with)

pub loop-word-preserved : goal.loop-word-preserved
loop-word-preserved c =
    let d = c.args.reader.now in
    let l = c.args.which in
    let m = c.loop-word.reader in
    let n = c.next_word.new.self in
    let x = c.loop-word.attributes in
    let f = c.loop-word.invariant in
    let h = c.in_ok-word.ensures in
    let (o, shown, says) = h.says in
    let w = seen c.in-Some.word.place c.in-Some.word.bytes.now in
    let taken = given_word m.source.now c.in_ok-word.field-0 c.in-Some.word o (token_if Some (under m)) (under n) shown c.in-Some.is says in
    let t = c.in_ok-attribute.attribute in
    let named : attribute_of l (bare (read w)) ≡ Some t = search rules in
    let before = settings_wider (pool_of m) (pool_of n) h.grown.pool x f.found f.is in
    let (y, is, with) = c.in_ok-attributes.ensures.says f.found before in
    attributing_more l d m n x f h.grown w taken t named c.with_attribute.new.reader c.in_ok-attributes.attributes y c.in_ok-attributes.ensures.grown is with

pub returns-clause-says : goal.returns-clause-says
returns-clause-says c =
    let d = c.args.reader.now in
    let l = c.args.which in
    let m = c.loop-word.reader in
    let n = c.next_word.new.self in
    let x = c.loop-word.attributes in
    let f = c.loop-word.invariant in
    let h = c.in_ok-word.ensures in
    let (o, shown, says) = h.says in
    attributing_end l d m n x f h.grown (given_none m.source.now c.in_ok-word.field-0 o (token_if Some (under m)) (under n) shown c.in_default.is says)
