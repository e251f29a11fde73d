use Rattle.std.proofs.Common.{rules, ◌≡◌, ◌∷◌, [], ◌++◌, length, Some, vec_items, sym, refl, ap, ◌∙◌, subst, arith}
use Rattle.nodes.proofs.Options.{front_refl}
use Rattle.arguments.specs.Judging.{passes, seen}
use Rattle.arguments.specs.Values.{read, bare, named_filter}
use Rattle.arguments.specs.Tables.{under, Lies, Grown}
use Rattle.arguments.specs.declared.reader.Reader.{Reader}
use Rattle.arguments.proofs.Chains.{named_says}
use Rattle.arguments.proofs.reader.Reader.push_named.Goals as goal

pub returns-clause-says : goal.returns-clause-says
returns-clause-says c =
    let d = c.args.self.now in
    let p = c.args.word.place in
    let m = c.take_symbol.new.self in
    let e = c.argument_behind.new.self in
    let n : Reader = record e { filters = c.push.new.self } in
    let b = c.in_ok-name.name.now in
    let whole : b ≡ c.args.word.bytes.now = search rules in
    let is : Some b ≡ bare (read (seen p c.args.word.bytes.now)) = search rules in
    let items : vec_items n.filters ≡ vec_items e.filters ++ (record { name = record { place = p; len = length b }; argument = c.in_ok-argument.argument } ∷ []) = c.in_ok-push.ensures.items in
    let pushed : Grown e n =
    record { pool = record { source = refl; names = omega arith; cycles = omega arith; steps = front_refl _; values = front_refl _; filters = record { more = _; is = items } }; names = front_refl _; cycles = front_refl _; values = refl; nodes = refl; mark = refl } in
    let (z, same, colon) = c.in_ok-colon.ensures.says in
    let (a, has, argument) = c.in_ok-argument.ensures.says in
    let (y, there, says) =
    named_says d m e n p b c.in_ok-colon.colon c.in_ok-argument.argument a (subst (Lies d.source.now p) (sym whole) c.requires.lies) c.in_ok-colon.ensures.grown c.in_ok-argument.ensures.grown pushed
    (colon ∙ ap (λ t. passes t (under m)) same) argument has items refl in
    (y, there, subst (λ x. named_filter d.mark p x (under d) ≡ passes y (under n)) is says)
