use Rattle.std.proofs.Common.{◌≡◌, ◌+◌, [], ◌∷◌, ◌++◌, map, length, vec_items, sym, refl, ap, ◌∙◌, arith, length-append}
use Rattle.std.proofs.lemmas.List.{map-append, length-map}
use Rattle.cutter.specs.Ahead.{ahead}
use Rattle.arguments.specs.Judging.{state, passes, with_cycle}
use Rattle.arguments.specs.Tables.{cycle_of, lists_of, under}
use Rattle.arguments.proofs.Entering.{cycle_found, cycle_full, cycle_new}
use Rattle.arguments.proofs.reader.Reader.enter_cycle.Goals as goal

pub returns-in-Some-clause-says : goal.returns-in-Some-clause-says
returns-in-Some-clause-says c =
    let d = c.args.self.now in
    (c.in-Some.k, (refl, c.in-Some.ensures.below), cycle_found c.args.place (cycle_of c.args.name) (under d) c.requires c.in-Some.k (sym c.in-Some.ensures.is))

pub returns-then-k-ge-CYCLES-clause-says : goal.returns-then-k-ge-CYCLES-clause-says
returns-then-k-ge-CYCLES-clause-says c =
    let d = c.args.self.now in
    cycle_full c.args.place (cycle_of c.args.name) (under d) c.requires (sym c.in_default.ensures.is) (omega (arith, length-map (vec_items d.cycles) cycle_of, c.if-k-ge-CYCLES.true, c.len-k.ensures, d.cycles.ok.0))

pub returns-clause-says : goal.returns-clause-says
returns-clause-says c =
    let d = c.args.self.now in
    let n = cycle_of c.args.name in
    let old = vec_items d.cycles in
    let l = lists_of d in
    let items : vec_items c.push.new.self ≡ old ++ (c.args.name ∷ []) = c.in_ok-push.ensures.items in
    let long : length (map cycle_of old) ≡ c.len-k.result = length-map old cycle_of ∙ sym d.cycles.ok.0 ∙ sym c.len-k.ensures in
    let named : map cycle_of (vec_items c.push.new.self) ≡ map cycle_of old ++ (n ∷ []) = ap (map cycle_of) items ∙ map-append cycle_of old (c.args.name ∷ []) in
    let grew : length (vec_items c.push.new.self) ≡ length old + 1 = ap length items ∙ length-append old (c.args.name ∷ []) in (
      c.len-k.result,
      (refl, omega (arith, grew, long, length-map old cycle_of)),
      cycle_new c.args.place n (under d) c.requires (sym c.in_default.ensures.is) (omega (arith, long, c.if-k-ge-CYCLES.false))
          ∙ ap (λ k. passes k (state (ahead d.cursor) (with_cycle n l))) long
          ∙ ap (λ cs. passes c.len-k.result (state (ahead d.cursor) (record { names = l.names; cycles = cs; nodes = l.nodes; asked = l.asked }))) (sym named),
    )
