use Rattle.std.proofs.Common.{◌+◌, drop, sym, refl, ap, ◌∙◌, rules, tests}
use Rattle.std.proofs.lemmas.Iterator.{YieldsList-from_slice}
use Rattle.std.proofs.lemmas.Iterator.Consumers.{count_from_yields_List}
use Rattle.std.proofs.lemmas.Iterator.Search.{YieldsList-from_take_while}
use Rattle.std.proofs.lemmas.List.{take_rest}
use Rattle.std.proofs.lemmas.List.Folds.{length-prefix_len}
use Rattle.cutter.specs.Lengths.{has, run_at}
use Rattle.cutter.proofs.Runs.{run_is}
use Rattle.cutter.proofs.places.Place.run.Goals as goal

pub returns : goal.returns
unfolding run_at
returns c =
    let class = c.args.class in
    let rest = drop c.args.self.at c.args.self.src.now in
    let n = count_from_yields_List c.take_while.result c.count-n.result c.count-n.ensures.ran (YieldsList-from_take_while _ (has class) (YieldsList-from_slice rest (ap (λ i. i.rest.now) c.take_while.ensures.source ∙ c.iter.ensures.rest ∙ take_rest c.args.self.src.now c.args.self.at)) c.take_while.ensures.closure c.take_while.ensures.done (λ x b q k. search (rules, tests))) in
    (refl, ap (λ k. c.args.self.at + k) (n ∙ length-prefix_len (has class) rest ∙ sym (run_is class rest)))
