use Rattle.std.proofs.Common.{◌≡◌, true, false, rules}
use borrow.Author.Tests.{tests}
use Rattle.std.specs.List.{slice_get}
use Rattle.std.proofs.lemmas.Iterator.{first_from_Range}
use Rattle.rows.proofs.Firsts.{test_of, found}
use Rattle.rows.proofs.search.first_match.Goals as goal

pub returns : goal.returns
returns g c =
    let p = λ (x : g.row.T.Denot). g.E.Equality.equals c.args.equality.now x c.args.target.now in
    let xs = g.R.Row.items c.args.row.now in
    let f = first_from_Range _ _ _ c.find.result (λ i. test_of p (slice_get xs i) ≡ true) (λ i. test_of p (slice_get xs i) ≡ false) c.find.ensures.ran (λ x q k. search (rules, tests)) (λ x q k. search (rules, tests)) in
    let s = found p xs _ c.find.result c.count.ensures f in
    record { place = s.0; first = s.1 }
