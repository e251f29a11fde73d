use Rattle.std.proofs.Common.{rules, ◌≡◌, ◌≢◌, ◌+◌, ◌∷◌, [], length, Some, None, vec_items, ap, ◌∙◌, arith, length-append}
use Rattle.cutter.specs.declared.lengths.Symbol.TheVariants.{Bar}
use Rattle.arguments.specs.Judging.{passes, token_if}
use Rattle.arguments.specs.Values.{symbol_at}
use Rattle.arguments.specs.Tables.{under}
use Rattle.arguments.proofs.Chains.{filtering_none, filtering_count, filtering_more, filtering_end, filtering_many, filtering_wrong}
use Rattle.arguments.proofs.reader.Reader.push_filters.Goals as goal

pub loop-place-init : goal.loop-place-init
loop-place-init c = filtering_none c.args.self.now

pub returns-then-len-from-eq-FILTERS-clause-says : goal.returns-then-len-from-eq-FILTERS-clause-says
returns-then-len-from-eq-FILTERS-clause-says c =
    let d = c.args.self.now in
    let m = c.loop-place.self in
    let n = c.take_symbol.new.self in
    let f = c.loop-place.invariant in
    let h = c.in_ok-place.ensures in
    let (z, same, says) = h.says in
    let bar : token_if (symbol_at Bar) (under m) ≡ passes (Some c.in-Some.place) (under n) = says ∙ ap (λ o. passes o (under n)) (same ∙ c.in-Some.is) in
    let long = filtering_count d m n f h.grown (Some c.in-Some.place) bar in
    filtering_many d m n f h.grown c.in-Some.place bar (omega (arith, long, c.len-from.ensures, c.len.ensures, d.filters.ok.0, n.filters.ok.0, c.if-len-from-eq-FILTERS.true))

pub loop-place-smaller : goal.loop-place-smaller
loop-place-smaller c =
    let d = c.args.self.now in
    let m = c.loop-place.self in
    let n = c.take_symbol.new.self in
    let e = c.push_filter.new.self in
    let f = c.loop-place.invariant in
    let h = c.in_ok-place.ensures in
    let (z, same, says) = h.says in
    let long = filtering_count d m n f h.grown z says in
    let (y, (x, there, is), read) = c.in_ok-push_filter.ensures.says in
    let before = ap length f.is ∙ length-append (vec_items d.filters) f.new in
    let more : length (vec_items e.filters) ≡ length (vec_items n.filters) + 1 = ap length there ∙ length-append (vec_items n.filters) (x ∷ []) in
    omega (arith, before, long, more, f.long, f.all, c.len-from.ensures, c.len.ensures, d.filters.ok.0, n.filters.ok.0, c.if-len-from-eq-FILTERS.false)

pub loop-place-preserved : goal.loop-place-preserved
loop-place-preserved c =
    let d = c.args.self.now in
    let m = c.loop-place.self in
    let n = c.take_symbol.new.self in
    let f = c.loop-place.invariant in
    let h = c.in_ok-place.ensures in
    let (z, same, says) = h.says in
    let bar : token_if (symbol_at Bar) (under m) ≡ passes (Some c.in-Some.place) (under n) = says ∙ ap (λ o. passes o (under n)) (same ∙ c.in-Some.is) in
    let long = filtering_count d m n f h.grown (Some c.in-Some.place) bar in
    let (y, pushed, read) = c.in_ok-push_filter.ensures.says in
    let room : length f.new ≢ 4 = λ q. omega (arith, q, long, c.len-from.ensures, c.len.ensures, d.filters.ok.0, n.filters.ok.0, c.if-len-from-eq-FILTERS.false) in
    filtering_more d m n f h.grown c.push_filter.new.self c.in-Some.place y bar room c.in_ok-push_filter.ensures.grown read pushed

pub returns-in_err-push_filter-clause-says : goal.returns-in_err-push_filter-clause-says
returns-in_err-push_filter-clause-says c =
    let d = c.args.self.now in
    let m = c.loop-place.self in
    let n = c.take_symbol.new.self in
    let f = c.loop-place.invariant in
    let h = c.in_ok-place.ensures in
    let (z, same, says) = h.says in
    let bar : token_if (symbol_at Bar) (under m) ≡ passes (Some c.in-Some.place) (under n) = says ∙ ap (λ o. passes o (under n)) (same ∙ c.in-Some.is) in
    let long = filtering_count d m n f h.grown (Some c.in-Some.place) bar in
    let room : length f.new ≢ 4 = λ q. omega (arith, q, long, c.len-from.ensures, c.len.ensures, d.filters.ok.0, n.filters.ok.0, c.if-len-from-eq-FILTERS.false) in
    let wrong = filtering_wrong d m n f h.grown c.in_err-push_filter.field-0.0 c.in-Some.place bar room c.in_err-push_filter.ensures.says in
    search rules

pub returns-clause-says : goal.returns-clause-says
returns-clause-says c =
    let d = c.args.self.now in
    let m = c.loop-place.self in
    let n = c.take_symbol.new.self in
    let e = c.finish.new.self in
    let f = c.loop-place.invariant in
    let h = c.in_ok-place.ensures in
    let (z, same, says) = h.says in
    let bar : token_if (symbol_at Bar) (under m) ≡ passes None (under n) = says ∙ ap (λ o. passes o (under n)) (same ∙ c.in_default.is) in
    let (u, unit, end) = c.in_ok-finish.ensures.says in
    filtering_end d m n f h.grown e c.len-from.result _ bar c.in_ok-finish.ensures.grown end (c.len-from.ensures ∙ d.filters.ok.0) (omega (arith, c.len-2.ensures, e.filters.ok.0))
