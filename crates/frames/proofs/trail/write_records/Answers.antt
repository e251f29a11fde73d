use Rattle.std.proofs.Common.{◌≡◌, ◌++◌, ◌∙◌, sym, ap, ap₂, set, take, drop, reverse, arith}
use Rattle.frames.specs.declared.frame.TrailRecord.TheVariants.{Blank}
use Rattle.frames.specs.Trails.{trail_for}
use Rattle.frames.proofs.Trails.{written_more, written_all, trail_at, trail_length}
use Rattle.frames.proofs.trail.write_records.Goals as goal

pub loop-k-preserved : goal.loop-k-preserved
loop-k-preserved c =
    let k = c.loop-k.k in
    let fs = reverse c.args.frames.now in
    let e = trail_length fs in
    ap₂ (λ t r. set t k r) c.loop-k.invariant (c.record_at.ensures ∙ sym (trail_at fs k (omega arith)))
    ∙ written_more (trail_for fs) c.args.trail.now k Blank (omega arith) (omega arith)

pub returns-clause-written : goal.returns-clause-written
returns-clause-written c = λ l. (
    let fs = reverse c.args.frames.now in
    let k : c.loop-k.k ≡ 16 = omega arith in
    c.loop-k.invariant ∙ ap (λ n. take n (trail_for fs) ++ drop n c.args.trail.now) k
    ∙ written_all (trail_for fs) c.args.trail.now 16 (trail_length fs))
