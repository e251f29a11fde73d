use Rattle.std.proofs.Common.{arith, ap, ◌∙◌, ◌-◌, ◌≡◌}
use Rattle.frames.proofs.Opened.{opened, opened_less}
use Rattle.frames.proofs.stack.Frames.close.Goals as goal

pub returns : goal.returns
returns c =
    let s = c.args.self.now in
    let e : c.saturating_sub-self.result ≡ s.depth - 1 = omega arith in
    ap (λ n. opened n s.table) e ∙ opened_less s.table s.depth (omega arith)
