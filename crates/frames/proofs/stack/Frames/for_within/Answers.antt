use Rattle.std.proofs.Common.{◌-◌, ◌∙◌, sym, ap, length, drop, arith}
use Rattle.std.specs.Option.{option_map, option_or}
use Rattle.meaning.specs.Frames.{nearest_for}
use Rattle.frames.specs.Views.{around_in, loop_of}
use Rattle.frames.proofs.Looking.{for_last}
use Rattle.frames.proofs.stack.Frames.for_within.Goals as goal

pub loop-k-preserved : goal.loop-k-preserved
loop-k-preserved c =
    let s = c.args.self.now in
    let k = c.loop-k.k in
    record {
      within = omega arith;
      rest = λ h. (
          let all = around_in h s in
          let o = nearest_for (drop (length all - (k - 1)) all) in
          sym (for_last h s.table s.depth (omega arith) k _ c.loop-k-test.true c.loop-k.invariant.within ∙ c.for_object.ensures all o ∙ ap (λ r. option_or (option_map (loop_of all) r) o) c.in_default.is)
          ∙ c.loop-k.invariant.rest h);
    }

pub returns-in-Some : goal.returns-in-Some
returns-in-Some c = λ h. (
    let s = c.args.self.now in
    let k = c.loop-k.k in
    let all = around_in h s in
    let o = nearest_for (drop (length all - (k - 1)) all) in
    sym (for_last h s.table s.depth (omega arith) k _ c.loop-k-test.true c.loop-k.invariant.within ∙ c.for_object.ensures all o ∙ ap (λ r. option_or (option_map (loop_of all) r) o) c.in-Some.is)
    ∙ c.loop-k.invariant.rest h)
