use Rattle.std.proofs.Common.{◌-◌, ◌∙◌, sym, ap, [], arith}
use Rattle.std.specs.Option.{option_map, option_or}
use Rattle.meaning.specs.Frames.{nearest_table}
use Rattle.frames.specs.Views.{frames_of, loop_of}
use Rattle.frames.proofs.Opened.{opened}
use Rattle.frames.proofs.Looking.{table_last}
use Rattle.frames.proofs.stack.Frames.nearest_table.Goals as goal

pub loop-k-preserved : goal.loop-k-preserved
loop-k-preserved c =
    let t = c.args.self.now.table in
    let k = c.loop-k.k in
    record {
      within = omega arith;
      rest = λ h. (
          let o = nearest_table (frames_of h (opened (k - 1) t)) in
          sym (table_last h t k _ c.loop-k-test.true (omega arith) ∙ c.table_object.ensures [] o ∙ ap (λ r. option_or (option_map (loop_of []) r) o) c.in_default.is)
          ∙ c.loop-k.invariant.rest h);
    }
