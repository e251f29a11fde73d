use Rattle.std.proofs.Common.{length, ap, ◌∙◌}
use Rattle.std.proofs.lemmas.List.{drop_at, drop-replicate}
use Rattle.arguments.proofs.reader.names.NameBytes.new.Goals as goal

pub invariant_of-result-clause-zeros : goal.invariant_of-result-clause-zeros
invariant_of-result-clause-zeros c =
    let n = length c.args.bytes.now in
    drop_at c.copy_from_slice.new.self _ n (ap length c.copy_from_slice.ensures.after) ∙ drop-replicate n 128 0
