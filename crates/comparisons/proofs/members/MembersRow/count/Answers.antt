use Rattle.std.proofs.Common.{sym}
use Rattle.std.proofs.lemmas.List.FromFn.{length-map-range_with_len}
use Rattle.comparisons.proofs.members.MembersRow.count.Goals as goal

pub returns : goal.returns
returns c = sym (length-map-range_with_len _ 0 _)
