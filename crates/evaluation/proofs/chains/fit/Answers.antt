use Rattle.std.proofs.Common.{ap, sym, ◌∙◌}
use Rattle.held.specs.Records.{held_in}
use Rattle.meaning.specs.Chains.{fit}
use Rattle.evaluation.proofs.Filtered.{fits_short}
use Rattle.evaluation.proofs.chains.fit.Goals as goal

pub returns-in_ok-new-in-Text : goal.returns-in_ok-new-in-Text
returns-in_ok-new-in-Text c = fits_short c.in_ok-new-in-Text.field-0 c.in-Text.bytes.now c.in_ok-new-in-Text.ensures ∙ sym (ap (λ v. fit (held_in v)) c.in-Text.is)
