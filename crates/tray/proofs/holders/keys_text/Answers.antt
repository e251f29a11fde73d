use Rattle.std.proofs.Common.{refl, arith}
use Rattle.std.proofs.lemmas.Bool.{false≢true}
use Rattle.tray.specs.Sound.{Keyed}
use Rattle.tray.proofs.Walks.{span_inside, keys_none, keys_more, keys_all, as_read, keys_here}
use Rattle.tray.proofs.holders.keys_text.Goals as goal
use Rattle.tray.proofs.holders.keys_text.Goals.{in-Object+else-not-keys_at, in_default}

pub loop-record-init : goal.loop-record-init
loop-record-init c = keys_none _

pub keys_at-requires : goal.keys_at-requires
keys_at-requires c = span_inside c.requires _ _ c.in-Object.is

pub returns-then-not-keys_at : goal.returns-then-not-keys_at
returns-then-not-keys_at c = (λ e. absurd (false≢true e), λ s. c.if-not-keys_at.ensures.1 (keys_here _ s _ _ c.in-Object.is))

pub loop-record-preserved : goal.loop-record-preserved
loop-record-preserved c =
    keys_more c.loop-record.invariant
    (λ s e. elim c.match-record.branch [ in-Object+else-not-keys_at w ↦ as_read (λ t. Keyed c.args.records.now t.first t.count) _ _ s w.in-Object.is e (w.if-not-keys_at.ensures.0 refl) | in_default w ↦ absurd (w.in_default.not-Object s e) ])

pub returns : goal.returns
returns c = (λ _. keys_all c.loop-record.invariant (omega arith), λ _. refl)
