use Rattle.std.proofs.Common.{sym}
use Rattle.banks.proofs.Fetching.{no_phrase, a_text_record}
use Rattle.banks.proofs.phrases.phrase_at.Goals as goal

pub returns-in_default : goal.returns-in_default
returns-in_default c = sym (no_phrase c.args.tray.now c.args.i c.record.result c.record.ensures c.in_default.not-Text)

pub returns : goal.returns
returns c = a_text_record c.args.tray.now c.args.i c.in-Text.field-0 c.text_of.result.now c.new.result c.in-Text.ensures c.text_of.ensures c.new.ensures
