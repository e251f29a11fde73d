-- The laws are proved in proofs/Laws.antt.
use Rattle.meaning.proofs.Laws.{rendering_only_adds, tickets_are_whole}
use Rattle.meaning.proofs.text_stands.Goals as goal

pub returns : goal.returns
returns c = record { adds = rendering_only_adds; whole = tickets_are_whole }
