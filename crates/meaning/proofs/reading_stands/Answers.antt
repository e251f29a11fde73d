-- The laws are proved in proofs/Reading.antt.
use Rattle.meaning.proofs.Reading.{steps_agree, rows_agree, read_again_is_there}
use Rattle.meaning.proofs.reading_stands.Goals as goal

pub returns : goal.returns
returns c = record { steps = steps_agree; rows = rows_agree; again = read_again_is_there }
