-- What is left of an inside under the cursor.
use Rattle.std.specs.Prelude.{◌≡◌, Some, None, Ok, Err, Option, Result}
use Rattle.cutter.specs.Words.{Words, over, wrong, word, words_from, verdict}
use Rattle.cutter.specs.declared.tokens.Cursor.{Cursor}
use Rattle.cutter.specs.declared.places.Placed.{Placed}
use Rattle.cutter.specs.declared.tokens.NoToken.{NoToken}

abbrev pub ahead : Cursor → Words
ahead c = words_from c.rest.src.now c.rest.at

-- what `next` answers, by what was ahead before and what is ahead after
abbrev pub Took : Words → Result (Option Placed) NoToken → Words → Type 0
Took before (Ok None) after = (before ≡ over) × (after ≡ over)
Took before (Ok (Some w)) after = before ≡ word w.place w.bytes.now after
Took before (Err e) after = (before ≡ wrong e.place) × (after ≡ before)

-- what `peek` answers, by what is ahead
abbrev pub Sees : Words → Result (Option Placed) NoToken → Type 0
Sees now (Ok None) = now ≡ over
Sees now (Ok (Some w)) = (rest : Words) × (now ≡ word w.place w.bytes.now rest)
Sees now (Err e) = now ≡ wrong e.place

-- what `check` answers, by the tokens of the inside
abbrev pub Judged : Words → Result (Prim.Unit {0}) NoToken → Type 0
Judged w (Ok u) = verdict w ≡ None
Judged w (Err e) = verdict w ≡ Some e.place
