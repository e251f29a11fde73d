-- What is left of a part under the cutter.
use Rattle.std.specs.Prelude.{◌≡◌, ℕ, ◌-◌, List, take, drop, Some, None, Option, Ok, Err, Result}
use Rattle.cutter.specs.Cuts.{Cut, done, unclosed, text, mark}
use Rattle.cutter.specs.Scan.{scan}
use Rattle.cutter.specs.declared.pieces.Cutter.{Cutter}
use Rattle.cutter.specs.declared.pieces.Piece.{Piece}
use Rattle.cutter.specs.declared.pieces.Piece.TheVariants.{Text, Mark}
use Rattle.cutter.specs.declared.pieces.Unclosed.{Unclosed}

-- the bytes from place i up to place j
abbrev pub slice : List ℕ → ℕ → ℕ → List ℕ
slice src i j = take (j - i) (drop i src)

abbrev pub left : Cutter → Cut
left c = scan c.state c.start (slice c.rest.src.now c.start c.rest.at) (drop c.rest.at c.rest.src.now)

-- what `next` answers, by what was left before and what is left after
abbrev pub Gave : Cut → Result (Option Piece) Unclosed → Cut → Type 0
Gave before (Ok (Some (Text t))) after = before ≡ text t.place t.bytes.now after
Gave before (Ok (Some (Mark kind m))) after = before ≡ mark kind m.place m.bytes.now after
Gave before (Ok None) after = (before ≡ done) × (after ≡ done)
Gave before (Err e) after = (before ≡ unclosed e.place) × (after ≡ before)
