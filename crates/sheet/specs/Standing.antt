-- Pieces that stand in the source at their places.
use Rattle.std.specs.Prelude.{ℕ, ◌+◌, Bool, true, ◌&&◌, List}
use Rattle.cutter.specs.Cuts.{Cut, done, unclosed, text, mark}
use Rattle.arguments.specs.Standing.{stands_at}

abbrev pub pieces_stand : List ℕ → Cut → Bool
pieces_stand source done = true
pieces_stand source (unclosed p) = true
pieces_stand source (text p b c) = stands_at source p b && pieces_stand source c
pieces_stand source (mark k p b c) = stands_at source (p + 2) b && pieces_stand source c
