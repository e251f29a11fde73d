-- What joining does to meanings.
use Rattle.std.specs.Prelude.{◌≡◌, ℕ, List, Option}
use Rattle.banks.specs.Meaning.{Meaning, Lawful}
use Rattle.banks.specs.Operands.{Datum}
use Rattle.banks.specs.Joined.{joined, nothing}

-- two meanings agree at every name, input and argument
pub record Agree (m n : Meaning) : Type 0 where
  pub known : (name : List ℕ) → m.known name ≡ n.known name
  pub gives : (name : List ℕ) (input : Datum) (argument : Option Datum) → m.gives name input argument ≡ n.gives name input argument

-- it does not matter which of three banks are joined first
abbrev pub JoiningIsAssociative : Type 0
JoiningIsAssociative = (a b c : Meaning) → Agree (joined (joined a b) c) (joined a (joined b c))

-- a bank beside the one that knows no name is that bank
pub record Alone (m : Meaning) : Type 0 where
  pub left : Agree (joined nothing m) m
  pub right : Agree (joined m nothing) m

abbrev pub NothingIsAUnit : Type 0
NothingIsAUnit = (m : Meaning) → Lawful m → Alone m
