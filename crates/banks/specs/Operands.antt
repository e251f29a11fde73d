-- What an operand stands for.
use Rattle.std.specs.Prelude.{ℕ, Bool, List, take, ℤ}
use Rattle.banks.specs.declared.operands.Operand.{Operand}
use Rattle.banks.specs.declared.operands.Operand.TheVariants.{Nil, Boolean, Whole, Text}
use Rattle.banks.specs.declared.operands.Short.{Short}

pub data Datum : Type 0 where
  nil : Datum
  boolean : Bool → Datum
  whole : ℤ → Datum
  text : List ℕ → Datum

-- the bytes of a short text, of which there are at most 256
abbrev pub text_of : Short → List ℕ
text_of s = take 256 s.bytes.now

abbrev pub datum : Operand → Datum
datum Nil = nil
datum (Boolean b) = boolean b
datum (Whole z) = whole z
datum (Text s) = text (text_of s)
