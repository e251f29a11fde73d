-- The bytes of a cycle name.
use Rattle.std.specs.Prelude.{ℕ, List, take}
use Rattle.arguments.specs.declared.reader.names.NameBytes.{NameBytes}

abbrev pub bytes_of : NameBytes → List ℕ
bytes_of n = take n.len n.bytes
