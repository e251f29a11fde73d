-- A part that is read whole.
use Rattle.std.specs.Prelude.{◌≡◌, ℕ, Bool, List, Ok, Err, Result}
use Rattle.tree.specs.Elements.{Tree}
use Rattle.nodes.specs.Built.{Body}
use Rattle.arguments.specs.declared.refusals.Stop.{Stop}
use Rattle.arguments.specs.declared.refusals.Stop.TheVariants.{Refused, Memory}
use Rattle.arguments.specs.Refusals.{number_of}
use Rattle.arguments.specs.Tables.{pool_of, lists_of}
use Rattle.sheet.specs.declared.parser.Parser.{Parser}
use Rattle.sheet.specs.Loading.{refused, loaded, read_part}
use Rattle.sheet.specs.Answers.{source_of, nodes_of, count}

-- its tree is that of the nodes that were pushed; or it is refused as defined
abbrev pub PartRead : (List ℕ → Bool) → ℕ → ℕ → Parser → Result (Prim.Unit {0}) Stop → Parser → Type 0
PartRead known from to p (Ok u) q =
    (y : Tree) × Body (pool_of q.reader) (nodes_of q) 16 (count p) (count q) y × (read_part known (source_of p) from to (lists_of p.reader) ≡ loaded y (lists_of q.reader))
PartRead known from to p (Err (Refused k z)) q = read_part known (source_of p) from to (lists_of p.reader) ≡ refused (number_of k) z
PartRead known from to p (Err Memory) q = Prim.Unit {0}
