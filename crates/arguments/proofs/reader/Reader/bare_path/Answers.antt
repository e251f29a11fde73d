use Rattle.std.proofs.Common.{[], refl, ap}
use Rattle.tree.specs.Expressions.{path}
use Rattle.arguments.specs.Judging.{went, pure}
use Rattle.arguments.specs.Tables.{pool_of}
use Rattle.arguments.proofs.Paths.{path_of, no_entries}
use Rattle.arguments.proofs.reader.Reader.bare_path.Goals as goal

pub returns-clause-says : goal.returns-clause-says
returns-clause-says c =
    let (y, is, says) = c.in_ok-head.ensures.says in
    let b = pool_of c.head.new.self in
    (path y [], path_of b c.in_ok-head.head (record { from = 0; count = 0 }) y [] [] is (no_entries b.steps) refl, ap (λ v. went v (λ h. pure (path h []))) says)
