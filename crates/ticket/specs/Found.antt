-- Templates by their names.
use Rattle.std.specs.Prelude.{ℕ, List, vec_items}
use Rattle.std.specs.Borrow.{Bor}
use Rattle.ticket.specs.declared.job.Template.{Template}

-- a template that is borrowed
abbrev pub Lent : Type 0
Lent = Bor Template

abbrev pub name_of : Lent → List ℕ
name_of t = vec_items t.now.name
