-- The templates of a sheet, by their nodes.
use Rattle.std.specs.Prelude.{List, Option}
use Rattle.tree.specs.Elements.{Tree}
use Rattle.nodes.specs.declared.table.Node.{Node}
use Rattle.nodes.specs.Exprs.{Pool, each}
use Rattle.nodes.specs.Trees.{tree_at}
use Rattle.sheet.specs.declared.templates.Template.{Template}

-- the trees that the nodes of templates stand for
abbrev pub trees_in : Pool → List Node → List Template → Option (List Tree)
trees_in b ns ts = each (λ t. tree_at b ns t.from t.end) ts
