-- Values that enter the table.
use Rattle.std.proofs.Common.{◌≡◌, Some, [], ◌∷◌, ◌++◌, Ok, Err, Result, OnOk, vec_items, ap, ◌∙◌}
use Rattle.tree.specs.Expressions as tree
use Rattle.nodes.specs.declared.exprs.Expr.{Expr}
use Rattle.nodes.specs.Exprs.{expr_of}
use Rattle.nodes.proofs.Widens.{keeps_expr}
use Rattle.arguments.specs.declared.reader.Reader.{Reader}
use Rattle.arguments.specs.declared.refusals.Stop.{Stop}
use Rattle.arguments.specs.declared.refusals.Stop.TheVariants.{Refused, Memory}
use Rattle.arguments.specs.Judging.{Verdict, passes, pure}
use Rattle.arguments.specs.Tables.{pool_of, under, Said, Grown, Longer, Is}
use Rattle.arguments.specs.Reading.{Valued}

-- a value that was read, and then pushed
pub said_valued : (r : Result (Prim.Unit {0}) Stop) (d u e : Reader) (x : Expr) (y : tree.Expr) (v : Verdict tree.Expr) → v ≡ passes y (under u) → expr_of (pool_of u) x ≡ Some y → Grown d u → Longer u e →
    OnOk r (vec_items e.values ≡ vec_items u.values ++ (x ∷ [])) → Said r (pure tt (under u)) Is (under e) → Said r v (Valued d e) (under e)
said_valued (Ok z) d u e x y v says is grown longer pushed h =
    let same : under u ≡ under e = cc in
    (y, record { entry = x; values = pushed ∙ ap (λ l. l ++ (x ∷ [])) grown.values; is = keeps_expr (pool_of u) (pool_of e) longer.pool x y is }, says ∙ ap (passes y) same)
said_valued (Err (Refused k p)) d u e x y v says is grown longer pushed h = cc
said_valued (Err Memory) d u e x y v says is grown longer pushed h = tt
