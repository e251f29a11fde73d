use Rattle.std.proofs.Common.{rules, ◌≡◌, ap, sym, ◌∙◌, pos, subst, Ok, w64, SFits, to_z, of_z, arith, ◌<◌, inl, inr}
use Rattle.std.proofs.lemmas.Int.{to_z-of_z}
use Rattle.std.specs.Option.{unwrap_or}
use Rattle.renderer.specs.declared.openings.Opened.TheVariants.{Table}
use Rattle.renderer.specs.Openings.{LaidOut}
use Rattle.renderer.proofs.Opening.{laid_some, laid_none}
use Rattle.renderer.proofs.stdlib.blocks.for_block.laid_out.Goals as goal

pub returns-then-cols-eq0 : goal.returns-then-cols-eq0
returns-then-cols-eq0 c =
    let v = c.unwrap_or-cols.result in
    let is : v ≡ unwrap_or c.args.cols (pos c.args.times) = search rules in
    let f : SFits w64 v = search rules in
    laid_none c.args.window c.args.times c.args.cols v is (omega (arith, c.if-times-gt0.true)) (sym (to_z-of_z w64 v f) ∙ ap (to_z w64) c.if-cols-eq0.true)

pub returns : goal.returns
returns c =
    let v = c.unwrap_or-cols.result in
    let is : v ≡ unwrap_or c.args.cols (pos c.args.times) = search rules in
    let f : SFits w64 v = search rules in
    let none : 0 < c.args.times → v ≡ pos 0 → ⊥ = λ l z. elim c.else-times-gt0.either [ inl w ↦ w.1 (ap (of_z w64) z) | inr w ↦ absurd (omega (arith, l, w)) ] in
    subst (λ k. LaidOut c.args.window c.args.times c.args.cols (Ok (Table c.args.window c.args.times k))) (sym (to_z-of_z w64 v f))
    (laid_some c.args.window c.args.times c.args.cols v is none)
