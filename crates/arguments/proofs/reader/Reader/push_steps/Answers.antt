use Rattle.std.proofs.Common.{◌≡◌, ◌<◌, [], ◌∷◌, ◌++◌, length, vec_items, refl, ap, ◌∙◌, arith}
use Rattle.cutter.specs.Paths.{steps_of, steps_left, placed_step}
use Rattle.nodes.proofs.Options.{front_refl}
use Rattle.arguments.proofs.Paths.{keys_in, pushing_none, pushing_more, pushing_all, pushed_count}
use Rattle.arguments.proofs.reader.Reader.push_steps.Goals as goal

pub loop-step-init : goal.loop-step-init
loop-step-init c = pushing_none c.args.self.now (steps_of c.args.steps.place c.args.steps.bytes.now) (steps_left c.new-walk.result) c.new-walk.ensures.steps

pub loop-step-preserved : goal.loop-step-preserved
loop-step-preserved c =
    let d = c.args.self.now in
    let m = c.loop-step.self in
    let bs = c.args.steps.bytes.now in
    let ss = steps_of c.args.steps.place bs in
    let p = c.loop-step.invariant in
    let s = placed_step c.in-Some.step in
    let keys = keys_in d.source.now c.args.steps.place bs ss c.requires.lies (c.new-walk.ensures.inside c.args.steps.place bs) in
    let room : length p.new < 4 = omega (arith, pushed_count d m _ _ p, p.few, p.long, c.len-from.ensures, c.len.ensures, d.steps.ok.0, m.steps.ok.0, c.if-len-from-eq-STEPS.false) in
    let items : vec_items c.push.new.self ≡ vec_items m.steps ++ (c.step_of.result ∷ []) = c.in_ok-push.ensures.items in
    pushing_more d m _ ss s (steps_left c.loop-step.walk) (steps_left c.next.new.self) c.in-Some.ensures keys p room
    (items ∙ ap (λ x. vec_items m.steps ++ (x ∷ [])) c.step_of.ensures)
    (record { pool = record { source = refl; names = omega arith; cycles = omega arith; steps = record { more = c.step_of.result ∷ []; is = items }; values = front_refl _; filters = front_refl _ }; names = front_refl _; cycles = front_refl _; values = refl; nodes = refl; mark = refl })
    refl

pub returns-clause-did : goal.returns-clause-did
returns-clause-did c =
    let d = c.args.self.now in
    let m = c.loop-step.self in
    pushing_all d m (steps_of c.args.steps.place c.args.steps.bytes.now) (steps_left c.loop-step.walk) c.len-from.result _ c.in_default.ensures.0 (c.len-from.ensures ∙ d.steps.ok.0) (omega (arith, c.len-2.ensures, m.steps.ok.0)) c.loop-step.invariant
