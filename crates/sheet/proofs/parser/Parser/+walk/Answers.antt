use Rattle.std.proofs.Common.{◌≡◌, ℕ, ◌+◌, ◌-◌, ◌<◌, Some, Ok, refl, sym, ap, ◌∙◌, subst, arith}
use Rattle.cutter.specs.Ahead.{ahead}
use Rattle.cutter.specs.Left.{left}
use Rattle.sheet.specs.declared.names.Known.TheVariants as known
use Rattle.sheet.specs.Steps.{pieces, judged}
use Rattle.sheet.specs.Blocks.{opens, opened, follows}
use Rattle.sheet.specs.Parsing.{elements, inner, arm_of, rests, marked}
use Rattle.sheet.specs.Opening.{Opens, Follows}
use Rattle.sheet.specs.Answers.{source_of, taken, tag_in, Fails, Did, Takes, found, ElementsRead, ElementRead}
use Rattle.sheet.proofs.Chaining.{went_then, fails_followed, did_err}
use Rattle.sheet.proofs.Walking.{same_went, walking_none, walking_more, walking_met, walking_refused, walking_over, walking_unclosed, inner_some, inner_none}
use Rattle.sheet.proofs.Setting.{front_set, front_take, went_sets}
use Rattle.sheet.proofs.Arming.{arm_made, arm_refused, rest_refused, rest_end, else_inner_refused, else_last_refused, rest_else, rest_arm_refused, rest_arm}
use Rattle.sheet.proofs.Opening.{block_refused, block_arm_refused, block_arm, case_inner_refused, case_rest_refused, case_whole}
use Rattle.sheet.proofs.Beginning.{begin_refused, begin_stopped, begin_went, begun, tag_refused, tag_went, tag_did, tag_did_not, tag_other}
use Rattle.sheet.proofs.parser.Parser.+walk.Goals as goal

pub elements-loop-piece-init : goal.elements-loop-piece-init
elements-loop-piece-init t c = walking_none c.args.room c.args.self.now

pub elements-returns-in_err-piece-clause-says : goal.elements-returns-in_err-piece-clause-says
elements-returns-in_err-piece-clause-says t c =
    λ n h.
    let x = c.in_err-piece.field-0.0 in
    did_err c.from_residual.result _ _ _ c.in_err-piece.field-0.0 c.from_residual.ensures.1
    (walking_unclosed c.args.room c.args.self.now c.loop-piece.self c.piece.new.self c.loop-piece.invariant x (subst (λ r. Takes c.loop-piece.self r c.piece.new.self) c.in_err-piece.was c.piece.ensures.takes) n h)

pub elements-returns-in_err-piece-clause-went : goal.elements-returns-in_err-piece-clause-went
elements-returns-in_err-piece-clause-went t c = went_then c.args.self.now c.loop-piece.self c.piece.new.self c.loop-piece.invariant.went (same_went c.loop-piece.self c.piece.new.self c.piece.result c.piece.ensures.takes c.piece.ensures.reader c.piece.ensures.end)

pub elements-returns-in_err-tag-clause-says : goal.elements-returns-in_err-tag-clause-says
elements-returns-in_err-tag-clause-says t c =
    λ n h.
    let took = subst (λ r. Takes c.loop-piece.self r c.piece.new.self) (c.in_ok-piece.was ∙ ap Ok c.in-Some.is) c.piece.ensures.takes in
    did_err c.from_residual-in_err-tag.result _ _ _ c.in_err-tag.field-0.0 c.from_residual-in_err-tag.ensures.1
    (walking_refused c.args.room c.in-Some.piece c.args.self.now c.loop-piece.self c.piece.new.self c.element.new.self c.loop-piece.invariant took c.piece.ensures.reader c.piece.ensures.end c.in_err-tag.field-0.0 (subst (λ r. ElementRead c.args.room c.in-Some.piece c.piece.new.self r c.element.new.self) c.in_err-tag.was c.element.ensures.says) n h)

pub elements-returns-in_err-tag-clause-went : goal.elements-returns-in_err-tag-clause-went
elements-returns-in_err-tag-clause-went t c = went_then c.args.self.now c.loop-piece.self c.element.new.self c.loop-piece.invariant.went (went_then c.loop-piece.self c.piece.new.self c.element.new.self (same_went c.loop-piece.self c.piece.new.self c.piece.result c.piece.ensures.takes c.piece.ensures.reader c.piece.ensures.end) c.element.ensures.went)

pub elements-returns-in-Some-2-clause-went : goal.elements-returns-in-Some-2-clause-went
elements-returns-in-Some-2-clause-went t c = went_then c.args.self.now c.loop-piece.self c.element.new.self c.loop-piece.invariant.went (went_then c.loop-piece.self c.piece.new.self c.element.new.self (same_went c.loop-piece.self c.piece.new.self c.piece.result c.piece.ensures.takes c.piece.ensures.reader c.piece.ensures.end) c.element.ensures.went)

pub elements-returns-in-Some-2-clause-says : goal.elements-returns-in-Some-2-clause-says
elements-returns-in-Some-2-clause-says t c =
    let took = subst (λ r. Takes c.loop-piece.self r c.piece.new.self) (c.in_ok-piece.was ∙ ap Ok c.in-Some.is) c.piece.ensures.takes in
    walking_met c.args.room c.in-Some.piece c.args.self.now c.loop-piece.self c.piece.new.self c.element.new.self c.loop-piece.invariant took c.piece.ensures.reader c.piece.ensures.end c.element.ensures.went c.in-Some-2.tag (subst (λ r. ElementRead c.args.room c.in-Some.piece c.piece.new.self r c.element.new.self) (c.in_ok-tag.was ∙ ap Ok c.in-Some-2.is) c.element.ensures.says)

pub elements-loop-piece-preserved : goal.elements-loop-piece-preserved
elements-loop-piece-preserved t c =
    let took = subst (λ r. Takes c.loop-piece.self r c.piece.new.self) (c.in_ok-piece.was ∙ ap Ok c.in-Some.is) c.piece.ensures.takes in
    walking_more c.args.room c.in-Some.piece c.args.self.now c.loop-piece.self c.piece.new.self c.element.new.self c.loop-piece.invariant took c.piece.ensures.reader c.piece.ensures.end c.element.ensures.went (subst (λ r. ElementRead c.args.room c.in-Some.piece c.piece.new.self r c.element.new.self) (c.in_ok-tag.was ∙ ap Ok c.in_default-2.is) c.element.ensures.says)

pub elements-returns-clause-says : goal.elements-returns-clause-says
elements-returns-clause-says t c = walking_over c.args.room c.args.self.now c.loop-piece.self c.piece.new.self c.loop-piece.invariant (subst (λ r. Takes c.loop-piece.self r c.piece.new.self) (c.in_ok-piece.was ∙ ap Ok c.in_default.is) c.piece.ensures.takes) c.piece.ensures.reader

pub elements-returns-clause-went : goal.elements-returns-clause-went
elements-returns-clause-went t c = went_then c.args.self.now c.loop-piece.self c.piece.new.self c.loop-piece.invariant.went (same_went c.loop-piece.self c.piece.new.self c.piece.result c.piece.ensures.takes c.piece.ensures.reader c.piece.ensures.end)

pub element-returns-in_err-begin-in-Mark-clause-says : goal.element-returns-in_err-begin-in-Mark-clause-says
element-returns-in_err-begin-in-Mark-clause-says t c =
    λ n h.
    did_err c.from_residual-in_err-begin-in-Mark.result _ _ _ c.in_err-begin-in-Mark.field-0.0 c.from_residual-in_err-begin-in-Mark.ensures.1
    (subst (λ x. Fails c.in_err-begin-in-Mark.field-0.0 (taken (found (source_of c.args.self.now) c.args.self.now.end n c.args.room x) c.args.self.now)) (sym c.in-Mark.is)
    (begin_refused c.args.room c.in-Mark.kind c.in-Mark.mark c.args.self.now c.begin.new.self c.begin.ensures.cutter c.begin.ensures.end c.in_err-begin-in-Mark.field-0.0 c.in_err-begin-in-Mark.ensures.begins n))

pub element-returns-in_ok-text-in-Text-clause-says : goal.element-returns-in_ok-text-in-Text-clause-says
element-returns-in_ok-text-in-Text-clause-says t c =
    λ n h.
    let (y, d, g) = c.in_ok-text-in-Text.ensures.says in
    (y, d c.args.room, ap (λ x. taken (found (source_of c.args.self.now) c.args.self.now.end n c.args.room x) c.args.self.now) c.in-Text.is ∙ g)

pub element-returns-in_ok-begin-in-Mark-clause-says : goal.element-returns-in_ok-begin-in-Mark-clause-says
element-returns-in_ok-begin-in-Mark-clause-says t c = subst (λ x. ElementRead c.args.room x c.args.self.now c.mark.result c.mark.new.self) (sym c.in-Mark.is) (begun c.args.room c.in-Mark.kind c.in-Mark.mark c.args.self.now c.begin.new.self c.begin.ensures.cutter c.begin.ensures.end c.in_ok-begin-in-Mark.ensures.begins c.mark.new.self c.mark.result c.mark.ensures.says)

pub element-returns-in_ok-begin-in-Mark-clause-went : goal.element-returns-in_ok-begin-in-Mark-clause-went
element-returns-in_ok-begin-in-Mark-clause-went t c = went_then c.args.self.now c.begin.new.self c.mark.new.self (begin_went c.args.room c.in-Mark.kind c.in-Mark.mark c.args.self.now c.begin.new.self c.begin.ensures.cutter c.begin.ensures.end c.in_ok-begin-in-Mark.ensures.begins) c.mark.ensures.went

pub element-returns-in_err-begin-in-Mark-clause-went : goal.element-returns-in_err-begin-in-Mark-clause-went
element-returns-in_err-begin-in-Mark-clause-went t c = begin_stopped c.args.room c.in-Mark.kind c.in-Mark.mark c.args.self.now c.begin.new.self c.begin.ensures.cutter c.begin.ensures.end c.in_err-begin-in-Mark.field-0.0 c.in_err-begin-in-Mark.ensures.begins

pub mark-returns-in_ok-output-in-Output-clause-says : goal.mark-returns-in_ok-output-in-Output-clause-says
mark-returns-in_ok-output-in-Output-clause-says t c =
    λ n h.
    let (y, d, g) = c.in_ok-output-in-Output.ensures.says in
    (y, d c.args.room, ap (λ x. taken (marked c.args.self.now.end c.args.room (elements (source_of c.args.self.now) c.args.self.now.end n (c.args.room - 1)) (λ b t'. rests (source_of c.args.self.now) c.args.self.now.end n (c.args.room - 1) b t') c.args.self.now.reader.mark x (ahead c.args.self.now.reader.cursor)) c.args.self.now) c.in-Output.is ∙ g)

pub tag-returns-in_err-name-clause-says : goal.tag-returns-in_err-name-clause-says
tag-returns-in_err-name-clause-says t c =
    λ n h.
    did_err c.from_residual.result _ _ _ c.in_err-name.field-0.0 c.from_residual.ensures.1
    (tag_refused c.args.room c.args.self.now c.tag_name.new.self c.tag_name.ensures.cutter c.tag_name.ensures.end c.in_err-name.field-0.0 c.in_err-name.ensures.says n)

pub tag-returns-in_err-simple-in-Simple-clause-says : goal.tag-returns-in_err-simple-in-Simple-clause-says
tag-returns-in_err-simple-in-Simple-clause-says t c =
    λ n h.
    did_err c.from_residual-in_err-simple-in-Simple.result _ _ _ c.in_err-simple-in-Simple.field-0.0 c.from_residual-in_err-simple-in-Simple.ensures.1
    (tag_did_not c.args.room c.args.self.now c.tag_name.new.self c.tag_name.ensures.cutter c.tag_name.ensures.end c.in_ok-name.name c.in_ok-name.ensures.says c.tag_name.ensures.grown c.in_err-simple-in-Simple.field-0.0 n (Some (known.Simple c.in-Simple.kind)) (ap Some (sym c.in-Simple.is) ∙ sym c.in-Some.is ∙ c.known_as.ensures) _ refl c.in_err-simple-in-Simple.ensures.says)

pub tag-returns-in_err-block-in-Block-clause-says : goal.tag-returns-in_err-block-in-Block-clause-says
tag-returns-in_err-block-in-Block-clause-says t c =
    λ n h.
    did_err c.from_residual-in_err-block-in-Block.result _ _ _ c.in_err-block-in-Block.field-0.0 c.from_residual-in_err-block-in-Block.ensures.1
    (tag_did_not c.args.room c.args.self.now c.tag_name.new.self c.tag_name.ensures.cutter c.tag_name.ensures.end c.in_ok-name.name c.in_ok-name.ensures.says c.tag_name.ensures.grown c.in_err-block-in-Block.field-0.0 n (Some (known.Block c.in-Block.kind)) (ap Some (sym c.in-Block.is) ∙ sym c.in-Some.is ∙ c.known_as.ensures) _ refl (c.in_err-block-in-Block.ensures.says n (omega (arith, h, ap (λ x. pieces (left x)) c.tag_name.ensures.cutter))))

pub tag-returns-in_ok-simple-in-Simple-clause-says : goal.tag-returns-in_ok-simple-in-Simple-clause-says
tag-returns-in_ok-simple-in-Simple-clause-says t c =
    λ n h.
    let (y, d, g) = c.in_ok-simple-in-Simple.ensures.says in
    tag_did c.args.room c.args.self.now c.tag_name.new.self c.tag_name.ensures.cutter c.tag_name.ensures.end c.in_ok-name.name c.in_ok-name.ensures.says c.tag_name.ensures.grown c.simple.new.self n (Some (known.Simple c.in-Simple.kind)) (ap Some (sym c.in-Simple.is) ∙ sym c.in-Some.is ∙ c.known_as.ensures) _ refl (y, d c.args.room, g)

pub tag-returns-in_ok-block-in-Block-clause-says : goal.tag-returns-in_ok-block-in-Block-clause-says
tag-returns-in_ok-block-in-Block-clause-says t c =
    λ n h. tag_did c.args.room c.args.self.now c.tag_name.new.self c.tag_name.ensures.cutter c.tag_name.ensures.end c.in_ok-name.name c.in_ok-name.ensures.says c.tag_name.ensures.grown c.block.new.self n (Some (known.Block c.in-Block.kind)) (ap Some (sym c.in-Block.is) ∙ sym c.in-Some.is ∙ c.known_as.ensures) _ refl (c.in_ok-block-in-Block.ensures.says n (omega (arith, h, ap (λ x. pieces (left x)) c.tag_name.ensures.cutter)))

pub tag-returns-in_err-block-in-Block-clause-went : goal.tag-returns-in_err-block-in-Block-clause-went
tag-returns-in_err-block-in-Block-clause-went t c = went_then c.args.self.now c.tag_name.new.self c.block.new.self (tag_went c.args.room c.args.self.now c.tag_name.new.self c.tag_name.ensures.cutter c.tag_name.ensures.end c.in_ok-name.name c.in_ok-name.ensures.says c.tag_name.ensures.grown) c.block.ensures.went

pub tag-returns-in_ok-block-in-Block-clause-went : goal.tag-returns-in_ok-block-in-Block-clause-went
tag-returns-in_ok-block-in-Block-clause-went t c = went_then c.args.self.now c.tag_name.new.self c.block.new.self (tag_went c.args.room c.args.self.now c.tag_name.new.self c.tag_name.ensures.cutter c.tag_name.ensures.end c.in_ok-name.name c.in_ok-name.ensures.says c.tag_name.ensures.grown) c.block.ensures.went

pub tag-returns-in_default-clause-says : goal.tag-returns-in_default-clause-says
tag-returns-in_default-clause-says t c = tag_other c.args.room c.args.self.now c.tag_name.new.self c.tag_name.ensures.cutter c.tag_name.ensures.end c.in_ok-name.name c.in_ok-name.ensures.says c.tag_name.ensures.grown (sym c.in_default.is ∙ c.known_as.ensures)

pub block-returns-in_err-block-clause-says : goal.block-returns-in_err-block-clause-says
block-returns-in_err-block-clause-says t c =
    λ n h.
    did_err c.from_residual.result _ _ _ c.in_err-block.field-0.0 c.from_residual.ensures.1
    (block_refused c.args.room c.args.kind c.args.self.now c.open.new.self c.open.ensures.went c.open.ensures.cutter c.in_err-block.field-0.0 c.in_err-block.ensures.says n)

pub block-returns-in_err-arm-in-Arm-clause-says : goal.block-returns-in_err-arm-in-Arm-clause-says
block-returns-in_err-arm-in-Arm-clause-says t c =
    λ n h.
    did_err c.from_residual-in_err-arm-in-Arm.result _ _ _ c.in_err-arm-in-Arm.field-0.0 c.from_residual-in_err-arm-in-Arm.ensures.1
    (block_arm_refused c.args.room c.args.kind c.args.self.now c.open.new.self c.open.ensures.went c.open.ensures.cutter c.in-Arm.block c.in-Arm.guard (subst (λ r. Did r (taken (judged (opens c.args.room c.args.self.now.reader.mark (opened c.args.kind c.args.self.now.reader.mark)) (ahead c.args.self.now.reader.cursor)) c.args.self.now) (Opens c.args.self.now.reader c.open.new.self.reader) c.open.new.self) (c.in_ok-block.was ∙ ap Ok c.in-Arm.is) c.open.ensures.says) c.arm.new.self c.in_err-arm-in-Arm.field-0.0 c.in_err-arm-in-Arm.ensures.says n h)

pub block-returns-in_err-arm-in-Arm-clause-went : goal.block-returns-in_err-arm-in-Arm-clause-went
block-returns-in_err-arm-in-Arm-clause-went t c = went_then c.args.self.now c.open.new.self c.arm.new.self c.open.ensures.went c.arm.ensures.went

pub block-returns-in_ok-arm-in-Arm-clause-says : goal.block-returns-in_ok-arm-in-Arm-clause-says
block-returns-in_ok-arm-in-Arm-clause-says t c = block_arm c.args.room c.args.kind c.args.self.now c.open.new.self c.open.ensures.went c.open.ensures.cutter c.in-Arm.block c.in-Arm.guard (subst (λ r. Did r (taken (judged (opens c.args.room c.args.self.now.reader.mark (opened c.args.kind c.args.self.now.reader.mark)) (ahead c.args.self.now.reader.cursor)) c.args.self.now) (Opens c.args.self.now.reader c.open.new.self.reader) c.open.new.self) (c.in_ok-block.was ∙ ap Ok c.in-Arm.is) c.open.ensures.says) c.arm.new.self c.set_node.new.self c.count-at.result c.count-end.result c.args.self.now.reader.mark c.in_ok-arm-in-Arm.arm c.count-at.ensures c.count-end.ensures refl c.arm.ensures.went c.in_ok-arm-in-Arm.ensures.says c.set_node.ensures.sets c.set_node.ensures.cutter

pub block-returns-in_ok-arm-in-Arm-clause-went : goal.block-returns-in_ok-arm-in-Arm-clause-went
block-returns-in_ok-arm-in-Arm-clause-went t c =
    let went = went_then c.args.self.now c.open.new.self c.arm.new.self c.open.ensures.went c.arm.ensures.went in
    went_sets c.args.self.now c.arm.new.self c.set_node.new.self _ went c.set_node.ensures.sets (front_set _ _ c.count-at.result _ went.nodes (omega (arith, c.count-at.ensures))) c.set_node.ensures.cutter c.set_node.ensures.end

pub block-returns-in_err-tag-in-Case-clause-says : goal.block-returns-in_err-tag-in-Case-clause-says
block-returns-in_err-tag-in-Case-clause-says t c =
    λ n h.
    did_err c.from_residual-in_err-tag-in-Case.result _ _ _ c.in_err-tag-in-Case.field-0.0 c.from_residual-in_err-tag-in-Case.ensures.1
    (case_inner_refused c.args.room c.args.kind c.args.self.now c.open.new.self c.open.ensures.went c.open.ensures.cutter c.in-Case.target (subst (λ r. Did r (taken (judged (opens c.args.room c.args.self.now.reader.mark (opened c.args.kind c.args.self.now.reader.mark)) (ahead c.args.self.now.reader.cursor)) c.args.self.now) (Opens c.args.self.now.reader c.open.new.self.reader) c.open.new.self) (c.in_ok-block.was ∙ ap Ok c.in-Case.is) c.open.ensures.says) c.inner.new.self c.in_err-tag-in-Case.field-0.0 c.in_err-tag-in-Case.ensures.says n h)

pub block-returns-in_err-tag-in-Case-clause-went : goal.block-returns-in_err-tag-in-Case-clause-went
block-returns-in_err-tag-in-Case-clause-went t c = went_then c.args.self.now c.open.new.self c.inner.new.self c.open.ensures.went c.inner.ensures.went

pub block-returns-in_err-then-in-Case-clause-says : goal.block-returns-in_err-then-in-Case-clause-says
block-returns-in_err-then-in-Case-clause-says t c =
    λ n h.
    did_err c.from_residual-in_err-then-in-Case.result _ _ _ c.in_err-then-in-Case.field-0.0 c.from_residual-in_err-then-in-Case.ensures.1
    (case_rest_refused c.args.room c.args.kind c.args.self.now c.open.new.self c.open.ensures.went c.open.ensures.cutter c.in-Case.target (subst (λ r. Did r (taken (judged (opens c.args.room c.args.self.now.reader.mark (opened c.args.kind c.args.self.now.reader.mark)) (ahead c.args.self.now.reader.cursor)) c.args.self.now) (Opens c.args.self.now.reader c.open.new.self.reader) c.open.new.self) (c.in_ok-block.was ∙ ap Ok c.in-Case.is) c.open.ensures.says) c.inner.new.self c.drop_nodes.new.self c.in_ok-tag-in-Case.tag c.count-at.result c.count-at.ensures c.inner.ensures.went c.in_ok-tag-in-Case.ensures.met c.in_ok-tag-in-Case.ensures.says c.drop_nodes.ensures.sets c.drop_nodes.ensures.cutter c.drop_nodes.ensures.end c.rest.new.self c.in_err-then-in-Case.field-0.0 c.in_err-then-in-Case.ensures.says n h)

pub block-returns-in_err-then-in-Case-clause-went : goal.block-returns-in_err-then-in-Case-clause-went
block-returns-in_err-then-in-Case-clause-went t c =
    let went = went_then c.args.self.now c.open.new.self c.inner.new.self c.open.ensures.went c.inner.ensures.went in
    let dropped = went_sets c.args.self.now c.inner.new.self c.drop_nodes.new.self _ went c.drop_nodes.ensures.sets (front_take _ _ (c.count-at.result + 1) went.nodes (omega (arith, c.count-at.ensures))) c.drop_nodes.ensures.cutter c.drop_nodes.ensures.end in
    let rest = went_then c.args.self.now c.drop_nodes.new.self c.rest.new.self dropped c.rest.ensures.went in
    rest

pub block-returns-in_ok-then-in-Case-clause-says : goal.block-returns-in_ok-then-in-Case-clause-says
block-returns-in_ok-then-in-Case-clause-says t c = case_whole c.args.room c.args.kind c.args.self.now c.open.new.self c.open.ensures.went c.open.ensures.cutter c.in-Case.target (subst (λ r. Did r (taken (judged (opens c.args.room c.args.self.now.reader.mark (opened c.args.kind c.args.self.now.reader.mark)) (ahead c.args.self.now.reader.cursor)) c.args.self.now) (Opens c.args.self.now.reader c.open.new.self.reader) c.open.new.self) (c.in_ok-block.was ∙ ap Ok c.in-Case.is) c.open.ensures.says) c.inner.new.self c.drop_nodes.new.self c.in_ok-tag-in-Case.tag c.count-at.result c.count-at.ensures c.inner.ensures.went c.in_ok-tag-in-Case.ensures.met c.in_ok-tag-in-Case.ensures.says c.drop_nodes.ensures.sets c.drop_nodes.ensures.cutter c.drop_nodes.ensures.end c.rest.new.self c.set_node-in-Case.new.self c.count-end-in-Case.result c.args.self.now.reader.mark c.in_ok-then-in-Case.then c.count-end-in-Case.ensures refl c.rest.ensures.went c.in_ok-then-in-Case.ensures.says c.set_node-in-Case.ensures.sets c.set_node-in-Case.ensures.cutter

pub block-returns-in_ok-then-in-Case-clause-went : goal.block-returns-in_ok-then-in-Case-clause-went
block-returns-in_ok-then-in-Case-clause-went t c =
    let went = went_then c.args.self.now c.open.new.self c.inner.new.self c.open.ensures.went c.inner.ensures.went in
    let dropped = went_sets c.args.self.now c.inner.new.self c.drop_nodes.new.self _ went c.drop_nodes.ensures.sets (front_take _ _ (c.count-at.result + 1) went.nodes (omega (arith, c.count-at.ensures))) c.drop_nodes.ensures.cutter c.drop_nodes.ensures.end in
    let rest = went_then c.args.self.now c.drop_nodes.new.self c.rest.new.self dropped c.rest.ensures.went in
    went_sets c.args.self.now c.rest.new.self c.set_node-in-Case.new.self _ rest c.set_node-in-Case.ensures.sets (front_set _ _ c.count-at.result _ rest.nodes (omega (arith, c.count-at.ensures))) c.set_node-in-Case.ensures.cutter c.set_node-in-Case.ensures.end

pub inner-returns-in_err-tag-clause-says : goal.inner-returns-in_err-tag-clause-says
unfolding inner
inner-returns-in_err-tag-clause-says t c =
    λ n h.
    did_err c.from_residual.result _ _ _ c.in_err-tag.field-0.0 c.from_residual.ensures.1
    (fails_followed c.in_err-tag.field-0.0 _ _ (c.in_err-tag.ensures.says n h))

pub inner-returns-in-Some-clause-says : goal.inner-returns-in-Some-clause-says
inner-returns-in-Some-clause-says t c = inner_some c.args.room c.args.self.now c.elements.new.self c.in-Some.tag (subst (λ r. ElementsRead c.args.room c.args.self.now r c.elements.new.self) (c.in_ok-tag.was ∙ ap Ok c.in-Some.is) c.elements.ensures.says)

pub inner-returns-in-None-clause-says : goal.inner-returns-in-None-clause-says
inner-returns-in-None-clause-says t c = inner_none c.args.room c.args.self.now c.elements.new.self c.elements.ensures.went.end (subst (λ r. ElementsRead c.args.room c.args.self.now r c.elements.new.self) (c.in_ok-tag.was ∙ ap Ok c.in-None.is) c.elements.ensures.says)

pub arm-returns-in_err-tag-clause-says : goal.arm-returns-in_err-tag-clause-says
unfolding arm_of
arm-returns-in_err-tag-clause-says t c =
    λ n h b.
    did_err c.from_residual.result _ _ _ c.in_err-tag.field-0.0 c.from_residual.ensures.1
    (fails_followed c.in_err-tag.field-0.0 _ _ (c.in_err-tag.ensures.says n b))

pub arm-returns-in_err-then-clause-says : goal.arm-returns-in_err-then-clause-says
arm-returns-in_err-then-clause-says t c =
    λ n h b.
    did_err c.from_residual-in_err-then.result _ _ _ c.in_err-then.field-0.0 c.from_residual-in_err-then.ensures.1
    (arm_refused c.args.room c.args.kind c.args.self.now c.inner.new.self c.rest.new.self c.in_ok-tag.tag c.inner.ensures.went c.rest.ensures.went c.in_ok-tag.ensures.met c.in_ok-tag.ensures.says c.in_err-then.field-0.0 c.in_err-then.ensures.says n h b)

pub arm-returns-in_err-then-clause-went : goal.arm-returns-in_err-then-clause-went
arm-returns-in_err-then-clause-went t c = went_then c.args.self.now c.inner.new.self c.rest.new.self c.inner.ensures.went c.rest.ensures.went

pub arm-returns-clause-went : goal.arm-returns-clause-went
arm-returns-clause-went t c = went_then c.args.self.now c.inner.new.self c.rest.new.self c.inner.ensures.went c.rest.ensures.went

pub arm-returns-clause-says : goal.arm-returns-clause-says
arm-returns-clause-says t c = arm_made c.args.room c.args.kind c.args.self.now c.inner.new.self c.rest.new.self c.in_ok-tag.tag c.inner.ensures.went c.rest.ensures.went c.in_ok-tag.ensures.met c.in_ok-tag.ensures.says c.count-body.result c.count-next.result c.in_ok-then.then c.args.guard c.count-body.ensures c.count-next.ensures c.in_ok-then.ensures.says

pub rest-returns-in_err-follow-clause-says : goal.rest-returns-in_err-follow-clause-says
rest-returns-in_err-follow-clause-says t c =
    λ n h.
    did_err c.from_residual.result _ _ _ c.in_err-follow.field-0.0 c.from_residual.ensures.1
    (rest_refused c.args.room c.args.kind c.args.self.now c.follow.new.self c.args.tag c.follow.ensures.went c.follow.ensures.cutter c.in_err-follow.field-0.0 c.in_err-follow.ensures.says n h)

pub rest-returns-in-End-clause-says : goal.rest-returns-in-End-clause-says
rest-returns-in-End-clause-says t c = rest_end c.args.room c.args.kind c.args.self.now c.follow.new.self c.args.tag c.follow.ensures.went c.follow.ensures.cutter (subst (λ r. Did r (taken (judged (follows c.args.kind (tag_in c.args.self.now c.args.tag)) (ahead c.args.self.now.reader.cursor)) c.args.self.now) (Follows c.args.self.now.reader c.follow.new.self.reader) c.follow.new.self) (c.in_ok-follow.was ∙ ap Ok c.in-End.is) c.follow.ensures.says)

pub rest-returns-in_err-tag-in-Else-clause-says : goal.rest-returns-in_err-tag-in-Else-clause-says
rest-returns-in_err-tag-in-Else-clause-says t c =
    λ n h.
    did_err c.from_residual-in_err-tag-in-Else.result _ _ _ c.in_err-tag-in-Else.field-0.0 c.from_residual-in_err-tag-in-Else.ensures.1
    (else_inner_refused c.args.room c.args.kind c.args.self.now c.follow.new.self c.inner.new.self c.args.tag c.follow.ensures.went c.follow.ensures.cutter (subst (λ r. Did r (taken (judged (follows c.args.kind (tag_in c.args.self.now c.args.tag)) (ahead c.args.self.now.reader.cursor)) c.args.self.now) (Follows c.args.self.now.reader c.follow.new.self.reader) c.follow.new.self) (c.in_ok-follow.was ∙ ap Ok c.in-Else.is) c.follow.ensures.says) c.in_err-tag-in-Else.field-0.0 c.in_err-tag-in-Else.ensures.says n h)

pub rest-returns-in_err-tag-in-Else-clause-went : goal.rest-returns-in_err-tag-in-Else-clause-went
rest-returns-in_err-tag-in-Else-clause-went t c = went_then c.args.self.now c.follow.new.self c.inner.new.self c.follow.ensures.went c.inner.ensures.went

pub rest-returns-in_err-last-in-Else-clause-says : goal.rest-returns-in_err-last-in-Else-clause-says
rest-returns-in_err-last-in-Else-clause-says t c =
    λ n h.
    did_err c.from_residual-in_err-last-in-Else.result _ _ _ c.in_err-last-in-Else.field-0.0 c.from_residual-in_err-last-in-Else.ensures.1
    (else_last_refused c.args.room c.args.kind c.args.self.now c.follow.new.self c.inner.new.self c.args.tag c.follow.ensures.went c.follow.ensures.cutter (subst (λ r. Did r (taken (judged (follows c.args.kind (tag_in c.args.self.now c.args.tag)) (ahead c.args.self.now.reader.cursor)) c.args.self.now) (Follows c.args.self.now.reader c.follow.new.self.reader) c.follow.new.self) (c.in_ok-follow.was ∙ ap Ok c.in-Else.is) c.follow.ensures.says) c.last.new.self c.in_ok-tag-in-Else.tag c.in_ok-tag-in-Else.ensures.says c.in_err-last-in-Else.field-0.0 c.in_err-last-in-Else.ensures.says n h)

pub rest-returns-in_err-last-in-Else-clause-went : goal.rest-returns-in_err-last-in-Else-clause-went
rest-returns-in_err-last-in-Else-clause-went t c = went_then c.args.self.now c.inner.new.self c.last.new.self (went_then c.args.self.now c.follow.new.self c.inner.new.self c.follow.ensures.went c.inner.ensures.went) c.last.ensures.went

pub rest-returns-in_ok-last-in-Else-clause-went : goal.rest-returns-in_ok-last-in-Else-clause-went
rest-returns-in_ok-last-in-Else-clause-went t c = went_then c.args.self.now c.inner.new.self c.last.new.self (went_then c.args.self.now c.follow.new.self c.inner.new.self c.follow.ensures.went c.inner.ensures.went) c.last.ensures.went

pub rest-returns-in_ok-last-in-Else-clause-says : goal.rest-returns-in_ok-last-in-Else-clause-says
rest-returns-in_ok-last-in-Else-clause-says t c = rest_else c.args.room c.args.kind c.args.self.now c.follow.new.self c.inner.new.self c.args.tag c.follow.ensures.went c.follow.ensures.cutter (subst (λ r. Did r (taken (judged (follows c.args.kind (tag_in c.args.self.now c.args.tag)) (ahead c.args.self.now.reader.cursor)) c.args.self.now) (Follows c.args.self.now.reader c.follow.new.self.reader) c.follow.new.self) (c.in_ok-follow.was ∙ ap Ok c.in-Else.is) c.follow.ensures.says) c.last.new.self c.in_ok-tag-in-Else.tag c.in_ok-tag-in-Else.ensures.says c.inner.ensures.went c.last.ensures.went c.in_ok-last-in-Else.ensures.says

pub rest-returns-in_err-arm-in-Arm-clause-says : goal.rest-returns-in_err-arm-in-Arm-clause-says
rest-returns-in_err-arm-in-Arm-clause-says t c =
    λ n h.
    did_err c.from_residual-in_err-arm-in-Arm.result _ _ _ c.in_err-arm-in-Arm.field-0.0 c.from_residual-in_err-arm-in-Arm.ensures.1
    (rest_arm_refused c.args.room c.args.kind c.args.self.now c.follow.new.self c.arm.new.self c.args.tag c.in-Arm.guard c.follow.ensures.went c.follow.ensures.cutter (subst (λ r. Did r (taken (judged (follows c.args.kind (tag_in c.args.self.now c.args.tag)) (ahead c.args.self.now.reader.cursor)) c.args.self.now) (Follows c.args.self.now.reader c.follow.new.self.reader) c.follow.new.self) (c.in_ok-follow.was ∙ ap Ok c.in-Arm.is) c.follow.ensures.says) c.in_err-arm-in-Arm.field-0.0 c.in_err-arm-in-Arm.ensures.says n h)

pub rest-returns-in_err-arm-in-Arm-clause-went : goal.rest-returns-in_err-arm-in-Arm-clause-went
rest-returns-in_err-arm-in-Arm-clause-went t c = went_then c.args.self.now c.follow.new.self c.arm.new.self c.follow.ensures.went c.arm.ensures.went

pub rest-returns-in_ok-arm-in-Arm-clause-says : goal.rest-returns-in_ok-arm-in-Arm-clause-says
rest-returns-in_ok-arm-in-Arm-clause-says t c = rest_arm c.args.room c.args.kind c.args.self.now c.follow.new.self c.arm.new.self c.args.tag c.in-Arm.guard c.follow.ensures.went c.follow.ensures.cutter (subst (λ r. Did r (taken (judged (follows c.args.kind (tag_in c.args.self.now c.args.tag)) (ahead c.args.self.now.reader.cursor)) c.args.self.now) (Follows c.args.self.now.reader c.follow.new.self.reader) c.follow.new.self) (c.in_ok-follow.was ∙ ap Ok c.in-Arm.is) c.follow.ensures.says) c.set_node.new.self c.count-at.result c.in_ok-arm-in-Arm.arm c.count-at.ensures c.arm.ensures.went c.in_ok-arm-in-Arm.ensures.says c.set_node.ensures.sets c.set_node.ensures.cutter

pub rest-returns-in_ok-arm-in-Arm-clause-went : goal.rest-returns-in_ok-arm-in-Arm-clause-went
rest-returns-in_ok-arm-in-Arm-clause-went t c =
    let went = went_then c.args.self.now c.follow.new.self c.arm.new.self c.follow.ensures.went c.arm.ensures.went in
    went_sets c.args.self.now c.arm.new.self c.set_node.new.self _ went c.set_node.ensures.sets (front_set _ _ c.count-at.result _ went.nodes (omega (arith, c.count-at.ensures))) c.set_node.ensures.cutter c.set_node.ensures.end
