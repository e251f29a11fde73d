use Rattle.std.proofs.Common.{ltb, length, sym, ap, ap₂, ◌∙◌, arith}
use Rattle.std.proofs.lemmas.Bool.{lt-ltb}
use Rattle.tree.specs.Elements.{capture_block, always}
use Rattle.nodes.specs.Exprs.{only}
use Rattle.nodes.specs.Trees.{block_of}
use Rattle.arguments.specs.Judging.{passes, went, pure}
use Rattle.arguments.specs.Tables.{pool_of, under}
use Rattle.sheet.specs.Blocks.{with_arm, opened_capture}
use Rattle.sheet.specs.Opening.{nodes_in, long}
use Rattle.sheet.proofs.Guards.{always_taken}
use Rattle.sheet.proofs.stdlib.blocks.capture_block.open_capture.Goals as goal

pub returns-clause-says : goal.returns-clause-says
unfolding opened_capture block_of
returns-clause-says c =
    let e = c.parse_target.new.reader in
    let n = c.in_ok-target.target in
    let (y, (same, below), g) = c.in_ok-target.ensures.says in (
      with_arm (capture_block n) always,
      (ap (λ t. only t (capture_block n)) (lt-ltb n (pool_of e).names below), always_taken (pool_of e) (nodes_in e) (long c.args.reader.now) (long e) (ap length c.in_ok-target.ensures.grown.nodes)),
      ap (λ v. went v (λ x. pure (with_arm (capture_block x) always))) g ∙ ap (λ x. passes (with_arm (capture_block x) always) (under e)) same,
    )
