use Rattle.std.proofs.Common.{true, Some, refl, ap, ◌∙◌}
use Rattle.std.specs.Option.{option_map}
use Rattle.arguments.specs.Judging.{went, pure}
use Rattle.arguments.specs.Tables.{pool_of, under}
use Rattle.tags.specs.Loops.{with_attribute}
use Rattle.tags.proofs.Loops.{settings_wider}
use Rattle.tags.proofs.stdlib.blocks.for_block.with_attribute.Goals as goal

pub returns-in_ok-setting-in-Cols-clause-says : goal.returns-in_ok-setting-in-Cols-clause-says
returns-in_ok-setting-in-Cols-clause-says c = λ y s.
    let d = c.args.reader.now in
    let e = c.setting.new.reader in
    let h = c.in_ok-setting-in-Cols.ensures in
    let (x, is, says) = h.says in
    let w = settings_wider (pool_of d) (pool_of e) h.grown.pool c.args.attributes y s in
    (record { cols = Some x; limit = y.limit; offset = y.offset; reversed = y.reversed }, record { cols = ap (option_map Some) is; limit = w.limit; offset = w.offset; reversed = w.reversed }, ap (λ t. with_attribute d.mark y t (under d)) c.in-Cols.is ∙ ap (λ v. went v (λ z. pure (record { cols = Some z; limit = y.limit; offset = y.offset; reversed = y.reversed }))) says)

pub returns-in_ok-setting-in-Limit-clause-says : goal.returns-in_ok-setting-in-Limit-clause-says
returns-in_ok-setting-in-Limit-clause-says c = λ y s.
    let d = c.args.reader.now in
    let e = c.setting-in-Limit.new.reader in
    let h = c.in_ok-setting-in-Limit.ensures in
    let (x, is, says) = h.says in
    let w = settings_wider (pool_of d) (pool_of e) h.grown.pool c.args.attributes y s in
    (record { cols = y.cols; limit = Some x; offset = y.offset; reversed = y.reversed }, record { cols = w.cols; limit = ap (option_map Some) is; offset = w.offset; reversed = w.reversed }, ap (λ t. with_attribute d.mark y t (under d)) c.in-Limit.is ∙ ap (λ v. went v (λ z. pure (record { cols = y.cols; limit = Some z; offset = y.offset; reversed = y.reversed }))) says)

pub returns-in_ok-setting-in-Offset-clause-says : goal.returns-in_ok-setting-in-Offset-clause-says
returns-in_ok-setting-in-Offset-clause-says c = λ y s.
    let d = c.args.reader.now in
    let e = c.setting-in-Offset.new.reader in
    let h = c.in_ok-setting-in-Offset.ensures in
    let (x, is, says) = h.says in
    let w = settings_wider (pool_of d) (pool_of e) h.grown.pool c.args.attributes y s in
    (record { cols = y.cols; limit = y.limit; offset = Some x; reversed = y.reversed }, record { cols = w.cols; limit = w.limit; offset = ap (option_map Some) is; reversed = w.reversed }, ap (λ t. with_attribute d.mark y t (under d)) c.in-Offset.is ∙ ap (λ v. went v (λ z. pure (record { cols = y.cols; limit = y.limit; offset = Some z; reversed = y.reversed }))) says)

pub returns-in-Reversed-clause-says : goal.returns-in-Reversed-clause-says
returns-in-Reversed-clause-says c = λ y s.
    let d = c.args.reader.now in
    (record { cols = y.cols; limit = y.limit; offset = y.offset; reversed = true }, record { cols = s.cols; limit = s.limit; offset = s.offset; reversed = refl }, ap (λ t. with_attribute d.mark y t (under d)) c.in-Reversed.is)
