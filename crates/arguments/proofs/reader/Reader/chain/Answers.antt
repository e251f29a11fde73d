use Rattle.std.proofs.Common.{sym, ap, ◌∙◌}
use Rattle.nodes.proofs.Widens.{keeps_expr}
use Rattle.arguments.specs.Judging.{went, pure, ◌next◌}
use Rattle.arguments.specs.Values.{filters, chain}
use Rattle.arguments.specs.Tables.{pool_of, under}
use Rattle.arguments.proofs.Chains.{chain_entry}
use Rattle.arguments.proofs.reader.Reader.chain.Goals as goal

pub returns-clause-says : goal.returns-clause-says
unfolding chain
returns-clause-says c =
    let d = c.args.self.now in
    let m = c.value.new.self in
    let e = c.push_filters.new.self in
    let h = c.in_ok-filters.ensures in
    let (v, is, value) = c.in_ok-value.ensures.says in
    let (fs, are, says) = h.says in (
      record { value = v; filters = fs },
      chain_entry (pool_of e) c.in_ok-value.value c.in_ok-filters.filters v fs (keeps_expr (pool_of m) (pool_of e) h.grown.pool c.in_ok-value.value v is) are,
      ap (λ t. went t (λ x. filters 4 d.mark next λ ys. pure (record { value = x; filters = ys }))) value
          ∙ ap (λ i. went (filters 4 i (under m)) (λ ys. pure (record { value = v; filters = ys }))) (sym c.in_ok-value.ensures.grown.mark)
          ∙ ap (λ t. went t (λ ys. pure (record { value = v; filters = ys }))) says,
    )
