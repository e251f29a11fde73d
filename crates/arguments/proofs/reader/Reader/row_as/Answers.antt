use Rattle.std.proofs.Common.{rules, ◌≡◌, ℕ, List, sym, ap, ◌∙◌, subst}
use Rattle.cutter.specs.Tokens.{token_of, reading, Parts}
use Rattle.cutter.specs.declared.places.Placed.{Placed}
use Rattle.cutter.specs.declared.tokens.Token.{Token}
use Rattle.cutter.specs.declared.tokens.Token.TheVariants as token
use Rattle.tree.specs.Expressions.{row_from}
use Rattle.arguments.specs.Judging.{State, went, pure}
use Rattle.arguments.specs.Values.{value_as, row_as}
use Rattle.arguments.specs.Reading.{Rows}
use Rattle.arguments.specs.Tables.{pool_of, under}
use Rattle.arguments.proofs.Chaining.{lies_within, refuses_went, said_same}
use Rattle.arguments.proofs.Rows.{of_row, row_plain}
use Rattle.arguments.proofs.reader.Reader.row_as.Goals as goal

pub bounds-requires : goal.bounds-requires
bounds-requires c =
    let p = c.args.word.place in
    let bs = c.args.word.bytes.now in
    let e = c.in-Range.ensures in
    let (from, to) = subst (Parts p bs) (sym e.reads) (e.parts p bs) in
    let lies = lies_within c.args.self.now.source.now p bs in
    record {
      from = lies c.in-Range.from.place c.in-Range.from.bytes.now c.requires.lies from;
      to = lies c.in-Range.to.place c.in-Range.to.bytes.now c.requires.lies to;
    }

-- the row of a token that is no range
as_value : (p : ℕ) (bs : List ℕ) (t : Token) (s : State) → reading t ≡ token_of p bs → ((x y : Placed) → t ≡ token.Range x y → ⊥) →
    row_as p (token_of p bs) s ≡ went (value_as p p (token_of p bs) s) (λ x. pure (row_from x))
as_value p bs t s e h = subst (λ r. row_as p r s ≡ went (value_as p p r s) (λ x. pure (row_from x))) e (ap (λ f. f s) (row_plain p t h))

pub returns-in_ok-value_as-in_default-clause-says : goal.returns-in_ok-value_as-in_default-clause-says
returns-in_ok-value_as-in_default-clause-says c =
    let d = c.args.self.now in
    let p = c.args.word.place in
    let x = c.in_ok-value_as-in_default.field-0 in
    let (y, is, says) = c.in_ok-value_as-in_default.ensures.says in
    (row_from y, of_row (pool_of c.value_as.new.self) x y is, as_value p c.args.word.bytes.now c.token.result (under d) c.token.ensures.reads c.in_default.not-Range ∙ ap (λ v. went v (λ x. pure (row_from x))) says)

pub returns-in_err-value_as-in_default-clause-says : goal.returns-in_err-value_as-in_default-clause-says
returns-in_err-value_as-in_default-clause-says c =
    let d = c.args.self.now in
    let p = c.args.word.place in
    let bs = c.args.word.bytes.now in
    let e = c.value_as.new.self in
    let m = value_as p p (token_of p bs) (under d) in
    let h = refuses_went c.in_err-value_as-in_default.field-0.0 m (λ x. pure (row_from x)) c.in_err-value_as-in_default.ensures.says in
    said_same c.from_residual.result (went m (λ x. pure (row_from x))) (row_as p (token_of p bs) (under d)) (Rows (pool_of e)) (under e) (as_value p bs c.token.result (under d) c.token.ensures.reads c.in_default.not-Range) (search rules)
