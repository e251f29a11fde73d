use Rattle.std.proofs.Common.{◌≡◌, ℕ, ℤ, pos, ◌+ℤ◌, ◌-ℤ◌, ◌<ℤ◌, Some, sym, ap, ◌∙◌, arith, w64, SFits, to_z, of_z, rules}
use Rattle.std.proofs.lemmas.Int.{ints}
use Rattle.std.proofs.lemmas.Option.{slice_get_past}
use Rattle.rows.specs.Counted.{held}
use Rattle.rows.proofs.Countings.{held_at}
use Rattle.rows.proofs.numbers.NumbersRow.item.Goals as goal

summed : (from to : ℤ) (k : ℕ) → SFits w64 from → SFits w64 to → pos k <ℤ ((to -ℤ from) +ℤ pos 1) → SFits w64 (from +ℤ pos k)
summed from to k f t l = grind (arith, ints)

pub overflow_cast-result : goal.overflow_cast-result
overflow_cast-result c = let s = c.args.self.now in let h = held_at s.from s.to c.args.k (omega arith) in record { sfits = omega (arith, ints, h.2) }

pub overflow_add-result : goal.overflow_add-result
overflow_add-result c =
    let s = c.args.self.now in
    let f : SFits w64 s.from = search rules in
    let t : SFits w64 s.to = search rules in
    let h = held_at s.from s.to c.args.k (omega arith) in
    let e : to_z w64 (of_z w64 s.from) +ℤ to_z w64 c.args.k ≡ s.from +ℤ pos c.args.k = omega (arith, ints, h.1, h.2) in
    rw e (summed s.from s.to c.args.k f t h.1)

pub returns-then-k-count : goal.returns-then-k-count
returns-then-k-count c =
    let s = c.args.self.now in
    let f : SFits w64 s.from = search rules in
    let t : SFits w64 s.to = search rules in
    let h = held_at s.from s.to c.args.k (omega arith) in
    let e : to_z w64 (of_z w64 (to_z w64 (of_z w64 s.from) +ℤ to_z w64 c.args.k)) ≡ s.from +ℤ pos c.args.k = omega (arith, ints, h.1) in
    ap Some e ∙ sym h.0

pub returns-else-k-count : goal.returns-else-k-count
returns-else-k-count c = let s = c.args.self.now in sym (slice_get_past (held s.from s.to) c.args.k (omega arith))
