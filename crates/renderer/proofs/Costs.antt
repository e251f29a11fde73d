-- Each step of a rendering leaves fewer steps.
use Rattle.std.proofs.Common.{◌≡◌, ℕ, suc, ◌+◌, ◌-◌, ◌*◌, ◌^◌, ◌<◌, ◌≤◌, List, ◌∷◌, length, sym, ap, ◌∙◌, arith, mul-le-mul_right, mul-lt-mul_of_pos_right, add-mul, one-mul, mul_assoc, pow_pos}
use Rattle.std.proofs.lemmas.Nat.{pow-add}
use Rattle.frames.specs.declared.frame.Frame.{Frame}
use Rattle.frames.specs.declared.frame.Manner.{Manner}
use Rattle.frames.specs.declared.frame.Manner.TheVariants.{Once, Each, Cells, Keeping, Watching}
use Rattle.frames.specs.declared.item.Item.{Item}
use Rattle.frames.specs.Visits.{visited}
use Rattle.renderer.specs.declared.flow.Flow.{Flow}
use Rattle.renderer.specs.declared.flow.Flow.TheVariants.{Onward, Broken, Continued}
use Rattle.renderer.specs.declared.machine.Mode.TheVariants.{Elements, Ended, Between, Closing}
use Rattle.renderer.specs.Running.{mode_after, mode_after_visit}
use Rattle.renderer.specs.Costs.{weight, list_cost, mode_cost, cost}

weight_some : (k : ℕ) → 1 ≤ weight k
weight_some k = pow_pos (20 * (16 - k))

weight_more : (k : ℕ) → k < 16 → weight k ≡ weight (suc k) * 1048576
weight_more k lt = ap (λ n. 2 ^ n) (let e : 20 * (16 - k) ≡ 20 * (16 - suc k) + 20 = omega arith in e) ∙ pow-add 2 (20 * (16 - suc k)) 20

-- a shorter list
list_shorter : (k i j e : ℕ) → i < j → j ≤ e → list_cost k j e < list_cost k i e
list_shorter k i j e lt le = mul-lt-mul_of_pos_right (let h : e - j < e - i = omega arith in h) (weight_some k)

module _ (at e : ℕ) (fs : List Frame) where
  pub list_end_falls : (c : Flow) → cost (Ended c) at e fs < cost Elements at e fs
  list_end_falls c = omega arith

  after_least : (c : Flow) (i : ℕ) → mode_cost (mode_after c) i ≤ i + 3
  after_least Onward i = omega arith
  after_least Broken i = omega arith
  after_least Continued i = omega arith

  pub leaf_falls : (c : Flow) → at < e → cost (mode_after c) (at + 1) e fs < cost Elements at e fs
  leaf_falls c lt = omega (arith, after_least c (list_cost (length fs) (at + 1) e), list_shorter (length fs) at (at + 1) e (omega arith) (omega arith))

  pub skip_falls : (end : ℕ) → at < end → end ≤ e → cost Elements end e fs < cost Elements at e fs
  skip_falls end lt le = omega (arith, list_shorter (length fs) at end e lt le)

  -- all visits of an arm cost less than the nodes of its block
  visits_within : (t n m v : ℕ) → t ≤ 65535 → n < m → 1 ≤ v → t * (n * v + 5) + 3 ≤ m * (v * 1048576)
  visits_within t n m v few lt some =
      let visits : t * (n * v + 5) ≤ 65535 * (n * v + 5) = mul-le-mul_right (n * v + 5) few in
      let nodes : (n + 1) * v ≤ m * v = mul-le-mul_right v (let h : n + 1 ≤ m = omega arith in h) in
      let one_more : (n + 1) * v ≡ n * v + v = add-mul n 1 v ∙ ap (λ y. n * v + y) (one-mul v) in
      let all : m * (v * 1048576) ≡ m * v * 1048576 = sym (mul_assoc m v 1048576) in
      omega (arith, visits, nodes, one_more, all, some)

  pub open_falls : (f : Frame) → f.visit ≡ 0 → f.times ≤ 65535 → at < f.body → f.body ≤ f.end → f.end ≤ f.next → f.next ≤ e → f.outer ≡ e → length fs < 16 →
      cost Between f.end f.end (f ∷ fs) < cost Elements at e fs
  open_falls f start few lt le in_block in_list outer room =
      let k = length fs in
      let inner = list_cost (suc k) f.body f.end in
      let visits : (f.times - f.visit) * (inner + 5) ≡ f.times * (inner + 5) = ap (λ n. n * (inner + 5)) (let h : f.times - f.visit ≡ f.times = omega (arith, start) in h) in
      let within : f.times * (inner + 5) + 3 ≤ (f.next - at) * (weight (suc k) * 1048576) =
      visits_within f.times (f.end - f.body) (f.next - at) (weight (suc k)) few (omega arith) (weight_some (suc k)) in
      let block : (f.next - at) * (weight (suc k) * 1048576) ≡ (f.next - at) * weight k = ap (λ y. (f.next - at) * y) (sym (weight_more k room)) in
      let both : (e - at) * weight k ≡ (f.next - at) * weight k + (e - f.next) * weight k =
      ap (λ n. n * weight k) (let h : e - at ≡ f.next - at + (e - f.next) = omega arith in h) ∙ add-mul (f.next - at) (e - f.next) (weight k) in
      let rest : (f.outer - f.next) * weight k ≡ (e - f.next) * weight k = ap (λ y. (y - f.next) * weight k) outer in
      omega (arith, visits, within, block, both, rest)

  pub left_falls : (k : Manner) (c : Flow) → cost (mode_after_visit k c) at e fs < cost (Ended c) at e fs
  left_falls Once c = omega arith
  left_falls (Each v n) Onward = omega arith
  left_falls (Each v n) Broken = omega arith
  left_falls (Each v n) Continued = omega arith
  left_falls (Cells v n k) Onward = omega arith
  left_falls (Cells v n k) Broken = omega arith
  left_falls (Cells v n k) Continued = omega arith
  left_falls (Keeping n) c = omega arith
  left_falls Watching c = omega arith

  pub done_falls : (c : Flow) → cost (Closing c) at e fs < cost Between at e fs
  done_falls c = omega arith

  pub visit_falls : (x : Item) (f : Frame) → f.visit < f.times → cost Elements f.body f.end (visited x f ∷ fs) < cost Between at e (f ∷ fs)
  visit_falls x f lt =
      let v = list_cost (suc (length fs)) f.body f.end + 5 in
      let one : (f.times - f.visit) * v ≡ (f.times - (f.visit + 1)) * v + v =
      ap (λ n. n * v) (let h : f.times - f.visit ≡ f.times - (f.visit + 1) + 1 = omega arith in h) ∙ add-mul (f.times - (f.visit + 1)) 1 v ∙ ap (λ y. (f.times - (f.visit + 1)) * v + y) (one-mul v) in
      omega (arith, one)

  pub close_falls : (c : Flow) (f : Frame) → cost (mode_after c) f.next f.outer fs < cost (Closing c) at e (f ∷ fs)
  close_falls c f = omega (arith, after_least c (list_cost (length fs) f.next f.outer))
