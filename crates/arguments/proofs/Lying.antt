-- The parts of a token stand in the source.
use Rattle.std.proofs.Common.{◌≡◌, ℕ, ◌+◌, ◌-◌, ◌≤◌, List, ◌++◌, length, take, drop, sym, refl, ap, ◌∙◌, arith, length-append}
use Rattle.std.proofs.lemmas.List.{take_at, drop_at, take_all}
use Rattle.arguments.specs.Tables.{Lies}
use Rattle.arguments.proofs.Chaining.{lies_within}

module _ (source : List ℕ) (p : ℕ) (bs : List ℕ) (h : Lies source p bs) where
  pub lies_text : (t : List ℕ) → 1 + length t ≤ length bs → t ≡ take (length t) (drop 1 bs) → Lies source (p + 1) t
  lies_text t fits is =
      let one : p + 1 - p ≡ 1 = omega arith in
      lies_within source p bs (p + 1) t h (record { from = omega arith; to = omega arith; is = is ∙ ap (λ j. take (length t) (drop j bs)) (sym one) })

  pub lies_front : (n s : List ℕ) → bs ≡ n ++ s → Lies source p n
  lies_front n s is =
      let none : p - p ≡ 0 = omega arith in
      lies_within source p bs p n h (record { from = omega arith; to = omega (arith, ap length is, length-append n s); is = sym (take_at n s (length n) refl) ∙ ap (take (length n)) (sym is) ∙ ap (λ j. take (length n) (drop j bs)) (sym none) })

  pub lies_back : (n s : List ℕ) → bs ≡ n ++ s → Lies source (p + length n) s
  lies_back n s is =
      let off : p + length n - p ≡ length n = omega arith in
      lies_within source p bs (p + length n) s h
      (record {
        from = omega arith;
        to = omega (arith, ap length is, length-append n s);
        is = sym (take_all (length s) s (omega arith)) ∙ ap (take (length s)) (sym (drop_at n s (length n) refl) ∙ ap (drop (length n)) (sym is) ∙ ap (λ j. drop j bs) (sym off));
      })
