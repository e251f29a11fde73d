-- The memory of calls, of which some are made.
use Rattle.std.proofs.Common.{◌≡◌, ℕ, zero, suc, ◌+◌, ◌<◌, ◌≤◌, List, [], ◌∷◌, length, get_or, slice_set, ap, subst, ◌∙◌, arith}
use Rattle.renderer.specs.declared.call.Call.{Call}
use Rattle.renderer.specs.Call.{Leaves, EachLeaves}

-- of the first i calls what each leaves, and the others are as they were
abbrev pub Made : ℕ → List Call → List Call → Type 0
Made zero old now = now ≡ old
Made (suc i) [] [] = Unit {0}
Made (suc i) [] (d ∷ ds) = ⊥
Made (suc i) (c ∷ cs) [] = ⊥
Made (suc i) (c ∷ cs) (d ∷ ds) = Leaves c d × Made i cs ds

head_same : (c d : Call) (cs ds : List Call) → c ∷ cs ≡ d ∷ ds → c ≡ d
head_same c d cs ds e = cc

tail_same : (c d : Call) (cs ds : List Call) → c ∷ cs ≡ d ∷ ds → cs ≡ ds
tail_same c d cs ds e = cc

one_more : (i : ℕ) (old now : List Call) (x y : Call) → i < length now → x ≡ get_or now i x → Leaves x y → Made i old now → Made (suc i) old (slice_set now i y)
one_more zero old [] x y l e h m = absurd (omega arith)
one_more zero [] (d ∷ ds) x y l e h m = let z : ◌≡◌ {A = ℕ} (length (d ∷ ds)) 0 = ap length m in absurd (omega (arith, z))
one_more zero (c ∷ cs) (d ∷ ds) x y l e h m = (subst (λ z. Leaves z y) (e ∙ head_same d c ds cs m) h, tail_same d c ds cs m)
one_more (suc i) old [] x y l e h m = absurd (omega arith)
one_more (suc i) [] (d ∷ ds) x y l e h m = absurd m
one_more (suc i) (c ∷ cs) (d ∷ ds) x y l e h m = (m.0, one_more i cs ds x y (omega (arith, l)) e h m.1)

pub made_more : (i : ℕ) (old now : List Call) (x y : Call) → i < length now → x ≡ get_or now i x → Leaves x y → Made i old now → Made (i + 1) old (slice_set now i y)
made_more i old now x y l e h m = subst (λ j. Made j old (slice_set now i y)) (let q : suc i ≡ i + 1 = omega arith in q) (one_more i old now x y l e h m)

pub made_all : (i : ℕ) (old now : List Call) → length now ≤ i → Made i old now → EachLeaves old now
made_all zero [] [] l m = tt
made_all zero (c ∷ cs) [] l m = let z : ◌≡◌ {A = ℕ} 0 (length (c ∷ cs)) = ap length m in absurd (omega (arith, z))
made_all zero old (d ∷ ds) l m = absurd (omega (arith, l))
made_all (suc i) [] [] l m = tt
made_all (suc i) [] (d ∷ ds) l m = absurd m
made_all (suc i) (c ∷ cs) [] l m = absurd m
made_all (suc i) (c ∷ cs) (d ∷ ds) l m = (m.0, made_all i cs ds (omega (arith, l)) m.1)
