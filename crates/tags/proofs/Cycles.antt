-- The values and the name of a `cycle` as they are read.
use Rattle.std.proofs.Common.{◌≡◌, ℕ, zero, suc, ◌-◌, ◌<◌, Bool, true, false, cond, ltb, List, [], ◌∷◌, ◌++◌, Some, Option, refl, sym, ap, ◌∙◌, subst, append_assoc, arith}
use Rattle.std.proofs.lemmas.Bool.{lt-ltb}
use Rattle.cutter.specs.declared.lengths.Symbol.TheVariants.{Comma}
use Rattle.cutter.specs.Words.{Words, over, wrong, word}
use Rattle.tree.specs.Expressions.{Expr}
use Rattle.tree.specs.Elements.{cycle}
use Rattle.nodes.specs.declared.exprs.Span.{Span}
use Rattle.nodes.specs.declared.table.Leaf.TheVariants.{Cycle}
use Rattle.nodes.specs.Exprs.{Pool, ◌so◌, only}
use Rattle.nodes.specs.Trees.{leaf_of}
use Rattle.arguments.specs.declared.refusals.Stop.{Stop}
use Rattle.arguments.specs.declared.refusals.Stop.TheVariants.{Refused, Memory}
use Rattle.arguments.specs.declared.refusals.Refusal.TheVariants.{Limit, Argument}
use Rattle.arguments.specs.Judging.{Lists, State, state, Verdict, refuses, passes, went, ◌next◌, refuse, Seen, seen, token, token_if}
use Rattle.arguments.specs.Values.{read, is_value, value_as, value, symbol_at}
use Rattle.arguments.specs.Tables.{Refuses}
use Rattle.arguments.specs.Reading.{one_too_many}
use Rattle.arguments.proofs.Anywhere.{moved, value_anywhere}
use Rattle.tags.specs.Reading.{Values}
use Rattle.tags.specs.Cycles.{Written, written, listed, values_of, joined_with}

pub values_over : (left : ℕ) (a : Words) (l : Lists) → a ≡ over → values_of left (state a l) ≡ passes [] (state a l)
unfolding token_if
values_over zero a l e = ap (λ x. values_of zero (state x l)) e ∙ ap (λ x. passes [] (state x l)) (sym e)
values_over (suc n) a l e = ap (λ x. values_of (suc n) (state x l)) e ∙ ap (λ x. passes [] (state x l)) (sym e)

pub values_wrong : (left : ℕ) (a : Words) (l : Lists) (p : ℕ) → a ≡ wrong p → values_of left (state a l) ≡ refuses 4 p
unfolding token_if
values_wrong zero a l p e = ap (λ x. values_of zero (state x l)) e
values_wrong (suc n) a l p e = ap (λ x. values_of (suc n) (state x l)) e

refuses_one : (b : Bool) (p : ℕ) (s : State) → Refuses (cond b (Refused Limit p) (Refused Argument p)) (cond b (refuse {A = List Written} 2 p) (refuse 6 p) s)
refuses_one true p s = refl
refuses_one false p s = refl

-- one value more than there may be
pub values_full : (left : ℕ) (a rest : Words) (p : ℕ) (b : List ℕ) (l : Lists) (e : Stop) → left ≡ 0 → a ≡ word p b rest → e ≡ one_too_many (seen p b) → Refuses e (values_of left (state a l))
unfolding token_if
values_full left a rest p b l e z h q =
    subst (λ n. Refuses e (values_of n (state a l))) (sym z)
    (subst (λ x. Refuses e (values_of 0 (state x l))) (sym h) (subst (λ x. Refuses x (values_of 0 (state (word p b rest) l))) (sym q) (refuses_one (is_value (read (seen p b))) p (state rest l))))

-- a value, and what follows
pub values_word : (left m : ℕ) (a rest : Words) (p : ℕ) (b : List ℕ) (l : Lists) → 0 < left → a ≡ word p b rest →
    values_of left (state a l) ≡ went (value m (state a l)) (λ x. token_if (symbol_at Comma) next λ c. listed (values_of (left - 1)) (written (seen p b) x) c)
unfolding token_if token value
values_word zero m a rest p b l some h = absurd (omega arith)
values_word (suc n) m a rest p b l some h =
    let less : suc n - 1 ≡ n = omega arith in
    ap (λ x. values_of (suc n) (state x l)) h
    ∙ sym (ap (λ x. went (value m (state x l)) (λ y. token_if (symbol_at Comma) next λ c. listed (values_of n) (written (seen p b) y) c)) h)
    ∙ ap (λ k. went (value m (state a l)) (λ y. token_if (symbol_at Comma) next λ c. listed (values_of k) (written (seen p b) y) c)) (sym less)

module _ (left m : ℕ) (a rest : Words) (p : ℕ) (b : List ℕ) (l : Lists) (some : 0 < left) (h : a ≡ word p b rest) where
  pub values_taken : (x : Expr) (u : State) → value m (state a l) ≡ passes x u →
      values_of left (state a l) ≡ went (token_if (symbol_at Comma) u) (λ c. listed (values_of (left - 1)) (written (seen p b) x) c)
  values_taken x u e = values_word left m a rest p b l some h ∙ ap (λ v. went v (λ y. token_if (symbol_at Comma) next λ c. listed (values_of (left - 1)) (written (seen p b) y) c)) e

  pub values_behind : (x : Expr) (u : State) (o i : Option ℕ) (v : State) → value m (state a l) ≡ passes x u → token_if (symbol_at Comma) u ≡ passes o v → o ≡ i →
      values_of left (state a l) ≡ listed (values_of (left - 1)) (written (seen p b) x) i v
  values_behind x u o i v e f q =
      values_taken x u e
      ∙ ap (λ w. went w (λ c. listed (values_of (left - 1)) (written (seen p b) x) c)) f
      ∙ ap (λ c. listed (values_of (left - 1)) (written (seen p b) x) c v) q

pub joined_front : (a c : List ℕ) (ws : List Written) → joined_with (a ++ c) ws ≡ a ++ joined_with c ws
joined_front a c [] = refl
joined_front a c (x ∷ xs) = append_assoc a c (44 ∷ 32 ∷ joined_with x.bytes xs)

-- a value that goes on with a name, and those behind it
pub joined_more : (a b : List ℕ) (ws : List Written) → joined_with (a ++ (44 ∷ 32 ∷ b)) ws ≡ a ++ (44 ∷ 32 ∷ joined_with b ws)
joined_more a b ws = joined_front a (44 ∷ 32 ∷ b) ws ∙ ap (λ x. a ++ x) (joined_front (44 ∷ 32 ∷ []) b ws)

pub cycle_leaf : (b : Pool) (n k : ℕ) (s : Span) (xs : List Expr) → Values b s xs → k ≡ n → n < b.cycles → leaf_of b (Cycle n s) ≡ Some (cycle k xs)
unfolding leaf_of
cycle_leaf b n k s xs are same below =
    ap (λ o. o so λ ys. only (ltb n b.cycles) (cycle n ys)) are ∙ ap (λ t. only t (cycle n xs)) (lt-ltb n b.cycles below) ∙ ap (λ i. Some (cycle i xs)) (sym same)

-- the first value, with what is ahead put back
pub first_back : (m : ℕ) (a b rest : Words) (p : ℕ) (t : List ℕ) (l : Lists) → a ≡ word p t rest → value_as p p (read (seen p t)) (state b l) ≡ moved b (value m (state a l))
unfolding value token
first_back m a b rest p t l h = value_anywhere p p (read (seen p t)) rest b l ∙ sym (ap (λ x. moved b (value m (state x l))) h)

pub refuses_moved : {A : Type 0} (e : Stop) (b : Words) (v : Verdict A) → Refuses e v → Refuses e (moved b v)
refuses_moved (Refused k p) b v h = ap (moved b) h
refuses_moved Memory b v h = tt

-- a token that was taken stood ahead
pub token_ahead : (m : ℕ) (a : Words) (l : Lists) (y w : Seen) (s : State) → token m (state a l) ≡ passes y s → y ≡ w → (rest : Words) × (a ≡ word w.place w.bytes rest)
unfolding token
token_ahead m over l y w s h e = cc
token_ahead m (wrong p) l y w s h e = cc
token_ahead m (word p b rest) l y w s h e = let same : seen p b ≡ w = cc in (rest, ap (λ z. word z.place z.bytes rest) same)
