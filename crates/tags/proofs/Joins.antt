-- Conditions as nodes.
use Rattle.std.proofs.Common.{◌≡◌, ℕ, zero, suc, ◌+◌, ◌<◌, true, false, cond, eqb, ltb, List, [], ◌∷◌, ◌++◌, length, Some, vec_items, sym, refl, ap, ◌∙◌, subst, append_assoc, arith, length-append}
use Rattle.std.proofs.Math.Seq.{get_or-append_seam}
use Rattle.std.proofs.lemmas.Bool.{ltb-true, lt-ltb, eq-eqb, ne_eqb}
use Rattle.std.proofs.lemmas.Option.{slice_get-get_or}
use Rattle.std.specs.List.{slice_get}
use Rattle.tree.specs.Conditions.{Test, Condition, only}
use Rattle.nodes.specs.declared.table.Node.{Node}
use Rattle.nodes.specs.Exprs.{Pool, ◌so◌, where_so}
use Rattle.nodes.specs.Trees.{test_of, join_of, condition_of}
use Rattle.nodes.proofs.Options.{none_some, where_parts}
use Rattle.nodes.proofs.Widens.{wider_then, keeps_test}
use Rattle.arguments.specs.declared.reader.Reader.{Reader}
use Rattle.arguments.specs.Tables.{pool_of, Grown, Longer}
use Rattle.tags.specs.declared.stdlib.blocks.if_block.Joint.{Joint}
use Rattle.tags.specs.declared.stdlib.blocks.if_block.Joint.TheVariants.{And, Or}
use Rattle.tags.specs.Conditions.{join}
use Rattle.tags.specs.Reading.{Last, Stands, node_of}

get_seam : {A : Type 0} (xs : List A) (y : A) (ys : List A) → slice_get (xs ++ (y ∷ ys)) (length xs) ≡ Some y
get_seam xs y ys = slice_get-get_or (xs ++ (y ∷ ys)) (length xs) y (omega (arith, length-append xs (y ∷ ys))) ∙ ap Some (get_or-append_seam xs y ys y)

-- a condition has a node
some_before : (b : Pool) (nodes : List Node) (k i e : ℕ) (x : Condition) → condition_of b nodes k i e ≡ Some x → i < e
some_before b nodes zero i e x h = none_some x h
some_before b nodes (suc k) i e x h = ltb-true i e (where_parts (ltb i e) _ x h).0

-- one test
pub lone_stands : (b : Pool) (old nodes : List Node) (n : Node) (t : Test) → nodes ≡ old ++ (n ∷ []) → test_of b n ≡ Some t → Stands b nodes (length old) (length nodes) tt (only t)
lone_stands b old nodes n t is test =
    let i = length old in
    let e = length nodes in
    let long : e ≡ i + 1 = ap length is ∙ length-append old (n ∷ []) in
    let last : eqb (i + 1) e ≡ true = eq-eqb (i + 1) e (sym long) in
    let behind = λ (m : Node). test_of b m so λ y. cond (eqb (i + 1) e) (Some (only y)) (where_so (ltb (i + 1) e) (slice_get nodes (i + 1) so λ j. condition_of b nodes 0 (i + 2) e so λ c. join_of b j y c)) in
    record {
      k = 1;
      count = omega arith;
      is =
          ap (λ w. where_so w (slice_get nodes i so behind)) (lt-ltb i e (omega arith))
          ∙ ap (λ o. o so behind) (ap (λ l. slice_get l i) is ∙ get_seam old n [])
          ∙ ap (λ o. o so λ y. cond (eqb (i + 1) e) (Some (only y)) (where_so (ltb (i + 1) e) (slice_get nodes (i + 1) so λ j. condition_of b nodes 0 (i + 2) e so λ c. join_of b j y c))) test
          ∙ ap (λ w. cond w (Some (only t)) (where_so (ltb (i + 1) e) (slice_get nodes (i + 1) so λ j. condition_of b nodes 0 (i + 2) e so λ c. join_of b j t c))) last;
    }

-- a test, what joins it with the rest, and the rest
more_stands : (b : Pool) (old more nodes : List Node) (n j : Node) (t : Test) (e : ℕ) (x y : Condition) → nodes ≡ old ++ (n ∷ j ∷ more) → test_of b n ≡ Some t → join_of b j t x ≡ Some y →
    Stands b nodes (length old + 2) e tt x → Stands b nodes (length old) e tt y
more_stands b old more nodes n j t e x y is test join rest =
    let i = length old in
    let before = some_before b nodes rest.k (i + 2) e x rest.is in
    let other : eqb (i + 1) e ≡ false = ne_eqb (i + 1) e (λ q. absurd (omega (arith, q))) in
    let here = λ (z : Test). slice_get nodes (i + 1) so λ j. condition_of b nodes rest.k (i + 2) e so λ c. join_of b j z c in
    let behind = λ (m : Node). test_of b m so λ z. cond (eqb (i + 1) e) (Some (only z)) (where_so (ltb (i + 1) e) (here z)) in
    let second : slice_get nodes (i + 1) ≡ Some j =
    ap (λ l. slice_get l (i + 1)) (is ∙ sym (append_assoc old (n ∷ []) (j ∷ more)))
    ∙ ap (λ p. slice_get ((old ++ (n ∷ [])) ++ (j ∷ more)) p) (sym (length-append old (n ∷ [])))
    ∙ get_seam (old ++ (n ∷ [])) j more in
    record {
      k = suc rest.k;
      count = omega (arith, rest.count);
      is =
          ap (λ w. where_so w (slice_get nodes i so behind)) (lt-ltb i e (omega arith))
          ∙ ap (λ o. o so behind) (ap (λ l. slice_get l i) is ∙ get_seam old n (j ∷ more))
          ∙ ap (λ o. o so λ z. cond (eqb (i + 1) e) (Some (only z)) (where_so (ltb (i + 1) e) (here z))) test
          ∙ ap (λ w. cond w (Some (only t)) (where_so (ltb (i + 1) e) (here t))) other
          ∙ ap (λ w. where_so w (here t)) (lt-ltb (i + 1) e (omega arith))
          ∙ ap (λ o. o so λ m. condition_of b nodes rest.k (i + 2) e so λ c. join_of b m t c) second
          ∙ ap (λ o. o so λ c. join_of b j t c) rest.is
          ∙ join;
    }

-- the same, as the nodes enter one after another
pub rest_stands : (d u v w g : Reader) (t : Test) (j : Node) (x y : Condition) → Last d u tt t → Grown u v → vec_items w.nodes ≡ vec_items v.nodes ++ (j ∷ []) → Longer v w → Longer w g →
    join_of (pool_of g) j t x ≡ Some y →
    Stands (pool_of g) (vec_items g.nodes) (length (vec_items w.nodes)) (length (vec_items g.nodes)) tt x → Stands (pool_of g) (vec_items g.nodes) (length (vec_items d.nodes)) (length (vec_items g.nodes)) tt y
rest_stands d u v w g t j x y last grown pushed longer rest join stands =
    let old = vec_items d.nodes in
    let wide = wider_then (pool_of u) (pool_of w) (pool_of g) (wider_then (pool_of u) (pool_of v) (pool_of w) grown.pool longer.pool) rest.pool in
    let two : vec_items w.nodes ≡ old ++ (last.node ∷ j ∷ []) = pushed ∙ ap (λ l. l ++ (j ∷ [])) (grown.nodes ∙ last.nodes) ∙ append_assoc old (last.node ∷ []) (j ∷ []) in
    let all : vec_items g.nodes ≡ old ++ (last.node ∷ j ∷ rest.nodes.more) = rest.nodes.is ∙ ap (λ l. l ++ rest.nodes.more) two ∙ append_assoc old (last.node ∷ j ∷ []) rest.nodes.more in
    let from : length (vec_items w.nodes) ≡ length old + 2 = ap length two ∙ length-append old (last.node ∷ j ∷ []) in
    more_stands (pool_of g) old rest.nodes.more (vec_items g.nodes) last.node j t (length (vec_items g.nodes)) x y all
    (keeps_test (pool_of u) (pool_of g) wide last.node t last.is) join
    (subst (λ i. Stands (pool_of g) (vec_items g.nodes) i (length (vec_items g.nodes)) tt x) from stands)

-- a test that is the last
pub last_stands : (d u v g : Reader) (t : Test) → Last d u tt t → Grown u v → Grown v g → Stands (pool_of g) (vec_items g.nodes) (length (vec_items d.nodes)) (length (vec_items g.nodes)) tt (only t)
last_stands d u v g t last h k =
    lone_stands (pool_of g) (vec_items d.nodes) (vec_items g.nodes) last.node t (k.nodes ∙ h.nodes ∙ last.nodes)
    (keeps_test (pool_of u) (pool_of g) (wider_then (pool_of u) (pool_of v) (pool_of g) h.pool k.pool) last.node t last.is)

pub join_as : (b : Pool) (j : Joint) (t : Test) (x : Condition) → join_of b (node_of j) t x ≡ Some (join j t x)
join_as b (And p) t x = refl
join_as b (Or p) t x = refl
