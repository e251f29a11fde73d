-- Paths and their steps in the tables.
use Rattle.std.proofs.Common.{◌≡◌, ℕ, ◌+◌, ◌-◌, ◌<◌, ◌≤◌, List, [], ◌∷◌, ◌++◌, map, length, take, drop, Some, vec_items, Option, sym, refl, ap, ◌∙◌, subst, append_assoc, append-nil, arith, length-append}
use Rattle.std.proofs.lemmas.Bool.{le-leb}
use Rattle.std.proofs.lemmas.List.{drop_at, take_all, map-append}
use Rattle.std.specs.Option.{option_map}
use Rattle.cutter.specs.Paths.{PlacedStep, at_index, at_key, KeysInside}
use Rattle.tree.specs.Expressions as tree
use Rattle.nodes.specs.declared.exprs.Head.{Head}
use Rattle.nodes.specs.declared.exprs.Step.{Step}
use Rattle.nodes.specs.declared.exprs.Step.TheVariants.{Index, Key}
use Rattle.nodes.specs.declared.exprs.Span.{Span}
use Rattle.nodes.specs.declared.exprs.Expr.TheVariants.{Path}
use Rattle.nodes.specs.Exprs.{Pool, ◌so◌, only, bytes_of, each, entries, head_of, step_of, expr_of}
use Rattle.arguments.specs.declared.reader.Reader.{Reader}
use Rattle.nodes.proofs.Options.{some_is, so_parts}
use Rattle.arguments.specs.Values.{tree_step_of}
use Rattle.arguments.specs.Tables.{pool_of, under, Grown, Lies}
use Rattle.arguments.specs.Reading.{KeysIn, Entered, entry_of}
use Rattle.arguments.proofs.Chaining.{grown_then, grown_refl, part_bytes, lies_within}

pub path_of : (b : Pool) (h : Head) (s : Span) (y : tree.Head) (xs : List Step) (ts : List tree.Step) →
    head_of b h ≡ Some y → entries b.steps s ≡ Some xs → each (step_of b) xs ≡ Some ts → expr_of b (Path h s) ≡ Some (tree.path y ts)
unfolding expr_of
path_of b h s y xs ts p q r =
    ap (λ o. o so λ t. entries b.steps s so λ us. each (step_of b) us so λ vs. Some (tree.path t vs)) p
    ∙ ap (λ o. o so λ us. each (step_of b) us so λ vs. Some (tree.path y vs)) q
    ∙ ap (λ o. o so λ vs. Some (tree.path y vs)) r

pub no_entries : {A : Type 0} (xs : List A) → entries xs (record { from = 0; count = 0 }) ≡ Some []
no_entries xs = ap (λ t. only t (take 0 (drop 0 xs))) (le-leb 0 (length xs) (omega arith))

-- the entries that were added last
pub new_entries : {A : Type 0} (old new ys : List A) (from count : ℕ) → ys ≡ old ++ new → from ≡ length old → count ≡ length new → entries ys (record { from = from; count = count }) ≡ Some new
new_entries old new ys from count is f c =
    let long : length ys ≡ length old + length new = ap length is ∙ length-append old new in
    let rest : drop from ys ≡ new = ap (drop from) is ∙ drop_at old new from (sym f) in
    ap (λ t. only t (take count (drop from ys))) (le-leb (from + count) (length ys) (omega arith)) ∙ ap Some (ap (take count) rest ∙ take_all count new (omega arith))

pub step_entry : (b : Pool) (s : PlacedStep) → KeysIn b.source (s ∷ []) → step_of b (entry_of s) ≡ Some (tree_step_of s)
step_entry b (at_index z) h = refl
step_entry b (at_key p k) h = ap (option_map tree.key) (part_bytes b.source p k h.0)

step_source : (b c : Pool) → c.source ≡ b.source → (x : Step) → step_of c x ≡ step_of b x
step_source b c e (Index z) = refl
step_source b c e (Key p) = ap (λ t. option_map tree.key (bytes_of t p)) e

pub each_source : (b c : Pool) → c.source ≡ b.source → (xs : List Step) → each (step_of c) xs ≡ each (step_of b) xs
each_source b c e [] = refl
each_source b c e (x ∷ xs) =
    ap (λ o. o so λ y. each (step_of c) xs so λ ys. Some (y ∷ ys)) (step_source b c e x) ∙ ap (λ r. step_of b x so λ y. r so λ ys. Some (y ∷ ys)) (each_source b c e xs)

-- one of the steps, whose keys stand in the source
keys_at : (source : List ℕ) (done : List PlacedStep) (s : PlacedStep) (left : List PlacedStep) → KeysIn source (done ++ (s ∷ left)) → KeysIn source (s ∷ [])
keys_at source [] (at_index z) left h = tt
keys_at source [] (at_key p k) left h = (h.0, tt)
keys_at source (at_index z ∷ done) s left h = keys_at source done s left h
keys_at source (at_key p k ∷ done) s left h = keys_at source done s left h.1

pub each_more : {A B : Type 0} (f : A → Option B) (xs : List A) (ys : List B) (x : A) (y : B) → each f xs ≡ Some ys → f x ≡ Some y → each f (xs ++ (x ∷ [])) ≡ Some (ys ++ (y ∷ []))
each_more f [] ys x y e h = ap (λ o. o so λ t. Some (t ∷ [])) h ∙ ap (λ l. Some (l ++ (y ∷ []))) (some_is [] ys e)
each_more f (z ∷ xs) ys x y e h =
    let (w, p, q) = so_parts (f z) (λ t. each f xs so λ ts. Some (t ∷ ts)) ys e in
    let (ws, r, t) = so_parts (each f xs) (λ ts. Some (w ∷ ts)) ys q in
    ap (λ o. o so λ t. each f (xs ++ (x ∷ [])) so λ ts. Some (t ∷ ts)) p
    ∙ ap (λ o. o so λ ts. Some (w ∷ ts)) (each_more f xs ws x y r h)
    ∙ ap (λ l. Some (l ++ (y ∷ []))) (some_is (w ∷ ws) ys t)

-- those of the steps that are not left are in the table
pub record Pushing (d m : Reader) (ss left : List PlacedStep) : Type 0 where
  pub done : List PlacedStep
  pub new : List Step
  pub split : ss ≡ done ++ left
  pub is : vec_items m.steps ≡ vec_items d.steps ++ new
  pub are : each (step_of (pool_of d)) new ≡ Some (map tree_step_of done)
  pub long : length new ≡ length done
  pub few : length done ≤ 4
  pub grown : Grown d m
  pub same : under m ≡ under d

pub pushing_none : (d : Reader) (ss left : List PlacedStep) → left ≡ ss → Pushing d d ss left
pushing_none d ss left e =
    record { done = []; new = []; split = sym e; is = sym (append-nil (vec_items d.steps)); are = refl; long = refl; few = omega arith; grown = grown_refl d; same = refl }

pub pushing_more : (d m e : Reader) (ss : List PlacedStep) (s : PlacedStep) (before left : List PlacedStep) → before ≡ s ∷ left → KeysIn d.source.now ss →
    (p : Pushing d m ss before) → length p.new < 4 → vec_items e.steps ≡ vec_items m.steps ++ (entry_of s ∷ []) → Grown m e → under e ≡ under m → Pushing d e ss left
pushing_more d m e ss s before left walked keys p room is grown same =
    let split : ss ≡ p.done ++ (s ∷ left) = p.split ∙ ap (λ l. p.done ++ l) walked in
    let key = keys_at d.source.now p.done s left (subst (KeysIn d.source.now) split keys) in
    record {
      done = p.done ++ (s ∷ []);
      new = p.new ++ (entry_of s ∷ []);
      split = split ∙ sym (append_assoc p.done (s ∷ []) left);
      is = is ∙ ap (λ l. l ++ (entry_of s ∷ [])) p.is ∙ append_assoc (vec_items d.steps) p.new (entry_of s ∷ []);
      are = each_more (step_of (pool_of d)) p.new (map tree_step_of p.done) (entry_of s) (tree_step_of s) p.are (step_entry (pool_of d) s key) ∙ ap Some (sym (map-append tree_step_of p.done (s ∷ [])));
      long = length-append p.new (entry_of s ∷ []) ∙ ap (λ n. n + 1) p.long ∙ sym (length-append p.done (s ∷ []));
      few = omega (arith, length-append p.done (s ∷ []), p.long);
      grown = grown_then d m e p.grown grown;
      same = same ∙ p.same;
    }

-- all of them are
pub pushing_all : (d m : Reader) (ss left : List PlacedStep) (from count : ℕ) → left ≡ [] → from ≡ length (vec_items d.steps) → count ≡ length (vec_items m.steps) - from →
    Pushing d m ss left → Entered m ss (record { from = from; count = count })
pushing_all d m ss left from count none f c p =
    let done : ss ≡ p.done = p.split ∙ ap (λ l. p.done ++ l) none ∙ append-nil p.done in
    let long : length (vec_items m.steps) ≡ length (vec_items d.steps) + length p.new = ap length p.is ∙ length-append (vec_items d.steps) p.new in
    record {
      few = le-leb (length ss) 4 (omega (arith, ap length done, p.few));
      new = p.new;
      there = new_entries (vec_items d.steps) p.new (vec_items m.steps) from count p.is f (omega arith);
      are = each_source (pool_of d) (pool_of m) p.grown.pool.source p.new ∙ p.are ∙ ap (λ l. Some (map tree_step_of l)) (sym done);
    }

-- how many were pushed
pub pushed_count : (d m : Reader) (ss left : List PlacedStep) (p : Pushing d m ss left) → length (vec_items m.steps) ≡ length (vec_items d.steps) + length p.new
pushed_count d m ss left p = ap length p.is ∙ length-append (vec_items d.steps) p.new

-- the keys of steps that stand in the source stand there too
pub keys_in : (source : List ℕ) (p : ℕ) (bs : List ℕ) (ss : List PlacedStep) → Lies source p bs → KeysInside p bs ss → KeysIn source ss
keys_in source p bs [] h k = tt
keys_in source p bs (at_index z ∷ ss) h k = keys_in source p bs ss h k
keys_in source p bs (at_key q key ∷ ss) h k = (lies_within source p bs q key h k.0, keys_in source p bs ss h k.1)
