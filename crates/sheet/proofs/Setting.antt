-- A node that is set, and nodes that are dropped.
use Rattle.std.proofs.Common.{◌≡◌, ℕ, zero, suc, ◌+◌, ◌<◌, ◌≤◌, List, [], ◌∷◌, ◌++◌, map, length, take, Some, vec_items, slice_set, refl, sym, ap, ap₂, ◌∙◌, subst, arith}
use Rattle.std.proofs.lemmas.List.{length-set}
use Rattle.std.specs.List.{slice_get}
use Rattle.nodes.specs.declared.table.Node.{Node}
use Rattle.nodes.specs.Exprs.{Pool}
use Rattle.nodes.specs.Wider.{Front, Wider, Agree}
use Rattle.nodes.proofs.Options.{front_refl}
use Rattle.nodes.proofs.Widens.{wider_refl}
use Rattle.arguments.specs.declared.reader.Reader.{Reader}
use Rattle.arguments.specs.Judging.{CycleName, Asked, Lists, noted}
use Rattle.arguments.specs.Tables.{part_in, cycle_of, asked_in, pool_of, lists_of, Sets}
use Rattle.sheet.specs.declared.parser.Parser.{Parser}
use Rattle.sheet.specs.Steps.{pieces}
use Rattle.sheet.specs.Answers.{source_of, nodes_of, count, cut_of, Went}
use Rattle.sheet.proofs.Chaining.{front_length}

pub get_set : {A : Type 0} (xs : List A) (i : ℕ) (x : A) → i < length xs → slice_get (slice_set xs i x) i ≡ Some x
get_set [] i x h = absurd (omega (arith, h))
get_set (y ∷ ys) zero x h = refl
get_set (y ∷ ys) (suc i) x h = get_set ys i x (omega (arith, h))

pub get_other : {A : Type 0} (xs : List A) (i k : ℕ) (x : A) → i < k → slice_get (slice_set xs i x) k ≡ slice_get xs k
get_other [] i k x h = refl
get_other (y ∷ ys) zero zero x h = absurd (omega (arith, h))
get_other (y ∷ ys) zero (suc k) x h = refl
get_other (y ∷ ys) (suc i) zero x h = refl
get_other (y ∷ ys) (suc i) (suc k) x h = get_other ys i k x (omega (arith, h))

set_behind : {A : Type 0} (xs more : List A) (i : ℕ) (x : A) → length xs ≤ i → (m : List A) × (slice_set (xs ++ more) i x ≡ xs ++ m)
set_behind [] more i x h = (slice_set more i x, refl)
set_behind (y ∷ ys) more zero x h = absurd (omega (arith, h))
set_behind (y ∷ ys) more (suc i) x h = let (m, e) = set_behind ys more i x (omega (arith, h)) in (m, ap (λ l. y ∷ l) e)

take_behind : {A : Type 0} (xs more : List A) (i : ℕ) → length xs ≤ i → (m : List A) × (take i (xs ++ more) ≡ xs ++ m)
take_behind [] more i h = (take i more, refl)
take_behind (y ∷ ys) more zero h = absurd (omega (arith, h))
take_behind (y ∷ ys) more (suc i) h = let (m, e) = take_behind ys more i (omega (arith, h)) in (m, ap (λ l. y ∷ l) e)

pub front_set : {A : Type 0} (xs ys : List A) (i : ℕ) (x : A) → Front xs ys → length xs ≤ i → Front xs (slice_set ys i x)
front_set xs ys i x h k = let (m, e) = set_behind xs h.more i x k in record { more = m; is = ap (λ l. slice_set l i x) h.is ∙ e }

pub front_take : {A : Type 0} (xs ys : List A) (i : ℕ) → Front xs ys → length xs ≤ i → Front xs (take i ys)
front_take xs ys i h k = let (m, e) = take_behind xs h.more i k in record { more = m; is = ap (take i) h.is ∙ e }

abbrev pub made : List (List ℕ) → List CycleName → ℕ → List Asked → Lists
made a b n d = record { names = a; cycles = b; nodes = n; asked = d }

module _ (d e : Reader) (ns : List Node) (h : Sets d e ns) where
  source : e.source.now ≡ d.source.now
  source = ap (λ b. b.source) h.pool

  pub lists_set : lists_of e ≡ noted (length ns) (lists_of d)
  lists_set =
      ap (λ t. made t (map cycle_of (vec_items e.cycles)) (length (vec_items e.nodes)) (map (asked_in e.source.now) (vec_items e.filters))) (ap₂ (λ s l. map (part_in s) l) source h.names)
      ∙ ap (λ t. made (map (part_in d.source.now) (vec_items d.names)) t (length (vec_items e.nodes)) (map (asked_in e.source.now) (vec_items e.filters))) (ap (map cycle_of) h.cycles)
      ∙ ap (λ t. made (map (part_in d.source.now) (vec_items d.names)) (map cycle_of (vec_items d.cycles)) t (map (asked_in e.source.now) (vec_items e.filters))) (ap length h.nodes)
      ∙ ap (λ t. made (map (part_in d.source.now) (vec_items d.names)) (map cycle_of (vec_items d.cycles)) (length ns) t) (ap₂ (λ s l. map (asked_in s) l) source (ap (λ b. b.filters) h.pool))

  pub wider_set : (b : Pool) → Wider b (pool_of d) → Wider b (pool_of e)
  wider_set b w = subst (Wider b) (sym h.pool) w

-- a parser goes on with nodes that are set or dropped behind the old ones
pub went_sets : (p s u : Parser) (ns : List Node) → Went p s → Sets s.reader u.reader ns → Front (nodes_of p) ns → u.cutter ≡ s.cutter → u.end ≡ s.end → Went p u
went_sets p s u ns k x f c e =
    record {
      pool = wider_set s.reader u.reader ns x (pool_of p.reader) k.pool;
      names = subst (Front (vec_items p.reader.names)) (sym x.names) k.names;
      cycles = subst (Front (vec_items p.reader.cycles)) (sym x.cycles) k.cycles;
      nodes = subst (Front (nodes_of p)) (sym x.nodes) f;
      end = e ∙ k.end;
      pieces = omega (arith, k.pieces, ap (λ t. pieces (Rattle.cutter.specs.Left.left t)) c);
    }

module _ (s u : Parser) (at : ℕ) (n : Node) (x : Sets s.reader u.reader (slice_set (nodes_of s) at n)) where
  pub set_count : count u ≡ count s
  set_count = ap length x.nodes ∙ length-set (nodes_of s) at n

  pub agree_set : (i e : ℕ) → at < i → Agree (nodes_of s) (nodes_of u) i e
  agree_set i e h k ik ke = ap (λ l. slice_get l k) x.nodes ∙ get_other (nodes_of s) at k n (omega (arith, h, ik))

  pub set_there : at < count s → slice_get (nodes_of u) at ≡ Some n
  set_there h = ap (λ l. slice_get l at) x.nodes ∙ get_set (nodes_of s) at n h

  pub lists_same : lists_of u.reader ≡ lists_of s.reader
  lists_same = lists_set s.reader u.reader (slice_set (nodes_of s) at n) x ∙ ap (λ c. noted c (lists_of s.reader)) (length-set (nodes_of s) at n)

  pub wider_same : Wider (pool_of s.reader) (pool_of u.reader)
  wider_same = wider_set s.reader u.reader (slice_set (nodes_of s) at n) x (pool_of s.reader) (wider_refl (pool_of s.reader))
