-- Filters, one after another.
use Rattle.std.proofs.Common.{◌≡◌, ℕ, Bool, true, List, [], ◌∷◌, ◌++◌, ◌-◌, ◌≤◌, leb, length, take, replicate, Some, None, Ok, Err, Option, Result, refl, ap, sym, ◌∙◌, subst, arith}
use Rattle.std.proofs.lemmas.Bool.{le-leb}
use Rattle.std.proofs.lemmas.List.{take_at, length-take}
use Rattle.std.specs.Option.{option_map, ok_or}
use Rattle.std.specs.Borrow.{Bor}
use Rattle.banks.specs.declared.answers.Answer.{Answer}
use Rattle.banks.specs.declared.causes.Cause.{Cause}
use Rattle.banks.specs.declared.causes.Cause.TheVariants.{WrongOperand}
use Rattle.banks.specs.declared.operands.Short.{Short}
use Rattle.banks.specs.Answers.{told, leaves}
use Rattle.banks.specs.Meaning.{Given, a_number, a_text, Meaning}
use Rattle.banks.specs.Operands.{Datum, text_of}
use Rattle.banks.specs.Operands as operand
use Rattle.nodes.specs.declared.exprs.Expr.{Expr}
use Rattle.nodes.specs.declared.exprs.Filter.{Filter}
use Rattle.nodes.specs.declared.exprs.Chain.{Chain}
use Rattle.nodes.specs.Books.{spelled}
use Rattle.nodes.specs.Exprs.{if_any, each, entries, bytes_of, expr_of, filter_of, chain_of, ◌so◌}
use Rattle.nodes.proofs.Options.{only_parts, so_parts, mapped_parts, some_is}
use Rattle.held.specs.declared.faults.Fault.{Fault}
use Rattle.held.specs.declared.faults.Fault.TheVariants as fault
use Rattle.held.specs.declared.scenes.Scene.{Scene}
use Rattle.held.specs.declared.value.Value.{Value}
use Rattle.held.specs.Faults.{ended}
use Rattle.held.specs.Records.{held_in}
use Rattle.held.specs.Scenes.{pool_of, Fits}
use Rattle.frames.specs.declared.stack.Frames as code
use Rattle.tree.specs.Expressions as tree
use Rattle.meaning.specs.Things.{Drawers, Held}
use Rattle.meaning.specs.Frames.{Frames}
use Rattle.meaning.specs.Acts.{Act, Step, step, gives, stops, go_on, still, pure, ◌and_then◌}
use Rattle.meaning.specs.Looking.{World}
use Rattle.meaning.specs.Chains.{fit, fit_argument, argument_of, called, through, chained}
use Rattle.evaluation.specs.Values.{around, Evaluated}
use Rattle.evaluation.specs.declared.chains.Chained.{Chained}
use Rattle.evaluation.specs.Chains.{given_in, chained_in, Called, Argued, Applied, CameThrough}

-- a text of an operand has at most 256 bytes
pub fits_short : (s : Short) (t : List ℕ) → text_of s ≡ t → Some (operand.text (text_of s)) ≡ fit (Rattle.meaning.specs.Things.text t)
fits_short s t e =
    let few : length (text_of s) ≤ 256 = omega (arith, length-take 256 s.bytes.now) in
    let short : leb (length t) 256 ≡ true = ap (λ x. leb (length x) 256) (sym e) ∙ le-leb (length (text_of s)) 256 few in
    ap (λ x. Some (operand.text x)) e ∙ sym (ap (λ b. Rattle.std.proofs.Common.cond b (Some (operand.text t)) None) short)

pub unfit_input : (m : Meaning) (name : List ℕ) (v : Held) (a : Option Held) (buffer : List ℕ) → fit v ≡ None → Called m name v a buffer (Err (fault.Filter WrongOperand))
unfolding still
unfit_input m name v a buffer h p e d o = ap (λ q. called m name q (fit_argument a) p e d o) h

pub unfit_argument : (m : Meaning) (name : List ℕ) (v : Held) (a : Option Held) (buffer : List ℕ) → fit_argument a ≡ None → Called m name v a buffer (Err (fault.Filter WrongOperand))
unfolding still
unfit_argument m name v a buffer h p e d o = ap (λ q. called m name (fit v) q p e d o) h ∙ either (fit v)
  where
    either : (i : Option Datum) → called m name i None p e d o ≡ step d o (ended (given_in buffer) (Err (fault.Filter WrongOperand)) p e)
    either None = refl
    either (Some i) = refl

-- what is asked for and is not there
pub not_there : {A : Type 0} (o : Option A) (k x : Fault) → ok_or o k ≡ Err x → (o ≡ None) × (x ≡ k)
not_there None k x h = (refl, cc)
not_there (Some a) k x h = let z : ◌≡◌ {A = ℕ} 0 1 = cc in absurd (omega arith)

-- a cause as a fault
abbrev pub faulted : Result Answer Cause → Result Answer Fault
faulted (Ok g) = Ok g
faulted (Err c) = Err (fault.Filter c)

-- what a filter gave, as it stands in the buffer
answered_is : (g : Result Given Cause) (old : List ℕ) (p : ℕ) (e : Frames) (d : Drawers) (o : List ℕ) →
    Rattle.meaning.specs.Chains.answered g p e d o ≡ step d o (ended (given_in (leaves g old)) (faulted (told g)) p e)
unfolding still
answered_is (Ok (a_number z)) old p e d o = refl
answered_is (Ok (a_text t)) old p e d o = ap (λ x. step d o (gives (Rattle.meaning.specs.Things.text x))) (sym (take_at t (replicate (256 - length t) 0) (length t) refl))
answered_is (Err c) old p e d o = refl

pub calls : (m : Meaning) (name : List ℕ) (v : Held) (a : Option Held) (i : Datum) (b : Option Datum) (old buffer : List ℕ) (r : Result Answer Fault) →
    fit v ≡ Some i → fit_argument a ≡ Some b → buffer ≡ leaves (m.gives name i b) old → r ≡ faulted (told (m.gives name i b)) →
    Called m name v a buffer r
calls m name v a i b old buffer r h k u q p e d o =
    ap (λ x. called m name x (fit_argument a) p e d o) h ∙ ap (λ x. called m name (Some i) x p e d o) k ∙ answered_is (m.gives name i b) old p e d o
    ∙ ap (λ x. step d o (ended (given_in x) (faulted (told (m.gives name i b))) p e)) (sym u)
    ∙ ap (λ x. step d o (ended (given_in buffer) x p e)) (sym q)

-- an act, and what comes of it, and of that
after_both : {A B C : Type 0} (s : Step A) (k : A → Act B) (f : B → Act C) → go_on s (λ a. k a and_then f) ≡ go_on (go_on s k) f
unfolding ◌and_then◌
after_both (step d o (gives a)) k f = refl
after_both (step d o (stops x)) k f = refl

module _ (s : Scene) (fs : code.Frames) (d : Drawers) where
  abbrev e : Frames
  e = around s fs d

  pub argued_none : Argued s fs d None (Ok None)
  unfolding still
  argued_none w t p o fits given = ap (λ t. argument_of w t p e d o) (sym (some_is _ _ given))

  pub argued_some : (x : Expr) (v : Value (Bor (List ℕ))) → Evaluated s fs d x (Ok v) → Argued s fs d (Some x) (Ok (Some v))
  unfolding still ◌and_then◌
  argued_some x v got w t p o fits given =
      let (u, h, q) = mapped_parts Some (expr_of (pool_of s) x) t given in
      ap (λ t. argument_of w t p e d o) (sym q) ∙ ap (λ y. go_on y (λ v. pure (Some v))) (got w u p o fits h)

  pub argued_not : (x : Expr) (k : Fault) → Evaluated s fs d x (Err k) → Argued s fs d (Some x) (Err k)
  unfolding still ◌and_then◌
  argued_not x k got w t p o fits given =
      let (u, h, q) = mapped_parts Some (expr_of (pool_of s) x) t given in
      ap (λ t. argument_of w t p e d o) (sym q) ∙ ap (λ y. go_on y (λ v. pure (Some v))) (got w u p o fits h)

  -- the name and the argument of a filter
  filter_parts : (f : Filter) (t : tree.Filter) → filter_of (pool_of s) f ≡ Some t → (if_any (expr_of (pool_of s)) f.argument ≡ Some t.argument) × (spelled s.book.source.now f.name ≡ t.filter)
  filter_parts f t given =
      let b = pool_of s in
      let last : List ℕ → Option tree.Expr → Option tree.Filter = λ n a. Some (record { filter = n; argument = a }) in
      let (n, a, q) = so_parts (bytes_of b.source f.name) (λ n. if_any (expr_of b) f.argument so last n) t given in
      let (x, h, r) = so_parts (if_any (expr_of b) f.argument) (last n) t q in
      let is = some_is (record { filter = n; argument = x }) t r in
      (h ∙ ap (λ t. Some t.argument) is, (only_parts _ _ n a).1 ∙ ap (λ t. t.filter) is)

  pub applied : (m : Meaning) (f : Filter) (v : Held) (a : Option (Value (Bor (List ℕ)))) (name buffer : List ℕ) (r : Result Answer Fault) →
      Argued s fs d f.argument (Ok a) → name ≡ spelled s.book.source.now f.name → Called m name v (option_map held_in a) buffer r → Applied s fs d m f v buffer r
  unfolding ◌and_then◌
  applied m f v a name buffer r argued is gave w t p o fits bank given =
      let (has, called_so) = filter_parts f t given in
      ap (λ y. go_on y (λ a. called w.bank t.filter (fit v) (fit_argument a) p e)) (argued w t.argument p o fits has)
      ∙ ap (λ y. called y t.filter (fit v) (fit_argument (option_map held_in a)) p e d o) bank
      ∙ ap (λ y. called m y (fit v) (fit_argument (option_map held_in a)) p e d o) (sym (is ∙ called_so))
      ∙ gave p e d o

  pub applied_not : (m : Meaning) (f : Filter) (v : Held) (buffer : List ℕ) (k : Fault) → Argued s fs d f.argument (Err k) → Applied s fs d m f v buffer (Err k)
  unfolding ◌and_then◌
  applied_not m f v buffer k argued w t p o fits bank given =
      let (has, called_so) = filter_parts f t given in
      ap (λ y. go_on y (λ a. called w.bank t.filter (fit v) (fit_argument a) p e)) (argued w t.argument p o fits has)

  -- the filters that are left stand for these, and from the value so far they come to what all come to
  pub record Comes (w : World) (t : tree.Chain) (p : ℕ) (o : List ℕ) (left : List Filter) (v : Held) : Type 0 where
    pub filters : List tree.Filter
    pub are : each (filter_of (pool_of s)) left ≡ Some filters
    pub comes : chained w t p e d o ≡ through w filters v p e d o

  abbrev pub Left : Meaning → Chain → List Filter → Held → Type 0
  Left m c left v = (w : World) (t : tree.Chain) (p : ℕ) (o : List ℕ) → Fits w s → w.bank ≡ m → chain_of (pool_of s) c ≡ Some t → Comes w t p o left v

  chain_parts : (c : Chain) (t : tree.Chain) → chain_of (pool_of s) c ≡ Some t →
      (expr_of (pool_of s) c.value ≡ Some t.value) × (each (filter_of (pool_of s)) (take c.filters.count (Rattle.std.proofs.Common.drop c.filters.from s.book.filters.now)) ≡ Some t.filters)
  unfolding chain_of
  chain_parts c t given =
      let b = pool_of s in
      let last : tree.Expr → List tree.Filter → Option tree.Chain = λ v ts. Some (record { value = v; filters = ts }) in
      let then : tree.Expr → List Filter → Option tree.Chain = λ v xs. each (filter_of b) xs so last v in
      let (v, a, q) = so_parts (expr_of b c.value) (λ v. entries b.filters c.filters so then v) t given in
      let (xs, h, r) = so_parts (entries b.filters c.filters) (then v) t q in
      let (ts, g, u) = so_parts (each (filter_of b) xs) (last v) t r in
      let is = some_is (record { value = v; filters = ts }) t u in
      (a ∙ ap (λ t. Some t.value) is, ap (each (filter_of b)) ((only_parts _ _ xs h).1) ∙ g ∙ ap (λ t. Some t.filters) is)

  pub starts : (m : Meaning) (c : Chain) (v : Value (Bor (List ℕ))) (xs : List Filter) → Evaluated s fs d c.value (Ok v) →
      xs ≡ take c.filters.count (Rattle.std.proofs.Common.drop c.filters.from s.book.filters.now) → Left m c xs (held_in v)
  unfolding chained ◌and_then◌
  starts m c v xs got is w t p o fits bank given =
      let (a, b) = chain_parts c t given in
      record {
        filters = t.filters;
        are = ap (each (filter_of (pool_of s))) is ∙ b;
        comes = ap (λ q. go_on q (λ v. through w t.filters v p e)) (got w t.value p o fits a);
      }

  pub starts_not : (m : Meaning) (c : Chain) (buffer : List ℕ) (k : Fault) → Evaluated s fs d c.value (Err k) → CameThrough s fs d m c buffer (Err k)
  unfolding chained ◌and_then◌
  starts_not m c buffer k got w t p o fits bank given =
      let (a, b) = chain_parts c t given in
      ap (λ q. go_on q (λ v. through w t.filters v p e)) (got w t.value p o fits a)

  -- one filter, and those behind it
  one : (w : World) (p : ℕ) (o : List ℕ) (f : tree.Filter) (ts : List tree.Filter) (v : Held) →
      through w (f ∷ ts) v p e d o ≡ go_on ((argument_of w f.argument p e and_then λ a. called w.bank f.filter (fit v) (fit_argument a) p e) d o) (λ u. through w ts u p e)
  unfolding ◌and_then◌
  one w p o f ts v = after_both (argument_of w f.argument p e d o) (λ a. called w.bank f.filter (fit v) (fit_argument a) p e) (λ u. through w ts u p e)

  each_parts : (x : Filter) (xs : List Filter) (ts : List tree.Filter) → each (filter_of (pool_of s)) (x ∷ xs) ≡ Some ts →
      (u : tree.Filter) × (us : List tree.Filter) × (filter_of (pool_of s) x ≡ Some u) × (each (filter_of (pool_of s)) xs ≡ Some us) × (ts ≡ u ∷ us)
  each_parts x xs ts given =
      let b = filter_of (pool_of s) in
      let last : tree.Filter → List tree.Filter → Option (List tree.Filter) = λ y ys. Some (y ∷ ys) in
      let (u, a, q) = so_parts (b x) (λ y. each b xs so last y) ts given in
      let (us, h, r) = so_parts (each b xs) (last u) ts q in
      (u, us, a, h, sym (some_is (u ∷ us) ts r))

  pub goes_on : (m : Meaning) (c : Chain) (left rest : List Filter) (x : Filter) (v : Held) (buffer : List ℕ) (r : Result Answer Fault) (g : Answer) →
      Left m c left v → left ≡ x ∷ rest → Applied s fs d m x v buffer r → r ≡ Ok g → Left m c rest (given_in buffer g)
  goes_on m c left rest x v buffer r g came is gave gives_so w t p o fits bank given =
      let here = came w t p o fits bank given in
      let (u, us, a, b, q) = each_parts x rest here.filters (ap (each (filter_of (pool_of s))) (sym is) ∙ here.are) in
      record {
        filters = us;
        are = b;
        comes =
            here.comes ∙ ap (λ l. through w l v p e d o) q ∙ one w p o u us v
            ∙ ap (λ z. go_on z (λ u. through w us u p e)) (gave w u p o fits bank a ∙ ap (λ z. step d o (ended (given_in buffer) z p e)) gives_so);
      }

  pub goes_off : (m : Meaning) (c : Chain) (left rest : List Filter) (x : Filter) (v : Held) (buffer : List ℕ) (r : Result Answer Fault) (k : Fault) →
      Left m c left v → left ≡ x ∷ rest → Applied s fs d m x v buffer r → r ≡ Err k → CameThrough s fs d m c buffer (Err k)
  goes_off m c left rest x v buffer r k came is gave stops_so w t p o fits bank given =
      let here = came w t p o fits bank given in
      let (u, us, a, b, q) = each_parts x rest here.filters (ap (each (filter_of (pool_of s))) (sym is) ∙ here.are) in
      here.comes ∙ ap (λ l. through w l v p e d o) q ∙ one w p o u us v
      ∙ ap (λ z. go_on z (λ u. through w us u p e)) (gave w u p o fits bank a ∙ ap (λ z. step d o (ended (given_in buffer) z p e)) stops_so)

  none_left : (xs : List Filter) (ts : List tree.Filter) → length xs ≡ 0 → each (filter_of (pool_of s)) xs ≡ Some ts → ts ≡ []
  none_left [] ts h given = sym (some_is _ _ given)
  none_left (x ∷ xs) ts h given = absurd (omega (arith, h))

  pub is_through : (m : Meaning) (c : Chain) (left : List Filter) (buffer : List ℕ) (g : Chained) →
      Left m c left (chained_in buffer g) → length left ≡ 0 → CameThrough s fs d m c buffer (Ok g)
  unfolding still
  is_through m c left buffer g came none w t p o fits bank given =
      let here = came w t p o fits bank given in
      here.comes ∙ ap (λ l. through w l (chained_in buffer g) p e d o) (none_left left here.filters none here.are)
