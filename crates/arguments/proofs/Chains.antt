-- Chains in the tables.
use Rattle.std.proofs.Common.{◌≡◌, ◌≢◌, ℕ, zero, suc, ◌+◌, ◌-◌, List, [], ◌∷◌, ◌++◌, map, length, Some, None, vec_items, Option, sym, refl, ap, ◌∙◌, subst, append_assoc, append-nil, arith, length-append}
use Rattle.std.proofs.lemmas.List.{length-map, map-append}
use Rattle.std.specs.Option.{option_map}
use Rattle.cutter.specs.Ahead.{ahead}
use Rattle.cutter.specs.Words.{Words, over, wrong, word}
use Rattle.cutter.specs.declared.lengths.Symbol.TheVariants.{Bar, Colon}
use Rattle.tree.specs.Expressions as tree
use Rattle.nodes.specs.declared.exprs.Expr.{Expr}
use Rattle.nodes.specs.declared.exprs.Filter.{Filter}
use Rattle.nodes.specs.declared.exprs.Span.{Span}
use Rattle.nodes.specs.Exprs.{Pool, ◌so◌, bytes_of, if_any, each, entries, expr_of, filter_of, chain_of}
use Rattle.nodes.specs.Wider.{Wider, Keeps}
use Rattle.nodes.proofs.Options.{keeps_same, keeps_so, keeps_each, keeps_if_any}
use Rattle.nodes.proofs.Widens.{keeps_expr}
use Rattle.arguments.specs.declared.reader.Reader.{Reader}
use Rattle.arguments.specs.declared.refusals.Stop.{Stop}
use Rattle.arguments.specs.Judging.{Lists, State, state, Verdict, refuses, passes, went, ◌next◌, pure, refuse, Seen, token, token_if, none_left, finished, with_asked, ask}
use Rattle.arguments.specs.Values.{symbol_at, value, argument_behind, named_filter, filter, if_barred, filters}
use Rattle.arguments.specs.Tables.{part_in, asked_in, lists_of, pool_of, under, Refuses, Perhaps, Grown, Lies}
use Rattle.arguments.specs.Reading.{Exprs, Filters, Pushed}
use Rattle.arguments.proofs.Chaining.{grown_then, grown_refl, refuses_went, part_bytes}
use Rattle.arguments.proofs.Paths.{each_more, new_entries}
use Rattle.arguments.proofs.Follows.{along_pure, along_next, along_token, along_token_if, along_value}

pub chain_entry : (b : Pool) (x : Expr) (s : Span) (v : tree.Expr) (ys : List tree.Filter) → expr_of b x ≡ Some v → Filters b s ys →
    chain_of b (record { value = x; filters = s }) ≡ Some (record { value = v; filters = ys })
unfolding chain_of
chain_entry b x s v ys p h =
    ap (λ o. o so λ t. entries b.filters s so λ fs. each (filter_of b) fs so λ ts. Some (record { value = t; filters = ts })) p
    ∙ ap (λ o. o so λ fs. each (filter_of b) fs so λ ts. Some (record { value = v; filters = ts })) h.1
    ∙ ap (λ o. o so λ ts. Some (record { value = v; filters = ts })) h.2

-- an argument, if there is one, stands for what D says
pub argument_entry : (b : Pool) (o : Option Expr) (y : Option tree.Expr) → Perhaps (Exprs b) o y → if_any (expr_of b) o ≡ Some y
argument_entry b None y h = ap Some (sym h)
argument_entry b (Some x) y h = ap (option_map Some) h.1 ∙ ap Some (sym h.2)

pub filter_entry : (b : Pool) (f : Filter) (n : List ℕ) (a : Option tree.Expr) → bytes_of b.source f.name ≡ Some n → if_any (expr_of b) f.argument ≡ Some a → filter_of b f ≡ Some (record { filter = n; argument = a })
filter_entry b f n a p q =
    ap (λ o. o so λ t. if_any (expr_of b) f.argument so λ u. Some (record { filter = t; argument = u })) p
    ∙ ap (λ o. o so λ u. Some (record { filter = n; argument = u })) q

-- what filters stand for stays when the tables grow
keeps_filters : (b c : Pool) → Wider b c → (fs : List Filter) → Keeps (each (filter_of b) fs) (each (filter_of c) fs)
keeps_filters b c w fs =
    keeps_each (filter_of b) (filter_of c)
    (λ f. keeps_so (bytes_of b.source f.name) (bytes_of c.source f.name) _ _ (keeps_same (bytes_of b.source f.name) (bytes_of c.source f.name) (ap (λ s. bytes_of s f.name) w.source))
    (λ n. keeps_so (if_any (expr_of b) f.argument) (if_any (expr_of c) f.argument) _ _ (keeps_if_any (expr_of b) (expr_of c) (keeps_expr b c w) f.argument) (λ a z q. q)))
    fs

-- a table that has grown by nothing
no_longer : {A : Type 0} (xs more : List A) → length (xs ++ more) ≡ length xs → xs ++ more ≡ xs
no_longer xs [] e = append-nil xs
no_longer xs (x ∷ more) e = absurd (omega (arith, length-append xs (x ∷ more)))

-- no filter was asked for
abbrev pub Unasked : State → State → Type 0
Unasked s t = t.lists.asked ≡ s.lists.asked

-- so the filters are the same
pub same_filters : (d e : Reader) → Grown d e → Unasked (under d) (under e) → vec_items e.filters ≡ vec_items d.filters
same_filters d e h u =
    let long : length (vec_items e.filters) ≡ length (vec_items d.filters) =
    sym (length-map (vec_items e.filters) (asked_in e.source.now)) ∙ ap length u ∙ length-map (vec_items d.filters) (asked_in d.source.now) in
    h.pool.filters.is ∙ no_longer (vec_items d.filters) h.pool.filters.more (sym (ap length h.pool.filters.is) ∙ long)

unasked_then : (s t u : State) → Unasked s t → Unasked t u → Unasked s u
unasked_then s t u h k = k ∙ h

module _ (s : State) (t : State) where
  pub token_unasked : (m : ℕ) (y : Seen) → token m s ≡ passes y t → Unasked s t
  token_unasked m y e = along_token Unasked (λ u. refl) unasked_then (λ p b rest l. refl) m s y t e

  pub token_if_unasked : {A : Type 0} (f : Seen → Option A) (y : Option A) → token_if f s ≡ passes y t → Unasked s t
  token_if_unasked f y e = along_token_if Unasked (λ u. refl) unasked_then (λ p b rest l. refl) f s y t e

  pub value_unasked : (m : ℕ) (y : tree.Expr) → value m s ≡ passes y t → Unasked s t
  value_unasked m y e = along_value Unasked (λ u. refl) unasked_then (λ p b rest l. refl) (λ n u. refl) m s y t e

  pub argument_unasked : (m : ℕ) (c : Option ℕ) (y : Option tree.Expr) → argument_behind m c s ≡ passes y t → Unasked s t
  argument_unasked m None y e = let h : s ≡ t = cc in subst (Unasked s) h refl
  argument_unasked m (Some p) y e =
      along_next Unasked (λ u. refl) unasked_then (λ p b rest l. refl) (value m) _ (along_value Unasked (λ u. refl) unasked_then (λ p b rest l. refl) (λ n u. refl) m)
      (λ x. along_pure Unasked (λ u. refl) unasked_then (λ p b rest l. refl) (Some x)) s y t e

  pub finished_unasked : finished s ≡ passes tt t → Unasked s t
  unfolding finished
  finished_unasked e = none_left_unasked s.ahead s.lists e
    where
      none_left_unasked : (a : Words) (l : Lists) → none_left a l ≡ passes tt t → t.lists.asked ≡ l.asked
      none_left_unasked over l h = let k : state over l ≡ t = cc in ap (λ u. u.lists.asked) (sym k)
      none_left_unasked (wrong p) l h = cc
      none_left_unasked (word p b rest) l h = cc

-- a filter that was pushed behind the same filters
pub pushed_behind : (d m e : Reader) → vec_items m.filters ≡ vec_items d.filters → (u : Unit {0}) (y : tree.Filter) → Pushed m e u y → Pushed d e u y
pushed_behind d m e h u y (f, there, is) = (f, there ∙ ap (λ l. l ++ (f ∷ [])) h, is)

-- a filter with the name b, whose place is p: d before it, m behind a colon, e behind its argument, and n with the filter in the table
pub named_says : (d m e n : Reader) (p : ℕ) (b : List ℕ) (c : Option ℕ) (o : Option Expr) (a : Option tree.Expr) → Lies d.source.now p b → Grown d m → Grown m e → Grown e n →
    token_if (symbol_at Colon) (under d) ≡ passes c (under m) → argument_behind m.mark c (under m) ≡ passes a (under e) → Perhaps (Exprs (pool_of e)) o a →
    vec_items n.filters ≡ vec_items e.filters ++ (record { name = record { place = p; len = length b }; argument = o } ∷ []) →
    under n ≡ state (ahead e.cursor) (record { names = (lists_of e).names; cycles = (lists_of e).cycles; nodes = (lists_of e).nodes; asked = map (asked_in e.source.now) (vec_items n.filters) }) →
    (y : tree.Filter) × Pushed d n tt y × (named_filter d.mark p (Some b) (under d) ≡ passes y (under n))
unfolding ask
named_says d m e n p b c o a lies h k g colon argument has items same =
    let f : Filter = record { name = record { place = p; len = length b }; argument = o } in
    let y : tree.Filter = record { filter = b; argument = a } in
    let l = lists_of e in
    let before : vec_items e.filters ≡ vec_items d.filters = same_filters m e k (argument_unasked (under m) (under e) m.mark c a argument) ∙ same_filters d m h (token_if_unasked (under d) (under m) (symbol_at Colon) c colon) in
    let name : bytes_of n.source.now f.name ≡ Some b = ap (λ s. bytes_of s f.name) (g.pool.source ∙ k.pool.source ∙ h.pool.source) ∙ part_bytes d.source.now p b lies in
    let of : if_any (expr_of (pool_of n)) o ≡ Some a = keeps_if_any (expr_of (pool_of e)) (expr_of (pool_of n)) (keeps_expr (pool_of e) (pool_of n) g.pool) o a (argument_entry (pool_of e) o a has) in
    let spelt : part_in e.source.now f.name ≡ b = ap (λ s. part_in s f.name) (k.pool.source ∙ h.pool.source) ∙ sym lies.is in
    let asked : map (asked_in e.source.now) (vec_items n.filters) ≡ l.asked ++ (record { place = p; name = b } ∷ []) =
    ap (map (asked_in e.source.now)) items ∙ map-append (asked_in e.source.now) (vec_items e.filters) (f ∷ []) ∙ ap (λ t. l.asked ++ (record { place = p; name = t } ∷ [])) spelt in
    let rest = λ (x : Option tree.Expr). ask p b next λ u. pure (record { filter = b; argument = x }) in
    let whole : under n ≡ state (ahead e.cursor) (with_asked p b l) = same ∙ ap (λ x. state (ahead e.cursor) (record { names = l.names; cycles = l.cycles; nodes = l.nodes; asked = x })) asked in
    let before_argument : named_filter d.mark p (Some b) (under d) ≡ went (argument_behind m.mark c (under m)) rest =
    ap (λ v. went v (λ x. argument_behind d.mark x next rest)) colon ∙ ap (λ i. went (argument_behind i c (under m)) rest) (sym h.mark) in
    (y, (f, items ∙ ap (λ x. x ++ (f ∷ [])) before, filter_entry (pool_of n) f b a name of), before_argument ∙ ap (λ v. went v rest) argument ∙ ap (passes y) (sym whole))

-- by what stands ahead of filters
module _ (m : ℕ) (s t : State) where
  pub filters_none : (left : ℕ) → token_if (symbol_at Bar) s ≡ passes None t → filters left m s ≡ went (finished t) (λ u. pure [])
  filters_none zero e = ap (λ v. went v (λ b. if_barred b (λ p. refuse 2 p))) e
  filters_none (suc n) e = ap (λ v. went v (λ b. if_barred b (λ p. filter m next λ f. filters n m next λ fs. pure (f ∷ fs)))) e

  pub filters_many : (p : ℕ) → token_if (symbol_at Bar) s ≡ passes (Some p) t → filters 0 m s ≡ refuses 2 p
  filters_many p e = ap (λ v. went v (λ b. if_barred b (λ p. refuse 2 p))) e

  pub filters_some : (n p : ℕ) → token_if (symbol_at Bar) s ≡ passes (Some p) t → filters (suc n) m s ≡ went (filter m t) (λ f. filters n m next λ fs. pure (f ∷ fs))
  filters_some n p e = ap (λ v. went v (λ b. if_barred b (λ p. filter m next λ f. filters n m next λ fs. pure (f ∷ fs)))) e

-- behind what is done
abbrev pub behind : List tree.Filter → Verdict (List tree.Filter) → Verdict (List tree.Filter)
behind done v = went v (λ fs. pure (done ++ fs))

behind_one : (done : List tree.Filter) (y : tree.Filter) (v : Verdict (List tree.Filter)) → behind done (went v (λ fs. pure (y ∷ fs))) ≡ behind (done ++ (y ∷ [])) v
behind_one done y (refuses n p) = refl
behind_one done y (passes fs s) = ap (λ l. passes l s) (sym (append_assoc done (y ∷ []) fs))

refuses_behind : (x : Stop) (done : List tree.Filter) (v w : Verdict (List tree.Filter)) → w ≡ behind done v → Refuses x v → Refuses x w
refuses_behind x done v w e h = subst (Refuses x) (sym e) (refuses_went x v (λ fs. pure (done ++ fs)) h)

-- the filters so far: m is the reader now
pub record Filtering (d m : Reader) : Type 0 where
  pub done : List tree.Filter
  pub new : List Filter
  pub left : ℕ
  pub all : length done + left ≡ 4
  pub long : length new ≡ length done
  pub is : vec_items m.filters ≡ vec_items d.filters ++ new
  pub are : each (filter_of (pool_of m)) new ≡ Some done
  pub grown : Grown d m
  pub says : filters 4 d.mark (under d) ≡ behind done (filters left d.mark (under m))

pub filtering_none : (d : Reader) → Filtering d d
filtering_none d =
    record { done = []; new = []; left = 4; all = refl; long = refl; is = sym (append-nil (vec_items d.filters)); are = refl; grown = grown_refl d; says = same (filters 4 d.mark (under d)) }
  where
    same : (v : Verdict (List tree.Filter)) → v ≡ behind [] v
    same (refuses n p) = refl
    same (passes fs s) = refl

module _ (d m n : Reader) (f : Filtering d m) (grown : Grown m n) where
  same_mark : n.mark ≡ d.mark
  same_mark = grown.mark ∙ f.grown.mark

  -- how many there are, whether a bar was taken or not
  pub filtering_count : (o : Option ℕ) → token_if (symbol_at Bar) (under m) ≡ passes o (under n) → length (vec_items n.filters) ≡ length (vec_items d.filters) + length f.new
  filtering_count o bar = ap length (same_filters m n grown (token_if_unasked (under m) (under n) (symbol_at Bar) o bar) ∙ f.is) ∙ length-append (vec_items d.filters) f.new

  -- one filter more, behind a bar
  pub filtering_more : (e : Reader) (p : ℕ) (y : tree.Filter) → token_if (symbol_at Bar) (under m) ≡ passes (Some p) (under n) → length f.new ≢ 4 →
      Grown n e → filter n.mark (under n) ≡ passes y (under e) → Pushed n e tt y → Filtering d e
  filtering_more e p y bar room g says (x, there, is) = more f.left refl
    where
      same : vec_items n.filters ≡ vec_items m.filters
      same = same_filters m n grown (token_if_unasked (under m) (under n) (symbol_at Bar) (Some p) bar)

      more : (left : ℕ) → f.left ≡ left → Filtering d e
      more zero q = absurd (room (omega (arith, f.all, f.long)))
      more (suc k) q =
          record {
            done = f.done ++ (y ∷ []);
            new = f.new ++ (x ∷ []);
            left = k;
            all = omega (arith, f.all, length-append f.done (y ∷ []));
            long = length-append f.new (x ∷ []) ∙ ap (λ i. i + 1) f.long ∙ sym (length-append f.done (y ∷ []));
            is = there ∙ ap (λ l. l ++ (x ∷ [])) (same ∙ f.is) ∙ append_assoc (vec_items d.filters) f.new (x ∷ []);
            are = each_more (filter_of (pool_of e)) f.new f.done x y (keeps_filters (pool_of m) (pool_of e) (grown_then m n e grown g).pool f.new f.done f.are) is;
            grown = grown_then d m e f.grown (grown_then m n e grown g);
            says =
                f.says
                ∙ ap (λ i. behind f.done (filters i d.mark (under m))) q
                ∙ ap (behind f.done) (filters_some d.mark (under m) (under n) k p bar ∙ ap (λ i. went (filter i (under n)) (λ z. filters k d.mark next λ fs. pure (z ∷ fs))) (sym same_mark) ∙ ap (λ v. went v (λ z. filters k d.mark next λ fs. pure (z ∷ fs))) says)
                ∙ behind_one f.done y (filters k d.mark (under e));
          }

  -- no filter more: the mark is at its end
  pub filtering_end : (e : Reader) (from count : ℕ) → token_if (symbol_at Bar) (under m) ≡ passes None (under n) → Grown n e → finished (under n) ≡ passes tt (under e) →
      from ≡ length (vec_items d.filters) → count ≡ length (vec_items e.filters) - from →
      (ys : List tree.Filter) × Filters (pool_of e) (record { from = from; count = count }) ys × (filters 4 d.mark (under d) ≡ passes ys (under e))
  filtering_end e from count bar g end a b =
      let same : vec_items e.filters ≡ vec_items m.filters = same_filters n e g (finished_unasked (under n) (under e) end) ∙ same_filters m n grown (token_if_unasked (under m) (under n) (symbol_at Bar) None bar) in
      let long : length (vec_items e.filters) ≡ length (vec_items d.filters) + length f.new = ap length (same ∙ f.is) ∙ length-append (vec_items d.filters) f.new in (
        f.done,
        (f.new, new_entries (vec_items d.filters) f.new (vec_items e.filters) from count (same ∙ f.is) a (omega arith), keeps_filters (pool_of m) (pool_of e) (grown_then m n e grown g).pool f.new f.done f.are),
        f.says ∙ ap (behind f.done) (filters_none d.mark (under m) (under n) f.left bar ∙ ap (λ v. went v (λ u. pure [])) end) ∙ ap (λ l. passes l (under e)) (append-nil f.done),
      )

  -- one too many
  pub filtering_many : (p : ℕ) → token_if (symbol_at Bar) (under m) ≡ passes (Some p) (under n) → length f.new ≡ 4 → filters 4 d.mark (under d) ≡ refuses 2 p
  filtering_many p bar full =
      let none : f.left ≡ 0 = omega (arith, f.all, f.long) in
      f.says ∙ ap (λ i. behind f.done (filters i d.mark (under m))) none ∙ ap (behind f.done) (filters_many d.mark (under m) (under n) p bar)

  -- a refusal of the next filter
  pub filtering_wrong : (x : Stop) (p : ℕ) → token_if (symbol_at Bar) (under m) ≡ passes (Some p) (under n) → length f.new ≢ 4 → Refuses x (filter n.mark (under n)) → Refuses x (filters 4 d.mark (under d))
  filtering_wrong x p bar room h = wrong f.left refl
    where
      wrong : (left : ℕ) → f.left ≡ left → Refuses x (filters 4 d.mark (under d))
      wrong zero q = absurd (room (omega (arith, f.all, f.long)))
      wrong (suc k) q =
          let rest = λ (z : tree.Filter). filters k d.mark next λ fs. pure (z ∷ fs) in
          refuses_behind x f.done (went (filter d.mark (under n)) rest) (filters 4 d.mark (under d))
          (f.says ∙ ap (λ i. behind f.done (filters i d.mark (under m))) q ∙ ap (behind f.done) (filters_some d.mark (under m) (under n) k p bar))
          (refuses_went x (filter d.mark (under n)) rest (subst (λ i. Refuses x (filter i (under n))) same_mark h))
