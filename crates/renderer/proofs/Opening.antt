-- What openings come to.
use Rattle.std.proofs.Common.{◌≡◌, ℕ, zero, suc, ◌<◌, ◌≤◌, min, Bool, true, false, cond, List, [], ◌∷◌, map, length, nat_lt, ℤ, pos, negsuc, Some, None, Ok, Err, Option, refl, ap, sym, subst, ◌∙◌, arith}
use Rattle.std.specs.Prelude.{Result}
use Rattle.std.specs.Borrow.{Bor}
use Rattle.std.specs.Option.{option_map, ok_or, unwrap_or}
use Rattle.std.proofs.lemmas.Bool.{le-leb, lt-leb}
use Rattle.std.proofs.lemmas.List.{length-map}
use Rattle.std.proofs.lemmas.List.FromFn.{length-map-range_with_len}
use Rattle.rows.specs.Counted as counted
use Rattle.rows.specs.Counted.{between, how_many, numbers_from}
use Rattle.rows.specs.Windows.{windowed}
use Rattle.rows.specs.declared.numbers.Numbers.{Numbers}
use Rattle.rows.specs.declared.window.Window.{Window}
use Rattle.nodes.specs.declared.exprs.Expr.{Expr}
use Rattle.nodes.specs.declared.exprs.Row.{Row}
use Rattle.nodes.specs.declared.exprs.Row.TheVariants as code_row
use Rattle.nodes.specs.declared.table.Block.{Block}
use Rattle.nodes.specs.declared.table.Block.TheVariants as code_block
use Rattle.nodes.specs.Trees.{block_of, numbered}
use Rattle.nodes.specs.Exprs.{expr_of, row_of, if_any, ◌so◌}
use Rattle.nodes.proofs.Options.{so_parts, mapped_parts, only_parts, some_is}
use Rattle.held.specs.declared.faults.Fault.{Fault}
use Rattle.held.specs.declared.faults.Fault.TheVariants.{NoRow, LongRange, NoColumn}
use Rattle.held.specs.declared.scenes.Scene.{Scene}
use Rattle.held.specs.declared.value.Value.{Value}
use Rattle.held.specs.Records.{held_in}
use Rattle.held.specs.Scenes.{host_in, pool_of}
use Rattle.frames.specs.declared.item.Item.TheVariants as item
use Rattle.frames.specs.declared.item.AnyRow.{AnyRow}
use Rattle.frames.specs.declared.item.AnyRow.TheVariants as any
use Rattle.frames.specs.declared.stack.Frames as code
use Rattle.frames.specs.Items.{item_of, items_in}
use Rattle.frames.specs.Views.{around_in}
use Rattle.tree.specs.Expressions as tree
use Rattle.tree.specs.Elements as tree_block
use Rattle.evaluation.specs.Values.{Evaluated, NumberFound}
use Rattle.renderer.specs.declared.openings.Opened.{Opened}
use Rattle.renderer.specs.declared.openings.Opened.TheVariants as found
use Rattle.renderer.specs.Openings.{Answers, row_items, items_of, opening_of, RangeMade, RowFound, NumberIfFound, ForOpened, LaidOut, TableOpened, CaseOpened, BlockOpened, Opens}
use Rattle.renderer.proofs.Chaining.{then_on, then_off}
use Rattle.renderer.proofs.Rows.{windowed_mapped}
use Rattle.meaning.specs.Hosts.{Host}
use Rattle.meaning.specs.Rows.{row}
use Rattle.meaning.specs.Things.{Drawers, Held, whole}
use Rattle.meaning.specs.Frames.{Frames}
use Rattle.meaning.specs.Acts.{Act, ◌and_then◌, pure, still, faults, step, gives, stops, fault_at, go_on}
use Rattle.meaning.specs.Looking.{World, eval}
use Rattle.meaning.specs.Openings.{Opening, bare, target, window, table, gone_over, number, number_if, counted_row, the_row, needs_columns, laid_out, opened}

wholes : (h : Host) (zs : List ℤ) → map (item_of h) (map item.Whole zs) ≡ map whole zs
wholes h [] = refl
wholes h (z ∷ zs) = ap (λ l. whole z ∷ l) (wholes h zs)

counted_long : (a : ℤ) (n : ℕ) → length (numbers_from a n) ≡ n
counted_long a n = length-map-range_with_len _ 0 n

choice : (e : Frames) (d : Drawers) (p : ℕ) (o : List ℕ) (xs : List Held) (b c : Bool) → b ≡ c → (cond b (pure xs) (faults 27 p e)) d o ≡ (cond c (pure xs) (faults 27 p e)) d o
choice e d p o xs b c h = ap (λ q. (cond q (pure xs) (faults 27 p e)) d o) h

pub range_some : (a b : ℤ) (s : Numbers) → counted.held s.from s.to ≡ between a b → s.from ≡ a → s.to ≡ b → RangeMade a b (Ok (any.Numbers s))
unfolding still
range_some a b s same from to h e d p o =
    let long : min (how_many s.from s.to) 4096 ≡ how_many a b = sym (counted_long s.from _) ∙ ap length same ∙ counted_long a _ in
    let few : how_many a b ≤ 4096 = omega arith in
    choice e d p o _ _ true (le-leb _ _ few) ∙ ap (λ l. step d o (gives l)) (sym (wholes h (counted.held s.from s.to) ∙ ap (map whole) same))

pub range_none : (a b : ℤ) → 4096 < how_many a b → RangeMade a b (Err LongRange)
unfolding still
range_none a b many h e d p o = choice e d p o _ _ false (lt-leb _ _ many)

module _ (s : Scene) (fs : code.Frames) (d : Drawers) where
  abbrev e : Frames
  e = around_in (host_in s) fs

  abbrev h : Host
  h = host_in s

  row_is : (x : Option AnyRow) (v : Held) → option_map (row_items h) x ≡ row h v → Answers (λ p. the_row p e (row h v)) (row_items h) e d (ok_or x NoRow)
  unfolding still
  row_is None v is p o = ap (λ y. the_row p e y d o) (sym is)
  row_is (Some x) v is p o = ap (λ y. the_row p e y d o) (sym is)

  -- the parts of what is gone over
  over_parts : (x : Expr) (t : tree.Row) → row_of (pool_of s) (code_row.Of x) ≡ Some t → (u : tree.Expr) × (expr_of (pool_of s) x ≡ Some u) × (tree.row_from u ≡ t)
  unfolding row_of
  over_parts x t given = mapped_parts _ _ _ given

  between_parts : (x y : Expr) (t : tree.Row) → row_of (pool_of s) (code_row.Range x y) ≡ Some t → (u v : tree.Expr) × (expr_of (pool_of s) x ≡ Some u) × (expr_of (pool_of s) y ≡ Some v) × (tree.range u v ≡ t)
  unfolding row_of
  between_parts x y t given =
      let b = pool_of s in
      let last : tree.Expr → tree.Expr → Option tree.Row = λ u v. Some (tree.range u v) in
      let (u, a, q) = so_parts (expr_of b x) (λ u. expr_of b y so last u) t given in
      let (v, c, r) = so_parts (expr_of b y) (last u) t q in
      (u, v, a, c, some_is (tree.range u v) t r)

  over_value : (w : World) (u : tree.Expr) (r : Result AnyRow Fault) → Answers (λ p. eval w u p e and_then λ v. the_row p e (row w.host v)) (row_items h) e d r → Answers (λ p. gone_over w (tree.row_from u) p e) (row_items h) e d r
  unfolding gone_over
  over_value w u r a = a

  over_range : (w : World) (u v : tree.Expr) (r : Result AnyRow Fault) → Answers (λ p. number w u p e and_then λ a. number w v p e and_then λ b. counted_row a b p e) (row_items h) e d r → Answers (λ p. gone_over w (tree.range u v) p e) (row_items h) e d r
  unfolding gone_over
  over_range w u v r a = a

  pub row_found : (x : Expr) (v : Value (Bor (List ℕ))) (y : Option AnyRow) (r : Result AnyRow Fault) → Evaluated s fs d x (Ok v) → option_map (row_items h) y ≡ row h (held_in v) → r ≡ ok_or y NoRow → RowFound s fs d (code_row.Of x) r
  row_found x v y r got is end w t fits given =
      let (u, a, q) = over_parts x t given in
      subst (λ t. Answers (λ p. gone_over w t p e) (row_items h) e d r) q
      (over_value w u r
      (then_on e d (λ p. eval w u p e) held_in (λ v p. the_row p e (row w.host v)) (row_items h) v r (λ p o. got w u p o fits a)
      (subst (λ r. Answers (λ p. the_row p e (row w.host (held_in v))) (row_items h) e d r) (sym end)
      (subst (λ k. Answers (λ p. the_row p e (row k (held_in v))) (row_items h) e d (ok_or y NoRow)) (sym fits.host) (row_is y (held_in v) is)))))

  pub row_lost : (x : Expr) (c : Fault) → Evaluated s fs d x (Err c) → RowFound s fs d (code_row.Of x) (Err c)
  row_lost x c got w t fits given =
      let (u, a, q) = over_parts x t given in
      subst (λ t. Answers (λ p. gone_over w t p e) (row_items h) e d (Err c)) q
      (over_value w u (Err c) (then_off e d (λ p. eval w u p e) held_in (λ v p. the_row p e (row w.host v)) (row_items h) c (λ p o. got w u p o fits a)))

  abbrev counts : World → tree.Expr → ℤ → ℕ → Act (List Held)
  counts w v a p = number w v p e and_then λ b. counted_row a b p e

  pub range_found : (x y : Expr) (a b : ℤ) (r : Result AnyRow Fault) → NumberFound s fs d x (Ok a) → NumberFound s fs d y (Ok b) → RangeMade a b r → RowFound s fs d (code_row.Range x y) r
  range_found x y a b r from to made w t fits given =
      let (u, v, f, g, q) = between_parts x y t given in
      subst (λ t. Answers (λ p. gone_over w t p e) (row_items h) e d r) q
      (over_range w u v r
      (then_on e d (λ p. number w u p e) (λ z. z) (counts w v) (row_items h) a r (λ p o. from w u p o fits f)
      (then_on e d (λ p. number w v p e) (λ z. z) (λ b p. counted_row a b p e) (row_items h) b r (λ p o. to w v p o fits g) (made h e d))))

  pub range_lost : (x y : Expr) (c : Fault) → NumberFound s fs d x (Err c) → RowFound s fs d (code_row.Range x y) (Err c)
  range_lost x y c from w t fits given =
      let (u, v, f, g, q) = between_parts x y t given in
      subst (λ t. Answers (λ p. gone_over w t p e) (row_items h) e d (Err c)) q
      (over_range w u v (Err c) (then_off e d (λ p. number w u p e) (λ z. z) (counts w v) (row_items h) c (λ p o. from w u p o fits f)))

  pub range_cut : (x y : Expr) (a : ℤ) (c : Fault) → NumberFound s fs d x (Ok a) → NumberFound s fs d y (Err c) → RowFound s fs d (code_row.Range x y) (Err c)
  range_cut x y a c from to w t fits given =
      let (u, v, f, g, q) = between_parts x y t given in
      subst (λ t. Answers (λ p. gone_over w t p e) (row_items h) e d (Err c)) q
      (over_range w u v (Err c)
      (then_on e d (λ p. number w u p e) (λ z. z) (counts w v) (row_items h) a (Err c) (λ p o. from w u p o fits f)
      (then_off e d (λ p. number w v p e) (λ z. z) (λ b p. counted_row a b p e) (row_items h) c (λ p o. to w v p o fits g))))

  -- an attribute
  pub number_none : NumberIfFound s fs d None (Ok None)
  unfolding still
  number_none w t fits given p o = ap (λ t. number_if w t p e d o) (sym (some_is _ _ given))

  pub number_some : (x : Expr) (z : ℤ) → NumberFound s fs d x (Ok z) → NumberIfFound s fs d (Some x) (Ok (Some z))
  unfolding still ◌and_then◌
  number_some x z got w t fits given p o =
      let (u, a, q) = mapped_parts _ _ _ given in
      ap (λ t. number_if w t p e d o) (sym q) ∙ ap (λ q. go_on q (λ z. pure (Some z))) (got w u p o fits a)

  pub number_lost : (x : Expr) (c : Fault) → NumberFound s fs d x (Err c) → NumberIfFound s fs d (Some x) (Err c)
  unfolding still ◌and_then◌
  number_lost x c got w t fits given p o =
      let (u, a, q) = mapped_parts _ _ _ given in
      ap (λ t. number_if w t p e d o) (sym q) ∙ ap (λ q. go_on q (λ z. pure (Some z))) (got w u p o fits a)

  -- a `for`
  abbrev for_end : Bool → List Held → Option ℤ → Option ℤ → ℕ → Act Opening
  for_end reversed xs l o p = pure (window (windowed (unwrap_or o (pos 0)) l reversed xs))

  abbrev for_then : World → Option tree.Expr → Bool → List Held → Option ℤ → ℕ → Act Opening
  for_then w offset reversed xs l p = number_if w offset p e and_then λ o. for_end reversed xs l o p

  abbrev for_from : World → Option tree.Expr → Option tree.Expr → Bool → List Held → ℕ → Act Opening
  for_from w limit offset reversed xs p = number_if w limit p e and_then λ l. for_then w offset reversed xs l p

  -- the values of a window
  windowed_values : (x : AnyRow) (y : Window AnyRow) (l o : Option ℤ) (reversed : Bool) → (y.row ≡ x) × (y.offset ≡ unwrap_or o (pos 0)) × (y.limit ≡ l) × (y.reversed ≡ reversed) →
      map (item_of h) (items_of y) ≡ windowed (unwrap_or o (pos 0)) l reversed (row_items h x)
  windowed_values x y l o reversed made =
      windowed_mapped (item_of h) y.offset y.limit y.reversed (items_in y.row)
      ∙ ap (λ k. windowed k y.limit y.reversed (row_items h y.row)) made.1
      ∙ ap (λ k. windowed (unwrap_or o (pos 0)) k y.reversed (row_items h y.row)) made.2
      ∙ ap (λ k. windowed (unwrap_or o (pos 0)) l k (row_items h y.row)) made.3
      ∙ ap (λ k. windowed (unwrap_or o (pos 0)) l reversed (row_items h k)) made.0

  window_count : (x : AnyRow) (y : Window AnyRow) (l o : Option ℤ) (reversed : Bool) → (y.row ≡ x) × (y.offset ≡ unwrap_or o (pos 0)) × (y.limit ≡ l) × (y.reversed ≡ reversed) →
      length (windowed (unwrap_or o (pos 0)) l reversed (items_in x)) ≡ length (items_of y)
  window_count x y l o reversed made =
      sym (ap (λ k. length (windowed k y.limit y.reversed (items_in y.row))) made.1
      ∙ ap (λ k. length (windowed (unwrap_or o (pos 0)) k y.reversed (items_in y.row))) made.2
      ∙ ap (λ k. length (windowed (unwrap_or o (pos 0)) l k (items_in y.row))) made.3
      ∙ ap (λ k. length (windowed (unwrap_or o (pos 0)) l reversed (items_in k))) made.0)

  for_is : (w : World) (v : ℕ) (t : tree.Row) (limit offset : Option tree.Expr) (reversed : Bool) (r : Result Opened Fault) →
      Answers (λ p. gone_over w t p e and_then λ xs. for_from w limit offset reversed xs p) (opening_of h) e d r → Answers (λ p. opened w (tree_block.for_block v t limit offset reversed) p e) (opening_of h) e d r
  unfolding opened
  for_is w v t limit offset reversed r a = a

  pub for_opened : (x : Row) (limit offset : Option Expr) (reversed : Bool) (y : AnyRow) (l o : Option ℤ) (z : Window AnyRow) (n : ℕ) →
      RowFound s fs d x (Ok y) → NumberIfFound s fs d limit (Ok l) → NumberIfFound s fs d offset (Ok o) → (z.row ≡ y) × (z.offset ≡ unwrap_or o (pos 0)) × (z.limit ≡ l) × (z.reversed ≡ reversed) →
      n ≡ length (windowed (unwrap_or o (pos 0)) l reversed (items_in y)) → ForOpened s fs d x limit offset reversed (Ok (found.Loop z n))
  unfolding still
  for_opened x limit offset reversed y l o z n row lim off made long w t tl to v fits a b c = (
    long ∙ window_count y z l o reversed made,
    for_is w v t tl to reversed (Ok (found.Loop z n))
        (then_on e d (λ p. gone_over w t p e) (row_items h) (for_from w tl to reversed) (opening_of h) y (Ok (found.Loop z n)) (row w t fits a)
        (then_on e d (λ p. number_if w tl p e) (λ z. z) (for_then w to reversed (row_items h y)) (opening_of h) l (Ok (found.Loop z n)) (lim w tl fits b)
        (then_on e d (λ p. number_if w to p e) (λ z. z) (for_end reversed (row_items h y) l) (opening_of h) o (Ok (found.Loop z n)) (off w to fits c)
        (λ p u. ap (λ xs. step d u (gives (window xs))) (sym (windowed_values y z l o reversed made)))))),
  )

  pub for_lost_row : (x : Row) (limit offset : Option Expr) (reversed : Bool) (k : Fault) → RowFound s fs d x (Err k) → ForOpened s fs d x limit offset reversed (Err k)
  for_lost_row x limit offset reversed k row w t tl to v fits a b c =
      (tt, for_is w v t tl to reversed (Err k) (then_off e d (λ p. gone_over w t p e) (row_items h) (for_from w tl to reversed) (opening_of h) k (row w t fits a)))

  pub for_lost_limit : (x : Row) (limit offset : Option Expr) (reversed : Bool) (y : AnyRow) (k : Fault) → RowFound s fs d x (Ok y) → NumberIfFound s fs d limit (Err k) → ForOpened s fs d x limit offset reversed (Err k)
  for_lost_limit x limit offset reversed y k row lim w t tl to v fits a b c = (
    tt,
    for_is w v t tl to reversed (Err k)
        (then_on e d (λ p. gone_over w t p e) (row_items h) (for_from w tl to reversed) (opening_of h) y (Err k) (row w t fits a)
        (then_off e d (λ p. number_if w tl p e) (λ z. z) (for_then w to reversed (row_items h y)) (opening_of h) k (lim w tl fits b))),
  )

  pub for_lost_offset : (x : Row) (limit offset : Option Expr) (reversed : Bool) (y : AnyRow) (l : Option ℤ) (k : Fault) → RowFound s fs d x (Ok y) → NumberIfFound s fs d limit (Ok l) → NumberIfFound s fs d offset (Err k) → ForOpened s fs d x limit offset reversed (Err k)
  for_lost_offset x limit offset reversed y l k row lim off w t tl to v fits a b c = (
    tt,
    for_is w v t tl to reversed (Err k)
        (then_on e d (λ p. gone_over w t p e) (row_items h) (for_from w tl to reversed) (opening_of h) y (Err k) (row w t fits a)
        (then_on e d (λ p. number_if w tl p e) (λ z. z) (for_then w to reversed (row_items h y)) (opening_of h) l (Err k) (lim w tl fits b)
        (then_off e d (λ p. number_if w to p e) (λ z. z) (for_end reversed (row_items h y) l) (opening_of h) k (off w to fits c)))),
  )

  -- a `tablerow`
  abbrev table_end : List Held → Option ℤ → Option ℤ → Option ℤ → ℕ → Act Opening
  table_end xs k l o p = laid_out (windowed (unwrap_or o (pos 0)) l false xs) k p e

  abbrev table_then : World → Option tree.Expr → List Held → Option ℤ → Option ℤ → ℕ → Act Opening
  table_then w offset xs k l p = number_if w offset p e and_then λ o. table_end xs k l o p

  abbrev table_next : World → Option tree.Expr → Option tree.Expr → List Held → Option ℤ → ℕ → Act Opening
  table_next w limit offset xs k p = number_if w limit p e and_then λ l. table_then w offset xs k l p

  abbrev table_from : World → Option tree.Expr → Option tree.Expr → Option tree.Expr → List Held → ℕ → Act Opening
  table_from w cols limit offset xs p = number_if w cols p e and_then λ k. table_next w limit offset xs k p

  table_is : (w : World) (v : ℕ) (t : tree.Row) (cols limit offset : Option tree.Expr) (r : Result Opened Fault) →
      Answers (λ p. gone_over w t p e and_then λ xs. table_from w cols limit offset xs p) (opening_of h) e d r → Answers (λ p. opened w (tree_block.tablerow_block v t cols limit offset) p e) (opening_of h) e d r
  unfolding opened
  table_is w v t cols limit offset r a = a

  pub table_opened : (x : Row) (cols limit offset : Option Expr) (y : AnyRow) (k l o : Option ℤ) (z : Window AnyRow) (n : ℕ) (r : Result Opened Fault) →
      RowFound s fs d x (Ok y) → NumberIfFound s fs d cols (Ok k) → NumberIfFound s fs d limit (Ok l) → NumberIfFound s fs d offset (Ok o) → (z.row ≡ y) × (z.offset ≡ unwrap_or o (pos 0)) × (z.limit ≡ l) × (z.reversed ≡ false) →
      n ≡ length (windowed (unwrap_or o (pos 0)) l false (items_in y)) → LaidOut z n k r → TableOpened s fs d x cols limit offset r
  table_opened x cols limit offset y k l o z n r row col lim off made long laid w t tk tl to v fits a b c g =
      let (counts, does) = laid (long ∙ window_count y z l o false made) in (
        counts,
        table_is w v t tk tl to r
            (then_on e d (λ p. gone_over w t p e) (row_items h) (table_from w tk tl to) (opening_of h) y r (row w t fits a)
            (then_on e d (λ p. number_if w tk p e) (λ z. z) (table_next w tl to (row_items h y)) (opening_of h) k r (col w tk fits b)
            (then_on e d (λ p. number_if w tl p e) (λ z. z) (table_then w to (row_items h y) k) (opening_of h) l r (lim w tl fits c)
            (then_on e d (λ p. number_if w to p e) (λ z. z) (table_end (row_items h y) k l) (opening_of h) o r (off w to fits g)
            (subst (λ xs. Answers (λ p. laid_out xs k p e) (opening_of h) e d r) (windowed_values y z l o false made) (does h e d)))))),
      )

  pub table_lost_row : (x : Row) (cols limit offset : Option Expr) (q : Fault) → RowFound s fs d x (Err q) → TableOpened s fs d x cols limit offset (Err q)
  table_lost_row x cols limit offset q row w t tk tl to v fits a b c g =
      (tt, table_is w v t tk tl to (Err q) (then_off e d (λ p. gone_over w t p e) (row_items h) (table_from w tk tl to) (opening_of h) q (row w t fits a)))

  pub table_lost_cols : (x : Row) (cols limit offset : Option Expr) (y : AnyRow) (q : Fault) → RowFound s fs d x (Ok y) → NumberIfFound s fs d cols (Err q) → TableOpened s fs d x cols limit offset (Err q)
  table_lost_cols x cols limit offset y q row col w t tk tl to v fits a b c g = (
    tt,
    table_is w v t tk tl to (Err q)
        (then_on e d (λ p. gone_over w t p e) (row_items h) (table_from w tk tl to) (opening_of h) y (Err q) (row w t fits a)
        (then_off e d (λ p. number_if w tk p e) (λ z. z) (table_next w tl to (row_items h y)) (opening_of h) q (col w tk fits b))),
  )

  pub table_lost_limit : (x : Row) (cols limit offset : Option Expr) (y : AnyRow) (k : Option ℤ) (q : Fault) → RowFound s fs d x (Ok y) → NumberIfFound s fs d cols (Ok k) → NumberIfFound s fs d limit (Err q) → TableOpened s fs d x cols limit offset (Err q)
  table_lost_limit x cols limit offset y k q row col lim w t tk tl to v fits a b c g = (
    tt,
    table_is w v t tk tl to (Err q)
        (then_on e d (λ p. gone_over w t p e) (row_items h) (table_from w tk tl to) (opening_of h) y (Err q) (row w t fits a)
        (then_on e d (λ p. number_if w tk p e) (λ z. z) (table_next w tl to (row_items h y)) (opening_of h) k (Err q) (col w tk fits b)
        (then_off e d (λ p. number_if w tl p e) (λ z. z) (table_then w to (row_items h y) k) (opening_of h) q (lim w tl fits c)))),
  )

  pub table_lost_offset : (x : Row) (cols limit offset : Option Expr) (y : AnyRow) (k l : Option ℤ) (q : Fault) → RowFound s fs d x (Ok y) → NumberIfFound s fs d cols (Ok k) → NumberIfFound s fs d limit (Ok l) → NumberIfFound s fs d offset (Err q) → TableOpened s fs d x cols limit offset (Err q)
  table_lost_offset x cols limit offset y k l q row col lim off w t tk tl to v fits a b c g = (
    tt,
    table_is w v t tk tl to (Err q)
        (then_on e d (λ p. gone_over w t p e) (row_items h) (table_from w tk tl to) (opening_of h) y (Err q) (row w t fits a)
        (then_on e d (λ p. number_if w tk p e) (λ z. z) (table_next w tl to (row_items h y)) (opening_of h) k (Err q) (col w tk fits b)
        (then_on e d (λ p. number_if w tl p e) (λ z. z) (table_then w to (row_items h y) k) (opening_of h) l (Err q) (lim w tl fits c)
        (then_off e d (λ p. number_if w to p e) (λ z. z) (table_end (row_items h y) k l) (opening_of h) q (off w to fits g))))),
  )

  -- a `case`
  pub case_opened : (x : Expr) (v : Value (Bor (List ℕ))) → Evaluated s fs d x (Ok v) → CaseOpened s fs d x (Ok (found.Target v))
  unfolding opened still ◌and_then◌
  case_opened x v got w t fits given = (tt, λ p o. ap (λ q. go_on q (λ v. pure (target v))) (got w t p o fits given))

  pub case_lost : (x : Expr) (q : Fault) → Evaluated s fs d x (Err q) → CaseOpened s fs d x (Err q)
  unfolding opened still ◌and_then◌
  case_lost x q got w t fits given = (tt, λ p o. ap (λ q. go_on q (λ v. pure (target v))) (got w t p o fits given))

-- the blocks
module _ (s : Scene) (fs : code.Frames) (d : Drawers) where
  bare_is : (x : Block) (t : tree_block.Block) → ((v : ℕ) (r : Row) (l o : Option Expr) (b : Bool) → x ≡ code_block.For v r l o b → ⊥) → ((v : ℕ) (r : Row) (k l o : Option Expr) → x ≡ code_block.Tablerow v r k l o → ⊥) → block_of (pool_of s) x ≡ Some t →
      (w : World) (p : ℕ) (o : List ℕ) → opened w t p (e s fs d) d o ≡ step d o (gives bare)
  unfolding block_of opened still
  bare_is code_block.If t nf nt given w p o = ap (λ t. opened w t p (e s fs d) d o) (sym (some_is tree_block.if_block t given))
  bare_is (code_block.For v r l o b) t nf nt given w p u = absurd (nf v r l o b refl)
  bare_is (code_block.Tablerow v r k l o) t nf nt given w p u = absurd (nt v r k l o refl)
  bare_is (code_block.Capture n) t nf nt given w p o = ap (λ t. opened w t p (e s fs d) d o) (sym ((only_parts (nat_lt n (pool_of s).names) (tree_block.capture_block n) t given).1))
  bare_is code_block.Ifchanged t nf nt given w p o = ap (λ t. opened w t p (e s fs d) d o) (sym (some_is tree_block.ifchanged_block t given))

  pub block_bare : (x : Block) → ((v : ℕ) (r : Row) (l o : Option Expr) (b : Bool) → x ≡ code_block.For v r l o b → ⊥) → ((v : ℕ) (r : Row) (k l o : Option Expr) → x ≡ code_block.Tablerow v r k l o → ⊥) → BlockOpened s fs d x (Ok found.Bare)
  block_bare x nf nt w t fits given = (tt, bare_is x t nf nt given w)

  pub block_for : (v : ℕ) (x : Row) (limit offset : Option Expr) (reversed : Bool) (r : Result Opened Fault) → ForOpened s fs d x limit offset reversed r → BlockOpened s fs d (code_block.For v x limit offset reversed) r
  unfolding block_of
  block_for v x limit offset reversed r a w t fits given =
      let b = pool_of s in
      let f3 : tree.Row → Option tree.Expr → Option tree.Expr → Option tree_block.Block = λ x l o. numbered b v b.names (tree_block.for_block v x l o reversed) in
      let f2 : tree.Row → Option tree.Expr → Option tree_block.Block = λ x l. if_any (expr_of b) offset so f3 x l in
      let f1 : tree.Row → Option tree_block.Block = λ x. if_any (expr_of b) limit so f2 x in
      let (y, ga, q) = so_parts (row_of b x) f1 t given in
      let (l, gb, u) = so_parts (if_any (expr_of b) limit) (f2 y) t q in
      let (o, gc, z) = so_parts (if_any (expr_of b) offset) (f3 y l) t u in
      subst (λ t. Opens s fs d t w r) ((only_parts (nat_lt v b.names) (tree_block.for_block v y l o reversed) t z).1) (a w y l o v fits ga gb gc)

  pub block_table : (v : ℕ) (x : Row) (cols limit offset : Option Expr) (r : Result Opened Fault) → TableOpened s fs d x cols limit offset r → BlockOpened s fs d (code_block.Tablerow v x cols limit offset) r
  unfolding block_of
  block_table v x cols limit offset r a w t fits given =
      let b = pool_of s in
      let f4 : tree.Row → Option tree.Expr → Option tree.Expr → Option tree.Expr → Option tree_block.Block = λ x k l o. numbered b v b.names (tree_block.tablerow_block v x k l o) in
      let f3 : tree.Row → Option tree.Expr → Option tree.Expr → Option tree_block.Block = λ x k l. if_any (expr_of b) offset so f4 x k l in
      let f2 : tree.Row → Option tree.Expr → Option tree_block.Block = λ x k. if_any (expr_of b) limit so f3 x k in
      let f1 : tree.Row → Option tree_block.Block = λ x. if_any (expr_of b) cols so f2 x in
      let (y, ga, q) = so_parts (row_of b x) f1 t given in
      let (k, gk, m) = so_parts (if_any (expr_of b) cols) (f2 y) t q in
      let (l, gb, u) = so_parts (if_any (expr_of b) limit) (f3 y k) t m in
      let (o, gc, z) = so_parts (if_any (expr_of b) offset) (f4 y k l) t u in
      subst (λ t. Opens s fs d t w r) ((only_parts (nat_lt v b.names) (tree_block.tablerow_block v y k l o) t z).1) (a w y k l o v fits ga gk gb gc)

-- columns
needs_ok : (xs : List Held) (k : ℤ) (p : ℕ) (e : Frames) (d : Drawers) (o : List ℕ) → (0 < length xs → k ≡ pos 0 → ⊥) → needs_columns xs k p e d o ≡ step d o (gives (table xs k))
unfolding still
needs_ok [] k p e d o n = refl
needs_ok (x ∷ xs) (pos zero) p e d o n = absurd (n (omega arith) refl)
needs_ok (x ∷ xs) (pos (suc c)) p e d o n = refl
needs_ok (x ∷ xs) (negsuc c) p e d o n = refl

needs_none : (xs : List Held) (k : ℤ) (p : ℕ) (e : Frames) (d : Drawers) (o : List ℕ) → 0 < length xs → k ≡ pos 0 → needs_columns xs k p e d o ≡ step d o (stops (fault_at 24 None p e))
unfolding still
needs_none [] k p e d o l is = absurd (omega arith)
needs_none (x ∷ xs) k p e d o l is = ap (λ k. needs_columns (x ∷ xs) k p e d o) is

module _ (y : Window AnyRow) (n : ℕ) (k : Option ℤ) (c : ℤ) (is : c ≡ unwrap_or k (pos n)) where
  across : (h : Host) → n ≡ length (items_of y) → unwrap_or k (pos (length (map (item_of h) (items_of y)))) ≡ c
  across h long = ap (λ m. unwrap_or k (pos m)) (length-map (items_of y) (item_of h) ∙ sym long) ∙ sym is

  pub laid_some : (0 < n → c ≡ pos 0 → ⊥) → LaidOut y n k (Ok (found.Table y n c))
  laid_some ok long = (
    long,
    λ h e d p o.
        ap (λ j. needs_columns (map (item_of h) (items_of y)) j p e d o) (across h long)
        ∙ needs_ok (map (item_of h) (items_of y)) c p e d o (λ l. ok (omega (arith, l, long, length-map (items_of y) (item_of h)))),
  )

  pub laid_none : 0 < n → c ≡ pos 0 → LaidOut y n k (Err NoColumn)
  laid_none some none long = (
    tt,
    λ h e d p o.
        ap (λ j. needs_columns (map (item_of h) (items_of y)) j p e d o) (across h long)
        ∙ needs_none (map (item_of h) (items_of y)) c p e d o (omega (arith, some, long, length-map (items_of y) (item_of h))) none,
  )
