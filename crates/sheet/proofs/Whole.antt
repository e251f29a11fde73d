-- A part that is read whole, and templates.
use Rattle.std.proofs.Common.{◌≡◌, ℕ, zero, suc, ◌+◌, ◌-◌, ◌*◌, ◌<◌, ◌≤◌, Bool, true, false, cond, leb, ltb, ◌&&◌, List, [], ◌∷◌, ◌++◌, map, length, take, drop, is_some, Some, None, Ok, Err, vec_items, Option, refl, sym, ap, ap₂, ◌∙◌, subst, arith, length-append}
use Rattle.std.proofs.lemmas.Bool.{leb-true, le-leb, lt-leb, lt-ltb, le-ltb, and_left, and_right, and_from}
use Rattle.std.proofs.lemmas.List.{length-map, length-drop, take_at, take_all}
use Rattle.cutter.specs.declared.places.Placed.{Placed}
use Rattle.cutter.specs.Cuts.{Cut}
use Rattle.tree.specs.Elements.{Tree}
use Rattle.nodes.specs.declared.exprs.Step.{Step}
use Rattle.nodes.specs.declared.exprs.Expr.{Expr}
use Rattle.nodes.specs.declared.exprs.Filter.{Filter}
use Rattle.nodes.specs.declared.table.Node.{Node}
use Rattle.nodes.specs.Exprs.{Pool, each, where_so}
use Rattle.nodes.specs.Trees.{elements_of, tree_at}
use Rattle.nodes.specs.Wider.{Front, Wider, Keeps}
use Rattle.nodes.specs.Built.{Body}
use Rattle.nodes.proofs.Options.{where_parts, keeps_each}
use Rattle.nodes.proofs.Widens.{keeps_elements}
use Rattle.nodes.proofs.Builds.{agree_front, tree_of_body}
use Rattle.arguments.specs.declared.reader.Reader.{Reader}
use Rattle.arguments.specs.declared.refusals.Stop.{Stop}
use Rattle.arguments.specs.declared.refusals.Stop.TheVariants.{Refused, Memory}
use Rattle.arguments.specs.declared.refusals.Refusal.TheVariants.{UnknownTag}
use Rattle.arguments.specs.Refusals.{number_of}
use Rattle.arguments.specs.Judging.{Asked, Lists}
use Rattle.arguments.specs.Lengths.{lengths_of, CutBack}
use Rattle.arguments.specs.Tables.{pool_of, lists_of, part_in, cycle_of, asked_in}
use Rattle.arguments.proofs.Paths.{each_more}
use Rattle.sheet.specs.declared.parser.Parser.{Parser}
use Rattle.sheet.specs.declared.sheet.Sheet.{Sheet}
use Rattle.sheet.specs.declared.templates.Template.{Template}
use Rattle.sheet.specs.Steps.{Outcome, fails, gives, pieces}
use Rattle.sheet.specs.Blocks.{Tag}
use Rattle.sheet.specs.Parsing.{Elements, elements}
use Rattle.sheet.specs.GrammarLaws.{env_of, Apart}
use Rattle.sheet.specs.Answers.{source_of, nodes_of, count, cut_of, taken, tag_in, ElementsRead, Went, Grew}
use Rattle.sheet.specs.Loading.{Answer, refused, loaded, first_unknown, all_known, ended, finished, part_of, read_part, load}
use Rattle.sheet.specs.Parts.{PartRead}
use Rattle.sheet.specs.Templates.{trees_in}
use Rattle.sheet.specs.Sheets.{templates_of, trees_of, lists, source_in, Untouched, Added, Loads}
use Rattle.sheet.proofs.Chaining.{front_length}
use Rattle.sheet.proofs.Setting.{made}
use Rattle.sheet.proofs.GrammarDerived.{derived}

pub map_drop : {A B : Type 0} (f : A → B) (n : ℕ) (xs : List A) → drop n (map f xs) ≡ map f (drop n xs)
map_drop f zero xs = refl
map_drop f (suc n) [] = refl
map_drop f (suc n) (x ∷ xs) = map_drop f n xs

-- the end of a slice
pub slice_end : {A : Type 0} (xs ys : List A) (n : ℕ) → xs ≡ ys → take (length xs - n) (drop n xs) ≡ drop n ys
slice_end xs ys n e = take_all (length xs - n) (drop n xs) (omega (arith, length-drop n xs)) ∙ ap (drop n) e

-- the parser has turned to a part
module _ (known : List ℕ → Bool) (p t q : Parser) (from to : ℕ) (r : t.reader ≡ p.reader) (c : cut_of t ≡ part_of (source_of p) from to) (e : t.end ≡ to) where
  same_taken : taken (elements (source_of t) t.end (suc (pieces (cut_of t))) 16) t ≡ elements (source_of p) to (suc (pieces (part_of (source_of p) from to))) 16 (part_of (source_of p) from to) (lists_of p.reader)
  same_taken =
      ap (λ x. elements x.source.now t.end (suc (pieces (cut_of t))) 16 (cut_of t) (lists_of x)) r
      ∙ ap₂ (λ z k. elements (source_of p) z (suc (pieces k)) 16 k (lists_of p.reader)) e c

  read_is : (v : Outcome Elements) → taken (elements (source_of t) t.end (suc (pieces (cut_of t))) 16) t ≡ v → read_part known (source_of p) from to (lists_of p.reader) ≡ finished known (length (lists_of p.reader).asked) v
  read_is v h = ap (finished known (length (lists_of p.reader).asked)) (sym same_taken ∙ h)

  pub part_refused : (x : Stop) → ElementsRead 16 t (Err x) q → PartRead known from to p (Err x) q
  part_refused (Refused k z) d = read_is (fails (number_of k) z) (d (suc (pieces (cut_of t))) (omega arith))
  part_refused Memory d = tt

  pub part_tag : (w : Placed) → ElementsRead 16 t (Ok (Some w)) q → PartRead known from to p (Err (Refused UnknownTag w.place)) q
  part_tag w d =
      let (y, (body, ending), g) = d (suc (pieces (cut_of t))) (omega arith) in
      read_is _ g ∙ ap (λ o. ended known (length (lists_of p.reader).asked) y.tree o (lists_of q.reader)) ending

  pub part_over : ElementsRead 16 t (Ok None) q → (asked : ℕ) → asked ≡ length (vec_items p.reader.filters) → (u : Option ℕ) → u ≡ first_unknown known (map (asked_in q.reader.source.now) (drop asked (vec_items q.reader.filters))) →
      (y : Tree) × Body (pool_of q.reader) (nodes_of q) 16 (count p) (count q) y × (read_part known (source_of p) from to (lists_of p.reader) ≡ all_known y (lists_of q.reader) u)
  part_over d asked a u f =
      let (y, (body, ending), g) = d (suc (pieces (cut_of t))) (omega arith) in
      let n : length (lists_of p.reader).asked ≡ asked = length-map (vec_items p.reader.filters) (asked_in p.reader.source.now) ∙ sym a in (
        y.tree,
        subst (λ i. Body (pool_of q.reader) (nodes_of q) 16 i (count q) y.tree) (ap (λ x. length (vec_items x.nodes)) r) body,
        read_is _ g ∙ ap (λ o. ended known (length (lists_of p.reader).asked) y.tree o (lists_of q.reader)) ending
            ∙ ap (all_known y.tree (lists_of q.reader)) (ap (λ i. first_unknown known (drop i (lists_of q.reader).asked)) n ∙ ap (first_unknown known) (map_drop (asked_in q.reader.source.now) asked (vec_items q.reader.filters)) ∙ sym f),
      )

-- the order of judging
module _ (known : List ℕ → Bool) (source : List ℕ) (templates place len : ℕ) (l : Lists) where
  pub load_outside : length source < place + len → load known source templates place len l ≡ refused 1 place
  unfolding load
  load_outside h = ap (λ b. cond b (cond (ltb templates 32 && leb len 16384) (read_part known source place (place + len) l) (refused 2 place)) (refused 1 place)) (lt-leb (place + len) (length source) h)

  inside : place + len ≤ length source → load known source templates place len l ≡ cond (ltb templates 32 && leb len 16384) (read_part known source place (place + len) l) (refused 2 place)
  unfolding load
  inside h = ap (λ b. cond b (cond (ltb templates 32 && leb len 16384) (read_part known source place (place + len) l) (refused 2 place)) (refused 1 place)) (le-leb (place + len) (length source) h)

  pub load_many : place + len ≤ length source → 32 ≤ templates → load known source templates place len l ≡ refused 2 place
  load_many h k = inside h ∙ ap (λ b. cond b (read_part known source place (place + len) l) (refused 2 place)) (and_left (ltb templates 32) (leb len 16384) (le-ltb templates 32 k))

  pub load_long : place + len ≤ length source → 16384 < len → load known source templates place len l ≡ refused 2 place
  load_long h k = inside h ∙ ap (λ b. cond b (read_part known source place (place + len) l) (refused 2 place)) (and_right (ltb templates 32) (leb len 16384) (lt-leb len 16384 k))

  pub load_reads : place + len ≤ length source → templates < 32 → len ≤ 16384 → load known source templates place len l ≡ read_part known source place (place + len) l
  load_reads h k m = inside h ∙ ap (λ b. cond b (read_part known source place (place + len) l) (refused 2 place)) (and_from (ltb templates 32) (leb len 16384) (lt-ltb templates 32 k) (le-leb len 16384 m))

front_cut : {A : Type 0} (xs ys : List A) (n : ℕ) → Front xs ys → n ≡ length xs → take n ys ≡ xs
front_cut xs ys n h e = ap (take n) h.is ∙ take_at xs h.more n (sym e)

pub untouched_same : (s : Sheet) → Untouched s s
untouched_same s = record { source = refl; names = refl; cycles = refl; steps = refl; values = refl; filters = refl; nodes = refl; templates = refl }

-- tables that have grown and are cut back are as before
module _ (s t : Sheet) (q : Parser) (g : Grew s.parser q) (c : CutBack q.reader (lengths_of s.parser.reader) t.parser.reader) (e : templates_of t ≡ templates_of s) where
  pub untouched : Untouched s t
  untouched =
      record {
        source = ap (λ x. x.now) c.source ∙ g.pool.source;
        names = c.names ∙ front_cut _ _ _ g.names refl;
        cycles = c.cycles ∙ front_cut _ _ _ g.cycles refl;
        steps = c.steps ∙ front_cut _ _ _ g.pool.steps refl;
        values = c.values ∙ front_cut _ _ _ g.pool.values refl;
        filters = c.filters ∙ front_cut _ _ _ g.pool.filters refl;
        nodes = c.nodes ∙ front_cut _ _ _ g.nodes refl;
        templates = e;
      }

  pub loads_not : (known : List ℕ → Bool) (place len : ℕ) (x : Stop) → place + len ≤ length (source_in s) → length (templates_of s) < 32 → len ≤ 16384 → PartRead known place (place + len) s.parser (Err x) q → Loads known place len s (Err x) t
  loads_not known place len (Refused k z) h i j d = (load_reads known (source_in s) (length (templates_of s)) place len (lists s) h i j ∙ d, untouched)
  loads_not known place len Memory h i j d = untouched

keeps_tree : (b c : Pool) (ns ms : List Node) (i e : ℕ) → Wider b c → Front ns ms → Keeps (tree_at b ns i e) (tree_at c ms i e)
unfolding tree_at
keeps_tree b c ns ms i e w f y h =
    let (t, g) = where_parts (leb e (length ns)) (elements_of b ns (2 * length ns) 16 i e) y h in
    let le = leb-true e (length ns) t in
    let longer = front_length ns ms f in
    ap (λ x. where_so x (elements_of c ms (2 * length ms) 16 i e)) (le-leb e (length ms) (omega arith))
    ∙ keeps_elements b c w ns ms (2 * length ns) (2 * length ms) (omega (arith, longer)) 16 i e (agree_front ns ms i e le f) y g

-- a template more
pub trees_more : (b c : Pool) (ns ms : List Node) (ts : List Template) (x : Template) (ys : List Tree) (y : Tree) → Wider b c → Front ns ms → trees_in b ns ts ≡ Some ys → tree_at c ms x.from x.end ≡ Some y → trees_in c ms (ts ++ (x ∷ [])) ≡ Some (ys ++ (y ∷ []))
trees_more b c ns ms ts x ys y w f h k =
    each_more (λ t. tree_at c ms t.from t.end) ts ys x y (keeps_each (λ t. tree_at b ns t.from t.end) (λ t. tree_at c ms t.from t.end) (λ t. keeps_tree b c ns ms t.from t.end w f) ts ys h) k

some_there : {A : Type 0} (o : Option A) → is_some o ≡ true → (x : A) × (o ≡ Some x)
some_there None h = cc
some_there (Some x) h = (x, refl)

module _ (s : Sheet) (q : Parser) (ts : List Template) (known : List ℕ → Bool) (place len : ℕ) (g : Grew s.parser q) (e : ts ≡ templates_of s ++ (record { from = count s.parser; end = count q } ∷ []))
    (d : PartRead known place (place + len) s.parser (Ok (tt {0})) q) where
  tree_there : (y : Tree) × (tree_at (pool_of q.reader) (nodes_of q) (count s.parser) (count q) ≡ Some y) × (read_part known (source_in s) place (place + len) (lists s) ≡ loaded y (lists_of q.reader))
  tree_there = let (y, b, r) = d in (y, tree_of_body (pool_of q.reader) (nodes_of q) (count s.parser) (count q) y (front_length _ _ g.nodes) (omega arith) b, r)

  trees_then : (y : Tree) → tree_at (pool_of q.reader) (nodes_of q) (count s.parser) (count q) ≡ Some y → (ys : List Tree) → trees_of s ≡ Some ys → trees_in (pool_of q.reader) (nodes_of q) ts ≡ Some (ys ++ (y ∷ []))
  trees_then y k ys h =
      ap (trees_in (pool_of q.reader) (nodes_of q)) e
      ∙ trees_more (pool_of s.parser.reader) (pool_of q.reader) (vec_items s.parser.reader.nodes) (nodes_of q) (templates_of s) (record { from = count s.parser; end = count q }) ys y g.pool g.nodes h k

  pub decode_more : is_some (trees_of s) ≡ true → is_some (trees_in (pool_of q.reader) (nodes_of q) ts) ≡ true
  decode_more h =
      let (ys, is) = some_there (trees_of s) h in
      let (y, k, r) = tree_there in
      ap is_some (trees_then y k ys is)

  pub loads_one : (k : ℕ) (t : Sheet) → k ≡ length (templates_of s) → t.parser ≡ q → templates_of t ≡ ts → place + len ≤ length (source_in s) → length (templates_of s) < 32 → len ≤ 16384 → Loads known place len s (Ok k) t
  loads_one k t i pq tq h m n =
      let (y, z, r) = tree_there in (
        y,
        lists_of q.reader,
        load_reads known (source_in s) (length (templates_of s)) place len (lists s) h m n ∙ r,
        i,
        record {
          source = ap (λ x. x.reader.source.now) pq ∙ g.pool.source;
          lists = ap (λ x. lists_of x.reader) pq;
          count = ap length tq ∙ ap length e ∙ length-append (templates_of s) (record { from = count s.parser; end = count q } ∷ []);
          trees = λ ys f. ap₂ (λ a b. trees_in (pool_of a.reader) (vec_items a.reader.nodes) b) pq tq ∙ trees_then y z ys f;
        },
      )

-- what was loaded was given by the elements
all_gives : (t u : Tree) (l m : Lists) (o : Option ℕ) → all_known t l o ≡ loaded u m → l ≡ m
all_gives t u l m None e = cc
all_gives t u l m (Some p) e = cc

ended_gives : (known : List ℕ → Bool) (n : ℕ) (t u : Tree) (e : Option Tag) (l m : Lists) → ended known n t e l ≡ loaded u m → l ≡ m
ended_gives known n t u None l m h = all_gives t u l m (first_unknown known (drop n l.asked)) h
ended_gives known n t u (Some e) l m h = cc

finished_gives : (known : List ℕ → Bool) (n : ℕ) (v : Outcome Elements) (u : Tree) (m : Lists) → finished known n v ≡ loaded u m → (y : Elements) × (c : Cut) × (v ≡ gives y c m)
finished_gives known n (fails k p) u m h = cc
finished_gives known n (gives y c l) u m h = (y, c, ap (gives y c) (ended_gives known n y.tree u y.ending l m h))

-- no names become equal
pub apart_more : (known : List ℕ → Bool) (source : List ℕ) (from to : ℕ) (l m : Lists) (u : Tree) → read_part known source from to l ≡ loaded u m → Apart (env_of l) → Apart (env_of m)
apart_more known source from to l m u h a =
    let (y, c, is) = finished_gives known (length l.asked) (elements source to (suc (pieces (part_of source from to))) 16 (part_of source from to) l) u m h in
    let (f, is_written, ends, kept, apart) = derived source to (suc (pieces (part_of source from to))) 16 (part_of source from to) c l m y is in
    apart a

-- tables that have grown and are cut back say the same
pub lists_back : (p q t : Parser) → Grew p q → CutBack q.reader (lengths_of p.reader) t.reader → lists_of t.reader ≡ lists_of p.reader
lists_back p q t g c =
    let d = p.reader in
    let e = t.reader in
    let source : e.source.now ≡ d.source.now = ap (λ x. x.now) c.source ∙ g.pool.source in
    let names : vec_items e.names ≡ vec_items d.names = c.names ∙ front_cut _ _ _ g.names refl in
    let cycles : vec_items e.cycles ≡ vec_items d.cycles = c.cycles ∙ front_cut _ _ _ g.cycles refl in
    let nodes : vec_items e.nodes ≡ vec_items d.nodes = c.nodes ∙ front_cut _ _ _ g.nodes refl in
    let filters : vec_items e.filters ≡ vec_items d.filters = c.filters ∙ front_cut _ _ _ g.pool.filters refl in
    ap (λ x. made x (map cycle_of (vec_items e.cycles)) (length (vec_items e.nodes)) (map (asked_in e.source.now) (vec_items e.filters))) (ap₂ (λ a b. map (part_in a) b) source names)
    ∙ ap (λ x. made (map (part_in d.source.now) (vec_items d.names)) x (length (vec_items e.nodes)) (map (asked_in e.source.now) (vec_items e.filters))) (ap (map cycle_of) cycles)
    ∙ ap (λ x. made (map (part_in d.source.now) (vec_items d.names)) (map cycle_of (vec_items d.cycles)) x (map (asked_in e.source.now) (vec_items e.filters))) (ap length nodes)
    ∙ ap (λ x. made (map (part_in d.source.now) (vec_items d.names)) (map cycle_of (vec_items d.cycles)) (length (vec_items d.nodes)) x) (ap₂ (λ a b. map (asked_in a) b) source filters)

abbrev pooled : List ℕ → ℕ → ℕ → List Step → List Expr → List Filter → Pool
pooled source n k steps values filters = record { source = source; names = n; cycles = k; steps = steps; values = values; filters = filters }

pool_back : (p q t : Parser) → Grew p q → CutBack q.reader (lengths_of p.reader) t.reader → pool_of t.reader ≡ pool_of p.reader
pool_back p q t g c =
    let d = p.reader in
    let e = t.reader in
    ap₂ (λ x y. pooled x y (length (vec_items e.cycles)) (vec_items e.steps) (vec_items e.values) (vec_items e.filters)) (ap (λ x. x.now) c.source ∙ g.pool.source) (ap length (c.names ∙ front_cut _ _ _ g.names refl))
    ∙ ap₂ (λ x y. pooled d.source.now (length (vec_items d.names)) x y (vec_items e.values) (vec_items e.filters)) (ap length (c.cycles ∙ front_cut _ _ _ g.cycles refl)) (c.steps ∙ front_cut _ _ _ g.pool.steps refl)
    ∙ ap₂ (λ x y. pooled d.source.now (length (vec_items d.names)) (length (vec_items d.cycles)) (vec_items d.steps) x y) (c.values ∙ front_cut _ _ _ g.pool.values refl) (c.filters ∙ front_cut _ _ _ g.pool.filters refl)

-- the templates decode as before
pub decode_back : (p q t : Parser) (ts us : List Template) → Grew p q → CutBack q.reader (lengths_of p.reader) t.reader → us ≡ ts → is_some (trees_in (pool_of p.reader) (nodes_of p) ts) ≡ true → is_some (trees_in (pool_of t.reader) (nodes_of t) us) ≡ true
decode_back p q t ts us g c e h =
    ap (λ x. is_some (trees_in x (nodes_of t) us)) (pool_back p q t g c)
    ∙ ap₂ (λ x y. is_some (trees_in (pool_of p.reader) x y)) (c.nodes ∙ front_cut _ _ _ g.nodes refl) e
    ∙ h
