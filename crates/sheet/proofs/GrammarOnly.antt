-- Tokens are a writing of one value, chain or condition only.
use Rattle.std.proofs.Common.{◌≡◌, ℕ, ◌+◌, false, cond, ◌⊎◌, List, [], ◌∷◌, map, length, Some, None, codes, Option, refl, sym, ap, ap₂, ◌∙◌, subst}
use Rattle.std.proofs.lemmas.Bool.{false≢true}
use Rattle.tray.specs.Parts.{same_text}
use Rattle.cutter.specs.declared.lengths.Symbol.TheVariants as symbol
use Rattle.cutter.specs.Words.{Words, over, word}
use Rattle.cutter.specs.Tokens.{Reading, is_nil, is_boolean, is_number, is_text, is_name, is_path, is_range, is_symbol, token_of}
use Rattle.cutter.specs.Paths.{steps_of}
use Rattle.tree.specs.Expressions.{Head, named, Expr, path, Filter, Chain, Row, row_from, range}
use Rattle.tree.specs.Conditions.{Comparison, equals, differs, is_less, is_more, at_most, at_least, contains, Test, exists, compares, Condition, only, both, either}
use Rattle.arguments.specs.declared.words.Special.{Special}
use Rattle.arguments.specs.declared.words.Special.TheVariants.{Forloop, Tablerowloop, Barred, Free}
use Rattle.arguments.specs.Judging.{Seen, seen}
use Rattle.arguments.specs.Values.{read, tree_step_of, special}
use Rattle.tags.specs.Conditions.{comparison_in}
use Rattle.sheet.specs.Grammar.{Env, NameIs, Begins, TheWord, TheSymbol, HeadBy, ReadsAs, ValueIs, RowReads, RowIs, TargetIs, SettingIs, ArgumentIs, FilterIs, FiltersAre, ChainIs, ComparisonIs, TestIs, ConditionIs, WhensAre}
use Rattle.sheet.specs.GrammarLaws.{Apart}
use Rattle.sheet.proofs.GrammarJudging.{is_same}

-- what is the same token, and what is behind it
pub same_begins : (P Q : Seen → Type 0) (a b c : Words) → Begins P a b → Begins Q a c → (w : Seen) × P w × Q w × (b ≡ c)
same_begins P Q a b c h k =
    let e : word h.token.place h.token.bytes b ≡ word k.token.place k.token.bytes c = sym h.is ∙ k.is in
    let p : h.token.place ≡ k.token.place = cc in
    let q : h.token.bytes ≡ k.token.bytes = cc in
    let r : b ≡ c = cc in
    (h.token, h.so, subst Q (sym (ap₂ seen p q)) k.so, r)

pub none_begins : (P : Seen → Type 0) (b : Words) → Begins P over b → ⊥
none_begins P b h = let e = h.is in cc

pub no_begins : (P : Seen → Type 0) (a b : Words) → a ≡ over → Begins P a b → ⊥
no_begins P a b e h = none_begins P b (subst (λ x. Begins P x b) e h)

-- words that differ
pub other_word : (m n : List ℕ) → same_text m n ≡ false → m ≡ n → ⊥
other_word m n e h = false≢true (sym e ∙ is_same m n h)

pub names_same : (m n : List ℕ) → is_name m ≡ is_name n → m ≡ n
names_same m n e = cc

module _ (e : Env) (apart : Apart e) where
  pub number_one : (i j : ℕ) (n : List ℕ) → NameIs e i n → NameIs e j n → i ≡ j
  number_one i j n h k = apart.names i j n h k

  head_one : (s : Special) (h g : Head) (n : List ℕ) → HeadBy s e h n → HeadBy s e g n → h ≡ g
  head_one Forloop h g n u v = u ∙ sym v
  head_one Tablerowloop h g n u v = u ∙ sym v
  head_one Barred h g n u v = absurd u
  head_one Free h g n u v = u.2 ∙ ap named (apart.names u.0 v.0 n u.1 v.1) ∙ sym v.2

  pub reads_one : (x y : Expr) (q : ℕ) (r : Reading) → ReadsAs e x q r → ReadsAs e y q r → x ≡ y
  reads_one x y q is_nil h k = h ∙ sym k
  reads_one x y q (is_boolean b) h k = h ∙ sym k
  reads_one x y q (is_number z) h k = h ∙ sym k
  reads_one x y q (is_text t) h k = h ∙ sym k
  reads_one x y q (is_name n) h k = h.2 ∙ ap (λ z. path z []) (head_one (special n) h.0 k.0 n h.1 k.1) ∙ sym k.2
  reads_one x y q (is_path n s) h k = h.2 ∙ ap (λ z. path z (map tree_step_of (steps_of (q + length n) s))) (head_one (special n) h.0 k.0 n h.1 k.1) ∙ sym k.2
  reads_one x y q (is_range a l b u) h k = absurd h
  reads_one x y q (is_symbol s) h k = absurd h

  pub value_one : (x y : Expr) (a b c : Words) → Begins (ValueIs e x) a b → Begins (ValueIs e y) a c → (x ≡ y) × (b ≡ c)
  value_one x y a b c h k = let (w, u, v, s) = same_begins (ValueIs e x) (ValueIs e y) a b c h k in (reads_one x y w.place (read w) u v, s)

  row_value_one : (r s : Row) (q : ℕ) (t : Reading) → (x : Expr) × ReadsAs e x q t × (r ≡ row_from x) → (x : Expr) × ReadsAs e x q t × (s ≡ row_from x) → r ≡ s
  row_value_one r s q t h k = h.2 ∙ ap row_from (reads_one h.0 k.0 q t h.1 k.1) ∙ sym k.2

  row_one_by : (r s : Row) (q : ℕ) (t : Reading) → RowReads e r q t → RowReads e s q t → r ≡ s
  row_one_by r s q is_nil h k = row_value_one r s q is_nil h k
  row_one_by r s q (is_boolean b) h k = row_value_one r s q (is_boolean b) h k
  row_one_by r s q (is_number z) h k = row_value_one r s q (is_number z) h k
  row_one_by r s q (is_text t) h k = row_value_one r s q (is_text t) h k
  row_one_by r s q (is_name n) h k = row_value_one r s q (is_name n) h k
  row_one_by r s q (is_path n t) h k = row_value_one r s q (is_path n t) h k
  row_one_by r s q (is_range a l b u) h k = h.4 ∙ ap₂ range (reads_one h.0 k.0 a (token_of a l) h.2 k.2) (reads_one h.1 k.1 b (token_of b u) h.3 k.3) ∙ sym k.4
  row_one_by r s q (is_symbol t) h k = row_value_one r s q (is_symbol t) h k

  pub row_one : (r s : Row) (a b c : Words) → Begins (RowIs e r) a b → Begins (RowIs e s) a c → (r ≡ s) × (b ≡ c)
  row_one r s a b c h k = let (w, u, v, q) = same_begins (RowIs e r) (RowIs e s) a b c h k in (row_one_by r s w.place (read w) u v, q)

  pub target_one : (i j : ℕ) (a b c : Words) → Begins (TargetIs e i) a b → Begins (TargetIs e j) a c → (i ≡ j) × (b ≡ c)
  target_one i j a b c h k =
      let (w, u, v, q) = same_begins (TargetIs e i) (TargetIs e j) a b c h k in
      let n = names_same v.name u.name (sym v.bare ∙ u.bare) in
      (number_one i j u.name u.is (subst (NameIs e j) n v.is), q)

  pub setting_one : (x y : Expr) (a b c : Words) → SettingIs e x a b → SettingIs e y a c → (x ≡ y) × (b ≡ c)
  setting_one x y a b c h k =
      let (w, u, v, q) = same_begins (TheSymbol symbol.Colon) (TheSymbol symbol.Colon) a h.0 k.0 h.1 k.1 in
      value_one x y k.0 b c (subst (λ z. Begins (ValueIs e x) z b) q h.2) k.2

  -- no colon is next
  abbrev pub NoColon : Words → Type 0
  NoColon a = (b : Words) → Begins (TheSymbol symbol.Colon) a b → ⊥

  argument_one : (o p : Option Expr) (a b c : Words) → NoColon b → NoColon c → ArgumentIs e o a b → ArgumentIs e p a c → (o ≡ p) × (b ≡ c)
  argument_one None None a b c m n h k = (refl, sym h ∙ k)
  argument_one None (Some y) a b c m n h k = absurd (m k.0 (subst (λ z. Begins (TheSymbol symbol.Colon) z k.0) h k.1))
  argument_one (Some x) None a b c m n h k = absurd (n h.0 (subst (λ z. Begins (TheSymbol symbol.Colon) z h.0) k h.1))
  argument_one (Some x) (Some y) a b c m n h k = let (p, q) = setting_one x y a b c h k in (ap Some p, q)

  filter_one : (f g : Filter) (a b c : Words) → NoColon b → NoColon c → FilterIs e f a b → FilterIs e g a c → (f ≡ g) × (b ≡ c)
  filter_one f g a b c m n h k =
      let (w, u, v, q) = same_begins (TheWord f.filter) (TheWord g.filter) a h.0 k.0 h.1 k.1 in
      let (o, r) = argument_one f.argument g.argument k.0 b c m n (subst (λ z. ArgumentIs e f.argument z b) q h.2) k.2 in
      let made : List ℕ → Option Expr → Filter = λ i j. record { filter = i; argument = j } in
      (ap₂ made (names_same f.filter g.filter (sym u ∙ v)) o, r)

  bar_no_colon : (w : Seen) → TheSymbol symbol.Bar w → TheSymbol symbol.Colon w → ⊥
  bar_no_colon w h k = let q : is_symbol symbol.Bar ≡ is_symbol symbol.Colon = sym h ∙ k in cc

  filters_no_colon : (fs : List Filter) (a : Words) → FiltersAre e fs a → NoColon a
  filters_no_colon [] a h b k = no_begins (TheSymbol symbol.Colon) a b h k
  filters_no_colon (f ∷ fs) a h b k = let (w, u, v, q) = same_begins (TheSymbol symbol.Bar) (TheSymbol symbol.Colon) a h.0 b h.2 k in bar_no_colon w u v

  pub filters_one : (fs gs : List Filter) (a : Words) → FiltersAre e fs a → FiltersAre e gs a → fs ≡ gs
  filters_one [] [] a h k = refl
  filters_one [] (g ∷ gs) a h k = absurd (no_begins (TheSymbol symbol.Bar) a k.0 h k.2)
  filters_one (f ∷ fs) [] a h k = absurd (no_begins (TheSymbol symbol.Bar) a h.0 k h.2)
  filters_one (f ∷ fs) (g ∷ gs) a h k =
      let (w, u, v, q) = same_begins (TheSymbol symbol.Bar) (TheSymbol symbol.Bar) a h.0 k.0 h.2 k.2 in
      let (r, s) = filter_one f g k.0 h.1 k.1 (filters_no_colon fs h.1 h.4) (filters_no_colon gs k.1 k.4) (subst (λ z. FilterIs e f z h.1) q h.3) k.3 in
      ap₂ (λ x y. x ∷ y) r (filters_one fs gs k.1 (subst (FiltersAre e fs) s h.4) k.4)

  pub chain_one : (c d : Chain) (a : Words) → ChainIs e c a → ChainIs e d a → c ≡ d
  chain_one c d a h k =
      let (p, q) = value_one c.value d.value a h.0 k.0 h.1 k.1 in
      let made : Expr → List Filter → Chain = λ v fs. record { value = v; filters = fs } in
      ap₂ made p (filters_one c.filters d.filters k.0 (subst (FiltersAre e c.filters) q h.2) k.2)

-- comparisons
abbrev sign : Comparison → Reading
sign equals = is_symbol symbol.Same
sign differs = is_symbol symbol.Differs
sign is_less = is_symbol symbol.Less
sign is_more = is_symbol symbol.Greater
sign at_most = is_symbol symbol.AtMost
sign at_least = is_symbol symbol.AtLeast
sign contains = is_name (codes "contains")

sign_is : (c : Comparison) (w : Seen) → ComparisonIs c w → read w ≡ sign c
sign_is equals w h = h
sign_is differs w h = h
sign_is is_less w h = h
sign_is is_more w h = h
sign_is at_most w h = h
sign_is at_least w h = h
sign_is contains w h = h

sign_reads : (c : Comparison) → comparison_in (sign c) ≡ Some c
unfolding same_text
sign_reads equals = refl
sign_reads differs = refl
sign_reads is_less = refl
sign_reads is_more = refl
sign_reads at_most = refl
sign_reads at_least = refl
sign_reads contains = refl

pub compared_is : (c : Comparison) (w : Seen) → ComparisonIs c w → comparison_in (read w) ≡ Some c
compared_is c w h = ap comparison_in (sign_is c w h) ∙ sign_reads c

comparison_one : (c d : Comparison) (w : Seen) → ComparisonIs c w → ComparisonIs d w → c ≡ d
comparison_one c d w h k = let q : Some c ≡ Some d = sym (compared_is c w h) ∙ compared_is d w k in cc

-- no comparison is next
abbrev pub NoComparison : Words → Type 0
NoComparison a = (c : Comparison) (b : Words) → Begins (ComparisonIs c) a b → ⊥

pub over_no_comparison : NoComparison over
over_no_comparison c b h = none_begins (ComparisonIs c) b h

pub word_no_comparison : (n : List ℕ) (a b : Words) → same_text n (codes "contains") ≡ false → Begins (TheWord n) a b → NoComparison a
word_no_comparison n a b s h c d k =
    let (w, u, v, q) = same_begins (TheWord n) (ComparisonIs c) a b d h k in
    let r : cond (same_text n (codes "contains")) (Some contains) None ≡ Some c = sym (ap comparison_in u) ∙ compared_is c w v in
    let t : None ≡ Some c = sym (ap (λ x. cond x (Some contains) None) s) ∙ r in
    cc

and_no_comparison : (a b : Words) → Begins (TheWord (codes "and")) a b → NoComparison a
unfolding same_text
and_no_comparison a b h = word_no_comparison (codes "and") a b refl h

or_no_comparison : (a b : Words) → Begins (TheWord (codes "or")) a b → NoComparison a
unfolding same_text
or_no_comparison a b h = word_no_comparison (codes "or") a b refl h

and_no_or : (a b c : Words) → Begins (TheWord (codes "and")) a b → Begins (TheWord (codes "or")) a c → ⊥
unfolding same_text
and_no_or a b c h k = let (w, u, v, q) = same_begins (TheWord (codes "and")) (TheWord (codes "or")) a b c h k in other_word (codes "and") (codes "or") refl (names_same _ _ (sym u ∙ v))

module _ (e : Env) (apart : Apart e) where
  test_one : (t u : Test) (a b c : Words) → NoComparison b → NoComparison c → TestIs e t a b → TestIs e u a c → (t ≡ u) × (b ≡ c)
  test_one (exists x) (exists y) a b c m n h k = let (p, q) = value_one e apart x y a b c h k in (ap exists p, q)
  test_one (exists x) (compares y d z) a b c m n h k =
      let (p, q) = value_one e apart x y a b k.0 h k.2 in
      absurd (m d k.1 (subst (λ i. Begins (ComparisonIs d) i k.1) (sym q) k.3))
  test_one (compares x d z) (exists y) a b c m n h k =
      let (p, q) = value_one e apart x y a h.0 c h.2 k in
      absurd (n d h.1 (subst (λ i. Begins (ComparisonIs d) i h.1) q h.3))
  test_one (compares x d z) (compares y f v) a b c m n h k =
      let (p, q) = value_one e apart x y a h.0 k.0 h.2 k.2 in
      let (w, i, j, r) = same_begins (ComparisonIs d) (ComparisonIs f) k.0 h.1 k.1 (subst (λ o. Begins (ComparisonIs d) o h.1) q h.3) k.3 in
      let (s, t) = value_one e apart z v k.1 b c (subst (λ o. Begins (ValueIs e z) o b) r h.4) k.4 in
      (ap₂ (λ o l. compares o l z) p (comparison_one d f w i j) ∙ ap (compares y f) s, t)

  pub condition_one : (c d : Condition) (a : Words) → ConditionIs e c a → ConditionIs e d a → c ≡ d
  condition_one (only t) (only u) a h k = ap only (test_one t u a over over over_no_comparison over_no_comparison h k).0
  condition_one (only t) (both u d) a h k =
      let (p, q) = test_one t u a over k.0 over_no_comparison (and_no_comparison k.0 k.1 k.3) h k.2 in absurd (no_begins (TheWord (codes "and")) k.0 k.1 (sym q) k.3)
  condition_one (only t) (either u d) a h k =
      let (p, q) = test_one t u a over k.0 over_no_comparison (or_no_comparison k.0 k.1 k.3) h k.2 in absurd (no_begins (TheWord (codes "or")) k.0 k.1 (sym q) k.3)
  condition_one (both t c) (only u) a h k =
      let (p, q) = test_one t u a h.0 over (and_no_comparison h.0 h.1 h.3) over_no_comparison h.2 k in absurd (no_begins (TheWord (codes "and")) h.0 h.1 q h.3)
  condition_one (both t c) (both u d) a h k =
      let (p, q) = test_one t u a h.0 k.0 (and_no_comparison h.0 h.1 h.3) (and_no_comparison k.0 k.1 k.3) h.2 k.2 in
      let (w, i, j, r) = same_begins (TheWord (codes "and")) (TheWord (codes "and")) k.0 h.1 k.1 (subst (λ z. Begins (TheWord (codes "and")) z h.1) q h.3) k.3 in
      ap₂ both p (condition_one c d k.1 (subst (ConditionIs e c) r h.4) k.4)
  condition_one (both t c) (either u d) a h k =
      let (p, q) = test_one t u a h.0 k.0 (and_no_comparison h.0 h.1 h.3) (or_no_comparison k.0 k.1 k.3) h.2 k.2 in
      absurd (and_no_or k.0 h.1 k.1 (subst (λ z. Begins (TheWord (codes "and")) z h.1) q h.3) k.3)
  condition_one (either t c) (only u) a h k =
      let (p, q) = test_one t u a h.0 over (or_no_comparison h.0 h.1 h.3) over_no_comparison h.2 k in absurd (no_begins (TheWord (codes "or")) h.0 h.1 q h.3)
  condition_one (either t c) (both u d) a h k =
      let (p, q) = test_one t u a h.0 k.0 (or_no_comparison h.0 h.1 h.3) (and_no_comparison k.0 k.1 k.3) h.2 k.2 in
      absurd (and_no_or h.0 k.1 h.1 (subst (λ z. Begins (TheWord (codes "and")) z k.1) (sym q) k.3) h.3)
  condition_one (either t c) (either u d) a h k =
      let (p, q) = test_one t u a h.0 k.0 (or_no_comparison h.0 h.1 h.3) (or_no_comparison k.0 k.1 k.3) h.2 k.2 in
      let (w, i, j, r) = same_begins (TheWord (codes "or")) (TheWord (codes "or")) k.0 h.1 k.1 (subst (λ z. Begins (TheWord (codes "or")) z h.1) q h.3) k.3 in
      ap₂ either p (condition_one c d k.1 (subst (ConditionIs e c) r h.4) k.4)

  abbrev Separates : Seen → Type 0
  Separates w = TheWord (codes "or") w ⊎ TheSymbol symbol.Comma w

  pub whens_one : (xs ys : List Expr) (a : Words) → WhensAre e xs a → WhensAre e ys a → xs ≡ ys
  whens_one [] ys a h k = absurd h
  whens_one (x ∷ []) [] a h k = absurd k
  whens_one (x ∷ []) (y ∷ []) a h k = ap (λ z. z ∷ []) (value_one e apart x y a over over h k).0
  whens_one (x ∷ []) (y ∷ v ∷ ys) a h k = absurd (no_begins Separates k.0 k.1 (sym (value_one e apart x y a over k.0 h k.2).1) k.3)
  whens_one (x ∷ u ∷ xs) [] a h k = absurd k
  whens_one (x ∷ u ∷ xs) (y ∷ []) a h k = absurd (no_begins Separates h.0 h.1 (value_one e apart x y a h.0 over h.2 k).1 h.3)
  whens_one (x ∷ u ∷ xs) (y ∷ v ∷ ys) a h k =
      let (p, q) = value_one e apart x y a h.0 k.0 h.2 k.2 in
      let (w, i, j, r) = same_begins Separates Separates k.0 h.1 k.1 (subst (λ z. Begins Separates z h.1) q h.3) k.3 in
      ap₂ (λ z zs. z ∷ zs) p (whens_one (u ∷ xs) (v ∷ ys) k.1 (subst (WhensAre e (u ∷ xs)) r h.4) k.4)
