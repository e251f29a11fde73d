-- What a record stands for, from what the records that it holds stand for.
use Rattle.std.proofs.Common.{◌≡◌, ℕ, zero, suc, ◌+◌, ◌-◌, ◌*◌, ◌<◌, ◌≤◌, ℤ, Bool, false, List, length, sym, refl, ap, ◌∙◌, ap₂, ⊎_elim, arith}
use Rattle.std.proofs.lemmas.List.{get_or_past}
use Rattle.std.proofs.lemmas.Bool.{cases_lt}
use Rattle.tray.specs.declared.records.Span.{Span}
use Rattle.tray.specs.declared.records.Record.{Record}
use Rattle.tray.specs.declared.records.Record.TheVariants.{Nil, Boolean, Whole, Text, Array, Object}
use Rattle.tray.specs.Sound.{at, first_of, width_of, Behind, Inside}
use Rattle.values.specs.Value.{Value, nil, array, object, Items, Entries, equal, is_nil, is_boolean, is_whole, is_text, is_array, is_object}
use Rattle.values.specs.Meaning.{items_from, entries_from, shape, key_at, value_to, value_at, Below}

items_same : (f g : ℕ → Value) (i n : ℕ) → ((c : ℕ) → i ≤ c → c < i + n → f c ≡ g c) → items_from f i n ≡ items_from g i n
items_same f g i zero h = refl
items_same f g i (suc n) h =
    let e = h i (omega arith) (omega arith) in
    let r = items_same f g (i + 1) n (λ c lo hi. h c (omega arith) (omega arith)) in
    cc

entries_same : (key : ℕ → List ℕ) (f g : ℕ → Value) (i n : ℕ) → ((c : ℕ) → i ≤ c → c < i + 2 * n → f c ≡ g c) → entries_from key f i n ≡ entries_from key g i n
entries_same key f g i zero h = refl
entries_same key f g i (suc n) h =
    let e = h (i + 1) (omega arith) (omega arith) in
    let r = entries_same key f g (i + 2) n (λ c lo hi. h c (omega arith) (omega arith)) in
    cc

-- only what a record holds counts
shape_same : (tx : List ℕ) (key : ℕ → List ℕ) (f g : ℕ → Value) (r : Record) → ((c : ℕ) → first_of r ≤ c → c < first_of r + width_of r → f c ≡ g c) → shape tx key f r ≡ shape tx key g r
shape_same tx key f g Nil h = refl
shape_same tx key f g (Boolean b) h = refl
shape_same tx key f g (Whole z) h = refl
shape_same tx key f g (Text s) h = refl
shape_same tx key f g (Array s) h = ap array (items_same f g s.first s.count h)
shape_same tx key f g (Object s) h = ap object (entries_same key f g s.first s.count h)

past_nil : (rs : List Record) (tx : List ℕ) (f : ℕ → Value) (i : ℕ) → length rs ≤ i → shape tx (key_at rs tx) f (at rs i) ≡ nil
past_nil rs tx f i l = ap (shape tx (key_at rs tx) f) (get_or_past rs i Nil l)

deep : (rs : List Record) (tx : List ℕ) → Behind rs → (k m i : ℕ) → length rs ≤ i + k → length rs ≤ i + m → value_to k rs tx i ≡ value_to m rs tx i
deep rs tx b zero zero i lk lm = refl
deep rs tx b zero (suc m) i lk lm = sym (past_nil rs tx (value_to m rs tx) i (omega arith))
deep rs tx b (suc k) zero i lk lm = past_nil rs tx (value_to k rs tx) i (omega arith)
deep rs tx b (suc k) (suc m) i lk lm =
    shape_same tx (key_at rs tx) (value_to k rs tx) (value_to m rs tx) (at rs i)
    (λ c lo hi. let l : i < c = b i c (record { low = lo; high = hi }) in deep rs tx b k m c (omega arith) (omega arith))

pub unfolds : (rs : List Record) (tx : List ℕ) → Behind rs → (i : ℕ) → value_at rs tx i ≡ shape tx (key_at rs tx) (value_at rs tx) (at rs i)
unfolding value_at
unfolds rs tx b i = deep rs tx b (length rs) (suc (length rs)) i (omega arith) (omega arith)

-- the same, of the record that was read there
pub stands : (rs : List Record) (tx : List ℕ) (i : ℕ) (r : Record) → Behind rs → r ≡ at rs i → value_at rs tx i ≡ shape tx (key_at rs tx) (value_at rs tx) r
stands rs tx i r b e = unfolds rs tx b i ∙ ap (shape tx (key_at rs tx) (value_at rs tx)) (sym e)

past : (rs : List Record) (i : ℕ) (r : Record) → at rs i ≡ r → (Nil ≡ r → ⊥) → i < length rs
past rs i r e h = ⊎_elim (λ l. l) (λ g. absurd (h (sym (get_or_past rs i Nil g) ∙ e))) (cases_lt i (length rs))

-- what is held lies behind its holder and inside
pub lies : (rs : List Record) (i : ℕ) (r : Record) → Behind rs → Inside rs → r ≡ at rs i → (Nil ≡ r → ⊥) → Below i (first_of r) (width_of r) (length rs)
lies rs i r b s e h =
    let f : first_of r ≡ first_of (at rs i) = ap first_of e in
    let w : width_of r ≡ width_of (at rs i) = ap width_of e in
    (past rs i r (sym e) h, λ z. (omega (arith, b i (first_of r) (record { low = omega arith; high = omega arith })), omega (arith, s i (first_of r + width_of r - 1) (record { low = omega arith; high = omega arith }))))

pub array_lies : (rs : List Record) (i : ℕ) (s : Span) → Behind rs → Inside rs → Array s ≡ at rs i → Below i s.first s.count (length rs)
array_lies rs i s b h e = lies rs i (Array s) b h e (λ z. let o : ◌≡◌ {A = ℕ} 0 1 = cc in absurd (omega arith))

pub object_lies : (rs : List Record) (i : ℕ) (s : Span) → Behind rs → Inside rs → Object s ≡ at rs i → Below i s.first (2 * s.count) (length rs)
object_lies rs i s b h e = lies rs i (Object s) b h e (λ z. let o : ◌≡◌ {A = ℕ} 0 1 = cc in absurd (omega arith))

pub both : (rs : List Record) (tx : List ℕ) (a b : ℕ) (r s : Record) → Behind rs → r ≡ at rs a → s ≡ at rs b → equal (value_at rs tx a) (value_at rs tx b) ≡ equal (shape tx (key_at rs tx) (value_at rs tx) r) (shape tx (key_at rs tx) (value_at rs tx) s)
both rs tx a b r s h er es = ap₂ equal (stands rs tx a r h er) (stands rs tx b s h es)

-- a record of another kind
pub not_nil : (tx : List ℕ) (key : ℕ → List ℕ) (f : ℕ → Value) (s : Record) → (s ≡ Nil → ⊥) → false ≡ is_nil (shape tx key f s)
not_nil tx key f Nil h = absurd (h refl)
not_nil tx key f (Boolean b) h = refl
not_nil tx key f (Whole z) h = refl
not_nil tx key f (Text i) h = refl
not_nil tx key f (Array i) h = refl
not_nil tx key f (Object i) h = refl

pub not_boolean : (tx : List ℕ) (key : ℕ → List ℕ) (f : ℕ → Value) (c : Bool) (s : Record) → ((b : Bool) → s ≡ Boolean b → ⊥) → false ≡ is_boolean c (shape tx key f s)
not_boolean tx key f c Nil h = refl
not_boolean tx key f c (Boolean b) h = absurd (h b refl)
not_boolean tx key f c (Whole z) h = refl
not_boolean tx key f c (Text i) h = refl
not_boolean tx key f c (Array i) h = refl
not_boolean tx key f c (Object i) h = refl

pub not_whole : (tx : List ℕ) (key : ℕ → List ℕ) (f : ℕ → Value) (y : ℤ) (s : Record) → ((z : ℤ) → s ≡ Whole z → ⊥) → false ≡ is_whole y (shape tx key f s)
not_whole tx key f y Nil h = refl
not_whole tx key f y (Boolean b) h = refl
not_whole tx key f y (Whole z) h = absurd (h z refl)
not_whole tx key f y (Text i) h = refl
not_whole tx key f y (Array i) h = refl
not_whole tx key f y (Object i) h = refl

pub not_text : (tx : List ℕ) (key : ℕ → List ℕ) (f : ℕ → Value) (t : List ℕ) (s : Record) → ((i : Span) → s ≡ Text i → ⊥) → false ≡ is_text t (shape tx key f s)
not_text tx key f t Nil h = refl
not_text tx key f t (Boolean b) h = refl
not_text tx key f t (Whole z) h = refl
not_text tx key f t (Text i) h = absurd (h i refl)
not_text tx key f t (Array i) h = refl
not_text tx key f t (Object i) h = refl

pub not_array : (tx : List ℕ) (key : ℕ → List ℕ) (f : ℕ → Value) (p : Items → Bool) (s : Record) → ((i : Span) → s ≡ Array i → ⊥) → false ≡ is_array p (shape tx key f s)
not_array tx key f p Nil h = refl
not_array tx key f p (Boolean b) h = refl
not_array tx key f p (Whole z) h = refl
not_array tx key f p (Text i) h = refl
not_array tx key f p (Array i) h = absurd (h i refl)
not_array tx key f p (Object i) h = refl

pub not_object : (tx : List ℕ) (key : ℕ → List ℕ) (f : ℕ → Value) (p : Entries → Bool) (s : Record) → ((i : Span) → s ≡ Object i → ⊥) → false ≡ is_object p (shape tx key f s)
not_object tx key f p Nil h = refl
not_object tx key f p (Boolean b) h = refl
not_object tx key f p (Whole z) h = refl
not_object tx key f p (Text i) h = refl
not_object tx key f p (Array i) h = refl
not_object tx key f p (Object i) h = absurd (h i refl)
