-- The walk over holders, and what it shows.
use Rattle.std.proofs.Common.{◌≡◌, ℕ, ◌+◌, ◌-◌, ◌*◌, ◌<◌, ◌≤◌, Bool, true, false, ◌⊎◌, List, length, get_or, set, sym, refl, ap, ◌∙◌, subst, inl, inr, ⊎_elim, arith}
use Rattle.std.proofs.lemmas.Bool.{cases_lt, both_ways, cases_eq, false≢true}
use Rattle.std.proofs.lemmas.List.{get_or_past, get_or-set_same, get_or-set_other}
use Rattle.tray.specs.declared.records.Span.{Span}
use Rattle.tray.specs.declared.records.Record.{Record}
use Rattle.tray.specs.declared.records.Record.TheVariants.{Nil, Object}
use Rattle.tray.specs.Sound.{at, first_of, width_of, Holds, HeldOnce, Held, Took, Barred, Keyed, KeysText, is_object, is_text}

-- the holders below n are in order, and the marks are of what they hold
pub record Walked (rs : List Record) (n : ℕ) (marks : List Bool) : Type 0 where
  pub long : length marks ≡ length rs
  pub behind : (h c : ℕ) → h < n → Holds rs h c → h < c
  pub inside : (h c : ℕ) → h < n → Holds rs h c → c < length rs
  pub once : (h k c : ℕ) → h < n → k < n → Holds rs h c → Holds rs k c → h ≡ k
  pub marked : (h c : ℕ) → h < n → Holds rs h c → Held marks c
  pub holder : (c : ℕ) → Held marks c → (h : ℕ) × (h < n) × Holds rs h c

pub walk_none : (rs : List Record) (marks : List Bool) → length marks ≡ length rs → ((c : ℕ) → get_or marks c false ≡ false) → Walked rs 0 marks
walk_none rs marks e f = record { long = e; behind = λ h c l _. absurd (omega arith); inside = λ h c l _. absurd (omega arith); once = λ h k c l _ _ _. absurd (omega arith); marked = λ h c l _. absurd (omega arith); holder = λ c m. absurd (both_ways _ (f c) m) }

pub walk_more : {rs : List Record} {n : ℕ} {old : List Bool} → Walked rs n old → {from width : ℕ} {new : List Bool} → Took n from width old new → from ≡ first_of (at rs n) → width ≡ width_of (at rs n) → length new ≡ length old → Walked rs (n + 1) new
walk_more {rs} {n} {old} w {from} {width} {new} fm ef et el = record { long = el ∙ w.long; behind = below_b; inside = below_i; once = only; marked = below_m; holder = who }
  where
    here : (c : ℕ) → Holds rs n c → (from ≤ c) × (c < from + width)
    here c x = (omega arith, omega arith)

    is_here : (P : ℕ → Type 0) (h : ℕ) → h < n + 1 → (h < n → P h) → P n → P h
    is_here P h l f g = ⊎_elim f (λ ge. let e : n ≡ h = omega arith in subst P e g) (cases_lt h n)

    below_b : (h c : ℕ) → h < n + 1 → Holds rs h c → h < c
    below_b h c l = is_here (λ h. Holds rs h c → h < c) h l (λ lt. w.behind h c lt) (λ x. fm.behind c (here c x).0 (here c x).1)

    below_i : (h c : ℕ) → h < n + 1 → Holds rs h c → c < length rs
    below_i h c l = is_here (λ h. Holds rs h c → c < length rs) h l (λ lt. w.inside h c lt) (λ x. let y = fm.inside c (here c x).0 (here c x).1 in omega (arith, w.long))

    below_m : (h c : ℕ) → h < n + 1 → Holds rs h c → Held new c
    below_m h c l = is_here (λ h. Holds rs h c → Held new c) h l (λ lt x. fm.kept c (w.marked h c lt x)) (λ x. fm.into c (here c x).0 (here c x).1)

    clash : (h c : ℕ) → h < n → Holds rs h c → Holds rs n c → ⊥
    clash h c lt x y = fm.free c (here c y).0 (here c y).1 (w.marked h c lt x)

    only : (h k c : ℕ) → h < n + 1 → k < n + 1 → Holds rs h c → Holds rs k c → h ≡ k
    only h k c l =
        is_here (λ h. k < n + 1 → Holds rs h c → Holds rs k c → h ≡ k) h l
        (λ lt lk x. is_here (λ k. Holds rs k c → h ≡ k) k lk (λ ltk y. w.once h k c lt ltk x y) (λ y. absurd (clash h c lt x y)))
        (λ lk x. is_here (λ k. Holds rs k c → n ≡ k) k lk (λ ltk y. absurd (clash k c ltk y x)) (λ y. refl))

    who : (c : ℕ) → Held new c → (h : ℕ) × (h < n + 1) × Holds rs h c
    who c x =
        ⊎_elim (λ o. let p = w.holder c o in (p.0, omega (arith, p.1), p.2))
        (λ b. (n, omega arith, record { low = omega (arith, b.0, ef); high = omega (arith, b.1, ef, et) })) (fm.back c x)

pub walk_barred : {rs : List Record} {n : ℕ} {marks : List Bool} → Walked rs n marks → {from width : ℕ} → Barred n from width marks → from ≡ first_of (at rs n) → width ≡ width_of (at rs n) → HeldOnce rs → ⊥
walk_barred {rs} {n} {marks} w {from} {width} b ef et s =
    let x : Holds rs n b.c = record { low = omega (arith, b.low, ef); high = omega (arith, b.high, ef, et) } in
    ⊎_elim (λ le. omega (arith, s.behind n b.c x, le))
    (⊎_elim (λ le. omega (arith, s.inside n b.c x, le, w.long)) (λ hd. let p = w.holder b.c hd in omega (arith, s.once p.0 n (record { c = b.c; left = p.2; right = x }), p.1))) b.why

past : (rs : List Record) (h c : ℕ) → length rs ≤ h → Holds rs h c → ⊥
past rs h c le x =
    let e = get_or_past rs h Nil le in
    let hi = x.high in
    omega (arith, subst (λ r. c < first_of r + width_of r) e hi)

pub walk_all : {rs : List Record} {n : ℕ} {marks : List Bool} → Walked rs n marks → length rs ≤ n → HeldOnce rs
walk_all {rs} {n} {marks} w le = record { behind = λ h c x. w.behind h c (lt h c x) x; inside = λ h c x. w.inside h c (lt h c x) x; once = λ h k s. w.once h k s.c (lt h s.c s.left) (lt k s.c s.right) s.left s.right }
  where
    lt : (h c : ℕ) → Holds rs h c → h < n
    lt h c x = ⊎_elim (λ l. l) (λ ge. absurd (past rs h c (omega arith) x)) (cases_lt h n)

-- one more record marked
pub hold_more : {h from c : ℕ} {old marks : List Bool} → Took h from (c - from) old marks → from ≤ c → length marks ≡ length old → h < c → c < length old → (Held marks c → ⊥) → Took h from (c + 1 - from) old (set marks c true)
hold_more {h} {from} {c} {old} {marks} t fc el lh ll nh =
    record { behind = behind; inside = inside; free = free; into = into; kept = λ k x. grows k (t.kept k x); back = back }
  where
    is_here : (P : ℕ → Type 0) (k : ℕ) → k < from + (c + 1 - from) → (k < from + (c - from) → P k) → P c → P k
    is_here P k hi f g = ⊎_elim (λ l. f (omega arith)) (λ ge. let e : c ≡ k = omega arith in subst P e g) (cases_lt k c)

    same : Held (set marks c true) c
    same = get_or-set_same marks c true false (omega arith)

    grows : (k : ℕ) → Held marks k → Held (set marks c true) k
    grows k x =
        ⊎_elim (λ e. let P : ℕ → Type 0 = Held (set marks c true) in subst P (sym e) same)
        (λ ne. get_or-set_other marks c k true false ne ∙ x) (cases_eq k c)

    behind : (k : ℕ) → from ≤ k → k < from + (c + 1 - from) → h < k
    behind k lo hi = is_here (λ k. h < k) k hi (t.behind k lo) lh

    inside : (k : ℕ) → from ≤ k → k < from + (c + 1 - from) → k < length old
    inside k lo hi = is_here (λ k. k < length old) k hi (t.inside k lo) ll

    free : (k : ℕ) → from ≤ k → k < from + (c + 1 - from) → Held old k → ⊥
    free k lo hi = is_here (λ k. Held old k → ⊥) k hi (t.free k lo) (λ x. nh (t.kept c x))

    into : (k : ℕ) → from ≤ k → k < from + (c + 1 - from) → Held (set marks c true) k
    into k lo hi = is_here (Held (set marks c true)) k hi (λ l. grows k (t.into k lo l)) same

    back : (k : ℕ) → Held (set marks c true) k → Held old k ⊎ ((from ≤ k) × (k < from + (c + 1 - from)))
    back k x =
        ⊎_elim (λ e. inr (omega arith, omega arith))
        (λ ne. ⊎_elim inl (λ p. inr (p.0, omega (arith, p.1))) (t.back k (sym (get_or-set_other marks c k true false ne) ∙ x))) (cases_eq k c)

-- the records from `from` up to c are taken, and those up to `to` are still to come
pub record Taking (h from to c end : ℕ) (old new : List Bool) : Type 0 where
  pub low : from ≤ c
  pub high : c ≤ to
  pub last : end ≡ to
  pub took : Took h from (c - from) old new

pub hold_none : (h from width : ℕ) (marks : List Bool) → width ≡ 0 → Took h from width marks marks
hold_none h from width marks e = record { behind = λ c lo hi. absurd (omega arith); inside = λ c lo hi. absurd (omega arith); free = λ c lo hi. absurd (omega arith); into = λ c lo hi. absurd (omega arith); kept = λ c x. x; back = λ c x. inl x }

pub hold_barred : {h from c : ℕ} {old marks : List Bool} → Took h from (c - from) old marks → from ≤ c → length marks ≡ length old → (width : ℕ) → c < from + width → (c ≤ h) ⊎ ((length marks ≤ c) ⊎ Held marks c) → Barred h from width old
hold_barred {h} {from} {c} {old} {marks} t fc el width l w = record { c = c; low = omega arith; high = omega arith; why = ⊎_elim inl (⊎_elim (λ p. inr (inl (omega arith))) (λ x. ⊎_elim (λ o. inr (inr o)) (λ p. absurd (omega (arith, p.1))) (t.back c x))) w }

-- what an object holds lies inside
pub span_inside : {rs : List Record} → HeldOnce rs → (h : ℕ) (s : Span) → at rs h ≡ Object s → 0 < s.count → s.first + 2 * s.count ≤ length rs
span_inside {rs} held h s e l =
    let lo : first_of (at rs h) ≡ s.first = ap first_of e in
    let wi : width_of (at rs h) ≡ 2 * s.count = ap width_of e in
    omega (arith, held.inside h (s.first + 2 * s.count - 1) (record { low = omega arith; high = omega arith }))

-- the objects below n have texts for keys
pub record Keying (rs : List Record) (n : ℕ) : Type 0 where
  pub so : (h : ℕ) (s : Span) → h < n → at rs h ≡ Object s → Keyed rs s.first s.count

pub keys_none : (rs : List Record) → Keying rs 0
keys_none rs = record { so = λ h s l. absurd (omega arith) }

pub keys_more : {rs : List Record} {n : ℕ} → Keying rs n → ((s : Span) → at rs n ≡ Object s → Keyed rs s.first s.count) → Keying rs (n + 1)
keys_more {rs} {n} k here = record { so = go }
  where
    go : (h : ℕ) (s : Span) → h < n + 1 → at rs h ≡ Object s → Keyed rs s.first s.count
    go h s l e =
        ⊎_elim (λ lt. k.so h s lt e) (λ ge. let q : h ≡ n = omega arith in here s (ap (at rs) (sym q) ∙ e)) (cases_lt h n)

-- what holds of an object's span holds however it was read
pub as_read : (P : Span → Type 0) (r : Record) (s t : Span) → r ≡ Object s → r ≡ Object t → P s → P t
as_read P r s t e d x =
    let p : s ≡ t = cc in
    subst P p x

pub keys_all : {rs : List Record} {n : ℕ} → Keying rs n → length rs ≤ n → KeysText rs
keys_all {rs} {n} k le c x = subst (λ p. is_text (at rs p) ≡ true) x.place (all x.h x.s x.is x.j x.below)
  where
    all : (h : ℕ) (s : Span) → at rs h ≡ Object s → Keyed rs s.first s.count
    all h s e =
        ⊎_elim (λ lt. k.so h s lt e) (λ ge. let z : Nil ≡ Object s = sym (get_or_past rs h Nil (omega arith)) ∙ e in absurd (false≢true (ap is_object z))) (cases_lt h n)

pub keys_here : (rs : List Record) → KeysText rs → (h : ℕ) (s : Span) → at rs h ≡ Object s → Keyed rs s.first s.count
keys_here rs k h s e j l = k (s.first + 2 * j) (record { h = h; s = s; j = j; is = e; below = l; place = refl })
