-- An act is confined by two sets of things and a length: it is tied to the sets, and it only adds to a text of at most that length, which it does not pass.
use Rattle.std.proofs.Common.{◌≡◌, ℕ, ◌+◌, ◌≤◌, Bool, true, false, cond, leb, List, [], ◌∷◌, ◌++◌, length, take, drop, None, sym, refl, ap, ◌∙◌, subst, append_assoc, arith, leb-true}
use Rattle.std.proofs.lemmas.List.{append-nil}
use Rattle.meaning.specs.Things.{Thing, Content, Drawers}
use Rattle.meaning.specs.Frames.{Frames}
use Rattle.meaning.specs.Acts.{Fault, fault_at, End, gives, stops, Step, step, Act, go_on, ◌and_then◌, still, look, alter, emit, cut, aside}
use Rattle.meaning.specs.Calls.{text_after}
use Rattle.meaning.proofs.Tied.{Tied, and_then_tied, still_tied, aside_tied, emit_tied, look_tied, alter_tied}

-- the step added to the text `o`, up to the length `k`
pub record Grown {A : Type 0} (k : ℕ) (o : List ℕ) (s : Step A) : Type 0 where
  pub added : List ℕ
  pub is : text_after s ≡ o ++ added
  pub short : length (o ++ added) ≤ k

pub record Confined {A : Type 0} (k : ℕ) (X W : Thing → Type 0) (m : Act A) : Type 0 where
  pub tied : Tied X W m
  pub grown : (d : Drawers) (o : List ℕ) → length o ≤ k → Grown k o (m d o)

-- nothing was added
pub grown_none : {A : Type 0} (k : ℕ) (o : List ℕ) (s : Step A) → text_after s ≡ o → length o ≤ k → Grown k o s
grown_none k o s e l =
    record { added = []; is = e ∙ sym (append-nil o); short = subst (λ (t : List ℕ). length t ≤ k) (sym (append-nil o)) l }

grown_more : {A : Type 0} (k : ℕ) (o p x : List ℕ) (s : Step A) → p ≡ o ++ x → Grown k p s → Grown k o s
grown_more k o p x s e g =
    let q : p ++ g.added ≡ o ++ (x ++ g.added) = ap (λ (l : List ℕ). l ++ g.added) e ∙ append_assoc o x g.added in
    record { added = x ++ g.added; is = g.is ∙ q; short = subst (λ (t : List ℕ). length t ≤ k) q g.short }

pub take_front : (o x : List ℕ) → take (length o) (o ++ x) ≡ o
take_front [] x = refl
take_front (y ∷ o) x = ap (λ l. y ∷ l) (take_front o x)

pub drop_front : (o x : List ℕ) → drop (length o) (o ++ x) ≡ x
drop_front [] x = refl
drop_front (y ∷ o) x = drop_front o x

module _ {k : ℕ} {X W : Thing → Type 0} {A B : Type 0} where
  grown_on : (o : List ℕ) (n : A → Act B) → ((a : A) → Confined k X W (n a)) → (s : Step A) → Grown k o s → Grown k o (go_on s n)
  grown_on o n hk (step d p (gives a)) g =
      grown_more k o p g.added (n a d p) g.is ((hk a).grown d p (subst (λ (t : List ℕ). length t ≤ k) (sym g.is) g.short))
  grown_on o n hk (step d p (stops f)) g = record { added = g.added; is = g.is; short = g.short }

  pub and_then_confined : {m : Act A} {n : A → Act B} →
      Confined k X W m → ((a : A) → Confined k X W (n a)) → Confined k X W (m and_then n)
  unfolding ◌and_then◌
  and_then_confined {m} {n} hm hk =
      record {
        tied = and_then_tied hm.tied (λ a. (hk a).tied);
        grown = λ d o l. grown_on o n hk (m d o) (hm.grown d o l);
      }

grown_cut : {A : Type 0} (k : ℕ) (o : List ℕ) → length o ≤ k → (s : Step A) → Grown k o s → Grown k o (cut (length o) s)
grown_cut k o l (step d p (gives a)) g = grown_none k o (step d (take (length o) p) (gives (a, drop (length o) p))) (ap (take (length o)) g.is ∙ take_front o g.added) l
grown_cut {A} k o l (step d p (stops f)) g = record { added = h.added; is = h.is; short = h.short }
  where
    h : Grown {A = A × List ℕ} k o (step d (take (length o) p) (stops f))
    h = grown_none k o (step d (take (length o) p) (stops f)) (ap (take (length o)) g.is ∙ take_front o g.added) l

module _ {k : ℕ} {X W : Thing → Type 0} {A : Type 0} where
  -- an act that changes nothing
  pub quiet_confined : (f : List ℕ → End A) → Confined k X W (still (λ o. (o, f o)))
  unfolding still
  quiet_confined f = record { tied = still_tied _; grown = λ d o l. grown_none k o (step d o (f o)) refl l }

  pub cond_confined : (b : Bool) {m n : Act A} → Confined k X W m → Confined k X W n → Confined k X W (cond b m n)
  cond_confined true hm hn = hm
  cond_confined false hm hn = hn

  pub aside_confined : {m : Act A} → Confined k X W m → Confined k X W (aside m)
  unfolding aside
  aside_confined {m} hm = record { tied = aside_tied hm.tied; grown = λ d o l. grown_cut k o l (m d o) (hm.grown d o l) }

length_both : (xs ys : List ℕ) → length (xs ++ ys) ≡ length xs + length ys
length_both [] ys = omega arith
length_both (x ∷ xs) ys = let h = length_both xs ys in omega arith

abbrev tried : Drawers → (o w : List ℕ) → Fault → Bool → Step (Unit {0})
tried d o w f b = step d (cond {A = List ℕ × End (Unit {0})} b (o ++ w, gives tt) (o, stops f)).0 (cond {A = List ℕ × End (Unit {0})} b (o ++ w, gives tt) (o, stops f)).1

emit_grown : (k : ℕ) (d : Drawers) (o w : List ℕ) (f : Fault) (b : Bool) → (b ≡ true → length (o ++ w) ≤ k) → length o ≤ k → Grown k o (tried d o w f b)
emit_grown k d o w f true h l = record { added = w; is = refl; short = h refl }
emit_grown k d o w f false h l = grown_none k o (tried d o w f false) refl l

module _ {k : ℕ} {X W : Thing → Type 0} where
  pub emit_confined : (p : ℕ) (e : Frames) (w : List ℕ) → Confined k X W (emit k p e w)
  unfolding emit still
  emit_confined p e w =
      record {
        tied = emit_tied k p e w;
        grown = λ d o l. emit_grown k d o w (fault_at 33 None p e) (leb (length o + length w) k)
            (λ t. let a = leb-true (length o + length w) k t in let b = length_both o w in omega arith) l;
      }

  pub look_confined : (t : Thing) → X t → Confined k X W (look t)
  unfolding look
  look_confined t x = record { tied = look_tied t x; grown = λ d o l. grown_none k o (step d o (gives (d t))) refl l }

  pub alter_confined : (t : Thing) (f : Content → Content) → W t → Confined k X W (alter t f)
  unfolding alter
  alter_confined t f w = record { tied = alter_tied t f w; grown = λ d o l. grown_none k o (alter t f d o) refl l }
