-- Reading the bytes of records finds the records that the format says, and all of them.
use Rattle.std.proofs.Common.{◌≡◌, ℕ, zero, suc, ◌+◌, ◌*◌, ◌<◌, ◌≤◌, Bool, true, false, cond, eqb, ltb, ◌⊎◌, List, [], ◌∷◌, ◌++◌, length, get_or, drop, Some, None, Option, sym, refl, ap, ◌∙◌, subst, inl, inr, ⊎_elim, arith, w64, to_z, ltb-false, eqb-true}
use Rattle.std.proofs.lemmas.List.{length-append}
use Rattle.std.proofs.lemmas.Bool.{ne_eqb, le-ltb, cond-false}
use Rattle.tray.specs.declared.records.Record.{Record}
use Rattle.tray.specs.declared.records.Record.TheVariants.{Nil, Boolean, Whole, Text, Array, Object}
use Rattle.tray.specs.Decode.{Got, got, one, span_in, body, boolean, whole, text, part, u16_at, u64_at1, decoded, before, go_on, Why}
use Rattle.tray.specs.declared.records.Span.{Span}
use Rattle.tray.specs.declared.records.OpenError.{OpenError}
use Rattle.tray.specs.Parts.{span}
use Rattle.tray.specs.declared.records.OpenError.TheVariants.{Refused, Memory}
use Rattle.tray.specs.Accept.{Accepts, Never}
use Rattle.tray.specs.Sound.{Sound}
use Rattle.tray.specs.Format.{little, RecordBytes, a_nil, a_false, a_true, a_whole, a_text, an_array, an_object, TrayBytes, none, more}
use Rattle.tray.proofs.Decodes.{decoded_more}

cond_got : (b : Bool) (x y : Got) (r : Record) (rest : List ℕ) → cond b x y ≡ got r rest → ((b ≡ true) × (x ≡ got r rest)) ⊎ ((b ≡ false) × (y ≡ got r rest))
cond_got true x y r rest e = inl (refl, e)
cond_got false x y r rest e = inr (refl, e)

not_stop : {P : Type 0} (r : Record) (rest : List ℕ) → ◌≡◌ {A = Got} None (got r rest) → P
not_stop r rest e = let z : ◌≡◌ {A = ℕ} 0 1 = cc in absurd (omega arith)

-- a test that stops is not taken
went_on : (b : Bool) (y : Got) (r : Record) (rest : List ℕ) → cond b None y ≡ got r rest → (b ≡ false) × (y ≡ got r rest)
went_on b y r rest e = ⊎_elim (λ p. not_stop r rest p.1) (λ p. p) (cond_got b None y r rest e)

-- the bytes of one record, and what is behind them
pub record Front (room : ℕ) (bs : List ℕ) (r : Record) (rest : List ℕ) : Type 0 where
  pub front : List ℕ
  pub spelt : RecordBytes room front r
  pub joined : bs ≡ front ++ rest

as_got : (room : ℕ) (bs : List ℕ) (s : Record) (left : List ℕ) (r : Record) (rest : List ℕ) → got s left ≡ got r rest → Front room bs s left → Front room bs r rest
as_got room bs s left r rest e f =
    let z : ◌≡◌ {A = Record × List ℕ} (s, left) (r, rest) = cc in
    subst (λ (p : Record × List ℕ). Front room bs p.0 p.1) z f

module _ (room : ℕ) where
  nil_front : (bs : List ℕ) (r : Record) (rest : List ℕ) → 0 < length bs → get_or bs 0 0 ≡ 0 → got Nil (drop 1 bs) ≡ got r rest → Front room bs r rest
  nil_front [] r rest l k e = absurd (omega arith)
  nil_front (a ∷ t) r rest l k e = as_got room (a ∷ t) Nil t r rest e (record { front = 0 ∷ []; spelt = a_nil; joined = ap (λ x. x ∷ t) k })

  boolean_front : (bs : List ℕ) (r : Record) (rest : List ℕ) → get_or bs 0 0 ≡ 1 → boolean bs ≡ got r rest → Front room bs r rest
  boolean_front bs r rest k e =
      let p = went_on (ltb (length bs) 2) _ r rest e in
      let q = went_on (ltb 1 (get_or bs 1 0)) _ r rest p.1 in
      go bs (ltb-false _ _ p.0) k (ltb-false _ _ q.0) q.1
    where
      go : (bs : List ℕ) → 2 ≤ length bs → get_or bs 0 0 ≡ 1 → get_or bs 1 0 ≤ 1 → got (Boolean (eqb (get_or bs 1 0) 1)) (drop 2 bs) ≡ got r rest → Front room bs r rest
      go [] l k h e = absurd (omega arith)
      go (a ∷ []) l k h e = absurd (omega arith)
      go (a ∷ (zero ∷ t)) l k h e = as_got room _ (Boolean false) t r rest e (record { front = 1 ∷ (0 ∷ []); spelt = a_false; joined = ap (λ x. x ∷ (0 ∷ t)) k })
      go (a ∷ (suc zero ∷ t)) l k h e = as_got room _ (Boolean true) t r rest e (record { front = 1 ∷ (1 ∷ []); spelt = a_true; joined = ap (λ x. x ∷ (1 ∷ t)) k })
      go (a ∷ (suc (suc b) ∷ t)) l k h e = absurd (omega arith)

  whole_front : (bs : List ℕ) (r : Record) (rest : List ℕ) → get_or bs 0 0 ≡ 2 → whole bs ≡ got r rest → Front room bs r rest
  whole_front bs r rest k e =
      let p = went_on (ltb (length bs) 9) _ r rest e in
      go bs (ltb-false _ _ p.0) k p.1
    where
      go : (bs : List ℕ) → 9 ≤ length bs → get_or bs 0 0 ≡ 2 → got (Whole (to_z w64 (u64_at1 bs))) (drop 9 bs) ≡ got r rest → Front room bs r rest
      go [] l k e = absurd (omega arith)
      go (k ∷ []) l h e = absurd (omega arith)
      go (k ∷ a ∷ []) l h e = absurd (omega arith)
      go (k ∷ a ∷ b ∷ []) l h e = absurd (omega arith)
      go (k ∷ a ∷ b ∷ c ∷ []) l h e = absurd (omega arith)
      go (k ∷ a ∷ b ∷ c ∷ d ∷ []) l h e = absurd (omega arith)
      go (k ∷ a ∷ b ∷ c ∷ d ∷ x ∷ []) l h e = absurd (omega arith)
      go (k ∷ a ∷ b ∷ c ∷ d ∷ x ∷ f ∷ []) l h e = absurd (omega arith)
      go (k ∷ a ∷ b ∷ c ∷ d ∷ x ∷ f ∷ g ∷ []) l h e = absurd (omega arith)
      go (k ∷ a ∷ b ∷ c ∷ d ∷ x ∷ f ∷ g ∷ y ∷ t) l h e =
          let n : little (a ∷ b ∷ c ∷ d ∷ x ∷ f ∷ g ∷ y ∷ []) ≡ u64_at1 (k ∷ a ∷ b ∷ c ∷ d ∷ x ∷ f ∷ g ∷ y ∷ t) = omega arith in
          as_got room _ (Whole (to_z w64 (little (a ∷ b ∷ c ∷ d ∷ x ∷ f ∷ g ∷ y ∷ [])))) t r rest (ap (λ n. got (Whole (to_z w64 n)) t) n ∙ e)
          (record { front = 2 ∷ a ∷ b ∷ c ∷ d ∷ x ∷ f ∷ g ∷ y ∷ []; spelt = a_whole a b c d x f g y; joined = ap (λ z. z ∷ a ∷ b ∷ c ∷ d ∷ x ∷ f ∷ g ∷ y ∷ t) h })

  -- a text, an array or an object: a kind, then two numbers
  two_front : (k : ℕ) (mk : Span → Record) (bs : List ℕ) (r : Record) (rest : List ℕ) → get_or bs 0 0 ≡ k → 5 ≤ length bs → ((p q n m : ℕ) → u16_at bs 1 ≡ little (p ∷ q ∷ []) → u16_at bs 3 ≡ little (n ∷ m ∷ []) → RecordBytes room (k ∷ p ∷ q ∷ n ∷ m ∷ []) (mk (span (little (p ∷ q ∷ [])) (little (n ∷ m ∷ []))))) → got (mk (span_in bs)) (drop 5 bs) ≡ got r rest → Front room bs r rest
  two_front k mk [] r rest h l spell e = absurd (omega arith)
  two_front k mk (a ∷ []) r rest h l spell e = absurd (omega arith)
  two_front k mk (a ∷ p ∷ []) r rest h l spell e = absurd (omega arith)
  two_front k mk (a ∷ p ∷ q ∷ []) r rest h l spell e = absurd (omega arith)
  two_front k mk (a ∷ p ∷ q ∷ n ∷ []) r rest h l spell e = absurd (omega arith)
  two_front k mk (a ∷ p ∷ q ∷ n ∷ m ∷ t) r rest h l spell e =
      let x : p + q * 256 ≡ little (p ∷ q ∷ []) = omega arith in
      let y : n + m * 256 ≡ little (n ∷ m ∷ []) = omega arith in
      as_got room _ (mk (span (little (p ∷ q ∷ [])) (little (n ∷ m ∷ [])))) t r rest (ap (λ z. got (mk (span z (little (n ∷ m ∷ [])))) t) (sym x) ∙ ap (λ z. got (mk (span (p + q * 256) z)) t) (sym y) ∙ e)
      (record { front = k ∷ p ∷ q ∷ n ∷ m ∷ []; spelt = spell p q n m x y; joined = ap (λ z. z ∷ p ∷ q ∷ n ∷ m ∷ t) h })

  text_front : (bs : List ℕ) (r : Record) (rest : List ℕ) → get_or bs 0 0 ≡ 3 → text room bs ≡ got r rest → Front room bs r rest
  text_front bs r rest k e =
      let p = went_on (ltb (length bs) 5) _ r rest e in
      let q = went_on (ltb 256 (u16_at bs 3)) _ r rest p.1 in
      let s = went_on (ltb room (u16_at bs 1 + u16_at bs 3)) _ r rest q.1 in
      let few : u16_at bs 3 ≤ 256 = ltb-false _ _ q.0 in
      let inside : u16_at bs 1 + u16_at bs 3 ≤ room = ltb-false _ _ s.0 in
      two_front 3 Text bs r rest k (ltb-false _ _ p.0) (λ p q n m x y. a_text p q n m (omega arith) (omega arith)) s.1

  part_front : (k : ℕ) (mk : Span → Record) → ((p q n m : ℕ) → RecordBytes room (k ∷ p ∷ q ∷ n ∷ m ∷ []) (mk (span (little (p ∷ q ∷ [])) (little (n ∷ m ∷ []))))) → (bs : List ℕ) (r : Record) (rest : List ℕ) → get_or bs 0 0 ≡ k → part mk bs ≡ got r rest → Front room bs r rest
  part_front k mk spell bs r rest h e =
      let p = went_on (ltb (length bs) 5) _ r rest e in
      two_front k mk bs r rest h (ltb-false _ _ p.0) (λ p q n m x y. spell p q n m) p.1

  -- what is read is spelt there
  one_front : (bs : List ℕ) (r : Record) (rest : List ℕ) → one room bs ≡ got r rest → Front room bs r rest
  one_front bs r rest e =
      let p = went_on (eqb (length bs) 0) (body (get_or bs 0 0) room bs) r rest e in
      ⊎_elim (λ q. nil_front bs r rest (some bs p.0) (eqb-true _ _ q.0) q.1)
      (λ q. ⊎_elim (λ q. boolean_front bs r rest (eqb-true _ _ q.0) q.1)
      (λ q. ⊎_elim (λ q. whole_front bs r rest (eqb-true _ _ q.0) q.1)
      (λ q. ⊎_elim (λ q. text_front bs r rest (eqb-true _ _ q.0) q.1)
      (λ q. ⊎_elim (λ q. part_front 4 Array an_array bs r rest (eqb-true _ _ q.0) q.1)
      (λ q. ⊎_elim (λ q. part_front 5 Object an_object bs r rest (eqb-true _ _ q.0) q.1) (λ q. not_stop r rest q.1) (cond_got (eqb (get_or bs 0 0) 5) _ _ r rest q.1))
      (cond_got (eqb (get_or bs 0 0) 4) _ _ r rest q.1))
      (cond_got (eqb (get_or bs 0 0) 3) _ _ r rest q.1))
      (cond_got (eqb (get_or bs 0 0) 2) _ _ r rest q.1))
      (cond_got (eqb (get_or bs 0 0) 1) _ _ r rest q.1))
      (cond_got (eqb (get_or bs 0 0) 0) _ _ r rest p.1)
    where
      some : (bs : List ℕ) → eqb (length bs) 0 ≡ false → 0 < length bs
      some [] h = let z : true ≡ false = h in let o : ◌≡◌ {A = ℕ} 0 1 = cc in absurd (omega arith)
      some (b ∷ t) h = omega arith

  -- a record's first byte is its kind
  one_some : (k : ℕ) (t : List ℕ) → one room (k ∷ t) ≡ body k room (k ∷ t)
  one_some k t = cond-false (eqb (suc (length t)) 0) None _ (ne_eqb _ _ (λ e. omega arith))

  long_enough : (n : ℕ) (bs : List ℕ) (x : Got) → n ≤ length bs → cond (ltb (length bs) n) None x ≡ x
  long_enough n bs x l = cond-false (ltb (length bs) n) None x (le-ltb _ _ l)

  part_one : (mk : Span → Record) (k p q n m : ℕ) (rest : List ℕ) → part mk (k ∷ p ∷ q ∷ n ∷ m ∷ rest) ≡ got (mk (span (little (p ∷ q ∷ [])) (little (n ∷ m ∷ [])))) rest
  part_one mk k p q n m rest =
      let x : p + q * 256 ≡ little (p ∷ q ∷ []) = omega arith in
      let y : n + m * 256 ≡ little (n ∷ m ∷ []) = omega arith in
      long_enough 5 (k ∷ p ∷ q ∷ n ∷ m ∷ rest) _ (omega arith) ∙ ap (λ z. got (mk (span z (n + m * 256))) rest) x ∙ ap (λ z. got (mk (span (little (p ∷ q ∷ [])) z)) rest) y

  text_one : (p q n m : ℕ) (rest : List ℕ) → little (n ∷ m ∷ []) ≤ 256 → little (p ∷ q ∷ []) + little (n ∷ m ∷ []) ≤ room → text room (3 ∷ p ∷ q ∷ n ∷ m ∷ rest) ≡ got (Text (span (little (p ∷ q ∷ [])) (little (n ∷ m ∷ [])))) rest
  text_one p q n m rest l i =
      let x : p + q * 256 ≡ little (p ∷ q ∷ []) = omega arith in
      let y : n + m * 256 ≡ little (n ∷ m ∷ []) = omega arith in
      long_enough 5 (3 ∷ p ∷ q ∷ n ∷ m ∷ rest) _ (omega arith)
      ∙ cond-false (ltb 256 (n + m * 256)) None _ (le-ltb _ _ (omega arith))
      ∙ cond-false (ltb room (p + q * 256 + (n + m * 256))) None _ (le-ltb _ _ (omega arith))
      ∙ ap (λ z. got (Text (span z (n + m * 256))) rest) x ∙ ap (λ z. got (Text (span (little (p ∷ q ∷ [])) z)) rest) y

  -- what is spelt there is read
  pub front_one : {front : List ℕ} {r : Record} → RecordBytes room front r → (rest : List ℕ) → one room (front ++ rest) ≡ got r rest
  front_one a_nil rest = one_some 0 rest
  front_one a_false rest = one_some 1 (0 ∷ rest) ∙ long_enough 2 (1 ∷ (0 ∷ rest)) _ (omega arith)
  front_one a_true rest = one_some 1 (1 ∷ rest) ∙ long_enough 2 (1 ∷ (1 ∷ rest)) _ (omega arith)
  front_one (a_whole a b c d e f g h) rest =
      let n : u64_at1 (2 ∷ a ∷ b ∷ c ∷ d ∷ e ∷ f ∷ g ∷ h ∷ rest) ≡ little (a ∷ b ∷ c ∷ d ∷ e ∷ f ∷ g ∷ h ∷ []) = omega arith in
      one_some 2 (a ∷ b ∷ c ∷ d ∷ e ∷ f ∷ g ∷ h ∷ rest) ∙ long_enough 9 (2 ∷ a ∷ b ∷ c ∷ d ∷ e ∷ f ∷ g ∷ h ∷ rest) _ (omega arith) ∙ ap (λ n. got (Whole (to_z w64 n)) rest) n
  front_one (a_text p q n m l i) rest = one_some 3 (p ∷ q ∷ n ∷ m ∷ rest) ∙ text_one p q n m rest l i
  front_one (an_array p q n m) rest = one_some 4 (p ∷ q ∷ n ∷ m ∷ rest) ∙ part_one Array 4 p q n m rest
  front_one (an_object p q n m) rest = one_some 5 (p ∷ q ∷ n ∷ m ∷ rest) ∙ part_one Object 5 p q n m rest

  kind_there : {front : List ℕ} {r : Record} → RecordBytes room front r → 0 < length front
  kind_there a_nil = omega arith
  kind_there a_false = omega arith
  kind_there a_true = omega arith
  kind_there (a_whole a b c d e f g h) = omega arith
  kind_there (a_text p q n m l i) = omega arith
  kind_there (an_array p q n m) = omega arith
  kind_there (an_object p q n m) = omega arith

  some_is : (xs ys : List Record) → Some xs ≡ Some ys → xs ≡ ys
  some_is xs ys e = cc

  no_records : {P : Type 0} (xs : List Record) → None ≡ Some xs → P
  no_records xs e = let z : ◌≡◌ {A = ℕ} 0 1 = cc in absurd (omega arith)

  -- the records that are read are those that the bytes spell
  pub record Read (k : ℕ) (bs : List ℕ) (rs : List Record) : Type 0 where
    pub spelt : TrayBytes room bs rs
    pub few : length rs ≤ k

  no_more : (k : ℕ) (rs : List Record) → Some [] ≡ Some rs → Read k [] rs
  no_more k rs e = subst (Read k []) (some_is [] rs e) (record { spelt = none; few = omega arith })

  one_more : (k : ℕ) (bs : List ℕ) (r : Record) (rest : List ℕ) (rs : List Record) → one room bs ≡ got r rest → Read k rest rs → Read (suc k) bs (r ∷ rs)
  one_more k bs r rest rs e m =
      let f = one_front bs r rest e in
      record { spelt = subst (λ x. TrayBytes room x (r ∷ rs)) (sym f.joined) (more f.spelt m.spelt); few = omega (arith, m.few) }

  rest_is : (k : ℕ) (bs : List ℕ) (r : Record) (rest : List ℕ) (rs : List Record) → one room bs ≡ got r rest → (o : Option (List Record)) → ((tail : List Record) → o ≡ Some tail → Read k rest tail) → before r o ≡ Some rs → Read (suc k) bs rs
  rest_is k bs r rest rs g None h e = no_records rs e
  rest_is k bs r rest rs g (Some tail) h e = subst (Read (suc k) bs) (some_is (r ∷ tail) rs e) (one_more k bs r rest tail g (h tail refl))

  first_is : (k : ℕ) (bs : List ℕ) (rs : List Record) (g : Got) → one room bs ≡ g → ((rest : List ℕ) (tail : List Record) → decoded k room rest ≡ Some tail → Read k rest tail) → go_on g (decoded k room) ≡ Some rs → Read (suc k) bs rs
  first_is k bs rs None h later e = no_records rs e
  first_is k bs rs (Some p) h later e = rest_is k bs p.0 p.1 rs h (decoded k room p.1) (later p.1) e

  pub read_spelt : (k : ℕ) (bs : List ℕ) (rs : List Record) → decoded k room bs ≡ Some rs → Read k bs rs
  read_spelt zero [] rs e = no_more zero rs e
  read_spelt zero (b ∷ bs) rs e = no_records rs e
  read_spelt (suc k) [] rs e = no_more (suc k) rs e
  read_spelt (suc k) (b ∷ bs) rs e = first_is k (b ∷ bs) rs (one room (b ∷ bs)) refl (read_spelt k) e

  pub spelt_read : {bs : List ℕ} {rs : List Record} → TrayBytes room bs rs → (k : ℕ) → length rs ≤ k → decoded k room bs ≡ Some rs
  spelt_read none zero l = refl
  spelt_read none (suc k) l = refl
  spelt_read (more r t) zero l = absurd (omega arith)
  spelt_read (more {bs} {rest} {r} {rs} spelt t) (suc k) l =
      decoded_more k room (bs ++ rest) r rest (omega (arith, kind_there spelt, length-append bs rest)) (sym (front_one spelt rest))
      ∙ ap (before r) (spelt_read t k (omega arith))

-- bytes that do not read are those of no tray
pub never_read : (bytes text : List ℕ) → decoded 2048 (length text) bytes ≡ None → Never bytes text
never_read bytes text e rs a = no_records 0 rs (sym e ∙ spelt_read (length text) a.spelt 2048 a.few)

-- bytes that read as records that make no tray are those of no tray
pub never_sound : (bytes text : List ℕ) (rs : List Record) → decoded 2048 (length text) bytes ≡ Some rs → (Sound rs text → ⊥) → Never bytes text
never_sound bytes text rs e h ss a =
    h (subst (λ x. Sound x text) (sym (some_is 0 rs ss (sym e ∙ spelt_read (length text) a.spelt 2048 a.few))) a.sound)

pub accepted : (bytes text : List ℕ) (rs : List Record) → decoded 2048 (length text) bytes ≡ Some rs → Sound rs text → Accepts bytes text rs
accepted bytes text rs e s =
    let r = read_spelt (length text) 2048 bytes rs e in
    record { spelt = r.spelt; few = r.few; sound = s }

pub why_so : (e : OpenError) {P Q : Type 0} → (P → Q) → Why e P → Why e Q
why_so Refused f p = f p
why_so Memory f p = tt
