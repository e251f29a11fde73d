-- Objects are equal just where every key of either finds equal values in both.
use Rattle.std.proofs.Common.{◌≡◌, ℕ, Bool, true, false, cond, ◌||◌, List, ℤ, pos, negsuc, is_some, Some, None, Option, sym, refl, ap, ◌∙◌, subst, ⊎_elim}
use Rattle.std.proofs.lemmas.Slice.Eq.{bytes_eq-Decides}
use Rattle.std.proofs.lemmas.Bool.{and_parts, and_from, cases_Bool, true≢false, false≢true, eq-eqb, eqb-true}
use Rattle.tray.specs.Parts.{same_text}
use Rattle.values.specs.Value.{Value, nil, boolean, whole, text, array, object, Items, none, item, same_boolean, same_whole, equal_items, Entries, empty, entry, put, find, within, equal, agrees, found}
use Rattle.equality.specs.Laws.{Agreed, ObjectsAgree, EqualsItself, EqualEitherWay}

same_self : (k : List ℕ) → same_text k k ≡ true
unfolding same_text
same_self k = (bytes_eq-Decides k k).1 refl

same_is : (k q : List ℕ) → same_text k q ≡ true → k ≡ q
unfolding same_text
same_is k q e = (bytes_eq-Decides k q).0 e

find_here : (k q : List ℕ) (v : Value) (rest : Entries) → same_text k q ≡ true → find k (entry q v rest) ≡ Some v
find_here k q v rest e = ap (λ b. cond b (Some v) (find k rest)) e

find_on : (k q : List ℕ) (v : Value) (rest : Entries) → same_text k q ≡ false → find k (entry q v rest) ≡ find k rest
find_on k q v rest e = ap (λ b. cond b (Some v) (find k rest)) e

put_here : (k q : List ℕ) (v : Value) (done : Entries) → same_text k q ≡ true → is_some (find k (put done q v)) ≡ true
put_here k q v empty e = ap is_some (find_here k q v empty e)
put_here k q v (entry p w rest) e =
    ⊎_elim (λ s. ap is_some (find_here k p w (put rest q v) s)) (λ s. ap is_some (find_on k p w (put rest q v) s) ∙ put_here k q v rest e) (cases_Bool (same_text k p))

put_on : (k q : List ℕ) (v : Value) (done : Entries) → same_text k q ≡ false → find k (put done q v) ≡ find k done
put_on k q v empty e = find_on k q v empty e
put_on k q v (entry p w rest) e = ap (cond (same_text k p) (Some w)) (put_on k q v rest e)

no_some : {X : Type 0} (o : Option X) → is_some o ≡ true → o ≡ None → ⊥
no_some o s n = false≢true (sym (ap is_some n) ∙ s)

or_right : (x y : Bool) → x ≡ false → (x || y) ≡ true → y ≡ true
or_right true y e h = absurd (true≢false e)
or_right false y e h = h

or_from_left : (x y : Bool) → x ≡ true → (x || y) ≡ true
or_from_left true y e = refl
or_from_left false y e = absurd (false≢true e)

or_from_right : (x y : Bool) → y ≡ true → (x || y) ≡ true
or_from_right true y e = refl
or_from_right false y e = e

none_is : {X : Type 0} (o : Option X) → is_some o ≡ false → o ≡ None
none_is None e = refl
none_is (Some x) e = absurd (true≢false e)

some_same : {X : Type 0} (x y : X) → Some x ≡ Some y → x ≡ y
some_same x y e = cc

matched : (es done fs : Entries) → agrees es done fs ≡ true → (k : List ℕ) → find k done ≡ None → (v : Value) → find k es ≡ Some v → found (find k fs) (equal v) ≡ true
matched empty done fs a k n v e = absurd (no_some (find k empty) (ap is_some e) refl)
matched (entry q w rest) done fs a k n v e =
    let p = and_parts (is_some (find q done) || found (find q fs) (equal w)) (agrees rest (put done q w) fs) a in
    ⊎_elim
    (λ s.
    let kq = same_is k q s in
    let wv : w ≡ v = some_same w v (sym (find_here k q w rest s) ∙ e) in
    let f = or_right (is_some (find q done)) (found (find q fs) (equal w)) (ap is_some (ap (λ x. find x done) (sym kq) ∙ n)) p.0 in
    ap (λ x. found (find x fs) (equal v)) kq ∙ ap (λ x. found (find q fs) (equal x)) (sym wv) ∙ f)
    (λ s. matched rest (put done q w) fs p.1 k (put_on k q w done s ∙ n) v (sym (find_on k q w rest s) ∙ e))
    (cases_Bool (same_text k q))

matches : (es done fs : Entries) → ((k : List ℕ) → find k done ≡ None → (v : Value) → find k es ≡ Some v → found (find k fs) (equal v) ≡ true) → agrees es done fs ≡ true
matches empty done fs h = refl
matches (entry q w rest) done fs h = and_from _ _ first (matches rest (put done q w) fs later)
  where
    first : (is_some (find q done) || found (find q fs) (equal w)) ≡ true
    first =
        ⊎_elim (λ s. or_from_left _ _ s) (λ s. or_from_right (is_some (find q done)) _ (h q (none_is (find q done) s) w (find_here q q w rest (same_self q)))) (cases_Bool (is_some (find q done)))

    later : (k : List ℕ) → find k (put done q w) ≡ None → (v : Value) → find k rest ≡ Some v → found (find k fs) (equal v) ≡ true
    later k n v e =
        ⊎_elim (λ s. absurd (no_some (find k (put done q w)) (put_here k q w done s) n)) (λ s. h k (sym (put_on k q w done s) ∙ n) v (find_on k q w rest s ∙ e)) (cases_Bool (same_text k q))

inside : (fs es : Entries) → within fs es ≡ true → (k : List ℕ) → is_some (find k fs) ≡ true → is_some (find k es) ≡ true
inside empty es w k s = absurd (false≢true s)
inside (entry q v rest) es w k s =
    let p = and_parts (is_some (find q es)) (within rest es) w in
    ⊎_elim (λ t. ap (λ x. is_some (find x es)) (same_is k q t) ∙ p.0) (λ t. inside rest es p.1 k (sym (ap is_some (find_on k q v rest t)) ∙ s)) (cases_Bool (same_text k q))

covers : (fs es : Entries) → ((k : List ℕ) → is_some (find k fs) ≡ true → is_some (find k es) ≡ true) → within fs es ≡ true
covers empty es h = refl
covers (entry q v rest) es h =
    and_from _ _ (h q (ap is_some (find_here q q v rest (same_self q))))
    (covers rest es (λ k s. h k (⊎_elim (λ t. ap is_some (find_here k q v rest t)) (λ t. ap is_some (find_on k q v rest t) ∙ s) (cases_Bool (same_text k q)))))

agreed : (o p : Option Value) → ((v : Value) → o ≡ Some v → found p (equal v) ≡ true) → (is_some p ≡ true → is_some o ≡ true) → Agreed o p
agreed None None f g = tt
agreed None (Some w) f g = false≢true (g refl)
agreed (Some v) None f g = false≢true (f v refl)
agreed (Some v) (Some w) f g = f v refl

found_of : (o p : Option Value) → Agreed o p → (v : Value) → o ≡ Some v → found p (equal v) ≡ true
found_of None p a v e = absurd (no_some {X = Value} None (ap is_some e) refl)
found_of (Some u) None a v e = absurd a
found_of (Some u) (Some w) a v e = ap (λ x. equal x w) (sym (some_same u v e)) ∙ a

some_of : (o p : Option Value) → Agreed o p → is_some p ≡ true → is_some o ≡ true
some_of None None a s = s
some_of None (Some w) a s = absurd a
some_of (Some v) p a s = refl

pub objects_agree : ObjectsAgree
objects_agree es fs = (
  λ e.
      let p = and_parts (agrees es empty fs) (within fs es) e in
      λ k. agreed (find k es) (find k fs) (λ v h. matched es empty fs p.0 k refl v h) (inside fs es p.1 k),
  λ h. and_from (agrees es empty fs) (within fs es) (matches es empty fs (λ k _ v e. found_of (find k es) (find k fs) (h k) v e)) (covers fs es (λ k s. some_of (find k es) (find k fs) (h k) s)),
)

-- every value equals itself
boolean_self : (b : Bool) → same_boolean b b ≡ true
boolean_self true = refl
boolean_self false = refl

whole_self : (z : ℤ) → same_whole z z ≡ true
whole_self (pos n) = eq-eqb n n refl
whole_self (negsuc n) = eq-eqb n n refl

self_agreed : (o : Option Value) → ((v : Value) → o ≡ Some v → equal v v ≡ true) → Agreed o o
self_agreed None h = tt
self_agreed (Some v) h = h v refl

mutual
  pub equals_itself : EqualsItself
  equals_itself nil = refl
  equals_itself (boolean b) = boolean_self b
  equals_itself (whole z) = whole_self z
  equals_itself (text t) = same_self t
  equals_itself (array xs) = items_self xs
  equals_itself (object es) = (objects_agree es es).1 (λ k. self_agreed (find k es) (λ v h. entries_self es k v h))

  items_self : (xs : Items) → equal_items xs xs ≡ true
  items_self none = refl
  items_self (item v vs) = and_from _ _ (equals_itself v) (items_self vs)

  entries_self : (es : Entries) (k : List ℕ) (v : Value) → find k es ≡ Some v → equal v v ≡ true
  entries_self empty k v e = absurd (no_some (find k empty) (ap is_some e) refl)
  entries_self (entry q w rest) k v e =
      ⊎_elim (λ s. subst (λ x. equal x x ≡ true) (some_same w v (sym (find_here k q w rest s) ∙ e)) (equals_itself w))
      (λ s. entries_self rest k v (sym (find_on k q w rest s) ∙ e)) (cases_Bool (same_text k q))

-- it does not matter which of two values is asked
turn_boolean : (b c : Bool) → same_boolean b c ≡ true → same_boolean c b ≡ true
turn_boolean true true e = refl
turn_boolean true false e = e
turn_boolean false true e = e
turn_boolean false false e = refl

turn_whole : (y z : ℤ) → same_whole y z ≡ true → same_whole z y ≡ true
turn_whole (pos m) (pos n) e = eq-eqb n m (sym (eqb-true m n e))
turn_whole (pos m) (negsuc n) e = e
turn_whole (negsuc m) (pos n) e = e
turn_whole (negsuc m) (negsuc n) e = eq-eqb n m (sym (eqb-true m n e))

turn_text : (s t : List ℕ) → same_text s t ≡ true → same_text t s ≡ true
turn_text s t e = ap (λ x. same_text x s) (sym (same_is s t e)) ∙ same_self s

turned : (o p : Option Value) → ((v : Value) → o ≡ Some v → (w : Value) → equal v w ≡ true → equal w v ≡ true) → Agreed o p → Agreed p o
turned None None h a = tt
turned None (Some w) h a = a
turned (Some v) None h a = a
turned (Some v) (Some w) h a = h v refl w a

mutual
  turn : (v w : Value) → equal v w ≡ true → equal w v ≡ true
  turn nil nil e = e
  turn nil (boolean c) e = e
  turn nil (whole z) e = e
  turn nil (text t) e = e
  turn nil (array ys) e = e
  turn nil (object fs) e = e
  turn (boolean b) nil e = e
  turn (boolean b) (boolean c) e = turn_boolean b c e
  turn (boolean b) (whole z) e = e
  turn (boolean b) (text t) e = e
  turn (boolean b) (array ys) e = e
  turn (boolean b) (object fs) e = e
  turn (whole y) nil e = e
  turn (whole y) (boolean c) e = e
  turn (whole y) (whole z) e = turn_whole y z e
  turn (whole y) (text t) e = e
  turn (whole y) (array ys) e = e
  turn (whole y) (object fs) e = e
  turn (text s) nil e = e
  turn (text s) (boolean c) e = e
  turn (text s) (whole z) e = e
  turn (text s) (text t) e = turn_text s t e
  turn (text s) (array ys) e = e
  turn (text s) (object fs) e = e
  turn (array xs) nil e = e
  turn (array xs) (boolean c) e = e
  turn (array xs) (whole z) e = e
  turn (array xs) (text t) e = e
  turn (array xs) (array ys) e = turn_items xs ys e
  turn (array xs) (object fs) e = e
  turn (object es) nil e = e
  turn (object es) (boolean c) e = e
  turn (object es) (whole z) e = e
  turn (object es) (text t) e = e
  turn (object es) (array ys) e = e
  turn (object es) (object fs) e = (objects_agree fs es).1 (λ k. turned (find k es) (find k fs) (λ v h w x. turn_entries es k v h w x) ((objects_agree es fs).0 e k))

  turn_items : (xs ys : Items) → equal_items xs ys ≡ true → equal_items ys xs ≡ true
  turn_items none none e = refl
  turn_items none (item w ws) e = e
  turn_items (item v vs) none e = e
  turn_items (item v vs) (item w ws) e =
      let p = and_parts (equal v w) (equal_items vs ws) e in
      and_from _ _ (turn v w p.0) (turn_items vs ws p.1)

  turn_entries : (es : Entries) (k : List ℕ) (v : Value) → find k es ≡ Some v → (w : Value) → equal v w ≡ true → equal w v ≡ true
  turn_entries empty k v e w x = absurd (no_some (find k empty) (ap is_some e) refl)
  turn_entries (entry q u rest) k v e w x =
      ⊎_elim
      (λ s. let uv = some_same u v (sym (find_here k q u rest s) ∙ e) in subst (λ a. equal w a ≡ true) uv (turn u w (ap (λ a. equal a w) uv ∙ x)))
      (λ s. turn_entries rest k v (sym (find_on k q u rest s) ∙ e) w x) (cases_Bool (same_text k q))

both_true : (x y : Bool) → (x ≡ true → y ≡ true) → (y ≡ true → x ≡ true) → x ≡ y
both_true true y f g = sym (f refl)
both_true false true f g = g refl
both_true false false f g = refl

pub equal_either_way : EqualEitherWay
equal_either_way v w = both_true (equal v w) (equal w v) (turn v w) (turn w v)
