-- One byte of the cutter, and the end.
use Rattle.std.proofs.Common.{◌≡◌, ℕ, ◌+◌, ◌-◌, ◌<◌, ◌≤◌, true, List, [], ◌∷◌, ◌++◌, length, get_or, take, drop, sym, refl, ap, ◌∙◌, arith, rules}
use Rattle.std.proofs.lemmas.List.{at_drop_more, take-take, length-take-le, length-drop, take_more, get_or-drop, drop-take, drop-drop}
use Rattle.cutter.specs.Cuts.{Cut, text, mark}
use Rattle.cutter.specs.Scan.{stepped, brings, scan, some_text, all_but_last, last_of, placed}
use Rattle.cutter.specs.Left.{slice}
use Rattle.cutter.specs.declared.state.Kind.{Kind}
use Rattle.cutter.specs.declared.state.State.{State}
use Rattle.cutter.specs.declared.state.State.TheVariants.{Text, Brace, Inside, Closing, Quoted}
use Rattle.cutter.specs.declared.state.Event.{Event}
use Rattle.cutter.specs.declared.state.Event.TheVariants.{Goes, Opens, Closes}

-- slices
slice_length : (src : List ℕ) (i j : ℕ) → i ≤ j → j ≤ length src → length (slice src i j) ≡ j - i
slice_length src i j h l = length-take-le (j - i) (drop i src) (omega (arith, length-drop i src))

slice_none : (src : List ℕ) (i j : ℕ) → j ≤ i → slice src i j ≡ []
slice_none src i j h = ap (λ n. take n (drop i src)) (let e : j - i ≡ 0 = omega arith in e)

slice_more : (src : List ℕ) (i j : ℕ) → i ≤ j → j < length src → slice src i j ++ (get_or src j 0 ∷ []) ≡ slice src i (j + 1)
slice_more src i j h l =
    let e : j + 1 - i ≡ (j - i) + 1 = omega arith in
    let f : i + (j - i) ≡ j = omega arith in
    sym (ap (λ n. take n (drop i src)) e ∙ take_more (drop i src) (j - i) 0 (omega (arith, length-drop i src))
    ∙ ap (λ x. slice src i j ++ (x ∷ [])) (get_or-drop i src (j - i) 0 ∙ ap (λ n. get_or src n 0) f))

but_last : (src : List ℕ) (i j : ℕ) → i ≤ j → j ≤ length src → all_but_last (slice src i j) ≡ slice src i (j - 1)
but_last src i j h l =
    ap (λ n. take (n - 1) (slice src i j)) (slice_length src i j h l) ∙ take-take (j - i - 1) (j - i) (drop i src) (omega arith)
    ∙ ap (λ n. take n (drop i src)) (let e : j - i - 1 ≡ j - 1 - i = omega arith in e)

last_one : (src : List ℕ) (i j : ℕ) → i < j → j ≤ length src → last_of (slice src i j) ≡ slice src (j - 1) j
last_one src i j h l =
    let e : j - i ≡ (j - i - 1) + 1 = omega arith in
    let f : i + (j - i - 1) ≡ j - 1 = omega arith in
    let g : ◌≡◌ {A = ℕ} 1 (j - (j - 1)) = omega arith in
    ap (λ n. drop (n - 1) (slice src i j)) (slice_length src i j (omega arith) l)
    ∙ ap (λ n. drop (j - i - 1) (take n (drop i src))) e
    ∙ drop-take (j - i - 1) 1 (drop i src)
    ∙ ap (take 1) (drop-drop (j - i - 1) i src ∙ ap (λ n. drop n src) f)
    ∙ ap (λ n. take n (drop (j - 1) src)) g

drop_2 : (src : List ℕ) (i j : ℕ) → i + 2 ≤ j → drop 2 (slice src i j) ≡ slice src (i + 2) j
drop_2 src i j h =
    let e : j - i ≡ 2 + (j - (i + 2)) = omega arith in
    ap (λ n. drop 2 (take n (drop i src))) e ∙ drop-take 2 (j - (i + 2)) (drop i src) ∙ ap (take (j - (i + 2))) (drop-drop 2 i src)

-- text
text_some : (at : ℕ) (t : List ℕ) (rest : Cut) → 0 < length t → some_text at t rest ≡ text at t rest
text_some at [] rest h = absurd (omega arith)
text_some at (b ∷ bs) rest h = refl

abbrev pub left_at : List ℕ → State → ℕ → ℕ → Cut
left_at src s start at = scan s start (slice src start at) (drop at src)

-- which states an event comes from
from_goes : (s : State) (start at : ℕ) → placed s start at ≡ true → start ≤ at
from_goes Text start at p = search rules
from_goes Brace start at p = search rules
from_goes (Inside k) start at p = search rules
from_goes (Closing k) start at p = search rules
from_goes (Quoted k q) start at p = search rules

from_opens : (s s' : State) (b start at : ℕ) → placed s start at ≡ true → ◌≡◌ {A = State × Event} (s', Opens) (stepped s b) → start < at
from_opens s s' b start at p eq = search rules

from_closes : (s s' : State) (k : Kind) (b start at : ℕ) → placed s start at ≡ true → ◌≡◌ {A = State × Event} (s', Closes k) (stepped s b) → start + 2 < at
from_closes s s' k b start at p eq = search rules

-- one byte on
module _ (src : List ℕ) (s s' : State) (start at b : ℕ) (is : placed s start at ≡ true) (h : at < length src) (byte : b ≡ get_or src at 0) where
  one_byte : (e : Event) → ◌≡◌ {A = State × Event} (s', e) (stepped s b) → left_at src s start at ≡ brings start (slice src start at) (get_or src at 0) e (λ place first. scan s' place first (drop (at + 1) src))
  one_byte e eq =
      at_drop_more (scan s start (slice src start at)) src at 0 h
      ∙ ap (λ (p : State × Event). brings start (slice src start at) (get_or src at 0) p.1 (λ place first. scan p.0 place first (drop (at + 1) src))) (sym (eq ∙ ap (stepped s) byte))

  pub goes : ◌≡◌ {A = State × Event} (s', Goes) (stepped s b) → left_at src s start at ≡ left_at src s' start (at + 1)
  goes eq = one_byte Goes eq ∙ ap (λ got. scan s' start got (drop (at + 1) src)) (slice_more src start at (from_goes s start at is) h)

  opens : ◌≡◌ {A = State × Event} (s', Opens) (stepped s b) → left_at src s start at ≡ some_text start (slice src start (at - 1)) (left_at src s' (at - 1) (at + 1))
  opens eq =
      let p = from_opens s s' b start at is eq in
      let but = but_last src start at (omega arith) (omega arith) in
      let place : start + length (all_but_last (slice src start at)) ≡ at - 1 = omega (arith, ap length but, slice_length src start (at - 1) (omega arith) (omega arith)) in
      let first = ap (λ got. got ++ (get_or src at 0 ∷ [])) (last_one src start at p (omega arith)) ∙ slice_more src (at - 1) at (omega arith) h in
      one_byte Opens eq
      ∙ ap (λ t. some_text start t (scan s' (start + length (all_but_last (slice src start at))) (last_of (slice src start at) ++ (get_or src at 0 ∷ [])) (drop (at + 1) src))) but
      ∙ ap (λ n. some_text start (slice src start (at - 1)) (scan s' n (last_of (slice src start at) ++ (get_or src at 0 ∷ [])) (drop (at + 1) src))) place
      ∙ ap (λ got. some_text start (slice src start (at - 1)) (scan s' (at - 1) got (drop (at + 1) src))) first

  pub opens_text : start < at - 1 → ◌≡◌ {A = State × Event} (s', Opens) (stepped s b) → left_at src s start at ≡ text start (slice src start (at - 1)) (left_at src s' (at - 1) (at + 1))
  opens_text p eq = opens eq ∙ text_some start (slice src start (at - 1)) _ (omega (arith, slice_length src start (at - 1) (omega arith) (omega arith)))

  pub closes : (k : Kind) → ◌≡◌ {A = State × Event} (s', Closes k) (stepped s b) → left_at src s start at ≡ mark k start (slice src (start + 2) (at - 1)) (left_at src s' (at + 1) (at + 1))
  closes k eq =
      let p = from_closes s s' k b start at is eq in
      let inside = ap (drop 2) (but_last src start at (omega arith) (omega arith)) ∙ drop_2 src start (at - 1) (omega arith) in
      let place : start + (length (slice src start at) + 1) ≡ at + 1 = omega (arith, slice_length src start at (omega arith) (omega arith)) in
      one_byte (Closes k) eq
      ∙ ap (λ i. mark k start i (scan s' (start + (length (slice src start at) + 1)) [] (drop (at + 1) src))) inside
      ∙ ap (λ n. mark k start (slice src (start + 2) (at - 1)) (scan s' n [] (drop (at + 1) src))) place
      ∙ ap (λ got. mark k start (slice src (start + 2) (at - 1)) (scan s' (at + 1) got (drop (at + 1) src))) (sym (slice_none src (at + 1) (at + 1) (omega arith)))
