-- Conditions: existence, comparisons, `contains`, `and`, `or`.
use Rattle.std.specs.Prelude.{ℕ, Bool, true, false, cond, not, ◌&&◌, ◌||◌, List, [], ◌∷◌, length, ℤ, is_some, Some, None, Option, ◌==◌, int_lt, nat_le, nat_lt}
use Rattle.values.specs.Value.{Value, Items, Entries, equal}
use Rattle.values.specs.Value as tree
use Rattle.tree.specs.Conditions.{Comparison, equals, differs, is_less, is_more, at_most, at_least, contains, Test, exists, compares, Condition, only, both, either}
use Rattle.meaning.specs.Things.{Held, nil, boolean, whole, text, array, object, pair}
use Rattle.meaning.specs.Hosts.{value_of}
use Rattle.meaning.specs.Frames.{Frames, Met, value, loop}
use Rattle.meaning.specs.Acts.{Act, ◌and_then◌, pure, faults}
use Rattle.meaning.specs.Looking.{World, reach, eval, text_of}

-- only nil and false fail an existence test
abbrev pub true_value : Held → Bool
true_value nil = false
true_value (boolean b) = b
true_value (whole z) = true
true_value (text t) = true
true_value (array i) = true
true_value (object i) = true
true_value (pair i) = true

-- what is absent counts as nil here, and a loop object passes
abbrev pub there : Option Met → Bool
there None = false
there (Some (value v)) = true_value v
there (Some (loop l)) = true

-- the first byte that differs decides; the beginning of a text is smaller than the text
abbrev pub text_less : List ℕ → List ℕ → Bool
text_less [] [] = false
text_less [] (b ∷ t) = true
text_less (a ∷ s) [] = false
text_less (a ∷ s) (b ∷ t) = cond (a == b) (text_less s t) (nat_lt a b)

abbrev pub whole_before : ℤ → Held → (ℤ → ℤ → Bool) → Bool
whole_before y nil f = false
whole_before y (boolean b) f = false
whole_before y (whole z) f = f y z
whole_before y (text t) f = false
whole_before y (array i) f = false
whole_before y (object i) f = false
whole_before y (pair i) f = false

abbrev pub text_before : List ℕ → Held → (List ℕ → List ℕ → Bool) → Bool
text_before s nil f = false
text_before s (boolean b) f = false
text_before s (whole z) f = false
text_before s (text t) f = f s t
text_before s (array i) f = false
text_before s (object i) f = false
text_before s (pair i) f = false

-- Two whole numbers, or two texts, by a relation of each.
-- Kept from liquid-lib: all other values have no order, so that `true <= true` is false.
abbrev pub ordered : (ℤ → ℤ → Bool) → (List ℕ → List ℕ → Bool) → Held → Held → Bool
ordered f g nil b = false
ordered f g (boolean a) b = false
ordered f g (whole z) b = whole_before z b f
ordered f g (text t) b = text_before t b g
ordered f g (array i) b = false
ordered f g (object i) b = false
ordered f g (pair i) b = false

-- a text begins with another
abbrev pub begins : List ℕ → List ℕ → Bool
begins [] t = true
begins (s ∷ ss) [] = false
begins (s ∷ ss) (b ∷ bs) = s == b && begins ss bs

-- a text stands in another; the empty one stands in every text
abbrev pub stands_in : List ℕ → List ℕ → Bool
stands_in s [] = begins s []
stands_in s (b ∷ bs) = begins s (b ∷ bs) || stands_in s bs

-- an item of an array equals the value
abbrev pub among : Value → Items → Bool
among v tree.none = false
among v (tree.item x xs) = equal x v || among v xs

abbrev pub among_items : Value → Value → Bool
among_items v tree.nil = false
among_items v (tree.boolean b) = false
among_items v (tree.whole z) = false
among_items v (tree.text t) = false
among_items v (tree.array xs) = among v xs
among_items v (tree.object es) = false

abbrev pub has_key : List ℕ → Value → Bool
has_key k tree.nil = false
has_key k (tree.boolean b) = false
has_key k (tree.whole z) = false
has_key k (tree.text t) = false
has_key k (tree.array xs) = false
has_key k (tree.object es) = is_some (tree.find k es)

module _ (w : World) where
  abbrev pub same : Held → Held → Bool
  same a b = equal (value_of w.host a) (value_of w.host b)

  -- Sought in the text of a number, boolean or text. The joined text of an array, object or pair may have 256 bytes.
  -- Kept from liquid-lib: numbers and booleans are texts here, and what is sought is any value's text.
  abbrev pub in_text : Held → Held → ℕ → Frames → Act Bool
  in_text a nil p e = pure false
  in_text a (boolean b) p e = pure (stands_in (text_of w (boolean b)) (text_of w a))
  in_text a (whole z) p e = pure (stands_in (text_of w (whole z)) (text_of w a))
  in_text a (text t) p e = pure (stands_in t (text_of w a))
  in_text a (array i) p e = cond (nat_le (length (text_of w (array i))) 256) (pure (stands_in (text_of w (array i)) (text_of w a))) (faults 31 p e)
  in_text a (object i) p e = cond (nat_le (length (text_of w (object i))) 256) (pure (stands_in (text_of w (object i)) (text_of w a))) (faults 31 p e)
  in_text a (pair i) p e = cond (nat_le (length (text_of w (pair i))) 256) (pure (stands_in (text_of w (pair i)) (text_of w a))) (faults 31 p e)

  -- nil is never found, not even in an array that holds it
  abbrev pub in_items : Held → Held → Bool
  in_items a nil = false
  in_items a (boolean b) = among_items (tree.boolean b) (value_of w.host a)
  in_items a (whole z) = among_items (tree.whole z) (value_of w.host a)
  in_items a (text t) = among_items (tree.text t) (value_of w.host a)
  in_items a (array i) = among_items (value_of w.host (array i)) (value_of w.host a)
  in_items a (object i) = among_items (value_of w.host (object i)) (value_of w.host a)
  in_items a (pair i) = among_items (value_of w.host (pair i)) (value_of w.host a)

  -- Kept from liquid-lib: a number or boolean is a key by its text.
  abbrev pub in_keys : Held → Held → Bool
  in_keys a nil = false
  in_keys a (boolean b) = has_key (text_of w (boolean b)) (value_of w.host a)
  in_keys a (whole z) = has_key (text_of w (whole z)) (value_of w.host a)
  in_keys a (text t) = has_key t (value_of w.host a)
  in_keys a (array i) = false
  in_keys a (object i) = false
  in_keys a (pair i) = false

  -- Kept from liquid-lib: nil has nothing in it, and asking is fault 29.
  abbrev pub holding : Held → Held → ℕ → Frames → Act Bool
  holding nil b p e = faults 29 p e
  holding (boolean a) b p e = in_text (boolean a) b p e
  holding (whole z) b p e = in_text (whole z) b p e
  holding (text t) b p e = in_text (text t) b p e
  holding (array i) b p e = pure (in_items (array i) b)
  holding (object i) b p e = pure (in_keys (object i) b)
  holding (pair i) b p e = pure (in_items (pair i) b)

  abbrev pub compared : Comparison → Held → Held → ℕ → Frames → Act Bool
  compared equals a b p e = pure (same a b)
  compared differs a b p e = pure (not (same a b))
  compared is_less a b p e = pure (ordered int_lt text_less a b)
  compared is_more a b p e = pure (ordered int_lt text_less b a)
  compared at_most a b p e = pure (ordered (λ x y. not (int_lt y x)) (λ s t. not (text_less t s)) a b)
  compared at_least a b p e = pure (ordered (λ x y. not (int_lt x y)) (λ s t. not (text_less s t)) a b)
  compared contains a b p e = holding a b p e

  -- both sides of a comparison are evaluated, the left one first
  unfoldable pub tested : Test → ℕ → Frames → Act Bool
  tested (exists x) p e = reach w x e and_then λ m. pure (there m)
  tested (compares x c y) p e = eval w x p e and_then λ a. eval w y p e and_then λ b. compared c a b p e

  -- from the left, as far as needed
  abbrev pub judged : Condition → ℕ → Frames → Act Bool
  judged (only t) p e = tested t p e
  judged (both t c) p e = tested t p e and_then λ y. cond y (judged c p e) (pure false)
  judged (either t c) p e = tested t p e and_then λ y. cond y (pure true) (judged c p e)
