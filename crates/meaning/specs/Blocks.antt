-- Blocks: which arm is taken, how it is visited, what is done at the start and the end of a visit and at the closing.
use Rattle.std.specs.Prelude.{ℕ, ◌+◌, ◌-◌, Bool, true, false, cond, not, ◌||◌, List, [], ◌∷◌, ◌++◌, length, ℤ, pos, codes, nat_le}
use Rattle.numerals.specs.Decimal.{natural_text}
use Rattle.tray.specs.Parts.{same_text}
use Rattle.tree.specs.Expressions.{Expr}
use Rattle.tree.specs.Elements.{Block, if_block, case_block, for_block, tablerow_block, capture_block, ifchanged_block, Guard, holds, fails, equals_one, has_items, always}
use Rattle.meaning.specs.Things.{name, changed, Held, nil, text, with_variable, with_shown}
use Rattle.meaning.specs.Frames.{Manner, once, each, cells, keeping, watching, Frames, column, row_number, is_col_first, is_col_last}
use Rattle.meaning.specs.Acts.{Step, Act, go_on, ◌and_then◌, pure, faults, emit, append, look, alter, cut}
use Rattle.meaning.specs.Looking.{World, eval}
use Rattle.meaning.specs.Tests.{same, judged}
use Rattle.meaning.specs.Leaves.{Flow, onward, broken, continued}
use Rattle.meaning.specs.Openings.{Opening, bare, target, window, table}

-- the items that an opening found
abbrev pub items : Opening → List Held
items bare = []
items (target v) = []
items (window xs) = xs
items (table xs k) = xs

abbrev pub target_of : Opening → Held
target_of bare = nil
target_of (target v) = v
target_of (window xs) = nil
target_of (table xs k) = nil

abbrev pub cols_of : Opening → ℤ
cols_of bare = pos 0
cols_of (target v) = pos 0
cols_of (window xs) = pos 0
cols_of (table xs k) = k

abbrev pub is_filled : List Held → Bool
is_filled [] = false
is_filled (x ∷ xs) = true

-- how the body of a loop is visited; any other arm once
abbrev pub for_manner : ℕ → Opening → Guard → Manner
for_manner v o (holds c) = once
for_manner v o (fails c) = once
for_manner v o (equals_one xs) = once
for_manner v o has_items = each v (length (items o))
for_manner v o always = once

abbrev pub manner : Block → Opening → Guard → Manner
manner if_block o g = once
manner (case_block x) o g = once
manner (for_block v r limit offset reversed) o g = for_manner v o g
manner (tablerow_block v r cols limit offset) o g = cells v (length (items o)) (cols_of o)
manner (capture_block n) o g = keeping n
manner ifchanged_block o g = watching

-- the items of the visits
abbrev pub visited : Manner → Opening → List Held
visited once o = nil ∷ []
visited (each v n) o = items o
visited (cells v n k) o = items o
visited (keeping n) o = nil ∷ []
visited watching o = nil ∷ []

-- A loop clears the interrupt after each visit; after a `break` it makes no further one.
abbrev pub next_visit : Flow → Act Flow → Act Flow
next_visit onward k = k
next_visit broken k = pure onward
next_visit continued k = k

-- after a visit, with `k` the visits that are left; blocks that are no loops have none and pass the interrupt on
abbrev pub after_visit : Manner → Flow → Act Flow → Act Flow
after_visit once f k = pure f
after_visit (each v n) f k = next_visit f k
after_visit (cells v n c) f k = next_visit f k
after_visit (keeping n) f k = pure f
after_visit watching f k = pure f

-- a visit to each item, of which the first has the number `v`
abbrev pub visits : Manner → (Held → ℕ → Act Flow) → List Held → ℕ → Act Flow
visits m f [] v = pure onward
visits m f (x ∷ xs) v = f x v and_then λ r. after_visit m r (visits m f xs (v + 1))

-- after an element, with `k` the elements that are left: an interrupt ends the list
abbrev pub after_element : Flow → Act Flow → Act Flow
after_element onward k = k
after_element broken k = pure broken
after_element continued k = pure continued

-- The four table marks. Kept from liquid-lib: nothing stands between them.
abbrev pub row_mark : ℕ → List ℕ
row_mark r = codes "<tr class=\"row" ++ (natural_text r ++ codes "\">")

abbrev pub cell_mark : ℕ → List ℕ
cell_mark c = codes "<td class=\"col" ++ (natural_text c ++ codes "\">")

abbrev pub cell_end : List ℕ
cell_end = codes "</td>"

abbrev pub row_end : List ℕ
row_end = codes "</tr>"

abbrev pub is_broken : Flow → Bool
is_broken onward = false
is_broken broken = true
is_broken continued = false

-- the text of a capture becomes the variable; over 256 bytes it is a fault and nothing is stored
abbrev pub keep_text : ℕ → ℕ → Frames → Flow → List ℕ → Act Flow
keep_text n p e f t =
    cond (nat_le (length t) 256) (alter (name n) (with_variable (text t)) and_then λ _. pure f) (faults 31 p e)

-- the text of an `ifchanged` becomes the changed text, and stays in the buffer if it differs from that before
abbrev pub show_text : ℕ → Frames → Flow → List ℕ → Act Flow
show_text p e f t =
    cond (nat_le (length t) 1024)
    (look changed and_then λ c.
    alter changed (with_shown t) and_then λ _.
    cond (same_text c.shown t) (pure f) (append t and_then λ _. pure f))
    (faults 31 p e)

-- closing a block, after all its visits; before them `k` bytes stood in the buffer
abbrev pub closed : Manner → ℕ → Frames → ℕ → Step Flow → Step Flow
closed once p e k s = s
closed (each v n) p e k s = s
closed (cells v n c) p e k s = s
closed (keeping n) p e k s = go_on (cut k s) (λ r. keep_text n p e r.0 r.1)
closed watching p e k s = go_on (cut k s) (λ r. show_text p e r.0 r.1)

-- an act inside a block, which is closed after it
unfoldable pub around : Manner → ℕ → Frames → Act Flow → Act Flow
around m p e a d o = closed m p e (length o) (a d o)

module _ (w : World) where
  -- the values of a `when`, in order, until one is equal
  abbrev pub one_equal : List Expr → Held → ℕ → Frames → Act Bool
  one_equal [] t p e = pure false
  one_equal (x ∷ xs) t p e = eval w x p e and_then λ v. cond (same w v t) (pure true) (one_equal xs t p e)

  unfoldable pub passes : Guard → Opening → ℕ → Frames → Act Bool
  passes (holds c) o p e = judged w c p e
  passes (fails c) o p e = judged w c p e and_then λ y. pure (not y)
  passes (equals_one xs) o p e = one_equal xs (target_of o) p e
  passes has_items o p e = pure (is_filled (items o))
  passes always o p e = pure true

  abbrev pub mark_if : Bool → List ℕ → ℕ → Frames → Act (Unit {0})
  mark_if b t p e = cond b (emit w.limit p e t) (pure tt)

  -- the start of the visit with index `i`
  abbrev pub enters : Manner → ℕ → ℕ → Frames → Act (Unit {0})
  enters once i p e = pure tt
  enters (each v n) i p e = pure tt
  enters (cells v n k) i p e =
      mark_if (is_col_first k i) (row_mark (row_number k i + 1)) p e and_then λ _.
      emit w.limit p e (cell_mark (column k i + 1))
  enters (keeping n) i p e = pure tt
  enters watching i p e = pure tt

  -- its end; a `break` closes the row of a table
  abbrev pub leaves : Manner → ℕ → ℕ → Frames → Flow → Act Flow
  leaves once i p e f = pure f
  leaves (each v n) i p e f = pure f
  leaves (cells v n k) i p e f =
      emit w.limit p e cell_end and_then λ _.
      mark_if (is_col_last k n i || is_broken f) row_end p e and_then λ _.
      pure f
  leaves (keeping n) i p e f = pure f
  leaves watching i p e f = pure f

  -- one visit, to item `x`, with number `v`; its frame is there for the body and not for the marks
  abbrev pub visit : Manner → ℕ → Frames → (Frames → Act Flow) → Held → ℕ → Act Flow
  visit m p e body x v =
      enters m (v - 1) p e and_then λ _.
      body (record { place = p; manner = m; visit = v; item = x } ∷ e) and_then λ f.
      leaves m (v - 1) p e f
