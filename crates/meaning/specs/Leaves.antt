-- The elements that hold no others.
use Rattle.std.specs.Prelude.{ℕ, ◌+◌, ◌%◌, Bool, true, cond, List, [], ◌∷◌, length, ℤ, pos, ◌+ℤ◌, ◌-ℤ◌, Some, None, Option, nat_le}
use Rattle.std.specs.Option.{unwrap_or}
use Rattle.std.specs.List.{slice_get}
use Rattle.numerals.specs.Decimal.{fits, whole_text}
use Rattle.tree.specs.Expressions.{Expr}
use Rattle.tree.specs.Elements.{Leaf, plain, output, assign, increment, decrement, cycle, break, continue}
use Rattle.meaning.specs.Things.{name, cycle_name, Content, Held, nil, boolean, whole, text, array, object, pair, with_variable, with_counter, with_position}
use Rattle.meaning.specs.Frames.{Frames}
use Rattle.meaning.specs.Acts.{Act, ◌and_then◌, pure, faults, emit, look, alter}
use Rattle.meaning.specs.Looking.{World, eval, text_of}
use Rattle.meaning.specs.Chains.{chained}

-- The interrupt: whether the list of elements goes on, or a `break` or `continue` ends it.
pub data Flow : Type 0 where
  onward : Flow
  broken : Flow
  continued : Flow

-- a text over 256 bytes cannot be kept
abbrev pub short_enough : Held → Bool
short_enough nil = true
short_enough (boolean b) = true
short_enough (whole z) = true
short_enough (text t) = nat_le (length t) 256
short_enough (array i) = true
short_enough (object i) = true
short_enough (pair i) = true

-- a counter that is not there counts as 0
abbrev pub count_of : Content → ℤ
count_of c = unwrap_or c.counter (pos 0)

module _ (w : World) where
  -- one piece
  abbrev pub write : List ℕ → ℕ → Frames → Act Flow
  write t p e = emit w.limit p e t and_then λ _. pure onward

  abbrev pub store : ℕ → Held → ℕ → Frames → Act Flow
  store n v p e = cond (short_enough v) (alter (name n) (with_variable v) and_then λ _. pure onward) (faults 31 p e)

  -- writes `shown` and stores `next`, which must have 64 bits
  abbrev pub count_on : ℕ → ℤ → ℤ → ℕ → Frames → Act Flow
  count_on n shown next p e =
      cond (fits next)
      (emit w.limit p e (whole_text shown) and_then λ _. alter (name n) (with_counter next) and_then λ _. pure onward)
      (faults 28 p e)

  -- the value at the old position
  abbrev pub cycle_value : Option Expr → ℕ → Frames → Act Flow
  cycle_value None p e = faults 25 p e
  cycle_value (Some x) p e = eval w x p e and_then λ v. write (text_of w v) p e

  -- Kept from liquid-lib: the position is advanced before anything else, and where it was not below the count of values
  -- (another list under the same name was longer) that is a fault.
  abbrev pub cycled : ℕ → List Expr → ℕ → Frames → Act Flow
  cycled n [] p e = faults 26 p e
  cycled n (x ∷ xs) p e =
      look (cycle_name n) and_then λ c.
      alter (cycle_name n) (with_position ((c.position + 1) % length (x ∷ xs))) and_then λ _.
      cycle_value (slice_get (x ∷ xs) c.position) p e

  -- Kept from liquid-lib: `increment` and `decrement` neither read nor change a variable or a host name;
  -- `increment` shows the number and then adds one, `decrement` takes one off and then shows it.
  unfoldable pub leaf_act : Leaf → ℕ → Frames → Act Flow
  leaf_act (plain t) p e = write t p e
  leaf_act (output c) p e = chained w c p e and_then λ v. write (text_of w v) p e
  leaf_act (assign n c) p e = chained w c p e and_then λ v. store n v p e
  leaf_act (increment n) p e = look (name n) and_then λ c. count_on n (count_of c) (count_of c +ℤ pos 1) p e
  leaf_act (decrement n) p e = look (name n) and_then λ c. count_on n (count_of c -ℤ pos 1) (count_of c -ℤ pos 1) p e
  leaf_act (cycle n xs) p e = cycled n xs p e
  leaf_act break p e = pure broken
  leaf_act continue p e = pure continued
