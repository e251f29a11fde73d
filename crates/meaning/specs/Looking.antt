-- What a value in a template means: where a name is sought, steps, and the faults 21 and 30.
use Rattle.std.specs.Prelude.{ℕ, List, [], ◌∷◌, ℤ, Some, None, Option, slice_index_or}
use Rattle.std.specs.Option.{option_map, option_or}
use Rattle.numerals.specs.Decimal.{whole_of}
use Rattle.values.specs.Value.{written}
use Rattle.banks.specs.Meaning.{Meaning}
use Rattle.tree.specs.Expressions.{Head, forloop, tablerowloop, named, Step, index, key, Expr, nil_literal, boolean_literal, number_literal, text_literal, path}
use Rattle.meaning.specs.Things.{name, Content, Held, nil, boolean, whole, text, array, object, pair}
use Rattle.meaning.specs.Hosts.{Host, value_of, read_again, stepped, host_name}
use Rattle.meaning.specs.Frames.{Frames, bound, LoopObject, nearest_for, nearest_table, field, Met, value, loop}
use Rattle.meaning.specs.Acts.{Act, ◌and_then◌, pure, faults, look}

-- What a rendering reads and never changes: the bytes of the sheet's names, the tray, the bank's meaning, the length of the buffer.
pub record World : Type 0 where
  pub names : List (List ℕ)
  pub host : Host
  pub bank : Meaning
  pub limit : ℕ

module _ (w : World) where
  -- the bytes of a name of the sheet
  abbrev pub spelling : ℕ → List ℕ
  spelling n = slice_index_or w.names n []

  -- outside the frames: the variable, else the host name, else the counter. A variable that is nil is there.
  abbrev pub outside : ℕ → Content → Option Held
  outside n c = option_or (option_map (read_again w.host) c.variable) (option_or (host_name w.host (spelling n)) (option_map whole c.counter))

  -- the innermost frame that binds the name decides
  abbrev pub sought : ℕ → Option Held → Act (Option Met)
  sought n (Some v) = pure (Some (value v))
  sought n None = look (name n) and_then λ c. pure (option_map value (outside n c))

  unfoldable pub find : Frames → Head → Act (Option Met)
  find e forloop = pure (option_map loop (nearest_for e))
  find e tablerowloop = pure (option_map loop (nearest_table e))
  find e (named n) = sought n (bound e n)

  abbrev pub field_step : LoopObject → Step → Option Met
  field_step l (index z) = None
  field_step l (key k) = field l k

  abbrev pub met_step : Met → Step → Option Met
  met_step (value v) s = option_map value (stepped w.host v s)
  met_step (loop l) s = field_step l s

  -- the steps from left to right
  abbrev pub walked : Option Met → List Step → Option Met
  walked m [] = m
  walked None (s ∷ ss) = None
  walked (Some m) (s ∷ ss) = walked (met_step m s) ss

  -- what a value comes to, if it is there
  unfoldable pub reach : Expr → Frames → Act (Option Met)
  reach nil_literal e = pure (Some (value nil))
  reach (boolean_literal b) e = pure (Some (value (boolean b)))
  reach (number_literal z) e = pure (Some (value (whole z)))
  reach (text_literal t) e = pure (Some (value (text t)))
  reach (path h ss) e = find e h and_then λ m. pure (walked m ss)

  -- Kept from liquid-lib: an absent value is a fault, and so is a loop object itself.
  abbrev pub needed : ℕ → Frames → Option Met → Act Held
  needed p e None = faults 21 p e
  needed p e (Some (value v)) = pure v
  needed p e (Some (loop l)) = faults 30 p e

  unfoldable pub eval : Expr → ℕ → Frames → Act Held
  eval x p e = reach x e and_then λ m. needed p e m

  -- the text of a value
  abbrev pub text_of : Held → List ℕ
  text_of v = written (value_of w.host v)

-- the whole number that can be read from a value
abbrev pub number_of : Held → Option ℤ
number_of nil = None
number_of (boolean b) = None
number_of (whole z) = Some z
number_of (text t) = whole_of t
number_of (array i) = None
number_of (object i) = None
number_of (pair i) = None
