-- What a block evaluates when it is opened.
use Rattle.std.specs.Prelude.{ℕ, false, cond, List, [], ◌∷◌, map, length, ℤ, pos, negsuc, Some, None, Option, nat_le}
use Rattle.std.specs.Option.{unwrap_or}
use Rattle.rows.specs.Counted.{between, how_many}
use Rattle.rows.specs.Windows.{windowed}
use Rattle.tree.specs.Expressions.{Expr, Row, row_from, range}
use Rattle.tree.specs.Elements.{Block, if_block, case_block, for_block, tablerow_block, capture_block, ifchanged_block}
use Rattle.meaning.specs.Things.{Held, whole}
use Rattle.meaning.specs.Rows.{row}
use Rattle.meaning.specs.Frames.{Frames}
use Rattle.meaning.specs.Acts.{Act, ◌and_then◌, pure, faults}
use Rattle.meaning.specs.Looking.{World, eval, number_of}

-- What an opening found: nothing, the target of a `case`, or the window of a loop, for a table with its `cols`.
pub data Opening : Type 0 where
  bare : Opening
  target : Held → Opening
  window : List Held → Opening
  table : List Held → ℤ → Opening

-- Kept from liquid-lib: what is no whole number is a fault, nil too.
abbrev pub whole_number : ℕ → Frames → Option ℤ → Act ℤ
whole_number p e None = faults 22 p e
whole_number p e (Some z) = pure z

abbrev pub the_row : ℕ → Frames → Option (List Held) → Act (List Held)
the_row p e None = faults 23 p e
the_row p e (Some xs) = pure xs

-- the numbers from `a` to `b`, at most 4,096
abbrev pub counted_row : ℤ → ℤ → ℕ → Frames → Act (List Held)
counted_row a b p e = cond (nat_le (how_many a b) 4096) (pure (map whole (between a b))) (faults 27 p e)

-- a table whose window has an item needs a column; an empty table asks for none
abbrev pub needs_columns : List Held → ℤ → ℕ → Frames → Act Opening
needs_columns [] k p e = pure (table [] k)
needs_columns (x ∷ xs) (pos ℕ.zero) p e = faults 24 p e
needs_columns (x ∷ xs) (pos (ℕ.suc c)) p e = pure (table (x ∷ xs) (pos (ℕ.suc c)))
needs_columns (x ∷ xs) (negsuc c) p e = pure (table (x ∷ xs) (negsuc c))

-- without `cols`, all items stand in one row
abbrev pub laid_out : List Held → Option ℤ → ℕ → Frames → Act Opening
laid_out xs k p e = needs_columns xs (unwrap_or k (pos (length xs))) p e

module _ (w : World) where
  abbrev pub number : Expr → ℕ → Frames → Act ℤ
  number x p e = eval w x p e and_then λ v. whole_number p e (number_of v)

  abbrev pub number_if : Option Expr → ℕ → Frames → Act (Option ℤ)
  number_if None p e = pure None
  number_if (Some x) p e = number x p e and_then λ z. pure (Some z)

  unfoldable pub gone_over : Row → ℕ → Frames → Act (List Held)
  gone_over (row_from x) p e = eval w x p e and_then λ v. the_row p e (row w.host v)
  gone_over (range x y) p e = number x p e and_then λ a. number y p e and_then λ b. counted_row a b p e

  -- what a loop goes over, then `cols`, `limit` and `offset`, however they were written
  unfoldable pub opened : Block → ℕ → Frames → Act Opening
  opened if_block p e = pure bare
  opened (case_block x) p e = eval w x p e and_then λ v. pure (target v)
  opened (for_block v r limit offset reversed) p e =
      gone_over r p e and_then λ xs.
      number_if limit p e and_then λ l.
      number_if offset p e and_then λ o.
      pure (window (windowed (unwrap_or o (pos 0)) l reversed xs))
  opened (tablerow_block v r cols limit offset) p e =
      gone_over r p e and_then λ xs.
      number_if cols p e and_then λ k.
      number_if limit p e and_then λ l.
      number_if offset p e and_then λ o.
      laid_out (windowed (unwrap_or o (pos 0)) l false xs) k p e
  opened (capture_block n) p e = pure bare
  opened ifchanged_block p e = pure bare
