-- Rows of items as lists of values.
use Rattle.std.proofs.Common.{◌≡◌, ℕ, ◌+◌, Bool, true, false, cond, List, [], ◌∷◌, ◌++◌, map, reverse, ℤ, Some, Option, refl, ap, sym, ◌∙◌}
use Rattle.std.specs.Option.{option_map}
use Rattle.std.proofs.lemmas.List.{reverse-append}
use Rattle.tray.specs.declared.records.Record.{Record}
use Rattle.tray.specs.declared.records.Record.TheVariants as rec
use Rattle.tray.specs.declared.records.Span.{Span}
use Rattle.values.specs.declared.rows_of.Parts.{Parts}
use Rattle.values.specs.RowsOf.{stepping, items_row, pairs_row}
use Rattle.nodes.proofs.Options.{some_is}
use Rattle.frames.specs.declared.item.Item.TheVariants as item
use Rattle.frames.specs.declared.item.AnyRow.TheVariants as any
use Rattle.frames.specs.Items.{item_of}
use Rattle.meaning.specs.Hosts.{Host}
use Rattle.meaning.specs.Rows.{record_row}
use Rattle.renderer.specs.Openings.{row_items}
use Rattle.rows.specs.Windows.{windowed, kept_from, in_window}

mapped_join : {X Y : Type 0} (f : X → Y) (xs ys : List X) → map f (xs ++ ys) ≡ map f xs ++ map f ys
mapped_join f [] ys = refl
mapped_join f (x ∷ xs) ys = ap (λ l. f x ∷ l) (mapped_join f xs ys)

mapped_reverse : {X Y : Type 0} (f : X → Y) (xs : List X) → map f (reverse xs) ≡ reverse (map f xs)
mapped_reverse f [] = refl
mapped_reverse f (x ∷ xs) =
    ap (map f) (reverse-append (x ∷ []) xs) ∙ mapped_join f (reverse xs) (x ∷ []) ∙ ap (λ l. l ++ (f x ∷ [])) (mapped_reverse f xs) ∙ sym (reverse-append (f x ∷ []) (map f xs))

mapped_choice : {X Y : Type 0} (f : X → Y) (b : Bool) (x : X) (ys : List X) (zs : List Y) → map f ys ≡ zs → map f (cond b (x ∷ ys) ys) ≡ cond b (f x ∷ zs) zs
mapped_choice f true x ys zs e = ap (λ l. f x ∷ l) e
mapped_choice f false x ys zs e = e

mapped_kept : {X Y : Type 0} (f : X → Y) (p : ℕ → Bool) (k : ℕ) (xs : List X) → map f (kept_from p k xs) ≡ kept_from p k (map f xs)
mapped_kept f p k [] = refl
mapped_kept f p k (x ∷ xs) = mapped_choice f (p k) x _ _ (mapped_kept f p (k + 1) xs)

-- a window over a row is a window over its values
pub windowed_mapped : {X Y : Type 0} (f : X → Y) (offset : ℤ) (limit : Option ℤ) (reversed : Bool) (xs : List X) → map f (windowed offset limit reversed xs) ≡ windowed offset limit reversed (map f xs)
unfolding windowed
windowed_mapped f offset limit true xs = mapped_reverse f (kept_from (in_window offset limit) 0 xs) ∙ ap reverse (mapped_kept f (in_window offset limit) 0 xs)
windowed_mapped f offset limit false xs = mapped_kept f (in_window offset limit) 0 xs

-- the rows of records
mapped_twice : {X Y Z : Type 0} (f : X → Y) (g : Y → Z) (xs : List X) → map g (map f xs) ≡ map (λ x. g (f x)) xs
mapped_twice f g [] = refl
mapped_twice f g (x ∷ xs) = ap (λ l. g (f x) ∷ l) (mapped_twice f g xs)

pub array_row : (h : Host) (r : Record) (s : Span) (x : Parts 1) → r ≡ rec.Array s → Some x ≡ items_row r → option_map (row_items h) (Some (any.Items x)) ≡ record_row h r
array_row h r s x e is =
    let same : x ≡ record { span = s } = some_is _ _ (is ∙ ap items_row e) in
    ap (λ y. Some (row_items h (any.Items y))) same ∙ ap Some (mapped_twice item.Record (item_of h) (stepping s.first 1 s.count)) ∙ sym (ap (record_row h) e)

pub object_row : (h : Host) (r : Record) (s : Span) (x : Parts 2) → r ≡ rec.Object s → Some x ≡ pairs_row r → option_map (row_items h) (Some (any.Pairs x)) ≡ record_row h r
object_row h r s x e is =
    let same : x ≡ record { span = s } = some_is _ _ (is ∙ ap pairs_row e) in
    ap (λ y. Some (row_items h (any.Pairs y))) same ∙ ap Some (mapped_twice item.Pair (item_of h) (stepping s.first 2 s.count)) ∙ sym (ap (record_row h) e)
