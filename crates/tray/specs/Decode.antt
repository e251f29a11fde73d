-- What the bytes of a tray say: records one after another.
use Rattle.std.specs.Prelude.{ℕ, zero, suc, ◌+◌, ◌*◌, cond, List, [], ◌∷◌, ◌++◌, length, drop, Some, None, codes, Option, ◌==◌, nat_lt, slice_index}
use Rattle.std.specs.Borrow.{Bor}
use Rattle.std.specs.Int.{w64}
use Rattle.std.specs.Option.{option_map}
use Rattle.std.proofs.Common.{to_z}
use Rattle.tray.specs.declared.records.Span.{Span}
use Rattle.tray.specs.declared.records.Record.{Record}
use Rattle.tray.specs.declared.records.Record.TheVariants.{Nil, Boolean, Whole, Text, Array, Object}
use Rattle.tray.specs.declared.records.OpenError.{OpenError}
use Rattle.tray.specs.declared.records.OpenError.TheVariants.{Refused, Memory}
use Rattle.tray.specs.Parts.{span}

-- a record and the bytes behind it, or nothing
abbrev pub Got : Type 0
Got = Option (Record × List ℕ)

abbrev pub read_of : Option (Record × Bor (List ℕ)) → Got
read_of o = option_map (λ p. (p.0, p.1.now)) o

abbrev pub got : Record → List ℕ → Got
got r rest = Some (r, rest)

abbrev pub u16_at : List ℕ → ℕ → ℕ
u16_at bs i = slice_index bs i + slice_index bs (i + 1) * 256

abbrev pub u64_at1 : List ℕ → ℕ
u64_at1 bs = slice_index bs 1 + slice_index bs 2 * 256 + slice_index bs 3 * 65536 + slice_index bs 4 * 16777216 + slice_index bs 5 * 4294967296 + slice_index bs 6 * 1099511627776 + slice_index bs 7 * 281474976710656 + slice_index bs 8 * 72057594037927936

abbrev pub boolean : List ℕ → Got
boolean bs = cond (nat_lt (length bs) 2) None (cond (nat_lt 1 (slice_index bs 1)) None (got (Boolean (slice_index bs 1 == 1)) (drop 2 bs)))

abbrev pub whole : List ℕ → Got
whole bs = cond (nat_lt (length bs) 9) None (got (Whole (to_z w64 (u64_at1 bs))) (drop 9 bs))

abbrev pub text_at : ℕ → Span → List ℕ → Got
text_at room s rest = cond (nat_lt 256 s.count) None (cond (nat_lt room (s.first + s.count)) None (got (Text s) rest))

-- the span that the two numbers behind the kind give
abbrev pub span_in : List ℕ → Span
span_in bs = span (u16_at bs 1) (u16_at bs 3)

abbrev pub text : ℕ → List ℕ → Got
text room bs = cond (nat_lt (length bs) 5) None (text_at room (span_in bs) (drop 5 bs))

abbrev pub part : (Span → Record) → List ℕ → Got
part r bs = cond (nat_lt (length bs) 5) None (got (r (span_in bs)) (drop 5 bs))

abbrev pub body : ℕ → ℕ → List ℕ → Got
body k room bs = cond (k == 0) (got Nil (drop 1 bs)) (cond (k == 1) (boolean bs) (cond (k == 2) (whole bs) (cond (k == 3) (text room bs) (cond (k == 4) (part Array bs) (cond (k == 5) (part Object bs) None)))))

-- the first record of the bytes; `room` is the length of the tray's text
abbrev pub one : ℕ → List ℕ → Got
one room bs = cond (length bs == 0) None (body (slice_index bs 0) room bs)

-- a record before those that follow
abbrev pub before : Record → Option (List Record) → Option (List Record)
before r None = None
before r (Some rs) = Some (r ∷ rs)

abbrev pub go_on : Got → (List ℕ → Option (List Record)) → Option (List Record)
go_on None f = None
go_on (Some p) f = before p.0 (f p.1)

-- the records of the bytes: at most `most`, with nothing left over
abbrev pub decoded : ℕ → ℕ → List ℕ → Option (List Record)
decoded zero room [] = Some []
decoded zero room (b ∷ bs) = None
decoded (suc most) room [] = Some []
decoded (suc most) room (b ∷ bs) = go_on (one room (b ∷ bs)) (decoded most room)

-- the number of a refusal
abbrev pub number_of : OpenError → Option ℕ
number_of Refused = Some 10
number_of Memory = None

-- its words
abbrev pub words_of : OpenError → List ℕ
words_of Refused = codes "a rule of the record format is broken, or a host name is reserved"
words_of Memory = codes "no memory"

-- a refusal has a reason; want of memory may come at any time
abbrev pub Why : OpenError → Type 0 → Type 0
Why Refused P = P
Why Memory P = Unit {0}

-- records that stand before those of the rest
abbrev pub onto : List Record → Option (List Record) → Option (List Record)
onto rs None = None
onto rs (Some more) = Some (rs ++ more)
