-- Calls on a sheet: what each gives and leaves, what it reads and writes, and runs of them.
use Rattle.std.specs.Prelude.{◌≡◌, ℕ, ◌-◌, Bool, true, cond, ◌⊎◌, List, [], ◌∷◌, ◌++◌, length, replicate, Some, None, Option, nat_le}
use Rattle.std.specs.List.{slice_get}
use Rattle.rows.specs.First.{first_from}
use Rattle.tray.specs.Parts.{same_text}
use Rattle.tray.specs.Sound.{reserved}
use Rattle.banks.specs.Meaning.{Meaning}
use Rattle.banks.specs.Operands.{Datum}
use Rattle.banks.specs.Operands as operand
use Rattle.tree.specs.Elements.{Tree}
use Rattle.meaning.specs.Things.{Thing, name, Drawers, Held, nil, boolean, whole, text, with_variable}
use Rattle.meaning.specs.Hosts.{Host}
use Rattle.meaning.specs.Frames.{TrailRecord, sixteen}
use Rattle.meaning.specs.Acts.{Fault, gives, stops, Step, step, Act, ◌and_then◌, pure, alter}
use Rattle.meaning.specs.Leaves.{Flow, onward}
use Rattle.meaning.specs.Rendering.{render}
use Rattle.meaning.specs.Sharing.{reads, writes}

-- A sheet: the bytes of its names, and its templates.
pub record Sheet : Type 0 where
  pub names : List (List ℕ)
  pub templates : List Tree

-- A call: `put` a value under a name, or `page`, which renders a template by its number with a tray into a buffer and a trail of some lengths.
pub data Call : Type 0 where
  put : (called : List ℕ) → Datum → Call
  page : (number : ℕ) → Host → (buffer trail : ℕ) → Call

-- the number of a name of the sheet
abbrev pub name_number : Sheet → List ℕ → Option ℕ
name_number s k = cond (reserved k) None (first_from (same_text k) 0 s.names)

abbrev pub held_datum : Datum → Held
held_datum operand.nil = nil
held_datum (operand.boolean b) = boolean b
held_datum (operand.whole z) = whole z
held_datum (operand.text t) = text t

-- a text of at most 256 bytes, and any other datum
abbrev pub short_datum : Datum → Bool
short_datum operand.nil = true
short_datum (operand.boolean b) = true
short_datum (operand.whole z) = true
short_datum (operand.text t) = nat_le (length t) 256

-- What a call comes to before it is made: a refusal's number, a variable to be set, or a template to be rendered.
pub data Judged : Type 0 where
  refusal : ℕ → Judged
  sets : ℕ → Held → Judged
  renders : Tree → Host → (buffer : ℕ) → Judged

abbrev pub judged_put : Option ℕ → Datum → Judged
judged_put None v = refusal 11
judged_put (Some n) v = cond (short_datum v) (sets n (held_datum v)) (refusal 11)

abbrev pub judged_page : Option Tree → Host → ℕ → ℕ → Judged
judged_page None h buffer trail = refusal 12
judged_page (Some t) h buffer trail = cond (nat_le 16 trail) (renders t h buffer) (refusal 12)

-- whether a call is refused does not depend on the drawers
abbrev pub judged : Sheet → Call → Judged
judged s (put k v) = judged_put (name_number s k) v
judged s (page i h buffer trail) = judged_page (slice_get s.templates i) h buffer trail

abbrev pub judged_reads : Judged → List Thing
judged_reads (refusal n) = []
judged_reads (sets n v) = []
judged_reads (renders t h buffer) = reads t

abbrev pub judged_writes : Judged → List Thing
judged_writes (refusal n) = []
judged_writes (sets n v) = name n ∷ []
judged_writes (renders t h buffer) = writes t

abbrev pub call_reads : Sheet → Call → List Thing
call_reads s c = judged_reads (judged s c)

abbrev pub call_writes : Sheet → Call → List Thing
call_writes s c = judged_writes (judged s c)

abbrev pub In : {A : Type 0} → A → List A → Type 0
In x [] = ⊥
In x (y ∷ ys) = (x ≡ y) ⊎ In x ys

-- two lists have an element in common
abbrev pub Meet : {A : Type 0} → List A → List A → Type 0
Meet {A} xs ys = (x : A) × In x xs × In x ys

-- one writes what the other reads or writes
abbrev pub Clash : Sheet → Call → Call → Type 0
Clash s a b =
    Meet (call_writes s a) (call_reads s b ++ call_writes s b) ⊎
    Meet (call_writes s b) (call_reads s a ++ call_writes s a)

-- What a call gives: a refusal's number; done, for a `put`; or a rendered ticket: the fault if there was one, the whole buffer, and sixteen trail records.
pub data Result : Type 0 where
  refused : ℕ → Result
  accepted : Result
  rendered : Option Fault → List ℕ → List TrailRecord → Result

-- the number of a result: 0, a refusal's or a fault's
abbrev pub number_of_result : Result → ℕ
number_of_result (refused n) = n
number_of_result accepted = 0
number_of_result (rendered None buffer trail) = 0
number_of_result (rendered (Some f) buffer trail) = f.number

-- the text, then zeros to the end of the buffer
abbrev pub filled : ℕ → List ℕ → List ℕ
filled limit o = o ++ replicate (limit - length o) 0

-- a set interrupt means nothing at the end of a template
abbrev pub ticket : ℕ → Step Flow → Result
ticket limit (step d o (gives f)) = rendered None (filled limit o) (sixteen [])
ticket limit (step d o (stops f)) = rendered (Some f) (filled limit o) (sixteen f.trail)

abbrev pub text_after : {A : Type 0} → Step A → List ℕ
text_after (step d o e) = o

abbrev pub drawers_after : {A : Type 0} → Step A → Drawers
drawers_after (step d o e) = d

module _ (s : Sheet) (bank : Meaning) where
  abbrev pub act : Judged → Act Flow
  act (refusal n) = pure onward
  act (sets n v) = alter (name n) (with_variable v) and_then λ _. pure onward
  act (renders t h buffer) = render (record { names = s.names; host = h; bank = bank; limit = buffer }) t []

  abbrev pub result : Judged → Step Flow → Result
  result (refusal n) r = refused n
  result (sets n v) r = accepted
  result (renders t h buffer) r = ticket buffer r

  -- a call from some drawers, with nothing in the buffer: its result, and the drawers after it
  unfoldable pub perform : Call → Drawers → Result × Drawers
  perform c d = (result (judged s c) (act (judged s c) d []), drawers_after (act (judged s c) d []))

  -- calls made one after the other, each from the drawers that the one before left
  abbrev pub run : List Call → Drawers → List Result × Drawers
  run [] d = ([], d)
  run (c ∷ cs) d =
      let (r, d') = perform c d in
      let (rs, d'') = run cs d' in
      (r ∷ rs, d'')
