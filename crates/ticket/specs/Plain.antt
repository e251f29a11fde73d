-- JSON values that a name can get.
use Rattle.std.specs.Prelude.{ℕ, List, [], ◌∷◌, Option, Some, None, Vec, vec_items}
use Rattle.std.specs.Global.{Global}
use Rattle.banks.specs.Operands as operand
use Rattle.banks.specs.Operands.{Datum}
use Rattle.ticket.specs.declared.json.document.Json.{Json}
use Rattle.ticket.specs.declared.json.document.Kind.{Kind}
use Rattle.ticket.specs.declared.json.document.Kind.TheVariants as kind
use Rattle.ticket.specs.declared.json.document.Node.{Node}
use Rattle.ticket.specs.declared.json.plain.Plain.{Plain}
use Rattle.ticket.specs.declared.json.plain.Plain.TheVariants.{Nil, Flag, Whole, Text}

-- of a value of this kind; a text is all of the texts
abbrev pub plain_of : Kind → Vec ℕ Global → Option Plain
plain_of kind.Nil texts = Some Nil
plain_of (kind.Flag b) texts = Some (Flag b)
plain_of (kind.Whole z) texts = Some (Whole z)
plain_of (kind.Text p) texts = Some (Text texts)
plain_of (kind.Array n) texts = None
plain_of (kind.Object n) texts = None

abbrev pub plain_first : List Node → Vec ℕ Global → Option Plain
plain_first [] texts = None
plain_first (n ∷ ns) texts = plain_of n.kind texts

abbrev pub plain_in : Json → Option Plain
plain_in j = plain_first (vec_items j.nodes) j.texts

-- what a name gets
abbrev pub plain_datum : Plain → Datum
plain_datum Nil = operand.nil
plain_datum (Flag b) = operand.boolean b
plain_datum (Whole z) = operand.whole z
plain_datum (Text t) = operand.text (vec_items t)
