-- The names of tags.
use Rattle.std.specs.Prelude.{ℕ, cond, List, Some, None, codes, Option}
use Rattle.std.specs.Option.{option_map}
use Rattle.tray.specs.Parts.{same_text}
use Rattle.arguments.specs.Judging.{Judge, ◌next◌, pure, refuse, Seen, token_if}
use Rattle.arguments.specs.Values.{read, bare}
use Rattle.sheet.specs.declared.names.Simple.{Simple}
use Rattle.sheet.specs.declared.names.Simple.TheVariants as simple
use Rattle.sheet.specs.declared.names.Block.{Block}
use Rattle.sheet.specs.declared.names.Block.TheVariants as block
use Rattle.sheet.specs.declared.names.Known.{Known}
use Rattle.sheet.specs.declared.names.Known.TheVariants as known
use Rattle.sheet.specs.declared.names.Closer.{Closer}
use Rattle.sheet.specs.declared.names.Closer.TheVariants as closing

-- the tags that hold no elements
abbrev pub simple_as : List ℕ → Option Simple
simple_as n =
    cond (same_text n (codes "assign")) (Some simple.Assign)
    (cond (same_text n (codes "increment")) (Some simple.Increment)
    (cond (same_text n (codes "decrement")) (Some simple.Decrement)
    (cond (same_text n (codes "cycle")) (Some simple.Cycle)
    (cond (same_text n (codes "break")) (Some simple.Break)
    (cond (same_text n (codes "continue")) (Some simple.Continue) None)))))

-- the tags that hold elements
abbrev pub block_as : List ℕ → Option Block
block_as n =
    cond (same_text n (codes "if")) (Some block.If)
    (cond (same_text n (codes "unless")) (Some block.Unless)
    (cond (same_text n (codes "case")) (Some block.Case)
    (cond (same_text n (codes "for")) (Some block.For)
    (cond (same_text n (codes "tablerow")) (Some block.Tablerow)
    (cond (same_text n (codes "capture")) (Some block.Capture)
    (cond (same_text n (codes "ifchanged")) (Some block.Ifchanged) None))))))

abbrev pub known_by : Option Simple → Option Block → Option Known
known_by (Some s) b = Some (known.Simple s)
known_by None b = option_map known.Block b

-- the tags that begin an element
abbrev pub known_as : List ℕ → Option Known
known_as n = known_by (simple_as n) (block_as n)

-- the name of the end tag
abbrev pub end_tag : Block → List ℕ
end_tag block.If = codes "endif"
end_tag block.Unless = codes "endunless"
end_tag block.Case = codes "endcase"
end_tag block.For = codes "endfor"
end_tag block.Tablerow = codes "endtablerow"
end_tag block.Capture = codes "endcapture"
end_tag block.Ifchanged = codes "endifchanged"

-- what a tag that begins no element is to a block whose end tag has the name e
abbrev pub closer : List ℕ → List ℕ → Closer
closer e n =
    cond (same_text n e) closing.End
    (cond (same_text n (codes "else")) closing.Else
    (cond (same_text n (codes "elsif")) closing.Elsif
    (cond (same_text n (codes "when")) closing.When closing.Other)))

abbrev pub named_so : Seen → Option (List ℕ) → Judge Seen
named_so w None = refuse 5 w.place
named_so w (Some n) = pure w

abbrev pub first_token : ℕ → Option Seen → Judge Seen
first_token m None = refuse 5 m
first_token m (Some w) = named_so w (bare (read w))

-- the name of a tag: its first token, a bare name
unfoldable pub tag_name : ℕ → Judge Seen
tag_name m = token_if Some next λ w. first_token m w
