-- The grammar of elements: which pieces are a writing of which tree. Counts, lengths and depths have no limits here.
use Rattle.std.specs.Prelude.{◌≡◌, ℕ, ◌⊎◌, List, Some, None, codes}
use Rattle.cutter.specs.Words.{Words, over, verdict}
use Rattle.cutter.specs.Cuts.{Cut, done as no_pieces, text, mark}
use Rattle.cutter.specs.declared.state.Kind.TheVariants.{Tag as is_tag, Output as is_output}
use Rattle.tree.specs.Expressions.{Expr, Chain}
use Rattle.tree.specs.Elements.{Leaf, plain, output, Block, case_block, Guard, always, Tree, done, leaf, block, Arms, no_arms, arm}
use Rattle.arguments.specs.Marks.{inside}
use Rattle.sheet.specs.declared.names.Simple.{Simple}
use Rattle.sheet.specs.declared.names.Block as code
use Rattle.sheet.specs.declared.names.Block.TheVariants as kind
use Rattle.sheet.specs.declared.names.Known.TheVariants as known
use Rattle.sheet.specs.Names.{known_as}
use Rattle.sheet.specs.Names.{end_tag}
use Rattle.sheet.specs.Grammar.{Env, Begins, TheWord, ValueIs, ChainIs}
use Rattle.sheet.specs.GrammarTags.{SimpleIs, OpensIs, FurtherIs, ElseIs}

-- the pieces c begin with a tag at place p that has this name and the tokens a behind it, and d is behind the tag
pub record TagAt (source : List ℕ) (p : ℕ) (name : List ℕ) (a : Words) (c d : Cut) : Type 0 where
  pub bytes : List ℕ
  pub is : c ≡ mark is_tag p bytes d
  pub whole : verdict (inside source p bytes) ≡ None
  pub begins : Begins (TheWord name) (inside source p bytes) a

-- an element that holds no others: a text, an output, or a tag
pub data LeafIs (e : Env) (source : List ℕ) (p : ℕ) (l : Leaf) (c d : Cut) : Type 0 where
  is_text : (b : List ℕ) → c ≡ text p b d → l ≡ plain b → LeafIs e source p l c d
  is_chain : (b : List ℕ) (x : Chain) → c ≡ mark is_output p b d → verdict (inside source p b) ≡ None → ChainIs e x (inside source p b) → l ≡ output x → LeafIs e source p l c d
  is_simple : (s : Simple) (name : List ℕ) (a : Words) → known_as name ≡ Some (known.Simple s) → TagAt source p name a c d → SimpleIs e s l a → LeafIs e source p l c d

-- the end of the part, or a tag that begins no element
pub record OtherTag (source : List ℕ) (c : Cut) : Type 0 where
  pub place : ℕ
  pub name : List ℕ
  pub a : Words
  pub d : Cut
  pub unknown : known_as name ≡ None
  pub tag : TagAt source place name a c d

abbrev pub Ends : List ℕ → Cut → Type 0
Ends source c = (c ≡ no_pieces) ⊎ OtherTag source c

-- the end tag of a block
abbrev pub EndIs : List ℕ → code.Block → Cut → Cut → Type 0
EndIs source b c d = (p : ℕ) × TagAt source p (end_tag b) over c d

mutual
  -- The pieces c begin with these elements, and d is left: the end of the part, or a tag that begins no element.
  pub data ElementsAre (e : Env) (source : List ℕ) : Tree → Cut → Cut → Type 0 where
    no_more : {c : Cut} → Ends source c → ElementsAre e source done c c
    a_leaf : {p : ℕ} {l : Leaf} {t : Tree} {c d f : Cut} → LeafIs e source p l c d → ElementsAre e source t d f → ElementsAre e source (leaf p l t) c f
    a_block : {p : ℕ} {x : Block} {more : Arms} {t : Tree} {c d f : Cut} → BlockIs e source p x more c d → ElementsAre e source t d f → ElementsAre e source (block p x more t) c f

  -- A tag that opens a block, the elements of its first arm, and what follows. The elements of a `case` before its first `when` have no meaning.
  pub data BlockIs (e : Env) (source : List ℕ) : ℕ → Block → Arms → Cut → Cut → Type 0 where
    opens : {p : ℕ} {x : Block} {g : Guard} {t : Tree} {more : Arms} {c d f h : Cut} (b : code.Block) (name : List ℕ) (a : Words) →
        known_as name ≡ Some (known.Block b) → TagAt source p name a c d → OpensIs e b x g a → ElementsAre e source t d f → ArmsAre e source b more f h → BlockIs e source p x (arm g t more) c h
    opens_case : {p : ℕ} {y : Expr} {t : Tree} {more : Arms} {c d f h : Cut} (name : List ℕ) (a : Words) →
        known_as name ≡ Some (known.Block kind.Case) → TagAt source p name a c d → Begins (ValueIs e y) a over → ElementsAre e source t d f → ArmsAre e source kind.Case more f h → BlockIs e source p (case_block y) more c h

  -- What follows behind elements of a block: its end tag; an `else`, its elements and the end tag; or a further arm.
  pub data ArmsAre (e : Env) (source : List ℕ) : code.Block → Arms → Cut → Cut → Type 0 where
    the_end : {b : code.Block} {c d : Cut} → EndIs source b c d → ArmsAre e source b no_arms c d
    an_else : {b : code.Block} {t : Tree} {c d f h : Cut} (p : ℕ) (a : Words) →
        TagAt source p (codes "else") a c d → ElseIs b a → ElementsAre e source t d f → EndIs source b f h → ArmsAre e source b (arm always t no_arms) c h
    further : {b : code.Block} {g : Guard} {t : Tree} {more : Arms} {c d f h : Cut} (p : ℕ) (name : List ℕ) (a : Words) →
        TagAt source p name a c d → FurtherIs e b g name a → ElementsAre e source t d f → ArmsAre e source b more f h → ArmsAre e source b (arm g t more) c h
