-- What the parser's functions answer.
use Rattle.std.specs.Prelude.{◌≡◌, ℕ, suc, ◌-◌, ◌<◌, ◌≤◌, List, length, Some, None, Ok, Err, vec_items, Option, Result}
use Rattle.std.specs.Option.{option_map}
use Rattle.cutter.specs.Ahead.{ahead}
use Rattle.cutter.specs.Cuts.{Cut, done as no_pieces, unclosed, text, mark}
use Rattle.cutter.specs.Left.{left}
use Rattle.cutter.specs.declared.places.Placed.{Placed}
use Rattle.cutter.specs.declared.state.Kind.{Kind}
use Rattle.cutter.specs.declared.pieces.Piece.{Piece}
use Rattle.cutter.specs.declared.pieces.Piece.TheVariants.{Text, Mark}
use Rattle.tree.specs.Elements.{Tree, leaf, block, Arms, arm}
use Rattle.tree.specs.Elements as tree
use Rattle.nodes.specs.declared.table.Next.{Next}
use Rattle.nodes.specs.declared.table.Arm.{Arm}
use Rattle.nodes.specs.declared.table.Guard.{Guard}
use Rattle.nodes.specs.declared.table.Node.{Node}
use Rattle.nodes.specs.Wider.{Wider, Front}
use Rattle.nodes.specs.Built.{Body, ArmsIn, Leads}
use Rattle.arguments.specs.declared.refusals.Stop.{Stop}
use Rattle.arguments.specs.declared.refusals.Stop.TheVariants.{Refused, Memory}
use Rattle.arguments.specs.declared.refusals.Refusal.TheVariants.{Unclosed}
use Rattle.arguments.specs.Refusals.{number_of}
use Rattle.arguments.specs.Marks.{inside}
use Rattle.arguments.specs.Tables.{pool_of, lists_of, Lies}
use Rattle.sheet.specs.declared.parser.Parser.{Parser}
use Rattle.sheet.specs.declared.names.Block as code
use Rattle.sheet.specs.Steps.{Outcome, fails, gives, Step, pieces}
use Rattle.sheet.specs.Blocks.{Tag}
use Rattle.sheet.specs.Opening.{tag_of}
use Rattle.sheet.specs.Parsing.{Found, a_leaf, a_block, other, Elements, Inner, a_text, marked, a_tag, a_mark, elements, inner, arm_of, block_at, rests}

abbrev pub source_of : Parser → List ℕ
source_of p = p.reader.source.now

abbrev pub nodes_of : Parser → List Node
nodes_of p = vec_items p.reader.nodes

abbrev pub count : Parser → ℕ
count p = length (nodes_of p)

abbrev pub cut_of : Parser → Cut
cut_of p = left p.cutter

-- a step taken with what is left
abbrev pub taken : {A : Type 0} → Step A → Parser → Outcome A
taken m p = m (cut_of p) (lists_of p.reader)

-- the tag of the mark that is read, by its name
abbrev pub tag_in : Parser → Placed → Tag
tag_in p w = tag_of p.reader w

-- the definition's refusal, or want of memory
abbrev pub Fails : {B : Type 0} → Stop → Outcome B → Type 0
Fails (Refused k p) v = v ≡ fails (number_of k) p
Fails Memory v = Prim.Unit {0}

-- What was read, as D ties it to the definition's; or a refusal.
abbrev pub Did : {A B : Type 0} → Result A Stop → Outcome B → (A → B → Type 0) → Parser → Type 0
Did {A} {B} (Ok x) v D q = (y : B) × D x y × (v ≡ gives y (cut_of q) (lists_of q.reader))
Did (Err e) v D q = Fails e v

-- The tables have only grown, and no pieces are left that were not.
pub record Went (p q : Parser) : Type 0 where
  pub pool : Wider (pool_of p.reader) (pool_of q.reader)
  pub names : Front (vec_items p.reader.names) (vec_items q.reader.names)
  pub cycles : Front (vec_items p.reader.cycles) (vec_items q.reader.cycles)
  pub nodes : Front (nodes_of p) (nodes_of q)
  pub end : q.end ≡ p.end
  pub pieces : pieces (cut_of q) ≤ pieces (cut_of p)

-- where a tag was met, at least one piece was taken
abbrev pub Met : Parser → Result (Option Placed) Stop → Parser → Type 0
Met p (Ok (Some w)) q = suc (pieces (cut_of q)) ≤ pieces (cut_of p)
Met p (Ok None) q = Prim.Unit {0}
Met p (Err e) q = Prim.Unit {0}

abbrev pub MetOne : {A : Type 0} → Parser → Result A Stop → Parser → Type 0
MetOne p (Ok w) q = suc (pieces (cut_of q)) ≤ pieces (cut_of p)
MetOne p (Err e) q = Prim.Unit {0}

-- the next piece, which stands in the source
abbrev pub Takes : Parser → Result (Option Piece) Stop → Parser → Type 0
Takes p (Ok None) q = (cut_of p ≡ no_pieces) × (cut_of q ≡ no_pieces)
Takes p (Ok (Some (Text t))) q = (cut_of p ≡ text t.place t.bytes.now (cut_of q)) × Lies (source_of p) t.place t.bytes.now
Takes p (Ok (Some (Mark k m))) q = cut_of p ≡ mark k m.place m.bytes.now (cut_of q)
Takes p (Err (Refused k place)) q = (cut_of p ≡ unclosed place) × (k ≡ Unclosed) × (cut_of q ≡ cut_of p)
Takes p (Err Memory) q = ⊥

-- the nodes that were pushed are the elements
abbrev pub Bodies : ℕ → Parser → Parser → Option Placed → Elements → Type 0
Bodies room p q w y = Body (pool_of q.reader) (nodes_of q) room (count p) (count q) y.tree × (y.ending ≡ option_map (tag_in q) w)

abbrev pub ElementsRead : ℕ → Parser → Result (Option Placed) Stop → Parser → Type 0
ElementsRead room p r q = (n : ℕ) → pieces (cut_of p) < n → Did r (taken (elements (source_of p) p.end n room) p) (Bodies room p q) q

abbrev pub Inners : ℕ → Parser → Parser → Placed → Inner → Type 0
Inners room p q w y = Body (pool_of q.reader) (nodes_of q) room (count p) (count q) y.tree × (y.ending ≡ tag_in q w)

abbrev pub InnerRead : ℕ → Parser → Result Placed Stop → Parser → Type 0
InnerRead room p r q = (n : ℕ) → pieces (cut_of p) < n → Did r (taken (inner p.end (elements (source_of p) p.end n room)) p) (Inners room p q) q

-- the nodes that were pushed are an element, or there is none
abbrev pub Finds : ℕ → Parser → Parser → Option Placed → Found → Type 0
Finds room p q None (a_leaf at x) = Leads (pool_of q.reader) (nodes_of q) room (count p) (count q) (λ t. leaf at x t)
Finds room p q None (a_block at x a) = Leads (pool_of q.reader) (nodes_of q) room (count p) (count q) (λ t. block at x a t)
Finds room p q None (other t) = ⊥
Finds room p q (Some w) (a_leaf at x) = ⊥
Finds room p q (Some w) (a_block at x a) = ⊥
Finds room p q (Some w) (other t) = (t ≡ tag_in q w) × (nodes_of q ≡ nodes_of p)

-- an element without elements
abbrev pub Leafs : Parser → Parser → Prim.Unit {0} → Found → Type 0
Leafs p q u y = (room : ℕ) → Finds room p q None y

-- an element, or a tag that begins none, for a piece that was taken
abbrev pub found : List ℕ → ℕ → ℕ → ℕ → Piece → Step Found
found source end n room (Text t) = a_text t.place t.bytes.now
found source end n room (Mark k m) =
    a_mark end room (elements source end n (room - 1)) (λ b t. rests source end n (room - 1) b t) m.place k (inside source m.place m.bytes.now)

abbrev pub ElementRead : ℕ → Piece → Parser → Result (Option Placed) Stop → Parser → Type 0
ElementRead room piece p r q = (n : ℕ) → pieces (cut_of p) < n → Did r (taken (found (source_of p) p.end n room piece) p) (Finds room p q) q

-- a text that is taken stands in the source
abbrev pub StandsIn : List ℕ → Piece → Type 0
StandsIn source (Text t) = Lies source t.place t.bytes.now
StandsIn source (Mark k m) = Prim.Unit {0}

-- a mark that is begun
abbrev pub MarkRead : ℕ → Kind → Parser → Result (Option Placed) Stop → Parser → Type 0
MarkRead room k p r q =
    (n : ℕ) → pieces (cut_of p) < n →
    Did r (taken (marked p.end room (elements (source_of p) p.end n (room - 1)) (λ b t. rests (source_of p) p.end n (room - 1) b t) p.reader.mark k (ahead p.reader.cursor)) p)
    (Finds room p q) q

abbrev pub TagRead : ℕ → Parser → Result (Option Placed) Stop → Parser → Type 0
TagRead room p r q =
    (n : ℕ) → pieces (cut_of p) < n →
    Did r (taken (a_tag p.end room (elements (source_of p) p.end n (room - 1)) (λ b t. rests (source_of p) p.end n (room - 1) b t) p.reader.mark (ahead p.reader.cursor)) p)
    (Finds room p q) q

abbrev pub BlockRead : ℕ → code.Block → Parser → Result (Prim.Unit {0}) Stop → Parser → Type 0
BlockRead room b p r q =
    (n : ℕ) → pieces (cut_of p) < n →
    Did r (taken (block_at p.end (elements (source_of p) p.end n (room - 1)) room p.reader.mark (λ c t. rests (source_of p) p.end n (room - 1) c t) b (ahead p.reader.cursor)) p)
    (λ u y. Finds room p q None y) q

-- an arm whose elements begin where the nodes ended, and those behind it
pub record Arming (room : ℕ) (g : Guard) (h : tree.Guard) (p q : Parser) (a : Arm) (y : Arms) : Type 0 where
  pub body : Tree
  pub rest : Arms
  pub is : y ≡ arm h body rest
  pub guard : a.guard ≡ g
  pub from : a.body ≡ count p
  pub order : a.body ≤ a.next
  pub to : a.next ≤ count q
  pub elements : Body (pool_of q.reader) (nodes_of q) room a.body a.next body
  pub arms : ArmsIn (pool_of q.reader) (nodes_of q) a.then room a.next (count q) rest

abbrev pub ArmRead : ℕ → code.Block → Guard → Parser → Result Arm Stop → Parser → Type 0
ArmRead room b g p r q =
    (n : ℕ) (h : tree.Guard) → pieces (cut_of p) < n →
    Did r (taken (arm_of p.end (elements (source_of p) p.end n room) h (λ t. rests (source_of p) p.end n room b t)) p) (Arming room g h p q) q

-- the nodes that were pushed are the arms
abbrev pub Armed : ℕ → Parser → Parser → Next → Arms → Type 0
Armed room p q x y = ArmsIn (pool_of q.reader) (nodes_of q) x room (count p) (count q) y

abbrev pub RestRead : ℕ → code.Block → Placed → Parser → Result Next Stop → Parser → Type 0
RestRead room b w p r q =
    (n : ℕ) → suc (pieces (cut_of p)) < n → Did r (taken (rests (source_of p) p.end n room b (tag_in p w)) p) (Armed room p q) q

-- the nodes are the same
abbrev pub Same : Parser → Parser → Prim.Unit {0} → Prim.Unit {0} → Type 0
Same p q u y = nodes_of q ≡ nodes_of p

-- the tables have only grown
pub record Grew (p q : Parser) : Type 0 where
  pub pool : Wider (pool_of p.reader) (pool_of q.reader)
  pub names : Front (vec_items p.reader.names) (vec_items q.reader.names)
  pub cycles : Front (vec_items p.reader.cycles) (vec_items q.reader.cycles)
  pub nodes : Front (nodes_of p) (nodes_of q)
