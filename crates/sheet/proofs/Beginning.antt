-- Elements as they begin.
use Rattle.std.proofs.Common.{◌≡◌, ℕ, zero, suc, ◌+◌, ◌-◌, ◌<◌, ◌≤◌, length, map, Some, None, Ok, Err, vec_items, Option, Result, refl, sym, ap, ap₂, ◌∙◌, subst, arith}
use Rattle.cutter.specs.declared.places.Placed.{Placed}
use Rattle.cutter.specs.declared.state.Kind.{Kind}
use Rattle.cutter.specs.declared.pieces.Piece.{Piece}
use Rattle.cutter.specs.declared.pieces.Piece.TheVariants.{Text, Mark}
use Rattle.cutter.specs.Ahead.{ahead}
use Rattle.cutter.specs.Left.{left}
use Rattle.cutter.specs.Words.{verdict}
use Rattle.nodes.specs.Wider.{Wider, Front}
use Rattle.nodes.proofs.Options.{front_refl}
use Rattle.nodes.proofs.Widens.{wider_refl}
use Rattle.arguments.specs.declared.refusals.Stop.{Stop}
use Rattle.arguments.specs.declared.refusals.Stop.TheVariants.{Refused, Memory}
use Rattle.arguments.specs.Refusals.{number_of}
use Rattle.arguments.specs.Judging.{Seen, seen, refuses, passes, state}
use Rattle.arguments.specs.Marks.{inside, SameTables, Begins}
use Rattle.arguments.specs.Tables.{part_in, cycle_of, asked_in, pool_of, lists_of, under, Said, Shown, Grown}
use Rattle.sheet.specs.declared.parser.Parser.{Parser}
use Rattle.sheet.specs.declared.names.Known.{Known}
use Rattle.sheet.specs.Steps.{Outcome, fails, gives, Step, give, followed, pieces}
use Rattle.sheet.specs.Names.{known_as, tag_name}
use Rattle.sheet.specs.Blocks.{tag}
use Rattle.sheet.specs.Parsing.{Elements, Found, other, elements, rests, marked, cut_whole, a_mark, a_tag, tag_by, named}
use Rattle.sheet.specs.declared.names.Block as code
use Rattle.sheet.specs.Answers.{source_of, nodes_of, count, cut_of, taken, tag_in, Fails, Did, Went, Finds, found, ElementRead, MarkRead, TagRead}
use Rattle.sheet.proofs.Setting.{made}

-- the same tables say the same
lists_begun : (d e : Rattle.arguments.specs.declared.reader.Reader.Reader) → SameTables d e → lists_of e ≡ lists_of d
lists_begun d e h =
    ap (λ t. made t (map cycle_of (vec_items e.cycles)) (length (vec_items e.nodes)) (map (asked_in e.source.now) (vec_items e.filters))) (ap₂ (λ s l. map (part_in s) l) (ap (λ x. x.now) h.source) h.names)
    ∙ ap (λ t. made (map (part_in d.source.now) (vec_items d.names)) t (length (vec_items e.nodes)) (map (asked_in e.source.now) (vec_items e.filters))) (ap (map cycle_of) h.cycles)
    ∙ ap (λ t. made (map (part_in d.source.now) (vec_items d.names)) (map cycle_of (vec_items d.cycles)) t (map (asked_in e.source.now) (vec_items e.filters))) (ap length h.nodes)
    ∙ ap (λ t. made (map (part_in d.source.now) (vec_items d.names)) (map cycle_of (vec_items d.cycles)) (length (vec_items d.nodes)) t) (ap₂ (λ s l. map (asked_in s) l) (ap (λ x. x.now) h.source) h.filters)

front_same : {A : Type 0} (xs ys : Rattle.std.proofs.Common.List A) → ys ≡ xs → Front xs ys
front_same xs ys e = subst (Front xs) (sym e) (front_refl xs)

-- a mark is begun
module _ (room : ℕ) (kind : Kind) (m : Placed) (p q : Parser) (c : q.cutter ≡ p.cutter) (e : q.end ≡ p.end) where
  abbrev pub whole : ℕ → Outcome Found
  whole n = taken (found (source_of p) p.end n room (Mark kind m)) p

  pub begin_refused : (x : Stop) → Begins p.reader m.place m.bytes.now (Err x) q.reader → (n : ℕ) → Fails x (whole n)
  unfolding a_mark
  begin_refused (Refused k place) h n =
      ap (λ v. taken (cut_whole p.end room (elements (source_of p) p.end n (room - 1)) (λ b t. rests (source_of p) p.end n (room - 1) b t) m.place v kind (inside (source_of p) m.place m.bytes.now)) p) h.0
      ∙ ap (λ x. fails (number_of x) place) (sym h.1)
  begin_refused Memory h n = tt

  pub begin_stopped : (x : Stop) → Begins p.reader m.place m.bytes.now (Err x) q.reader → Went p q
  begin_stopped (Refused k place) h =
      record {
        pool = subst (λ r. Wider (pool_of p.reader) (pool_of r)) (sym h.2) (wider_refl (pool_of p.reader));
        names = subst (λ r. Front (vec_items p.reader.names) (vec_items r.names)) (sym h.2) (front_refl _);
        cycles = subst (λ r. Front (vec_items p.reader.cycles) (vec_items r.cycles)) (sym h.2) (front_refl _);
        nodes = subst (λ r. Front (vec_items p.reader.nodes) (vec_items r.nodes)) (sym h.2) (front_refl _);
        end = e;
        pieces = omega (arith, ap (λ x. pieces (left x)) c);
      }
  begin_stopped Memory h = absurd h

  module _ (h : Begins p.reader m.place m.bytes.now (Ok (tt {0})) q.reader) where
    kept : SameTables p.reader q.reader
    kept = h.3

    pub begin_went : Went p q
    begin_went =
        record {
          pool =
              record {
                source = ap (λ x. x.now) kept.source;
                names = omega (arith, ap length kept.names);
                cycles = omega (arith, ap length kept.cycles);
                steps = front_same _ _ kept.steps;
                values = front_same _ _ kept.values;
                filters = front_same _ _ kept.filters;
              };
          names = front_same _ _ kept.names;
          cycles = front_same _ _ kept.cycles;
          nodes = front_same _ _ kept.nodes;
          end = e;
          pieces = omega (arith, ap (λ x. pieces (left x)) c);
        }

    at_mark : (n : ℕ) → whole n ≡ taken (marked q.end room (elements (source_of q) q.end n (room - 1)) (λ b t. rests (source_of q) q.end n (room - 1) b t) q.reader.mark kind (ahead q.reader.cursor)) q
    unfolding a_mark
    at_mark n =
        ap (λ v. taken (cut_whole p.end room (elements (source_of p) p.end n (room - 1)) (λ b t. rests (source_of p) p.end n (room - 1) b t) m.place v kind (inside (source_of p) m.place m.bytes.now)) p) h.0
        ∙ ap₂ (λ a w. taken (marked p.end room (elements (source_of p) p.end n (room - 1)) (λ b t. rests (source_of p) p.end n (room - 1) b t) a kind w) p) (sym h.1) (sym h.2)
        ∙ ap₂ (λ a l. marked p.end room (elements (source_of p) p.end n (room - 1)) (λ b t. rests (source_of p) p.end n (room - 1) b t) q.reader.mark kind (ahead q.reader.cursor) a l) (ap left (sym c)) (sym (lists_begun p.reader q.reader kept))
        ∙ ap₂ (λ s z. taken (marked z room (elements s z n (room - 1)) (λ b t. rests s z n (room - 1) b t) q.reader.mark kind (ahead q.reader.cursor)) q) (sym (ap (λ x. x.now) kept.source)) (sym e)

    finds_at : (s : Parser) (w : Option Placed) (y : Found) → Finds room q s w y → Finds room p s w y
    finds_at s None (Rattle.sheet.specs.Parsing.a_leaf at x) d = subst (λ i. Rattle.nodes.specs.Built.Leads (pool_of s.reader) (nodes_of s) room i (count s) (λ t. Rattle.tree.specs.Elements.leaf at x t)) (ap length kept.nodes) d
    finds_at s None (Rattle.sheet.specs.Parsing.a_block at x a) d = subst (λ i. Rattle.nodes.specs.Built.Leads (pool_of s.reader) (nodes_of s) room i (count s) (λ t. Rattle.tree.specs.Elements.block at x a t)) (ap length kept.nodes) d
    finds_at s None (other t) d = absurd d
    finds_at s (Some w) (Rattle.sheet.specs.Parsing.a_leaf at x) d = absurd d
    finds_at s (Some w) (Rattle.sheet.specs.Parsing.a_block at x a) d = absurd d
    finds_at s (Some w) (other t) d = (d.0, d.1 ∙ kept.nodes)

    did_at : (s : Parser) (r : Result (Option Placed) Stop) (n : ℕ) → Did r (taken (marked q.end room (elements (source_of q) q.end n (room - 1)) (λ b t. rests (source_of q) q.end n (room - 1) b t) q.reader.mark kind (ahead q.reader.cursor)) q) (Finds room q s) s → Did r (whole n) (Finds room p s) s
    did_at s (Ok w) n d = let (y, f, g) = d in (y, finds_at s w y f, at_mark n ∙ g)
    did_at s (Err x) n d = subst (Fails x) (sym (at_mark n)) d

    pub begun : (s : Parser) (r : Result (Option Placed) Stop) → MarkRead room kind q r s → ElementRead room (Mark kind m) p r s
    begun s r d n f = did_at s r n (d n (omega (arith, f, ap (λ x. pieces (left x)) c)))

-- a tag by its name
module _ (room : ℕ) (p q : Parser) (c : q.cutter ≡ p.cutter) (e : q.end ≡ p.end) where
  abbrev pub all : ℕ → Outcome Found
  all n = taken (a_tag p.end room (elements (source_of p) p.end n (room - 1)) (λ b t. rests (source_of p) p.end n (room - 1) b t) p.reader.mark (ahead p.reader.cursor)) p

  pub tag_refused : (x : Stop) → Said (Err x) (tag_name p.reader.mark (under p.reader)) (Shown (source_of p)) (under q.reader) → (n : ℕ) → Fails x (all n)
  unfolding a_tag
  tag_refused (Refused k place) h n = ap (λ v. named p.end room (elements (source_of p) p.end n (room - 1)) (λ b t. rests (source_of p) p.end n (room - 1) b t) p.reader.mark v (cut_of p) (lists_of p.reader)) h
  tag_refused Memory h n = tt

  module _ (w : Placed) (h : Said (Ok w) (tag_name p.reader.mark (under p.reader)) (Shown (source_of p)) (under q.reader)) (g : Grown p.reader q.reader) where
    pub tag_went : Went p q
    tag_went = record { pool = g.pool; names = g.names; cycles = g.cycles; nodes = front_same _ _ g.nodes; end = e; pieces = omega (arith, ap (λ x. pieces (left x)) c) }

    pub named_is : (n : ℕ) → all n ≡ taken (tag_by q.end room (elements (source_of q) q.end n (room - 1)) (λ b t. rests (source_of q) q.end n (room - 1) b t) q.reader.mark (known_as w.bytes.now) (seen w.place w.bytes.now) (ahead q.reader.cursor)) q
    unfolding a_tag
    named_is n =
        let (y, d, is) = h in
        ap (λ v. named p.end room (elements (source_of p) p.end n (room - 1)) (λ b t. rests (source_of p) p.end n (room - 1) b t) p.reader.mark v (cut_of p) (lists_of p.reader)) is
        ∙ ap (λ z. tag_by p.end room (elements (source_of p) p.end n (room - 1)) (λ b t. rests (source_of p) p.end n (room - 1) b t) p.reader.mark (known_as z.bytes) z (ahead q.reader.cursor) (cut_of p) (lists_of q.reader)) d.is
        ∙ ap₂ (λ a z. tag_by p.end room (elements (source_of p) p.end n (room - 1)) (λ b t. rests (source_of p) p.end n (room - 1) b t) a (known_as w.bytes.now) (seen w.place w.bytes.now) (ahead q.reader.cursor) z (lists_of q.reader)) (sym g.mark) (ap left (sym c))
        ∙ ap₂ (λ s z. taken (tag_by z room (elements s z n (room - 1)) (λ b t. rests s z n (room - 1) b t) q.reader.mark (known_as w.bytes.now) (seen w.place w.bytes.now) (ahead q.reader.cursor)) q) (sym g.pool.source) (sym e)

    pub known_is : (n : ℕ) (k : Option Known) → k ≡ known_as w.bytes.now → all n ≡ taken (tag_by q.end room (elements (source_of q) q.end n (room - 1)) (λ b t. rests (source_of q) q.end n (room - 1) b t) q.reader.mark k (seen w.place w.bytes.now) (ahead q.reader.cursor)) q
    known_is n k i = named_is n ∙ ap (λ z. taken (tag_by q.end room (elements (source_of q) q.end n (room - 1)) (λ b t. rests (source_of q) q.end n (room - 1) b t) q.reader.mark z (seen w.place w.bytes.now) (ahead q.reader.cursor)) q) (sym i)

    pub finds_from : (s : Parser) (y : Found) → Finds room q s None y → Finds room p s None y
    finds_from s (Rattle.sheet.specs.Parsing.a_leaf at x) d = subst (λ i. Rattle.nodes.specs.Built.Leads (pool_of s.reader) (nodes_of s) room i (count s) (λ t. Rattle.tree.specs.Elements.leaf at x t)) (ap length g.nodes) d
    finds_from s (Rattle.sheet.specs.Parsing.a_block at x a) d = subst (λ i. Rattle.nodes.specs.Built.Leads (pool_of s.reader) (nodes_of s) room i (count s) (λ t. Rattle.tree.specs.Elements.block at x a t)) (ap length g.nodes) d
    finds_from s (other t) d = absurd d

    -- any tag that begins an element
    pub tag_did : (s : Parser) (n : ℕ) (k : Option Known) → k ≡ known_as w.bytes.now → (o : Outcome Found) →
        taken (tag_by q.end room (elements (source_of q) q.end n (room - 1)) (λ b t. rests (source_of q) q.end n (room - 1) b t) q.reader.mark k (seen w.place w.bytes.now) (ahead q.reader.cursor)) q ≡ o →
        Did (Ok (tt {0})) o (λ u y. Finds room q s None y) s → Did (Ok None) (all n) (Finds room p s) s
    tag_did s n k i o is d = let (y, f, v) = d in (y, finds_from s y f, known_is n k i ∙ is ∙ v)

    pub tag_did_not : (x : Stop) (n : ℕ) (k : Option Known) → k ≡ known_as w.bytes.now → (o : Outcome Found) →
        taken (tag_by q.end room (elements (source_of q) q.end n (room - 1)) (λ b t. rests (source_of q) q.end n (room - 1) b t) q.reader.mark k (seen w.place w.bytes.now) (ahead q.reader.cursor)) q ≡ o →
        Fails x o → Fails x (all n)
    tag_did_not x n k i o is d = subst (Fails x) (sym (known_is n k i ∙ is)) d

    pub tag_other : None ≡ known_as w.bytes.now → TagRead room p (Ok (Some w)) q
    tag_other i n f = (other (tag_in q w), (refl, g.nodes), known_is n None i)
