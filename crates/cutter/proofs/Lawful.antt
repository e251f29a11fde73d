-- The laws of every cut.
use Rattle.std.proofs.Common.{◌≡◌, ℕ, ◌≤◌, List, ◌++◌, length, sym, ap, ◌∙◌, arith}
use Rattle.std.proofs.lemmas.List.{append_assoc, length-append}
use Rattle.cutter.specs.declared.state.Kind.{Kind}
use Rattle.cutter.specs.declared.state.Kind.TheVariants.{Tag, Output}
use Rattle.cutter.specs.Cuts.{Cut, done, unclosed, text, mark, opening, closing, Opens, Closes, IsText, IsMark, Cuts}
use Rattle.cutter.specs.Laws.{RightCut, OnlyCut, RightCutAt, OnlyCutAt, Whole, written, Joins, JoinsAt, Tidy, TidyPieces, TidyPiecesAt}
use Rattle.cutter.specs.Scan.{cut_at}
use Rattle.cutter.proofs.Only as unique
use Rattle.cutter.proofs.Right as scanned

pub right_cut_at : RightCutAt
right_cut_at = scanned.right_cut_at

pub only_cut_at : OnlyCutAt
only_cut_at at part w c = unique.only w (cut_at at part) at part c (right_cut_at at part)

join : (w : Cut) (at : ℕ) (p : List ℕ) → Cuts at p w → Whole w → written w ≡ p
join done at p c h = sym c
join (unclosed x) at p c h = absurd h
join (text x t w) at p c h = ap (λ l. t ++ l) (join w _ _ c.1.2 h) ∙ sym c.1.1.joins
join (mark k x i w) at p c h = ap (λ l. opening k ++ (i ++ (closing k ++ l))) (join w _ _ c.1.2 h) ∙ sym c.1.1.joins

pub joins_at : JoinsAt
joins_at at part h = join (cut_at at part) at part (right_cut_at at part) h

opens_long : (k : Kind) (b c : List ℕ) → b ≡ opening k ++ c → 2 ≤ length b
opens_long Tag b c e = omega (arith, ap length e)
opens_long Output b c e = omega (arith, ap length e)

closes_long : (k : Kind) (b c : List ℕ) → b ≡ closing k ++ c → 2 ≤ length b
closes_long Tag b c e = omega (arith, ap length e)
closes_long Output b c e = omega (arith, ap length e)

-- what falls into a and b still does with more behind b
wider : (t a b r : List ℕ) → t ≡ a ++ b → t ++ r ≡ a ++ (b ++ r)
wider t a b r e = ap (λ l. l ++ r) e ∙ append_assoc a b r

none_in_text : {p t r : List ℕ} → IsText p t r → (a b : List ℕ) → t ≡ a ++ b → Opens a b → ⊥
none_in_text {p} {t} {r} x a b e o =
    let there : Opens a (b ++ r) = record { kind = o.kind; behind = o.behind ++ r; is = wider b (opening o.kind) o.behind r o.is } in
    omega (arith, x.none a (b ++ r) (x.joins ∙ wider t a b r e) there, opens_long o.kind b o.behind o.is, ap length e, length-append a b)

none_in_mark : {k : Kind} {p i r : List ℕ} → IsMark k p i r → (a b : List ℕ) → i ≡ a ++ b → Closes k a b → ⊥
none_in_mark {k} {p} {i} {r} x a b e c =
    let end = closing k ++ r in
    let there : Closes k a (b ++ end) = record { outside = c.outside; behind = c.behind ++ end; is = wider b (closing k) c.behind end c.is } in
    omega (arith, x.first a (b ++ end) (wider i a b end e) there, closes_long k b c.behind c.is, ap length e, length-append a b)

tidied : (w : Cut) (at : ℕ) (p : List ℕ) → Cuts at p w → Tidy w
tidied done at p c = tt
tidied (unclosed x) at p c = tt
tidied (text x t w) at p c = (c.1.1.some, none_in_text c.1.1, tidied w _ _ c.1.2)
tidied (mark k x i w) at p c = (none_in_mark c.1.1, tidied w _ _ c.1.2)

pub tidy_pieces_at : TidyPiecesAt
tidy_pieces_at at part = tidied (cut_at at part) at part (right_cut_at at part)

-- the laws at place 0
pub right_cut : RightCut
right_cut part = right_cut_at 0 part

pub only_cut : OnlyCut
only_cut part = only_cut_at 0 part

pub joins : Joins
joins part = joins_at 0 part

pub tidy_pieces : TidyPieces
tidy_pieces part = tidy_pieces_at 0 part
