-- Tokens ahead.
use Rattle.std.proofs.Common.{◌≡◌, ℕ, ◌+◌, true, leb, List, length, take, drop, Some, None, Ok, Option, refl, sym, ap, ◌∙◌, subst}
use Rattle.std.proofs.lemmas.Bool.{leb-true, and_parts}
use Rattle.std.proofs.lemmas.Slice.Eq.{bytes_eq-Decides}
use Rattle.std.specs.Str.{bytes_eq}
use Rattle.cutter.specs.Ahead.{Took}
use Rattle.cutter.specs.Words.{Words, word}
use Rattle.cutter.specs.declared.places.Placed.{Placed}
use Rattle.arguments.specs.Judging.{Lists, State, state, Verdict, passes, token_if, taken_if, Seen, seen}
use Rattle.arguments.specs.Standing.{stands_at, standing}
use Rattle.arguments.specs.Tables.{Said, Perhaps, Shown, Lies}

-- a token ahead stands in the source
pub lies_ahead : (source : List ℕ) (a rest : Words) (p : ℕ) (b : List ℕ) → a ≡ word p b rest → standing source a ≡ true → Lies source p b
lies_ahead source a rest p b e h =
    let (t, u) = and_parts (stands_at source p b) (standing source rest) (ap (standing source) (sym e) ∙ h) in
    let (x, y) = and_parts (leb (p + length b) (length source)) (bytes_eq b (take (length b) (drop p source))) t in
    record { to = leb-true (p + length b) (length source) x; is = (bytes_eq-Decides b (take (length b) (drop p source))).0 y }

-- the next token, if there is one
pub said_next : (source : List ℕ) (a rest : Words) (l : Lists) (o : Option Placed) → Took a (Ok o) rest → standing source a ≡ true → Said (Ok o) (token_if Some (state a l)) (Perhaps (Shown source)) (state rest l)
unfolding token_if
said_next source a rest l None t h = (None, refl, ap (λ x. taken_if Some x l) t.0 ∙ ap (λ x. passes None (state x l)) (sym t.1))
said_next source a rest l (Some w) t h =
    (Some (seen w.place w.bytes.now), (seen w.place w.bytes.now, record { is = refl; lies = lies_ahead source a rest w.place w.bytes.now t h }, refl), ap (λ x. taken_if Some x l) t)

-- what was said of the next token, by what it is
pub given_word : (source : List ℕ) (o : Option Placed) (w : Placed) (y : Option Seen) (v : Verdict (Option Seen)) (t : State) → Perhaps (Shown source) o y → o ≡ Some w → v ≡ passes y t → v ≡ passes (Some (seen w.place w.bytes.now)) t
given_word source o w y v t h e says =
    let (z, shown, is) = subst (λ x. Perhaps (Shown source) x y) e h in
    says ∙ ap (λ x. passes x t) (is ∙ ap Some shown.is)

pub given_none : (source : List ℕ) (o : Option Placed) (y : Option Seen) (v : Verdict (Option Seen)) (t : State) → Perhaps (Shown source) o y → o ≡ None → v ≡ passes y t → v ≡ passes None t
given_none source o y v t h e says = says ∙ ap (λ x. passes x t) (subst (λ x. Perhaps (Shown source) x y) e h)
