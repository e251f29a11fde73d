-- The pieces of a part.
use Rattle.std.proofs.Common.{◌≡◌, ℕ, ◌+◌, ◌-◌, ◌<◌, ◌≤◌, true, ◌&&◌, leb, List, [], ◌++◌, length, take, drop, min, refl, sym, ap, ◌∙◌, arith, length-append}
use Rattle.std.proofs.lemmas.Bool.{leb-true, le-leb, and_from, and_parts}
use Rattle.std.proofs.lemmas.List.{length-take, length-drop, drop-drop, drop-take, take-take, drop_at, take_at}
use Rattle.std.proofs.lemmas.Slice.Eq.{bytes_eq-Decides}
use Rattle.std.specs.Str.{bytes_eq}
use Rattle.cutter.specs.Cuts.{Cut, done, unclosed, text, mark, opening, closing, Cuts}
use Rattle.cutter.specs.Scan.{cut_at}
use Rattle.cutter.specs.Laws.{RightCutAt}
use Rattle.cutter.specs.declared.state.Kind.TheVariants.{Tag, Output}
use Rattle.cutter.specs.declared.state.Kind.{Kind}
use Rattle.arguments.specs.Standing.{stands_at}
use Rattle.arguments.specs.Tables.{Lies}
use Rattle.sheet.specs.Standing.{pieces_stand}

pub lies_there : (source : List ℕ) (p : ℕ) (b : List ℕ) → stands_at source p b ≡ true → Lies source p b
lies_there source p b h =
    let (x, y) = and_parts (leb (p + length b) (length source)) (bytes_eq b (take (length b) (drop p source))) h in
    record { to = leb-true (p + length b) (length source) x; is = (bytes_eq-Decides b (take (length b) (drop p source))).0 y }

-- behind a text that is taken the pieces stand too, and so does the text
pub taken_text : (source : List ℕ) (c d : Cut) (p : ℕ) (b : List ℕ) → c ≡ text p b d → pieces_stand source c ≡ true → Lies source p b × (pieces_stand source d ≡ true)
taken_text source c d p b e h =
    let (x, y) = and_parts (stands_at source p b) (pieces_stand source d) (ap (pieces_stand source) (sym e) ∙ h) in
    (lies_there source p b x, y)

pub taken_mark : (source : List ℕ) (c d : Cut) (k : Kind) (p : ℕ) (b : List ℕ) → c ≡ mark k p b d → pieces_stand source c ≡ true → pieces_stand source d ≡ true
taken_mark source c d k p b e h = (and_parts (stands_at source (p + 2) b) (pieces_stand source d) (ap (pieces_stand source) (sym e) ∙ h)).1

-- a part of the source up to `end` that falls into three: where the second stands, and what the third is
pieced : (source : List ℕ) (end at : ℕ) (a b c : List ℕ) → drop at (take end source) ≡ a ++ (b ++ c) → 0 < length a + length b → (stands_at source (at + length a) b ≡ true) × (drop (at + (length a + length b)) (take end source) ≡ c)
pieced source end at a b c e h =
    let t = take end source in
    let k = at + length a in
    let m = length b in
    let whole : length (drop at t) ≡ length a + (length b + length c) = ap length e ∙ length-append a (b ++ c) ∙ ap (λ n. length a + n) (length-append b c) in
    let short : length t ≡ min end (length source) = length-take end source in
    let fits : k + m ≤ length source = omega (arith, whole, short, length-drop at t, h) in
    let under : k + m ≤ end = omega (arith, whole, short, length-drop at t, h) in
    let rest : drop k t ≡ b ++ c = sym (drop-drop (length a) at t) ∙ ap (drop (length a)) e ∙ drop_at a (b ++ c) (length a) refl in
    let far : drop k t ≡ take (end - k) (drop k source) = ap (λ n. drop k (take n source)) (let q : end ≡ k + (end - k) = omega (arith, under) in q) ∙ drop-take k (end - k) source in
    let there : b ≡ take m (drop k source) = sym (take_at b c m refl) ∙ ap (take m) (sym rest ∙ far) ∙ take-take m (end - k) (drop k source) (omega (arith, under)) in (
      and_from (leb (k + m) (length source)) (bytes_eq b (take m (drop k source))) (le-leb (k + m) (length source) fits) ((bytes_eq-Decides b (take m (drop k source))).1 there),
      ap (λ n. drop n t) (let q : at + (length a + m) ≡ k + m = omega arith in q) ∙ sym (drop-drop m k t) ∙ ap (drop m) rest ∙ drop_at b c m refl,
    )

two_open : (k : Kind) → length (opening k) ≡ 2
two_open Tag = refl
two_open Output = refl

two_close : (k : Kind) → length (closing k) ≡ 2
two_close Tag = refl
two_close Output = refl

cuts_stand : (source : List ℕ) (end at : ℕ) (part : List ℕ) (w : Cut) → drop at (take end source) ≡ part → Cuts at part w → pieces_stand source w ≡ true
cuts_stand source end at part done e h = refl
cuts_stand source end at part (unclosed p) e h = refl
cuts_stand source end at part (text p b w) e h =
    let (behind, is, rest) = h.1 in
    let (here, left) = pieced source end at [] b behind (e ∙ is.joins) (omega (arith, is.some)) in
    and_from (stands_at source p b) (pieces_stand source w) (ap (λ i. stands_at source i b) (let q : p ≡ at + 0 = omega (arith, h.0) in q) ∙ here)
    (cuts_stand source end (at + length b) behind w (ap (λ i. drop i (take end source)) (let q : at + length b ≡ at + (0 + length b) = omega arith in q) ∙ left) rest)
cuts_stand source end at part (mark k p b w) e h =
    let (behind, is, rest) = h.1 in
    let (here, left) = pieced source end at (opening k) b (closing k ++ behind) (e ∙ is.joins) (omega (arith, two_open k)) in
    let (closed, after) = pieced source end (at + (length (opening k) + length b)) [] (closing k) behind left (omega (arith, two_close k)) in
    and_from (stands_at source (p + 2) b) (pieces_stand source w) (ap (λ i. stands_at source i b) (let q : p + 2 ≡ at + length (opening k) = omega (arith, h.0, two_open k) in q) ∙ here)
    (cuts_stand source end (at + (length b + 4)) behind w
    (ap (λ i. drop i (take end source)) (let q : at + (length b + 4) ≡ at + (length (opening k) + length b) + (0 + length (closing k)) = omega (arith, two_open k, two_close k) in q) ∙ after) rest)

-- the pieces of a part stand in the source
pub part_stands : RightCutAt → (source : List ℕ) (at end : ℕ) → pieces_stand source (cut_at at (drop at (take end source))) ≡ true
part_stands right source at end = cuts_stand source end at (drop at (take end source)) (cut_at at (drop at (take end source))) refl (right at (drop at (take end source)))
