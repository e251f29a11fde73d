-- Where a text is cut: at its first or last line end, or at the zeros at its end.
use Rattle.std.proofs.Common.{◌≡◌, ℕ, ◌-◌, ◌<◌, ◌≤◌, true, false, not, List, length, take, drop, get_or, sym, ap, ◌∙◌, arith}
use Rattle.std.specs.List.{before_first, after_last}
use Rattle.std.proofs.lemmas.Grind.{common_steps}
use Rattle.std.proofs.lemmas.List.Sums.{position_or_len_is, suffix_len_is}
use Rattle.std.proofs.lemmas.List.{take_all}
use Rattle.ticket.specs.Excerpt.{is_end}
use Rattle.ticket.specs.Calls.{is_zero, text_in}

pub first : (text : List ℕ) (to : ℕ) → to ≤ length text → ((k : ℕ) → k < to → is_end (get_or text k 0) ≡ false) → (to < length text → is_end (get_or text to 0) ≡ true) → take to text ≡ before_first is_end text
first text to inside passed found = ap (λ n. take n text) (sym (position_or_len_is is_end text to 0 inside passed found))

pub last : (text : List ℕ) (from : ℕ) → from ≤ length text → ((k : ℕ) → from ≤ k → k < length text → is_end (get_or text k 0) ≡ false) → (0 < from → is_end (get_or text (from - 1) 0) ≡ true) → take (length text - from) (drop from text) ≡ after_last is_end text
last text from inside passed found =
    let behind = suffix_len_is (λ b. not (is_end b)) text from 0 inside (λ k a b. ap not (passed k a b)) (λ l. ap not (found l)) in
    let whole = take_all (length text - from) (drop from text) (grind (arith, common_steps)) in
    whole ∙ ap (λ n. drop n text) (omega (arith, behind))

pub trimmed : (text : List ℕ) (to : ℕ) → to ≤ length text → ((k : ℕ) → to ≤ k → k < length text → is_zero (get_or text k 0) ≡ true) → (0 < to → is_zero (get_or text (to - 1) 0) ≡ false) → take to text ≡ text_in text
trimmed text to inside passed found =
    let behind = suffix_len_is is_zero text to 0 inside passed found in
    ap (λ n. take n text) (omega (arith, behind))
