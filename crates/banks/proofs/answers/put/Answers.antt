use Rattle.std.proofs.Common.{◌≡◌, ℕ, ◌-◌, List, ◌++◌, length, drop, replicate, ap, ◌∙◌, arith}
use borrow.Rule.Slice.PartMut.{post_of}
use Rattle.std.proofs.lemmas.List.{drop-replicate}
use Rattle.banks.proofs.answers.put.Goals as goal

-- a text over the front of zeros
over_zeros : (part text buffer : List ℕ) (k : ℕ) → part ≡ text → k ≡ length text → buffer ≡ replicate 256 0 → part ++ post_of 0 k buffer ≡ text ++ replicate (256 - length text) 0
over_zeros part text buffer k p e h =
    ap (λ xs. xs ++ drop k buffer) p ∙ ap (λ xs. text ++ drop k xs) h ∙ ap (λ xs. text ++ xs) (drop-replicate k 256 0) ∙ ap (λ n. text ++ replicate (256 - n) 0) e

pub returns : goal.returns
returns c = over_zeros _ c.args.text.now c.clear.new.answer (length c.args.text.now - 0) c.copy_from_slice.ensures.after (omega arith) c.clear.ensures
