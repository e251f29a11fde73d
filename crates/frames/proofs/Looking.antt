-- What the innermost of some open frames gives to names.
use Rattle.std.proofs.Common.{◌≡◌, ℕ, ◌-◌, ◌<◌, ◌≤◌, List, length, get_or, drop, sym, ap, ◌∙◌, arith}
use Rattle.std.proofs.lemmas.List.{length-map}
use Rattle.meaning.specs.Hosts.{Host}
use Rattle.meaning.specs.Frames.{nearest_for, nearest_table, for_at, table_at}
use Rattle.frames.specs.declared.frame.Frame.{Frame}
use Rattle.frames.specs.Views.{manner_of, frame_of, frames_of}
use Rattle.frames.proofs.Opened.{opened, opened_length, opened_last, opened_drop}

pub table_last : (h : Host) (t : List Frame) (n : ℕ) (d : Frame) → 0 < n → n ≤ length t → nearest_table (frames_of h (opened n t)) ≡ table_at (manner_of (get_or t (n - 1) d).manner) ((get_or t (n - 1) d).visit - 1) (nearest_table (frames_of h (opened (n - 1) t)))
table_last h t n d p l = ap (λ fs. nearest_table (frames_of h fs)) (opened_last t n d p l)

module _ (h : Host) (t : List Frame) (m : ℕ) (l : m ≤ length t) where
  pub around_length : length (frames_of h (opened m t)) ≡ m
  around_length = length-map (opened m t) (frame_of h) ∙ opened_length t m l

  -- the outermost n
  pub within : (n : ℕ) → n ≤ m → drop (length (frames_of h (opened m t)) - n) (frames_of h (opened m t)) ≡ frames_of h (opened n t)
  within n k = opened_drop (frame_of h) t (length (frames_of h (opened m t)) - n) m n (omega (arith, around_length)) l

  pub for_last : (n : ℕ) (d : Frame) → 0 < n → n ≤ m → nearest_for (drop (length (frames_of h (opened m t)) - n) (frames_of h (opened m t))) ≡ for_at (manner_of (get_or t (n - 1) d).manner) ((get_or t (n - 1) d).visit - 1) (drop (length (frames_of h (opened m t)) - (n - 1)) (frames_of h (opened m t))) (nearest_for (drop (length (frames_of h (opened m t)) - (n - 1)) (frames_of h (opened m t))))
  for_last n d p k =
      ap nearest_for (within n k) ∙ ap (λ fs. nearest_for (frames_of h fs)) (opened_last t n d p (omega arith))
      ∙ ap (λ fs. for_at (manner_of (get_or t (n - 1) d).manner) ((get_or t (n - 1) d).visit - 1) fs (nearest_for fs)) (sym (within (n - 1) (omega arith)))
