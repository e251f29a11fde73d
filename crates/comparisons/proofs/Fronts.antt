-- What was laid at the front of a buffer can be read there.
use Rattle.std.proofs.Common.{◌≡◌, ℕ, List, drop, take, ap₂, ◌∙◌}
use Rattle.std.proofs.Math.Seq.{take-append_seam}
use Rattle.texts.specs.Written.{Laid}

pub front_is : (bytes old new : List ℕ) (end : ℕ) → Laid bytes old new end → take end new ≡ bytes
front_is bytes old new end l = ap₂ take l.long l.holds ∙ take-append_seam bytes (drop end old)
