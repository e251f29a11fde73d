-- What the first name of a path is, by its bytes.
use Rattle.std.proofs.Common.{◌≡◌, ℕ, cond, List, codes, ap, ap₂}
use Rattle.tray.proofs.Same.{reads, same_reads}
use Rattle.arguments.specs.declared.words.Special.TheVariants.{Forloop, Tablerowloop, Barred, Free}
use Rattle.arguments.specs.Values.{special}

pub special_reads : (s : List ℕ) → special s ≡ cond (reads s (codes "forloop")) Forloop (cond (reads s (codes "tablerowloop")) Tablerowloop (cond (reads s (codes "empty")) Barred (cond (reads s (codes "blank")) Barred Free)))
special_reads s =
    ap₂ (λ b x. cond b Forloop x) (same_reads s (codes "forloop"))
    (ap₂ (λ b x. cond b Tablerowloop x) (same_reads s (codes "tablerowloop"))
    (ap₂ (λ b x. cond b Barred x) (same_reads s (codes "empty")) (ap (λ b. cond b Barred Free) (same_reads s (codes "blank")))))
