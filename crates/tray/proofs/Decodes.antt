-- One step of the reading of a tray's bytes.
use Rattle.std.proofs.Common.{◌≡◌, ℕ, zero, suc, ◌<◌, List, [], ◌∷◌, ◌++◌, length, Some, None, Option, sym, refl, ap, ◌∙◌, append_assoc, arith}
use Rattle.std.proofs.lemmas.List.{append-nil}
use Rattle.tray.specs.declared.records.Record.{Record}
use Rattle.tray.specs.Decode.{got, one, decoded, before, onto, go_on}

pub onto_more : (rs : List Record) (r : Record) (o : Option (List Record)) → onto rs (before r o) ≡ onto (rs ++ r ∷ []) o
onto_more rs r None = refl
onto_more rs r (Some more) = ap Some (sym (append_assoc rs (r ∷ []) more))

decoded_end : (k room : ℕ) (bs : List ℕ) → length bs ≡ 0 → decoded k room bs ≡ Some []
decoded_end zero room [] e = refl
decoded_end (suc k) room [] e = refl
decoded_end k room (b ∷ bs) e = absurd (omega arith)

decoded_stop : (k room : ℕ) (bs : List ℕ) → 0 < length bs → None ≡ one room bs → decoded k room bs ≡ None
decoded_stop k room [] l e = absurd (omega arith)
decoded_stop zero room (b ∷ bs) l e = refl
decoded_stop (suc k) room (b ∷ bs) l e = sym (ap (λ g. go_on g (decoded k room)) e)

pub decoded_more : (k room : ℕ) (bs : List ℕ) (r : Record) (rest : List ℕ) → 0 < length bs → got r rest ≡ one room bs → decoded (suc k) room bs ≡ before r (decoded k room rest)
decoded_more k room [] r rest l e = absurd (omega arith)
decoded_more k room (b ∷ bs) r rest l e = sym (ap (λ g. go_on g (decoded k room)) e)

decoded_full : (k room : ℕ) (bs : List ℕ) → 0 < length bs → k ≡ 0 → decoded k room bs ≡ None
decoded_full k room [] l e = absurd (omega arith)
decoded_full zero room (b ∷ bs) l e = refl
decoded_full (suc k) room (b ∷ bs) l e = absurd (omega arith)

-- what a loop that keeps the bytes left has at its start, its end, at a stop and after one more record
pub record Loading (o : Option (List Record)) (rs : List Record) (k room : ℕ) (left : List ℕ) : Type 0 where
  pub is : o ≡ onto rs (decoded k room left)

onto_none : (o : Option (List Record)) → o ≡ onto [] o
onto_none None = refl
onto_none (Some rs) = refl

pub starts : (rs : List Record) (m k room : ℕ) (left : List ℕ) → rs ≡ [] → k ≡ m → Loading (decoded m room left) rs k room left
starts rs m k room left e ek = record { is = rw (e, ek) (onto_none (decoded m room left)) }

pub ends : {o : Option (List Record)} {rs : List Record} {k room : ℕ} {left : List ℕ} → Loading o rs k room left → length left ≡ 0 → o ≡ Some rs
ends {o} {rs} {k} {room} {left} inv e = inv.is ∙ ap (onto rs) (decoded_end k room left e) ∙ ap Some (append-nil rs)

pub stops : {o : Option (List Record)} {rs : List Record} {k room : ℕ} {left : List ℕ} → Loading o rs k room left → None ≡ one room left → 0 < length left → o ≡ None
stops {o} {rs} {k} {room} {left} inv e l = inv.is ∙ ap (onto rs) (decoded_stop k room left l e)

pub steps : {o : Option (List Record)} {rs : List Record} {m room : ℕ} {left : List ℕ} → Loading o rs m room left → (r : Record) (rest : List ℕ) → got r rest ≡ one room left → (n : ℕ) → m ≡ suc n → 0 < length left → Loading o (rs ++ r ∷ []) n room rest
steps {o} {rs} {m} {room} {left} inv r rest e n em l =
    record { is = inv.is ∙ ap (λ k. onto rs (decoded k room left)) em ∙ ap (onto rs) (decoded_more n room left r rest l e) ∙ onto_more rs r (decoded n room rest) }

pub fills : {o : Option (List Record)} {rs : List Record} {k room : ℕ} {left : List ℕ} → Loading o rs k room left → 0 < length left → k ≡ 0 → o ≡ None
fills {o} {rs} {k} {room} {left} inv l e = inv.is ∙ ap (onto rs) (decoded_full k room left l e)
