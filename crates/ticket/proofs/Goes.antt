-- Whether all bytes of a name go on, in the library's words.
use Rattle.std.proofs.Common.{◌≡◌, ℕ, Bool, true, false, cond, ◌&&◌, List, [], ◌∷◌, sym, refl, ap, ◌∙◌}
use Rattle.std.specs.List.{list_all}
use Rattle.ticket.specs.Names.{goes_on, all_go_on}

cond_and : (b x : Bool) → cond b x false ≡ (b && x)
cond_and true x = refl
cond_and false x = refl

pub all_go : (bs : List ℕ) → list_all goes_on bs ≡ all_go_on bs
all_go [] = refl
all_go (b ∷ bs) = ap (λ x. goes_on b && x) (all_go bs) ∙ sym (cond_and (goes_on b) (all_go_on bs))
