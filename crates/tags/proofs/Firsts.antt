-- The first value of a test.
use Rattle.std.proofs.Common.{◌≡◌, ℕ, false, cond, List, sym, refl, ap, ◌∙◌}
use Rattle.std.proofs.lemmas.Bool.{false≢true}
use Rattle.cutter.specs.Words.{Words, word}
use Rattle.cutter.specs.Tokens.{Reading, is_nil, is_boolean, is_number, is_text, is_name, is_path, is_range, is_symbol}
use Rattle.arguments.specs.Judging.{State, Lists, state, refuses, token, seen, refuse, room_at, ◌next◌}
use Rattle.arguments.specs.Values.{read, value_as, value, is_value}
use Rattle.tags.specs.Conditions.{first}

-- what is no value is refused as such
pub no_value : (p q : ℕ) (r : Reading) (s : State) → is_value r ≡ false → value_as p q r s ≡ refuses 6 p
unfolding value_as
no_value p q is_nil s h = absurd (false≢true (sym h))
no_value p q (is_boolean b) s h = absurd (false≢true (sym h))
no_value p q (is_number z) s h = absurd (false≢true (sym h))
no_value p q (is_text t) s h = absurd (false≢true (sym h))
no_value p q (is_name n) s h = absurd (false≢true (sym h))
no_value p q (is_path n ss) s h = absurd (false≢true (sym h))
no_value p q (is_range a x b y) s h = refl
no_value p q (is_symbol t) s h = refl

pub first_none : (m : ℕ) (a rest : Words) (p : ℕ) (b : List ℕ) (l : Lists) → a ≡ word p b rest → is_value (read (seen p b)) ≡ false → first m (state a l) ≡ value m (state a l)
unfolding first value token
first_none m a rest p b l e h =
    let r = read (seen p b) in
    ap (λ x. first m (state x l)) e
    ∙ ap (λ t. cond t (room_at p next λ _. value_as p p r) (refuse 6 p) (state rest l)) h
    ∙ sym (no_value p p r (state rest l) h)
    ∙ sym (ap (λ x. value m (state x l)) e)
