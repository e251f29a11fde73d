-- The scan of a part is a right cut.
use Rattle.std.proofs.Common.{◌≡◌, ℕ, ◌+◌, ◌-◌, ◌<◌, ◌≤◌, Bool, true, false, cond, eqb, ◌⊎◌, List, [], ◌∷◌, ◌++◌, length, drop, Some, None, sym, refl, ap, ◌∙◌, subst, inl, inr, arith}
use Rattle.std.proofs.lemmas.List.{append_assoc, append-nil, length-append, length_push, take_at, drop_at}
use Rattle.std.proofs.lemmas.Bool.{cond-true, cond-false, eqb-true, eqb-false}
use Rattle.cutter.specs.declared.state.Kind.{Kind}
use Rattle.cutter.specs.declared.state.Kind.TheVariants.{Tag, Output}
use Rattle.cutter.specs.declared.state.State.{State}
use Rattle.cutter.specs.declared.state.State.TheVariants.{Text, Brace, Inside, Closing, Quoted}
use Rattle.cutter.specs.declared.state.Event.{Event}
use Rattle.cutter.specs.declared.state.Event.TheVariants as event
use Rattle.cutter.specs.Cuts.{Cut, done, unclosed, mark, opening, closing, is_quote, turned, quote_after, Opens, Closes, NoneBefore, Cuts}
use Rattle.cutter.specs.Scan.{closer, stepped, some_text, all_but_last, last_of, ended, brings, scan}
use Rattle.cutter.proofs.Splits.{none_more, quote_push, push_front}

-- bytes of marks
opens_first : (k : Kind) (b : ℕ) (bs c : List ℕ) → b ∷ bs ≡ opening k ++ c → b ≡ 123
opens_first Tag b bs c e = cc
opens_first Output b bs c e = cc

opens_second : (k : Kind) (b : ℕ) (bs c : List ℕ) → 123 ∷ b ∷ bs ≡ opening k ++ c → (b ≡ 37) ⊎ (b ≡ 123)
opens_second Tag b bs c e = inl (cc)
opens_second Output b bs c e = inr (cc)

opens_long : (k : Kind) (b c : List ℕ) → b ≡ opening k ++ c → 2 ≤ length b
opens_long Tag b c e = omega (arith, ap length e)
opens_long Output b c e = omega (arith, ap length e)

closes_first : (k : Kind) (b : ℕ) (bs c : List ℕ) → b ∷ bs ≡ closing k ++ c → b ≡ closer k
closes_first Tag b bs c e = cc
closes_first Output b bs c e = cc

closes_second : (k : Kind) (a b : ℕ) (bs c : List ℕ) → a ∷ b ∷ bs ≡ closing k ++ c → b ≡ 125
closes_second Tag a b bs c e = cc
closes_second Output a b bs c e = cc

closes_long : (k : Kind) (b c : List ℕ) → b ≡ closing k ++ c → 2 ≤ length b
closes_long Tag b c e = omega (arith, ap length e)
closes_long Output b c e = omega (arith, ap length e)

closer_quote : (k : Kind) → is_quote (closer k) ≡ false
closer_quote Tag = refl
closer_quote Output = refl

not_both : {t : Bool} → t ≡ true → t ≡ false → ⊥
not_both {t} p q = let z : true ≡ false = cc in let n : ◌≡◌ {A = ℕ} 0 1 = cc in omega arith

closing_is : (k : Kind) (c : List ℕ) → closer k ∷ 125 ∷ c ≡ closing k ++ c
closing_is Tag c = refl
closing_is Output c = refl

opening_long : (k : Kind) → length (opening k) ≡ 2
opening_long Tag = refl
opening_long Output = refl

opening_off : (k : Kind) (i : List ℕ) → drop 2 (opening k ++ i) ≡ i
opening_off k i = drop_at (opening k) i 2 (opening_long k)

but_pushed : (x : List ℕ) (y : ℕ) → all_but_last (x ++ (y ∷ [])) ≡ x
but_pushed x y = take_at x (y ∷ []) (length (x ++ (y ∷ [])) - 1) (omega (arith, length_push x y))

last_pushed : (x : List ℕ) (y : ℕ) → last_of (x ++ (y ∷ [])) ≡ y ∷ []
last_pushed x y = drop_at x (y ∷ []) (length (x ++ (y ∷ [])) - 1) (omega (arith, length_push x y))

-- what a state says of the bytes `got` of a piece and those behind them
abbrev Good : State → List ℕ → List ℕ → Type 0
Good Text got bs = NoneBefore Opens (got ++ bs) (length got)
Good Brace got bs = (t : List ℕ) × (got ≡ t ++ (123 ∷ [])) × NoneBefore Opens (t ++ (123 ∷ bs)) (length t)
Good (Inside k) got bs = (i : List ℕ) × (got ≡ opening k ++ i) × (quote_after None i ≡ None) × NoneBefore (Closes k) (i ++ bs) (length i)
Good (Closing k) got bs = (i : List ℕ) × (got ≡ opening k ++ (i ++ (closer k ∷ []))) × (quote_after None i ≡ None) × NoneBefore (Closes k) (i ++ (closer k ∷ bs)) (length i)
Good (Quoted k q) got bs = (i : List ℕ) × (got ≡ opening k ++ i) × (quote_after None i ≡ Some q) × NoneBefore (Closes k) (i ++ bs) (length i)

some_text_lem : (at : ℕ) (t behind : List ℕ) (w : Cut) → NoneBefore Opens (t ++ behind) (length t) → (behind ≡ []) ⊎ Opens t behind → Cuts (at + length t) behind w → Cuts at (t ++ behind) (some_text at t w)
some_text_lem at [] behind w none ahead c = subst (λ (n : ℕ). Cuts n behind w) (let e : at + 0 ≡ at = omega arith in e) c
some_text_lem at (x ∷ t) behind w none ahead c = (refl, (behind, record { joins = refl; some = omega arith; none = none; ahead = ahead }, c))

text_ends : (at : ℕ) (got : List ℕ) → NoneBefore Opens (got ++ []) (length got) → Cuts at (got ++ []) (some_text at got done)
text_ends at got none = some_text_lem at got [] done none (inl refl) refl

mark_ends : (at : ℕ) (k : Kind) (got i : List ℕ) (n : ℕ) → got ≡ opening k ++ i → length i < n + 2 → NoneBefore (Closes k) i n → Cuts at (got ++ []) (unclosed at)
mark_ends at k got i n e h none =
    (refl, record { kind = k; behind = i; joins = append-nil got ∙ e; never = λ a b f c. omega (arith, none a b f c, closes_long k b c.behind c.is, ap length f, length-append a b) })

right_end : (s : State) (at : ℕ) (got : List ℕ) → Good s got [] → Cuts at (got ++ []) (ended s at got)
right_end Text at got g = text_ends at got g
right_end Brace at got (t, e, none) =
    text_ends at got (subst (λ (got : List ℕ). NoneBefore Opens (got ++ []) (length got)) (sym e)
    (none_more t 123 [] none (λ o. omega (arith, opens_long o.kind (123 ∷ []) o.behind o.is))))
right_end (Inside k) at got (i, e, out, none) = mark_ends at k got i (length i) e (omega arith) (subst (λ (l : List ℕ). NoneBefore (Closes k) l (length i)) (append-nil i) none)
right_end (Closing k) at got (i, e, out, none) = mark_ends at k got (i ++ (closer k ∷ [])) (length i) e (omega (arith, length_push i (closer k))) none
right_end (Quoted k q) at got (i, e, out, none) = mark_ends at k got i (length i) e (omega arith) (subst (λ (l : List ℕ). NoneBefore (Closes k) l (length i)) (append-nil i) none)

-- one byte, where what is left behind it is cut right
module _ (b : ℕ) (bs : List ℕ) (ih : (s : State) (at : ℕ) (got : List ℕ) → Good s got bs → Cuts at (got ++ bs) (scan s at got bs)) (at : ℕ) (got : List ℕ) where
  abbrev Goal : State × Event → Type 0
  Goal p = Cuts at (got ++ (b ∷ bs)) (brings at got b p.1 (λ place first. scan p.0 place first bs))

  branch : (t : Bool) (x y : State × Event) → (t ≡ true → Goal x) → (t ≡ false → Goal y) → Goal (cond t x y)
  branch true x y f g = f refl
  branch false x y f g = g refl

  moves : (s : State) → Good s (got ++ (b ∷ [])) bs → Goal (s, event.Goes)
  moves s g = subst (λ (l : List ℕ). Cuts at l (scan s at (got ++ (b ∷ [])) bs)) (push_front got b bs) (ih s at (got ++ (b ∷ [])) g)

  right_text : NoneBefore Opens (got ++ (b ∷ bs)) (length got) → Goal (stepped Text b)
  right_text none =
      branch (eqb b 123) (Brace, event.Goes) (Text, event.Goes)
      (λ e. moves Brace (got, ap (λ x. got ++ (x ∷ [])) (eqb-true b 123 e), subst (λ (x : ℕ). NoneBefore Opens (got ++ (x ∷ bs)) (length got)) (eqb-true b 123 e) none))
      (λ e. moves Text (none_more got b bs none (λ o. eqb-false b 123 e (opens_first o.kind b bs o.behind o.is))))

  module _ (t : List ℕ) (is : got ≡ t ++ (123 ∷ [])) (none : NoneBefore Opens (t ++ (123 ∷ b ∷ bs)) (length t)) where
    opened : (k : Kind) → 123 ∷ b ∷ [] ≡ opening k → Goal (Inside k, event.Opens)
    opened k e =
        let next : Cuts (at + length t) (123 ∷ b ∷ bs) (scan (Inside k) (at + length t) (123 ∷ b ∷ []) bs) = ih (Inside k) (at + length t) (123 ∷ b ∷ []) ([], e ∙ sym (append-nil (opening k)), refl, λ x y p c. omega arith) in
        let plain = some_text_lem at t (123 ∷ b ∷ bs) (scan (Inside k) (at + length t) (123 ∷ b ∷ []) bs) none (inr (record { kind = k; behind = bs; is = ap (λ l. l ++ bs) e })) next in
        subst (λ (got : List ℕ). Cuts at (got ++ (b ∷ bs)) (brings at got b event.Opens (λ place first. scan (Inside k) place first bs))) (sym is)
        (subst (λ (l : List ℕ). Cuts at l (brings at (t ++ (123 ∷ [])) b event.Opens (λ place first. scan (Inside k) place first bs))) (sym (push_front t 123 (b ∷ bs)))
        (subst (λ (first : List ℕ). Cuts at (t ++ (123 ∷ b ∷ bs)) (some_text at (all_but_last (t ++ (123 ∷ []))) (scan (Inside k) (at + length (all_but_last (t ++ (123 ∷ [])))) (first ++ (b ∷ [])) bs))) (sym (last_pushed t 123))
        (subst (λ (but : List ℕ). Cuts at (t ++ (123 ∷ b ∷ bs)) (some_text at but (scan (Inside k) (at + length but) (123 ∷ b ∷ []) bs))) (sym (but_pushed t 123)) plain)))

    right_brace : Goal (stepped Brace b)
    right_brace =
        branch (eqb b 37) (Inside Tag, event.Opens) (cond (eqb b 123) (Inside Output, event.Opens) (Text, event.Goes))
        (λ e. opened Tag (ap (λ x. 123 ∷ x ∷ []) (eqb-true b 37 e)))
        (λ e. branch (eqb b 123) (Inside Output, event.Opens) (Text, event.Goes)
        (λ f. opened Output (ap (λ x. 123 ∷ x ∷ []) (eqb-true b 123 f)))
        (λ f. moves Text (subst (λ (got : List ℕ). NoneBefore Opens ((got ++ (b ∷ [])) ++ bs) (length (got ++ (b ∷ [])))) (sym is)
        (none_more (t ++ (123 ∷ [])) b bs (none_more t 123 (b ∷ bs) none (λ o. neither e f (opens_second o.kind b bs o.behind o.is))) (λ o. eqb-false b 123 f (opens_first o.kind b bs o.behind o.is))))))
      where
        neither : eqb b 37 ≡ false → eqb b 123 ≡ false → (b ≡ 37) ⊎ (b ≡ 123) → ⊥
        neither e f (inl x) = eqb-false b 37 e x
        neither e f (inr x) = eqb-false b 123 f x

  -- in a mark, with the inside i
  module _ (k : Kind) (i : List ℕ) where
    pushed : got ≡ opening k ++ i → got ++ (b ∷ []) ≡ opening k ++ (i ++ (b ∷ []))
    pushed is = ap (λ l. l ++ (b ∷ [])) is ∙ append_assoc (opening k) i (b ∷ [])

    right_inside : got ≡ opening k ++ i → quote_after None i ≡ None → NoneBefore (Closes k) (i ++ (b ∷ bs)) (length i) → Goal (stepped (Inside k) b)
    right_inside is out none =
        branch (is_quote b) (Quoted k b, event.Goes) (cond (eqb b (closer k)) (Closing k, event.Goes) (Inside k, event.Goes))
        (λ e. moves (Quoted k b) (i ++ (b ∷ []), pushed is, quote_push None i b ∙ ap (λ q. turned q b) out ∙ cond-true (is_quote b) (Some b) None e, none_more i b bs none (λ c. not_both (ap is_quote (sym (closes_first k b bs c.behind c.is)) ∙ e) (closer_quote k))))
        (λ e. branch (eqb b (closer k)) (Closing k, event.Goes) (Inside k, event.Goes)
        (λ f. moves (Closing k) (i, pushed is ∙ ap (λ x. opening k ++ (i ++ (x ∷ []))) (eqb-true b (closer k) f), out, subst (λ (x : ℕ). NoneBefore (Closes k) (i ++ (x ∷ bs)) (length i)) (eqb-true b (closer k) f) none))
        (λ f. moves (Inside k) (i ++ (b ∷ []), pushed is, quote_push None i b ∙ ap (λ q. turned q b) out ∙ cond-false (is_quote b) (Some b) None e, none_more i b bs none (λ c. eqb-false b (closer k) f (closes_first k b bs c.behind c.is)))))

    right_quoted : (q : ℕ) → got ≡ opening k ++ i → quote_after None i ≡ Some q → NoneBefore (Closes k) (i ++ (b ∷ bs)) (length i) → Goal (stepped (Quoted k q) b)
    right_quoted q is within none =
        let none' = none_more i b bs none (λ c. let z : None ≡ Some q = sym c.outside ∙ within in let n : ◌≡◌ {A = ℕ} 0 1 = cc in omega arith) in
        branch (eqb b q) (Inside k, event.Goes) (Quoted k q, event.Goes)
        (λ e. moves (Inside k) (i ++ (b ∷ []), pushed is, quote_push None i b ∙ ap (λ q. turned q b) within ∙ cond-true (eqb b q) None (Some q) e, none'))
        (λ e. moves (Quoted k q) (i ++ (b ∷ []), pushed is, quote_push None i b ∙ ap (λ q. turned q b) within ∙ cond-false (eqb b q) None (Some q) e, none'))

  module _ (k : Kind) (i : List ℕ) (is : got ≡ opening k ++ (i ++ (closer k ∷ []))) (out : quote_after None i ≡ None) (none : NoneBefore (Closes k) (i ++ (closer k ∷ b ∷ bs)) (length i)) where
    abbrev wider : List ℕ
    wider = i ++ (closer k ∷ [])

    out' : quote_after None wider ≡ None
    out' = quote_push None i (closer k) ∙ ap (λ q. turned q (closer k)) out ∙ cond-false (is_quote (closer k)) (Some (closer k)) None (closer_quote k)

    closed : b ≡ 125 → Goal (Text, event.Closes k)
    closed e =
        let inside : drop 2 (all_but_last got) ≡ i = ap (λ l. drop 2 (all_but_last l)) (is ∙ sym (append_assoc (opening k) i (closer k ∷ []))) ∙ ap (drop 2) (but_pushed (opening k ++ i) (closer k)) ∙ opening_off k i in
        let place : at + (length i + 4) ≡ at + (length got + 1) = omega (arith, ap length is, length-append (opening k) wider, opening_long k, length_push i (closer k)) in
        let end : closer k ∷ b ∷ bs ≡ closing k ++ bs = ap (λ x. closer k ∷ x ∷ bs) e ∙ closing_is k bs in
        let joins : got ++ (b ∷ bs) ≡ opening k ++ (i ++ (closing k ++ bs)) = ap (λ l. l ++ (b ∷ bs)) is ∙ append_assoc (opening k) wider (b ∷ bs) ∙ ap (λ l. opening k ++ l) (push_front i (closer k) (b ∷ bs) ∙ ap (λ l. i ++ l) end) in
        let next : Cuts (at + (length i + 4)) bs (scan Text (at + (length got + 1)) [] bs) = subst (λ (n : ℕ). Cuts n bs (scan Text (at + (length got + 1)) [] bs)) (sym place) (ih Text (at + (length got + 1)) [] (λ x y p c. omega arith)) in
        subst (λ (l : List ℕ). Cuts at (got ++ (b ∷ bs)) (mark k at l (scan Text (at + (length got + 1)) [] bs))) (sym inside)
        (refl, (bs, record { joins = joins; outside = out; first = subst (λ (l : List ℕ). NoneBefore (Closes k) (i ++ l) (length i)) end none }, next))

    right_closing : Goal (stepped (Closing k) b)
    right_closing =
        branch (eqb b 125) (Text, event.Closes k) (cond (eqb b (closer k)) (Closing k, event.Goes) (cond (is_quote b) (Quoted k b, event.Goes) (Inside k, event.Goes)))
        (λ e. closed (eqb-true b 125 e))
        (λ e. let none' = none_more i (closer k) (b ∷ bs) none (λ c. eqb-false b 125 e (closes_second k (closer k) b bs c.behind c.is)) in
        branch (eqb b (closer k)) (Closing k, event.Goes) (cond (is_quote b) (Quoted k b, event.Goes) (Inside k, event.Goes))
        (λ f. moves (Closing k) (wider, pushed k wider is ∙ ap (λ x. opening k ++ (wider ++ (x ∷ []))) (eqb-true b (closer k) f), out', subst (λ (x : ℕ). NoneBefore (Closes k) (wider ++ (x ∷ bs)) (length wider)) (eqb-true b (closer k) f) none'))
        (λ f. let none'' = none_more wider b bs none' (λ c. eqb-false b (closer k) f (closes_first k b bs c.behind c.is)) in
        branch (is_quote b) (Quoted k b, event.Goes) (Inside k, event.Goes)
        (λ h. moves (Quoted k b) (wider ++ (b ∷ []), pushed k wider is, quote_push None wider b ∙ ap (λ q. turned q b) out' ∙ cond-true (is_quote b) (Some b) None h, none''))
        (λ h. moves (Inside k) (wider ++ (b ∷ []), pushed k wider is, quote_push None wider b ∙ ap (λ q. turned q b) out' ∙ cond-false (is_quote b) (Some b) None h, none''))))

  right_byte : (s : State) → Good s got (b ∷ bs) → Goal (stepped s b)
  right_byte Text none = right_text none
  right_byte Brace (t, is, none) = right_brace t is none
  right_byte (Inside k) (i, is, out, none) = right_inside k i is out none
  right_byte (Closing k) (i, is, out, none) = right_closing k i is out none
  right_byte (Quoted k q) (i, is, within, none) = right_quoted k i q is within none

pub right : (bs : List ℕ) (s : State) (at : ℕ) (got : List ℕ) → Good s got bs → Cuts at (got ++ bs) (scan s at got bs)
right [] s at got g = right_end s at got g
right (b ∷ bs) s at got g = right_byte b bs (right bs) at got s g

pub right_cut_at : (at : ℕ) (part : List ℕ) → Cuts at part (scan Text at [] part)
right_cut_at at part = right part Text at [] (λ a b e o. omega arith)
