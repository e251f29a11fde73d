-- The cut of a part, byte by byte.
use Rattle.std.specs.Prelude.{ℕ, ◌+◌, ◌-◌, Bool, cond, List, [], ◌∷◌, ◌++◌, length, take, drop, ◌==◌, nat_le, nat_lt}
use Rattle.cutter.specs.declared.state.Kind.{Kind}
use Rattle.cutter.specs.declared.state.Kind.TheVariants.{Tag, Output}
use Rattle.cutter.specs.declared.state.State.{State}
use Rattle.cutter.specs.declared.state.State.TheVariants.{Text, Brace, Inside, Closing, Quoted}
use Rattle.cutter.specs.declared.state.Event.{Event}
use Rattle.cutter.specs.declared.state.Event.TheVariants.{Goes, Opens, Closes}
use Rattle.cutter.specs.Cuts.{Cut, done, unclosed, text, mark, is_quote}

-- the first byte of a closing mark; the second is `}`
abbrev pub closer : Kind → ℕ
closer Tag = 37
closer Output = 125

abbrev pub stepped : State → ℕ → State × Event
stepped Text b = cond (b == 123) (Brace, Goes) (Text, Goes)
stepped Brace b = cond (b == 37) (Inside Tag, Opens) (cond (b == 123) (Inside Output, Opens) (Text, Goes))
stepped (Inside k) b = cond (is_quote b) (Quoted k b, Goes) (cond (b == closer k) (Closing k, Goes) (Inside k, Goes))
stepped (Closing k) b =
    cond (b == 125) (Text, Closes k) (cond (b == closer k) (Closing k, Goes) (cond (is_quote b) (Quoted k b, Goes) (Inside k, Goes)))
stepped (Quoted k q) b = cond (b == q) (Inside k, Goes) (Quoted k q, Goes)

-- text, unless it is empty
abbrev pub some_text : ℕ → List ℕ → Cut → Cut
some_text at [] rest = rest
some_text at (b ∷ bs) rest = text at (b ∷ bs) rest

abbrev pub all_but_last : List ℕ → List ℕ
all_but_last l = take (length l - 1) l

abbrev pub last_of : List ℕ → List ℕ
last_of l = drop (length l - 1) l

-- a part that ends behind the bytes `got` of a piece
abbrev pub ended : State → ℕ → List ℕ → Cut
ended Text at got = some_text at got done
ended Brace at got = some_text at got done
ended (Inside k) at got = unclosed at
ended (Closing k) at got = unclosed at
ended (Quoted k q) at got = unclosed at

-- what the byte b brings behind the bytes `got` of the piece at this place; k gives what follows, from a place on, by the bytes of its first piece that are read
abbrev pub brings : ℕ → List ℕ → ℕ → Event → (ℕ → List ℕ → Cut) → Cut
brings at got b Goes k = k at (got ++ (b ∷ []))
brings at got b Opens k = some_text at (all_but_last got) (k (at + length (all_but_last got)) (last_of got ++ (b ∷ [])))
brings at got b (Closes kind) k = mark kind at (drop 2 (all_but_last got)) (k (at + (length got + 1)) [])

abbrev pub scan : State → ℕ → List ℕ → List ℕ → Cut
scan s at got [] = ended s at got
scan s at got (b ∷ bs) = brings at got b (stepped s b).1 (λ place first. scan (stepped s b).0 place first bs)

abbrev pub cut : List ℕ → Cut
cut part = scan Text 0 [] part

-- the cut of a part whose first byte is at this place
abbrev pub cut_at : ℕ → List ℕ → Cut
cut_at at part = scan Text at [] part

-- how a state, the place where the piece begins and the place of the next byte go together
abbrev pub placed : State → ℕ → ℕ → Bool
placed Text start at = nat_le start at
placed Brace start at = nat_lt start at
placed (Inside k) start at = nat_le (start + 2) at
placed (Closing k) start at = nat_lt (start + 2) at
placed (Quoted k q) start at = nat_le (start + 2) at
