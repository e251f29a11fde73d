-- What is given stays given.
use Rattle.std.proofs.Common.{◌≡◌, ℕ, ◌+◌, ◌≤◌, Bool, true, false, leb, List, [], ◌∷◌, ◌++◌, length, take, drop, Some, None, Option, sym, refl, ap, ◌∙◌, arith, length-append}
use Rattle.std.proofs.lemmas.Bool.{leb-true, le-leb}
use Rattle.std.proofs.lemmas.List.{take-append-le, drop-append-le, length-drop}
use Rattle.std.specs.Option.{option_map}
use Rattle.nodes.specs.declared.exprs.Span.{Span}
use Rattle.nodes.specs.Exprs.{◌so◌, where_so, only, each, if_any, entries}
use Rattle.nodes.specs.Wider.{Front, Keeps}

pub none_some : {A B : Type 0} (x : A) → ◌≡◌ {A = Option A} None (Some x) → B
none_some x e = let z : ◌≡◌ {A = ℕ} 0 1 = cc in absurd (omega arith)

pub some_is : {A : Type 0} (x y : A) → Some x ≡ Some y → x ≡ y
some_is x y e = cc

-- the parts of what is given
pub so_parts : {A B : Type 0} (o : Option A) (f : A → Option B) (y : B) → (o so f) ≡ Some y → (x : A) × (o ≡ Some x) × (f x ≡ Some y)
so_parts None f y e = none_some y e
so_parts (Some x) f y e = (x, refl, e)

pub where_parts : {A : Type 0} (b : Bool) (o : Option A) (y : A) → where_so b o ≡ Some y → (b ≡ true) × (o ≡ Some y)
where_parts true o y e = (refl, e)
where_parts false o y e = none_some y e

pub only_parts : {A : Type 0} (b : Bool) (x y : A) → only b x ≡ Some y → (b ≡ true) × (x ≡ y)
only_parts true x y e = (refl, some_is x y e)
only_parts false x y e = none_some y e

pub mapped_parts : {A B : Type 0} (f : A → B) (o : Option A) (y : B) → option_map f o ≡ Some y → (x : A) × (o ≡ Some x) × (f x ≡ y)
mapped_parts f None y e = none_some y e
mapped_parts f (Some x) y e = (x, refl, some_is (f x) y e)

-- what is given, where a test passes
pub where_is : {A : Type 0} (b : Bool) (o : Option A) → b ≡ true → where_so b o ≡ o
where_is b o e = ap (λ t. where_so t o) e

pub only_is : {A : Type 0} (b : Bool) (x : A) → b ≡ true → only b x ≡ Some x
only_is b x e = ap (λ t. only t x) e

pub keeps_refl : {A : Type 0} (o : Option A) → Keeps o o
keeps_refl o y e = e

pub keeps_same : {A : Type 0} (o p : Option A) → p ≡ o → Keeps o p
keeps_same o p h y e = h ∙ e

pub keeps_so : {A B : Type 0} (o p : Option A) (f g : A → Option B) → Keeps o p → ((x : A) → Keeps (f x) (g x)) → Keeps (o so f) (p so g)
keeps_so o p f g h k y e =
    let (x, a, c) = so_parts o f y e in
    ap (λ q. q so g) (h x a) ∙ k x y c

pub keeps_where : {A : Type 0} (b : Bool) (o p : Option A) → (b ≡ true → Keeps o p) → Keeps (where_so b o) (where_so b p)
keeps_where true o p h y e = h refl y e
keeps_where false o p h y e = e

pub keeps_only : {A : Type 0} (b c : Bool) (x : A) → (b ≡ true → c ≡ true) → Keeps (only b x) (only c x)
keeps_only true c x h y e = ap (λ t. only t x) (h refl) ∙ e
keeps_only false c x h y e = none_some y e

pub keeps_mapped : {A B : Type 0} (f : A → B) (o p : Option A) → Keeps o p → Keeps (option_map f o) (option_map f p)
keeps_mapped f o p h y e =
    let (x, a, c) = mapped_parts f o y e in
    ap (option_map f) (h x a) ∙ ap Some c

pub keeps_each : {A B : Type 0} (f g : A → Option B) → ((x : A) → Keeps (f x) (g x)) → (xs : List A) → Keeps (each f xs) (each g xs)
keeps_each f g h [] y e = e
keeps_each f g h (x ∷ xs) y e =
    keeps_so (f x) (g x) (λ t. each f xs so λ ts. Some (t ∷ ts)) (λ t. each g xs so λ ts. Some (t ∷ ts)) (h x)
    (λ t. keeps_so (each f xs) (each g xs) (λ ts. Some (t ∷ ts)) (λ ts. Some (t ∷ ts)) (keeps_each f g h xs) (λ ts z q. q)) y e

pub keeps_if_any : {A B : Type 0} (f g : A → Option B) → ((x : A) → Keeps (f x) (g x)) → (o : Option A) → Keeps (if_any f o) (if_any g o)
keeps_if_any f g h None y e = e
keeps_if_any f g h (Some x) y e = keeps_mapped Some (f x) (g x) (h x) y e

-- entries of a table that has grown
pub keeps_entries : {A : Type 0} (xs ys : List A) (s : Span) → Front xs ys → Keeps (entries xs s) (entries ys s)
keeps_entries xs ys s h y e =
    let (t, q) = only_parts (leb (s.from + s.count) (length xs)) (take s.count (drop s.from xs)) y e in
    let fits : s.from + s.count ≤ length xs = leb-true (s.from + s.count) (length xs) t in
    let long : length ys ≡ length xs + length h.more = ap length h.is ∙ length-append xs h.more in
    let wide : leb (s.from + s.count) (length ys) ≡ true = le-leb (s.from + s.count) (length ys) (omega arith) in
    let less : s.from ≤ length xs = omega arith in
    let rest : s.count ≤ length (drop s.from xs) = omega (arith, length-drop s.from xs) in
    let same : take s.count (drop s.from ys) ≡ take s.count (drop s.from xs) =
    ap (λ l. take s.count (drop s.from l)) h.is
    ∙ ap (take s.count) (drop-append-le s.from xs h.more less)
    ∙ take-append-le s.count (drop s.from xs) h.more rest in
    ap (λ t. only t (take s.count (drop s.from ys))) wide ∙ ap Some (same ∙ q)

pub front_refl : {A : Type 0} (xs : List A) → Front xs xs
front_refl xs = record { more = []; is = sym (mathlib.Core.List.append-nil xs) }

pub front_then : {A : Type 0} (xs ys zs : List A) → Front xs ys → Front ys zs → Front xs zs
front_then xs ys zs h k =
    record { more = h.more ++ k.more; is = k.is ∙ ap (λ l. l ++ k.more) h.is ∙ mathlib.Core.List.append_assoc xs h.more k.more }
