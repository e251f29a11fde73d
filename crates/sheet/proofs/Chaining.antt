-- One step of the parser after another.
use Rattle.std.proofs.Common.{◌≡◌, ℕ, ◌+◌, ◌≤◌, ◌<◌, List, length, Err, vec_items, Result, refl, sym, ap, ◌∙◌, subst, arith, length-append}
use Rattle.std.proofs.lemmas.Result.{err_from_is_err_and}
use Rattle.std.specs.Prelude.{IsErrAnd}
use Rattle.tree.specs.Elements.{Tree}
use Rattle.nodes.specs.declared.table.Node.{Node}
use Rattle.nodes.specs.Exprs.{Pool}
use Rattle.nodes.specs.Wider.{Front, Wider}
use Rattle.nodes.specs.Built.{Leads}
use Rattle.nodes.proofs.Options.{front_refl, front_then}
use Rattle.nodes.proofs.Widens.{wider_refl, wider_then}
use Rattle.nodes.proofs.Builds.{agree_within}
use Rattle.arguments.specs.declared.reader.Reader.{Reader}
use Rattle.arguments.specs.declared.refusals.Stop.{Stop}
use Rattle.arguments.specs.declared.refusals.Stop.TheVariants.{Refused, Memory}
use Rattle.arguments.specs.Tables.{pool_of, lists_of, Grown, Longer}
use Rattle.sheet.specs.declared.parser.Parser.{Parser}
use Rattle.sheet.specs.Steps.{Outcome, fails, gives, Step, followed, pieces}
use Rattle.sheet.specs.Answers.{nodes_of, count, cut_of, taken, Fails, Did, Went}

pub went_refl : (p : Parser) → Went p p
went_refl p =
    record {
      pool = wider_refl (pool_of p.reader);
      names = front_refl _;
      cycles = front_refl _;
      nodes = front_refl _;
      end = refl;
      pieces = omega arith;
    }

pub went_then : (p q s : Parser) → Went p q → Went q s → Went p s
went_then p q s h k =
    record {
      pool = wider_then (pool_of p.reader) (pool_of q.reader) (pool_of s.reader) h.pool k.pool;
      names = front_then _ _ _ h.names k.names;
      cycles = front_then _ _ _ h.cycles k.cycles;
      nodes = front_then _ _ _ h.nodes k.nodes;
      end = k.end ∙ h.end;
      pieces = omega (arith, h.pieces, k.pieces);
    }

pub front_length : {A : Type 0} (xs ys : List A) → Front xs ys → length xs ≤ length ys
front_length xs ys h = let e : length ys ≡ length xs + length h.more = ap length h.is ∙ length-append xs h.more in omega arith

-- a refusal stays one, whatever would follow
pub fails_followed : {A B : Type 0} (e : Stop) (v : Outcome A) (k : A → Step B) → Fails e v → Fails e (followed v k)
fails_followed (Refused r p) v k h = ap (λ x. followed x k) h
fails_followed Memory v k h = tt

-- what follows a step that went well
pub did_followed : {A B C : Type 0} (r : Result A Stop) (v : Outcome C) (k : C → Step B) (y : C) (q : Parser) (D : A → B → Type 0) (s : Parser) →
    v ≡ gives y (cut_of q) (lists_of q.reader) → Did r (taken (k y) q) D s → Did r (followed v k) D s
did_followed r v k y q D s e h = subst (λ o. Did r (followed o k) D s) (sym e) h

-- elements behind others
pub leads_then : (b : Pool) (ns : List Node) (room i j k : ℕ) (f g : Tree → Tree) → i ≤ j → j ≤ k → Leads b ns room i j f → Leads b ns room j k g → Leads b ns room i k (λ t. f (g t))
leads_then b ns room i j k f g ij jk h l c ms w a e t ke q =
    h c ms w (agree_within ns ms i i j k (omega arith) (omega (arith, jk)) a) e (g t) (omega (arith, jk, ke))
    (l c ms w (agree_within ns ms i j k k (omega (arith, ij)) (omega arith) a) e t ke q)

-- what a `?` hands on: the same refusal
pub did_err : {A B : Type 0} (r : Result A Stop) (v : Outcome B) (D : A → B → Type 0) (q : Parser) (x : Stop) → IsErrAnd r (λ e. e ≡ x) → Fails x v → Did r v D q
did_err r v D q x h f =
    let (e, is, gave) = err_from_is_err_and r h in
    subst (λ t. Did t v D q) (sym (is ∙ ap Err gave)) f
