-- Evaluation is confined by what its values read.
use Rattle.std.proofs.Common.{ℕ, List, [], ◌∷◌, Some, None, Ok, Err, Option, Result}
use Rattle.banks.specs.declared.causes.Cause.{Cause}
use Rattle.banks.specs.Meaning.{Given, a_number, a_text, Meaning}
use Rattle.banks.specs.Operands.{Datum}
use Rattle.tree.specs.Expressions.{Head, forloop, tablerowloop, named, Expr, nil_literal, boolean_literal, number_literal, text_literal, path, Filter, Chain}
use Rattle.tree.specs.Conditions.{Comparison, equals, differs, is_less, is_more, at_most, at_least, contains, Test, exists, compares, Condition, only, both, either}
use Rattle.meaning.specs.Things.{Thing, name, Held, nil, boolean, whole, text, array, object, pair}
use Rattle.meaning.specs.Frames.{Frames, bound, Met, value, loop}
use Rattle.meaning.specs.Looking.{World, sought, find, reach, needed, eval}
use Rattle.meaning.specs.Tests.{in_text, holding, compared, tested, judged}
use Rattle.meaning.specs.Chains.{fit, fit_argument, answered, called, argument_of, through, chained}
use Rattle.meaning.specs.Sharing.{head_reads, expr_reads, option_reads, filters_read, chain_reads, test_reads, condition_reads}
use Rattle.meaning.proofs.Confined.{Confined, and_then_confined, quiet_confined, cond_confined, look_confined}
use Rattle.meaning.proofs.Covers.{Covers, first, left, right}

module _ {X W : Thing → Type 0} (w : World) where
  sought_confined : (n : ℕ) (o : Option Held) → X (name n) → Confined w.limit X W (sought w n o)
  sought_confined n (Some v) x = quiet_confined _
  sought_confined n None x = and_then_confined (look_confined (name n) x) (λ c. quiet_confined _)

  find_confined : (e : Frames) (h : Head) → Covers X (head_reads h) → Confined w.limit X W (find w e h)
  unfolding find
  find_confined e forloop c = quiet_confined _
  find_confined e tablerowloop c = quiet_confined _
  find_confined e (named n) c = sought_confined n (bound e n) (first _ [] c)

  pub reach_confined : (x : Expr) (e : Frames) → Covers X (expr_reads x) → Confined w.limit X W (reach w x e)
  unfolding reach
  reach_confined nil_literal e c = quiet_confined _
  reach_confined (boolean_literal b) e c = quiet_confined _
  reach_confined (number_literal z) e c = quiet_confined _
  reach_confined (text_literal t) e c = quiet_confined _
  reach_confined (path h ss) e c = and_then_confined (find_confined e h c) (λ m. quiet_confined _)

  needed_confined : (p : ℕ) (e : Frames) (m : Option Met) → Confined w.limit X W (needed w p e m)
  needed_confined p e None = quiet_confined _
  needed_confined p e (Some (value v)) = quiet_confined _
  needed_confined p e (Some (loop l)) = quiet_confined _

  pub eval_confined : (x : Expr) (p : ℕ) (e : Frames) → Covers X (expr_reads x) → Confined w.limit X W (eval w x p e)
  unfolding eval
  eval_confined x p e c = and_then_confined (reach_confined x e c) (λ m. needed_confined p e m)

  in_text_confined : (a b : Held) (p : ℕ) (e : Frames) → Confined w.limit X W (in_text w a b p e)
  in_text_confined a nil p e = quiet_confined _
  in_text_confined a (boolean b) p e = quiet_confined _
  in_text_confined a (whole z) p e = quiet_confined _
  in_text_confined a (text t) p e = quiet_confined _
  in_text_confined a (array i) p e = cond_confined _ (quiet_confined _) (quiet_confined _)
  in_text_confined a (object i) p e = cond_confined _ (quiet_confined _) (quiet_confined _)
  in_text_confined a (pair i) p e = cond_confined _ (quiet_confined _) (quiet_confined _)

  holding_confined : (a b : Held) (p : ℕ) (e : Frames) → Confined w.limit X W (holding w a b p e)
  holding_confined nil b p e = quiet_confined _
  holding_confined (boolean a) b p e = in_text_confined (boolean a) b p e
  holding_confined (whole z) b p e = in_text_confined (whole z) b p e
  holding_confined (text t) b p e = in_text_confined (text t) b p e
  holding_confined (array i) b p e = quiet_confined _
  holding_confined (object i) b p e = quiet_confined _
  holding_confined (pair i) b p e = quiet_confined _

  compared_confined : (c : Comparison) (a b : Held) (p : ℕ) (e : Frames) → Confined w.limit X W (compared w c a b p e)
  compared_confined equals a b p e = quiet_confined _
  compared_confined differs a b p e = quiet_confined _
  compared_confined is_less a b p e = quiet_confined _
  compared_confined is_more a b p e = quiet_confined _
  compared_confined at_most a b p e = quiet_confined _
  compared_confined at_least a b p e = quiet_confined _
  compared_confined contains a b p e = holding_confined a b p e

  tested_confined : (t : Test) (p : ℕ) (e : Frames) → Covers X (test_reads t) → Confined w.limit X W (tested w t p e)
  unfolding tested
  tested_confined (exists x) p e h = and_then_confined (reach_confined x e h) (λ m. quiet_confined _)
  tested_confined (compares x c y) p e h =
      and_then_confined (eval_confined x p e (left _ (expr_reads y) h))
      (λ a. and_then_confined (eval_confined y p e (right (expr_reads x) _ h)) (λ b. compared_confined c a b p e))

  pub judged_confined : (c : Condition) (p : ℕ) (e : Frames) → Covers X (condition_reads c) → Confined w.limit X W (judged w c p e)
  judged_confined (only t) p e h = tested_confined t p e h
  judged_confined (both t c) p e h =
      and_then_confined (tested_confined t p e (left _ (condition_reads c) h))
      (λ y. cond_confined y (judged_confined c p e (right (test_reads t) _ h)) (quiet_confined _))
  judged_confined (either t c) p e h =
      and_then_confined (tested_confined t p e (left _ (condition_reads c) h))
      (λ y. cond_confined y (quiet_confined _) (judged_confined c p e (right (test_reads t) _ h)))

  answered_confined : (r : Result Given Cause) (p : ℕ) (e : Frames) → Confined w.limit X W (answered r p e)
  answered_confined (Ok (a_number z)) p e = quiet_confined _
  answered_confined (Ok (a_text t)) p e = quiet_confined _
  answered_confined (Err c) p e = quiet_confined _

  called_confined : (m : Meaning) (f : List ℕ) (d : Option Datum) (a : Option (Option Datum)) (p : ℕ) (e : Frames) → Confined w.limit X W (called m f d a p e)
  called_confined m f None a p e = quiet_confined _
  called_confined m f (Some d) None p e = quiet_confined _
  called_confined m f (Some d) (Some a) p e = answered_confined (m.gives f d a) p e

  argument_confined : (x : Option Expr) (p : ℕ) (e : Frames) → Covers X (option_reads x) → Confined w.limit X W (argument_of w x p e)
  argument_confined None p e h = quiet_confined _
  argument_confined (Some x) p e h = and_then_confined (eval_confined x p e h) (λ v. quiet_confined _)

  through_confined : (fs : List Filter) (v : Held) (p : ℕ) (e : Frames) → Covers X (filters_read fs) → Confined w.limit X W (through w fs v p e)
  through_confined [] v p e h = quiet_confined _
  through_confined (f ∷ fs) v p e h =
      and_then_confined (argument_confined f.argument p e (left _ (filters_read fs) h))
      (λ a. and_then_confined (called_confined w.bank f.filter (fit v) (fit_argument a) p e)
      (λ u. through_confined fs u p e (right (option_reads f.argument) _ h)))

  pub chained_confined : (c : Chain) (p : ℕ) (e : Frames) → Covers X (chain_reads c) → Confined w.limit X W (chained w c p e)
  unfolding chained
  chained_confined c p e h =
      and_then_confined (eval_confined c.value p e (left _ (filters_read c.filters) h))
      (λ v. through_confined c.filters v p e (right (expr_reads c.value) _ h))
