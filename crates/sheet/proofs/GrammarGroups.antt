-- `and` and `or` group from the right.
use Rattle.std.proofs.Common.{◌≡◌, ℕ, Bool, true, false, List, codes, refl, sym, subst}
use Rattle.cutter.specs.Lengths.{run_at, name_length, step_length, steps_length, is_literal, path_length, value_length, token_length}
use Rattle.cutter.specs.Words.{Words, over, word, words_from, tokens}
use Rattle.cutter.specs.Tokens.{is_name, is_boolean, token_of}
use Rattle.arguments.specs.Judging.{seen}
use Rattle.sheet.specs.Grammar.{Env, Begins, TheWord, ReadsAs, TestIs, ConditionIs}
use Rattle.tree.specs.Expressions.{boolean_literal}
use Rattle.sheet.specs.GrammarLaws.{OneCondition, literal_test, grouped, GroupsRight}
use Rattle.sheet.proofs.GrammarOnly.{condition_one}

pub one_condition : OneCondition
one_condition e apart c d a h k = condition_one e apart c d a h k

written : tokens (codes "false and false or true") ≡ word 0 (codes "false") (word 6 (codes "and") (word 10 (codes "false") (word 16 (codes "or") (word 19 (codes "true") over))))
unfolding words_from token_length value_length path_length name_length run_at is_literal steps_length step_length
written = refl

reads_false : (p : ℕ) → token_of p (codes "false") ≡ is_boolean false
unfolding token_of name_length run_at
reads_false p = refl

reads_true : (p : ℕ) → token_of p (codes "true") ≡ is_boolean true
unfolding token_of name_length run_at
reads_true p = refl

reads_and : (p : ℕ) → token_of p (codes "and") ≡ is_name (codes "and")
unfolding token_of name_length run_at
reads_and p = refl

reads_or : (p : ℕ) → token_of p (codes "or") ≡ is_name (codes "or")
unfolding token_of name_length run_at
reads_or p = refl

begins_word : (n b : List ℕ) (p : ℕ) (rest : Words) → token_of p b ≡ is_name n → Begins (TheWord n) (word p b rest) rest
begins_word n b p rest h = record { token = seen p b; is = refl; so = h }

tests : (e : Env) (p : ℕ) (b : List ℕ) (t : Bool) (rest : Words) → token_of p b ≡ is_boolean t → TestIs e (literal_test t) (word p b rest) rest
tests e p b t rest h = record { token = seen p b; is = refl; so = subst (ReadsAs e (boolean_literal t) p) (sym h) refl }

pub groups_right : GroupsRight
groups_right e =
    let fourth : Words = word 19 (codes "true") over in
    let third : Words = word 10 (codes "false") (word 16 (codes "or") fourth) in
    let whole : Words = word 0 (codes "false") (word 6 (codes "and") third) in
    let is : ConditionIs e grouped whole = (
      word 6 (codes "and") third,
      third,
      tests e 0 (codes "false") false (word 6 (codes "and") third) (reads_false 0),
      begins_word (codes "and") (codes "and") 6 third (reads_and 6),
      (
        word 16 (codes "or") fourth,
        fourth,
        tests e 10 (codes "false") false (word 16 (codes "or") fourth) (reads_false 10),
        begins_word (codes "or") (codes "or") 16 fourth (reads_or 16),
        tests e 19 (codes "true") true over (reads_true 19),
      ),
    ) in
    let here : ConditionIs e grouped (tokens (codes "false and false or true")) = subst (ConditionIs e grouped) (sym written) is in
    (here, λ apart c h. condition_one e apart c grouped (tokens (codes "false and false or true")) h here)
