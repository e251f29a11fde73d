-- Cases over a tray in which `l` is an object: its key a has the number 1, its key 7 the text z.
use Rattle.std.specs.Prelude.{◌≡◌, [], ◌∷◌, length, pos, negsuc, codes}
use Prim.Native.String.{String}
use Rattle.banks.specs.Joined.{nothing}
use Rattle.tray.specs.declared.records.Record.TheVariants.{Whole, Text, Object}
use Rattle.tray.specs.Parts.{span}
use Rattle.tree.specs.Expressions.{named, index, key, path}
use Rattle.tree.specs.Conditions.{equals, contains}
use Rattle.tree.specs.Elements.{plain, output, assign, Tree, done, leaf}
use Rattle.meaning.specs.Things.{unset}
use Rattle.meaning.specs.Hosts.{Host}
use Rattle.meaning.specs.Calls.{page, run}
use Rattle.meaning.specs.Examples.{bare_name, shown_name}
use Rattle.meaning.specs.Worked.{sheet, says}
use Rattle.meaning.specs.FaultCases.{one_leaf}
use Rattle.meaning.specs.MoreCases.{step_into_l, answers, num, txt, over_l}

abbrev pub an_object : Host
an_object =
    record {
      records = Object (span 1 1) ∷ Text (span 0 1) ∷ Object (span 3 2) ∷ Text (span 1 1) ∷ Whole (pos 1) ∷ Text (span 2 1) ∷ Text (span 3 1) ∷ [];
      letters = codes "la7z";
    }

abbrev pub Tells : Tree → String → Type 0
Tells t s = (run (sheet (t ∷ [])) nothing (page 0 an_object (length (codes s)) 16 ∷ []) unset).0 ≡ says s ∷ []

-- {% for i in l %}{{ i[0] }}={{ i[-1] }},{% endfor %}
abbrev pub entries_shown : Tree
entries_shown =
    over_l
    (leaf 1 (output (record { value = path (named 3) (index (pos 0) ∷ []); filters = [] }))
    (leaf 2 (plain (codes "="))
    (leaf 3 (output (record { value = path (named 3) (index (negsuc 0) ∷ []); filters = [] }))
    (leaf 4 (plain (codes ",")) done))))
    done

-- {% for i in l %}{% assign n = i %}{% endfor %}{{ n }}
abbrev pub last_pair_kept : Tree
last_pair_kept = over_l (leaf 1 (assign 0 (record { value = bare_name 3; filters = [] })) done) (leaf 2 (shown_name 0) done)

pub record ObjectCases : Type 0 where
  pub by_key : Tells (step_into_l (key (codes "a"))) "1"
  pub by_number : Tells (step_into_l (index (pos 7))) "z"
  pub size : Tells (step_into_l (key (codes "size"))) "2"
  -- the text of an object is its keys and the texts of its values
  pub as_text : Tells (one_leaf (shown_name 2)) "a17z"
  pub entries : Tells entries_shown "a=1,7=z,"
  pub pair_kept : Tells last_pair_kept "7z"
  pub has_key : Tells (answers (bare_name 2) contains (txt "a")) "yes"
  pub has_number_as_key : Tells (answers (bare_name 2) contains (num (pos 7))) "yes"
  pub values_are_no_keys : Tells (answers (bare_name 2) contains (txt "z")) "no"
  pub itself : Tells (answers (bare_name 2) equals (bare_name 2)) "yes"
