-- What is printed when a template is loaded.
use Rattle.std.specs.Prelude.{ℕ, ◌-◌, List, [], ◌∷◌, ◌++◌, map, codes, Result, Ok, Err}
use Rattle.std.specs.Fmt.{decimal}
use Rattle.arguments.specs.Refusals.{number_of, words_of}
use Rattle.arguments.specs.declared.refusals.Refusal.{Refusal}
use Rattle.arguments.specs.declared.refusals.Stop.{Stop}
use Rattle.arguments.specs.declared.refusals.Stop.TheVariants.{Refused, Memory}
use Rattle.tray.specs.Parts.{cut}
use Rattle.ticket.specs.declared.json.document.Part.{Part}
use Rattle.ticket.specs.declared.load.Loaded.{Loaded}
use Rattle.ticket.specs.Excerpt.{before_of, behind_of, plain, place_words, excerpt}

abbrev pub loaded_words : Loaded → List ℕ
loaded_words l = codes " ok template=" ++ (decimal l.template ++ (codes " nodes=" ++ (decimal l.nodes ++ (10 ∷ []))))

-- a refusal at a place in a text, and the line of its place
abbrev pub refused_words : Refusal → ℕ → List ℕ → List ℕ
refused_words r place text = codes " refused " ++ (decimal (number_of r) ++ (place_words place text ++ (codes ": " ++ (words_of r ++ (10 ∷ excerpt (before_of place text) (behind_of place text))))))

-- behind the name of the template, which is this part of the source
abbrev pub answer_words : List ℕ → Part → Result Loaded Stop → List ℕ
answer_words source part (Ok l) = loaded_words l
answer_words source part (Err (Refused r place)) = refused_words r (place - part.place) (cut source part.place part.len)
answer_words source part (Err Memory) = codes " failed: no memory" ++ (10 ∷ [])

abbrev pub load_lines : List ℕ → Part → List ℕ → Result Loaded Stop → List ℕ
load_lines source part name answer = codes "load " ++ (map plain name ++ answer_words source part answer)
