use Rattle.std.proofs.Common.{◌≡◌, ◌+◌, [], ◌∷◌, ◌++◌, map, length, None, inl, inr, vec_items, sym, refl, ap, ◌∙◌, arith, length-append}
use Rattle.std.proofs.lemmas.List.{map-append, length-map}
use Rattle.rows.specs.First.{first_from}
use Rattle.tray.specs.Parts.{same_text}
use Rattle.cutter.specs.Ahead.{ahead}
use Rattle.arguments.specs.Judging.{state, passes, with_name}
use Rattle.arguments.specs.Tables.{part_in, lists_of, under}
use Rattle.arguments.proofs.Entering.{enter_found, enter_refused, enter_new}
use Rattle.arguments.proofs.reader.Reader.enter.Goals as goal
use Rattle.arguments.proofs.reader.Reader.enter.Goals.{then-bytes-gt-LONGEST-via-then-bytes-gt-LONGEST, then-bytes-gt-LONGEST-via-else-bytes-gt-LONGEST+then-k-ge-NAMES}

pub returns-in-Some-clause-says : goal.returns-in-Some-clause-says
returns-in-Some-clause-says c =
    let d = c.args.self.now in
    let n = part_in d.source.now c.args.part in
    let same = ap (λ z. first_from (λ m. same_text m z) 0 (map (part_in d.source.now) (vec_items d.names))) (sym c.part_in-bytes.ensures) in
    (c.in-Some.k, (refl, c.in-Some.ensures.below), enter_found c.args.place n (under d) c.in-Some.k (same ∙ sym c.in-Some.ensures.is))

pub returns-then-bytes-gt-LONGEST-clause-says : goal.returns-then-bytes-gt-LONGEST-clause-says
returns-then-bytes-gt-LONGEST-clause-says c =
    let d = c.args.self.now in
    let n = part_in d.source.now c.args.part in
    let same = ap (λ z. first_from (λ m. same_text m z) 0 (map (part_in d.source.now) (vec_items d.names))) (sym c.part_in-bytes.ensures) in
    enter_refused c.args.place n (under d) (same ∙ sym c.in_default.ensures.is)
    (elim c.then-bytes-gt-LONGEST.branch [
      | then-bytes-gt-LONGEST-via-then-bytes-gt-LONGEST w ↦ inl (omega (arith, ap length c.part_in-bytes.ensures, w.if-bytes-gt-LONGEST.true))
      | then-bytes-gt-LONGEST-via-else-bytes-gt-LONGEST+then-k-ge-NAMES w ↦ inr (omega (arith, length-map (vec_items d.names) (part_in d.source.now), w.if-k-ge-NAMES.true, c.len-k.ensures, d.names.ok.0))
    ])

pub returns-clause-says : goal.returns-clause-says
returns-clause-says c =
    let d = c.args.self.now in
    let src = d.source.now in
    let n = part_in src c.args.part in
    let old = vec_items d.names in
    let l = lists_of d in
    let none : first_from (λ m. same_text m n) 0 (map (part_in src) old) ≡ None = ap (λ z. first_from (λ m. same_text m z) 0 (map (part_in src) old)) (sym c.part_in-bytes.ensures) ∙ sym c.in_default.ensures.is in
    let items : vec_items c.push.new.self ≡ old ++ (c.args.part ∷ []) = c.in_ok-push.ensures.items in
    let long : length (map (part_in src) old) ≡ c.len-k.result = length-map old (part_in src) ∙ sym d.names.ok.0 ∙ sym c.len-k.ensures in
    let spelt : map (part_in src) (vec_items c.push.new.self) ≡ map (part_in src) old ++ (n ∷ []) = ap (map (part_in src)) items ∙ map-append (part_in src) old (c.args.part ∷ []) in
    let grew : length (vec_items c.push.new.self) ≡ length old + 1 = ap length items ∙ length-append old (c.args.part ∷ []) in (
      c.len-k.result,
      (refl, omega (arith, grew, long, length-map old (part_in src))),
      enter_new c.args.place n (under d) none (omega (arith, ap length c.part_in-bytes.ensures, c.if-bytes-gt-LONGEST.false)) (omega (arith, long, c.if-k-ge-NAMES.false))
          ∙ ap (λ k. passes k (state (ahead d.cursor) (with_name n l))) long
          ∙ ap (λ ns. passes c.len-k.result (state (ahead d.cursor) (record { names = ns; cycles = l.cycles; nodes = l.nodes; asked = l.asked }))) (sym spelt),
    )
