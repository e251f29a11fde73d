-- The laws of calls and of rendered text.
use Rattle.std.proofs.Common.{◌≡◌, ℕ, ◌-◌, ◌≤◌, Bool, true, false, cond, leb, List, [], ◌++◌, length, replicate, Some, None, Option, sym, refl, ap, subst, arith}
use Rattle.std.proofs.lemmas.List.{length-append, length-replicate, length-take}
use Rattle.std.specs.List.{slice_get}
use Rattle.banks.specs.Meaning.{Meaning}
use Rattle.tree.specs.Elements.{Tree}
use Rattle.meaning.specs.Things.{Drawers}
use Rattle.meaning.specs.Hosts.{Host}
use Rattle.meaning.specs.Frames.{TrailRecord, blank, sixteen}
use Rattle.meaning.specs.Acts.{Step, step, gives, stops, still}
use Rattle.meaning.specs.Leaves.{Flow}
use Rattle.meaning.specs.Calls.{Sheet, Judged, refusal, renders, judged_page, Result, refused, accepted, rendered, filled, ticket, text_after, drawers_after, act, result, perform}
use Rattle.meaning.specs.Laws.{ChangesOnlyWhatItWrites, DependsOnlyOnWhatItReads, WithoutAClashTheyCommute, RefusedCallsTouchNothing, RenderingOnlyAdds, Whole, TicketsAreWhole}
use Rattle.meaning.proofs.Rendering.{render_confined}
use Rattle.meaning.proofs.Commute.{keeps, agrees, commute, act_confined}

pub changes_only : ChangesOnlyWhatItWrites
changes_only s bank c d t n = keeps s bank c d t n

pub depends_only : DependsOnlyOnWhatItReads
depends_only s bank c d e h =
    let r = agrees s bank (λ t. d t ≡ e t) c d e h (λ t x. x) in
    record { result = r.0; drawers = r.1 }

pub without_a_clash : WithoutAClashTheyCommute
without_a_clash s bank a b n d =
    let q = commute s bank a b n d in
    record { first = q.first; second = q.second; drawers = λ t. ap (λ (D : Drawers). D t) q.drawers }

pub refused_touch_nothing : RefusedCallsTouchNothing
unfolding perform still
refused_touch_nothing s bank c n d e =
    ap {B = Result × Drawers} (λ j. (result s bank j (act s bank j d []), drawers_after (act s bank j d []))) e

pub rendering_only_adds : RenderingOnlyAdds
rendering_only_adds w t e d o l =
    let g = (render_confined {X = λ _. Unit {0}} {W = λ _. Unit {0}} w t e (λ _ _. tt) (λ _ _. tt)).grown d o l in
    record { added = g.added; is = g.is; fits = subst (λ (x : List ℕ). length x ≤ w.limit) (sym g.is) g.short }

filled_whole : (limit : ℕ) (o : List ℕ) → length o ≤ limit → length (filled limit o) ≡ limit
filled_whole limit o l =
    let a = length-append o (replicate {A = ℕ} (limit - length o) 0) in
    let b : length (replicate {A = ℕ} (limit - length o) 0) ≡ limit - length o = length-replicate (limit - length o) 0 in
    omega arith

sixteen_whole : (ts : List TrailRecord) → length (sixteen ts) ≡ 16
sixteen_whole ts =
    let a = length-append ts (replicate 16 blank) in
    let b : length (replicate 16 blank) ≡ 16 = refl in
    let c = length-take 16 (ts ++ replicate 16 blank) in
    omega arith

-- the bytes and the trail of a result, where it has them
abbrev HasWhole : ℕ → Result → Type 0
HasWhole k (refused n) = Unit {0}
HasWhole k accepted = Unit {0}
HasWhole k (rendered f bytes ts) = Whole k bytes ts

ticket_whole : (k : ℕ) (s : Step Flow) → length (text_after s) ≤ k → HasWhole k (ticket k s)
ticket_whole k (step d o (gives f)) l = record { bytes_of_the_buffer = filled_whole k o l; records_of_the_trail = sixteen_whole [] }
ticket_whole k (step d o (stops f)) l = record { bytes_of_the_buffer = filled_whole k o l; records_of_the_trail = sixteen_whole f.trail }

module _ (s : Sheet) (bank : Meaning) where
  abbrev got : Judged → Drawers → Result
  got j d = result s bank j (act s bank j d [])

  tree_whole : (t : Tree) (h : Host) (k : ℕ) (d : Drawers) → HasWhole k (got (renders t h k) d)
  tree_whole t h k d =
      let g = (act_confined s bank {X = λ _. Unit {0}} {W = λ _. Unit {0}} (renders t h k) (λ _ _. tt) (λ _ _. tt)).grown d [] (omega arith) in
      ticket_whole k (act s bank (renders t h k) d []) (subst (λ (x : List ℕ). length x ≤ k) (sym g.is) g.short)

  enough : (b : Bool) (t : Tree) (h : Host) (k : ℕ) (d : Drawers) → HasWhole k (got (cond b (renders t h k) (refusal 12)) d)
  enough true t h k d = tree_whole t h k d
  enough false t h k d = tt

  page_whole : (t : Option Tree) (h : Host) (k trail : ℕ) (d : Drawers) → HasWhole k (got (judged_page t h k trail) d)
  page_whole None h k trail d = tt
  page_whole (Some t) h k trail d = enough (leb 16 trail) t h k d

pub tickets_are_whole : TicketsAreWhole
unfolding perform
tickets_are_whole s bank i h buffer trail d f bytes ts e =
    subst (λ (r : Result). HasWhole buffer r) e (page_whole s bank (slice_get s.templates i) h buffer trail d)
