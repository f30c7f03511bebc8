-- A step that was carried out on the front of an output, and one for which there was no room. Assumes nothing.
use Rattle.std.proofs.Common.{◌≡◌, ℕ, ◌≤◌, false, List, ◌++◌, length, take, drop, Err, Result, sym, refl, ap, ◌∙◌, arith}
use Rattle.std.proofs.lemmas.List.{append_assoc, drop-append-le, length-append, length-drop, length-take-le, take-append-drop}
use Rattle.std.proofs.lemmas.Bool.{cond-false, le-leb}
use Rattle.octets.specs.Runs.{over}
use Rattle.frames.specs.Limits.{largest_frame}
use Rattle.rules.specs.Calls.{Step, refuse}
use Rattle.rules.specs.declared.answers.Answer.{Answer}
use Rattle.rules.specs.declared.answers.Refusal.{Refusal}
use Rattle.rules.specs.declared.answers.Refusal.TheVariants.{Buffers}
use Rattle.slots.specs.Rows.{Distinct}
use Rattle.steps.specs.Buffers.{has_room, lent}
use Rattle.steps.specs.Cores.{Does, model}
use Rattle.steps.specs.declared.state.Core.{Core}
use Rattle.steps.proofs.Fields.{does_same}

-- what is written over a front that it fits in is written over the whole
over_front : (w out : List ℕ) (n : ℕ) → n ≤ length out → length (over w (take n out)) ≡ n → over w (take n out) ++ drop n out ≡ over w out
over_front w out n fits long =
    let front = length-take-le n out fits in
    let parts = length-append w (drop (length w) (take n out)) in
    let rest = length-drop (length w) (take n out) in
    let small : length w ≤ length (take n out) = omega arith in
    append_assoc w (drop (length w) (take n out)) (drop n out)
    ∙ ap (λ (xs : List ℕ). w ++ xs) (sym (drop-append-le (length w) (take n out) (drop n out) small) ∙ ap (drop (length w)) (take-append-drop n out))

-- so with a step
module _ (step : Core → Step) (before after : Core) (answer : Result Answer Refusal) (out front front' : List ℕ) where
  pub fronted : largest_frame ≤ length out → front ≡ take largest_frame out → length (front' ++ drop largest_frame out) ≡ length out
      → Does step before after answer front front' → Does step before after answer out (front' ++ drop largest_frame out)
  fronted fits is long d =
      let writes : front' ≡ over (step before).written (take largest_frame out) = d.writes ∙ ap (over (step before).written) is in
      let parts = length-append front' (drop largest_frame out) in
      let rest = length-drop largest_frame out in
      let same : length front' ≡ largest_frame = omega arith in
      record {
        answers = d.answers;
        goes = d.goes;
        writes = ap (λ (xs : List ℕ). xs ++ drop largest_frame out) writes ∙ over_front (step before).written out largest_frame fits (ap length (sym writes) ∙ same);
      }

-- with room in both buffers the step is done
pub roomed : (step : Core → Step) (before after : Core) (answer : Result Answer Refusal) (out work front front' : List ℕ)
    → largest_frame ≤ length work → largest_frame ≤ length out → front ≡ take largest_frame out → length (front' ++ drop largest_frame out) ≡ length out
    → Does step before after answer front front' → Does (lent out work step) before after answer out (front' ++ drop largest_frame out)
roomed step before after answer out work front front' area fits is long d =
    let f = le-leb largest_frame (length out) fits in
    let a = le-leb largest_frame (length work) area in
    let asks : lent out work step before ≡ step before = rw (f, a) refl in
    does_same step (lent out work step) before after answer out (front' ++ drop largest_frame out) (sym asks) (fronted step before after answer out front front' fits is long d)

-- and with no room it is refused
pub declined : (step : Core → Step) (core : Core) (answer : Result Answer Refusal) (out work : List ℕ)
    → Distinct core.table.rows → has_room out work ≡ false → answer ≡ Err Buffers → Does (lent out work step) core core answer out out
declined step core answer out work apart no_room is =
    let asks : refuse (model core) Buffers ≡ lent out work step core = sym (cond-false (has_room out work) (step core) (refuse (model core) Buffers) no_room) in
    does_same (λ k. refuse (model k) Buffers) (lent out work step) core core answer out out asks
    (record { answers = is; goes = record { is = refl; settings_stay = refl; apart = apart }; writes = refl })
