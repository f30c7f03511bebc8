-- Facts about a gateway's fields. Assumes nothing.
use Rattle.std.proofs.Common.{◌≡◌, ℕ, List, Some, None, Option, Result, sym, refl, ap, ◌∙◌, subst}
use Rattle.octets.specs.Runs.{over}
use Rattle.rules.specs.Calls.{Step, due}
use Rattle.rules.specs.Meaning.{Meaning}
use Rattle.rules.specs.declared.answers.Answer.{Answer}
use Rattle.rules.specs.declared.answers.Refusal.{Refusal}
use Rattle.slots.proofs.Ruled.{lapsed_is_the_rule}
use Rattle.slots.specs.Lapses as rows
use Rattle.slots.specs.Places.{index_of}
use Rattle.slots.specs.declared.place.Place.{Place}
use Rattle.steps.specs.Cores.{Becomes, Does, model}
use Rattle.steps.specs.Living.{Lapses}
use Rattle.steps.specs.Buffers.{lending, lent}
use Rattle.steps.specs.Steps.{carrying, falling_due, next_lapsed}
use Rattle.steps.specs.declared.state.Core.{Core}

-- which session lapsed, by its place
pub first_lapsed_at : (c : Core) (o : Option Place) → rows.Lapses c.table.rows (index_of o) → Lapses c o
unfolding next_lapsed
first_lapsed_at c None l = sym (lapsed_is_the_rule (model c) c.table.rows) ∙ l
first_lapsed_at c (Some at) l = record { is = sym (lapsed_is_the_rule (model c) c.table.rows) ∙ l.is; session = l.found.session }

-- two steps that are the same at a gateway do the same there
pub does_same : (s t : Core → Step) (before after : Core) (answer : Result Answer Refusal) (out out' : List ℕ)
    → s before ≡ t before → Does s before after answer out out' → Does t before after answer out out'
does_same s t before after answer out out' e d =
    record
    { answers = d.answers ∙ ap (λ (r : Step). r.answer) e; goes = subst (λ (r : Step). Becomes r.to before after) e d.goes; writes = d.writes ∙ ap (λ (r : Step). over r.written out) e }

module _ (M : Meaning) (c : Core) where
  -- due is the step for what is due, where it looks for a lapsed session under its shut name
  pub due_is : (lot : ℕ) (out work : List ℕ) → lent out work (falling_due M lot) c ≡ carrying M (due lot (lending out work)) c
  unfolding next_lapsed
  due_is lot out work = refl
