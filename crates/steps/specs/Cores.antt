-- The gateway's fields as the rules see them, and steps carried out on them. Assumes nothing.
use Rattle.std.specs.Prelude.{◌≡◌, ℕ, true, List, Result}
use Rattle.octets.specs.Runs.{over}
use Rattle.rules.specs.Calls.{Step}
use Rattle.rules.specs.Fit.{Fit}
use Rattle.rules.specs.Law.{ProperSettings}
use Rattle.rules.specs.Making.{acceptable}
use Rattle.rules.specs.Model.{Model}
use Rattle.rules.specs.declared.answers.Answer.{Answer}
use Rattle.rules.specs.declared.answers.Refusal.{Refusal}
use Rattle.slots.specs.Rows.{Distinct, held_rows, look_up}
use Rattle.clock.specs.Laws.{gateway_of}
use Rattle.steps.specs.declared.state.Core.{Core}

-- the gateway without its slots
abbrev pub model : Core → Model
model c = gateway_of c.group (held_rows c.table.rows) (look_up c.table.rows)

-- what holds of the fields of every gateway that was made
pub record Ready (c : Core) : Type 0 where
  pub proper : ProperSettings c.settings
  pub accepted : acceptable c.settings ≡ true
  pub apart : Distinct c.table.rows
  pub fit : Fit (model c)

-- the fields became those of this gateway
pub record Becomes (to : Model) (before after : Core) : Type 0 where
  pub is : model after ≡ to
  pub settings_stay : after.settings ≡ before.settings
  pub apart : Distinct after.table.rows

-- a step of the rules, carried out: the answer, the gateway after it, and every octet of the output
pub record Does (step : Core → Step) (before after : Core) (answer : Result Answer Refusal) (out out' : List ℕ) : Type 0 where
  pub answers : answer ≡ (step before).answer
  pub goes : Becomes (step before).to before after
  pub writes : out' ≡ over (step before).written out
