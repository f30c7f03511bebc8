-- What each call promises: the rule on its input, and the law over every run that led to the gateway. Assumes nothing.
use Rattle.std.specs.Prelude.{◌≡◌, ℕ, List, ◌∷◌, Result}
use Rattle.octets.specs.Runs.{over}
use Rattle.rules.specs.Answers.{told}
use Rattle.rules.specs.Calls.{Call}
use Rattle.rules.specs.Law.{Law, ProperCalls, Throughout}
use Rattle.rules.specs.Rules.{next}
use Rattle.rules.specs.Runs.{Event, history, lent, state}
use Rattle.rules.specs.declared.answers.Answer.{Answer}
use Rattle.rules.specs.declared.answers.Refusal.{Refusal}
use Rattle.rules.specs.Meaning.{Meaning}
use Rattle.steps.specs.Buffers.{wiped}
use Rattle.steps.specs.Cores.{model}
use Rattle.steps.specs.declared.state.Core.{Core}

module _ (M : Meaning) (call : Call) (before after : Core) (answer : Result Answer Refusal) (out work : List ℕ) where
  -- the rule: answer, gateway, every octet of the output and of the work area
  pub record Obeys : Type 0 where
    pub answers : answer ≡ (next before.settings M (model before) call).answer
    -- so its number and its values are, too
    pub tells : told answer ≡ told (next before.settings M (model before) call).answer
    pub goes : model after ≡ (next before.settings M (model before) call).to
    pub settings_stay : after.settings ≡ before.settings
    pub writes : out ≡ over (next before.settings M (model before) call).written (lent call).out
    pub clears : work ≡ wiped (lent call).work

  -- what came of the call, as the law reads it
  abbrev pub event_of : Event
  event_of = record { call = call; answer = answer; out = out; work = work; before = before.group.timer; after = after.group.timer }

  -- after calls that led to the gateway as it came in: with this call they lead to the gateway as it goes out, what came of
  -- this call is the newest event, and every event keeps the law
  pub record GoesOn (calls : List Call) : Type 0 where
    pub proper : ProperCalls (call ∷ calls)
    pub leads : state before.settings M (call ∷ calls) ≡ model after
    pub newest : history before.settings M (call ∷ calls) ≡ event_of ∷ history before.settings M calls
    pub keeps : Throughout (Law before.settings M) (history before.settings M (call ∷ calls))

  -- the law, over all such calls
  abbrev pub Lawful : Type 0
  Lawful = (calls : List Call) → ProperCalls calls → state before.settings M calls ≡ model before → GoesOn calls

  -- what every call promises
  pub record Promise : Type 0 where
    pub rule : Obeys
    pub law : Lawful
