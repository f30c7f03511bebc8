-- A run: calls on a gateway from its making on, and the history that they leave. Newest first. Assumes nothing.
use Rattle.std.specs.Prelude.{ℕ, List, [], ◌∷◌, length, replicate, Result}
use Rattle.octets.specs.Runs.{over}
use Rattle.rules.specs.declared.answers.Answer.{Answer}
use Rattle.rules.specs.declared.answers.Refusal.{Refusal}
use Rattle.rules.specs.declared.settings.Settings.{Settings}
use Rattle.rules.specs.Calls.{Buffers, Call, Step, announce, arrive, due, hang_up, pass, send}
use Rattle.rules.specs.Meaning.{Meaning}
use Rattle.rules.specs.Model.{Model, new}
use Rattle.rules.specs.Rules.{next}

-- the buffers that a call was lent; pass has none
abbrev pub lent : Call → Buffers
lent (arrive frame offer lot b) = b
lent (pass ms) = record { out = []; work = [] }
lent (due lot b) = b
lent (send n t b) = b
lent (announce t lot b) = b
lent (hang_up n b) = b

-- what came of a call: its answer, the output and the work area after it, and the group timer before and after it
pub record Event : Type 0 where
  pub call : Call
  pub answer : Result Answer Refusal
  pub out : List ℕ
  pub work : List ℕ
  pub before : ℕ
  pub after : ℕ

-- what a step leaves of itself: what it wrote stands in front of the output, and the work area is all zeros
abbrev pub noted : Model → Call → Step → Event
noted g c r = record
    { call = c; answer = r.answer; out = over r.written (lent c).out; work = replicate (length (lent c).work) 0; before = g.timer; after = r.to.timer }

module _ (set : Settings) (M : Meaning) where
  abbrev pub event : Model → Call → Event
  event g c = noted g c (next set M g c)

  -- the gateway to which a run leads
  abbrev pub state : List Call → Model
  state [] = new set
  state (c ∷ calls) = (next set M (state calls) c).to

  abbrev pub history : List Call → List Event
  history [] = []
  history (c ∷ calls) = event (state calls) c ∷ history calls
