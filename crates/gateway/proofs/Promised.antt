-- What a call promises follows from the step that it carried out. Assumes nothing.
use Rattle.std.proofs.Common.{◌≡◌, ℕ, List, [], ◌∷◌, Ok, Result, sym, refl, ap, ◌∙◌, subst}
use Rattle.rules.proofs.Kept.{fit_next, runs_keep_the_law}
use Rattle.rules.specs.Answers.{told}
use Rattle.rules.specs.Calls.{Call, Step, pass}
use Rattle.rules.specs.Fit.{Fit}
use Rattle.rules.specs.Law.{ProperCall, ProperSettings}
use Rattle.rules.specs.Making.{acceptable}
use Rattle.rules.specs.Model.{Model}
use Rattle.rules.specs.Rules.{next}
use Rattle.rules.specs.Runs.{Event, event, history, lent}
use Rattle.rules.specs.declared.answers.Answer.{Answer}
use Rattle.rules.specs.declared.answers.Answer.TheVariants.{Taken}
use Rattle.rules.specs.declared.answers.Refusal.{Refusal}
use Rattle.rules.specs.Meaning.{Meaning}
use Rattle.steps.specs.Buffers.{wiped}
use Rattle.steps.specs.Cores.{Becomes, Does, Ready, model}
use Rattle.steps.specs.Steps.{carrying, waited}
use Rattle.steps.specs.declared.state.Core.{Core}
use Rattle.gateway.specs.Obeyed.{Lawful, Obeys, Promise, event_of}

module _ (M : Meaning) (call : Call) (before after : Core) (r : Result Answer Refusal) (out work : List ℕ)
    (does : Does (carrying M call) before after r (lent call).out out) (clears : work ≡ wiped (lent call).work) where
  abbrev step : Step
  step = next before.settings M (model before) call

  obeys : Obeys M call before after r out work
  obeys = record {
    answers = does.answers;
    tells = ap told does.answers;
    goes = does.goes.is;
    settings_stay = does.goes.settings_stay;
    writes = does.writes;
    clears = clears;
  }

  -- the event that the rules have is the one that came
  event_is : event before.settings M (model before) call ≡ event_of M call before after r out work
  event_is = λ i. record {
    call = call;
    answer = sym does.answers i;
    out = sym does.writes i;
    work = sym clears i;
    before = before.group.timer;
    after = (sym does.goes.is i).timer;
  }

  module _ (h : Ready before) (proper : ProperCall call) where
    ready_after : Ready after
    ready_after = record {
      proper = subst ProperSettings (sym does.goes.settings_stay) h.proper;
      accepted = ap acceptable does.goes.settings_stay ∙ h.accepted;
      apart = does.goes.apart;
      fit = subst Fit (sym does.goes.is) (fit_next before.settings M h.proper (model before) call h.fit proper);
    }

    lawful : Lawful M call before after r out work
    lawful calls pc led = record {
      proper = (proper, pc);
      leads = ap (λ (g : Model). (next before.settings M g call).to) led ∙ sym does.goes.is;
      newest = ap (λ (e : Event). e ∷ history before.settings M calls) (ap (λ (g : Model). event before.settings M g call) led ∙ event_is);
      keeps = runs_keep_the_law M before.settings h.proper h.accepted (call ∷ calls) (proper, pc);
    }

    -- both, as each call promises them
    pub kept : Ready after × Promise M call before after r out work
    kept = (ready_after, record { rule = obeys; law = lawful })

pub passing : (M : Meaning) (ms : ℕ) (before after : Core) → Becomes (waited ms before) before after → Does (carrying M (pass ms)) before after (Ok Taken) [] []
passing M ms before after b = record { answers = refl; goes = b; writes = refl }
