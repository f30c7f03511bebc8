-- A run of the code, as the rules and the law read it. Assumes nothing.
use Rattle.std.specs.Prelude.{◌≡◌, ℕ, true, false, List, [], ◌∷◌, map, replicate}
use Rattle.frames.specs.Limits.{largest_frame}
use Rattle.rules.specs.Calls as rule
use Rattle.rules.specs.Law.{Law, ProperCalls, Throughout}
use Rattle.rules.specs.Making.{acceptable}
use Rattle.rules.specs.Runs as runs
use Rattle.rules.specs.Runs.{history, state}
use Rattle.rules.specs.declared.answers.Refusal.TheVariants as no
use Rattle.rules.specs.declared.settings.Settings.{Settings}
use Rattle.rules.specs.Meaning.{Meaning}
use Rattle.steps.specs.Cores.{model}
use Rattle.steps.specs.declared.state.Core.{Core}
use Rattle.steps.specs.Buffers.{lending}
use Rattle.gateway.specs.declared.runs.Call.{Call}
use Rattle.gateway.specs.declared.runs.Event.{Event}
use Rattle.gateway.specs.declared.runs.Stopped.{Stopped}
use Rattle.gateway.specs.declared.runs.Stopped.TheVariants.{Refused, NoMemory}
use Rattle.gateway.specs.declared.runs.Call.TheVariants.{Arrive, Pass, Due, Send, Announce, HangUp}

-- the call, with the buffers that it is lent
abbrev pub call_of : Call → List ℕ → List ℕ → rule.Call
call_of (Arrive frame offer lot) out work = rule.arrive frame.now offer.now lot (lending out work)
call_of (Pass ms) out work = rule.pass ms
call_of (Due lot) out work = rule.due lot (lending out work)
call_of (Send session telegram) out work = rule.send session telegram.now (lending out work)
call_of (Announce telegram lot) out work = rule.announce telegram.now lot (lending out work)
call_of (HangUp session) out work = rule.hang_up session (lending out work)

-- a buffer after the call; pass is lent none
abbrev pub out_of : Call → List ℕ → List ℕ
out_of (Arrive frame offer lot) buffer = buffer
out_of (Pass ms) buffer = []
out_of (Due lot) buffer = buffer
out_of (Send session telegram) buffer = buffer
out_of (Announce telegram lot) buffer = buffer
out_of (HangUp session) buffer = buffer

-- a buffer as it is lent in a run
abbrev pub fresh : List ℕ
fresh = replicate largest_frame 0

abbrev pub call_in_run : Call → rule.Call
call_in_run c = call_of c fresh fresh

-- an event as the law reads it; the work area is zeros again
abbrev pub seen : Event → runs.Event
seen e = record {
  call = call_in_run e.call;
  answer = e.answer;
  out = out_of e.call e.out;
  work = out_of e.call fresh;
  before = e.before;
  after = e.after;
}

-- after calls that led to the gateway as it came in, this call leads to the gateway as it goes out, and the event is what came of it
pub record Follows (M : Meaning) (call : Call) (before after : Core) (e : Event) : Type 0 where
  pub call_is : e.call ≡ call
  pub settings_stay : after.settings ≡ before.settings
  pub proper : (calls : List rule.Call) → ProperCalls calls → state before.settings M calls ≡ model before → ProperCalls (call_in_run call ∷ calls)
  pub leads : (calls : List rule.Call) → ProperCalls calls → state before.settings M calls ≡ model before → state before.settings M (call_in_run call ∷ calls) ≡ model after
  pub newest : (calls : List rule.Call) → ProperCalls calls → state before.settings M calls ≡ model before
      → history before.settings M (call_in_run call ∷ calls) ≡ seen e ∷ history before.settings M calls

-- calls and events in their order, put in front of those before them, so that the newest comes first
abbrev pub called : List Event → List rule.Call → List rule.Call
called [] before = before
called (e ∷ es) before = called es (call_in_run e.call ∷ before)

abbrev pub seen_all : List Event → List runs.Event → List runs.Event
seen_all [] before = before
seen_all (e ∷ es) before = seen_all es (seen e ∷ before)

-- the events are those of the calls; together they are the history that the rules have, and every one keeps the law
pub record Ran (M : Meaning) (set : Settings) (calls : List Call) (events : List Event) : Type 0 where
  pub accepted : acceptable set ≡ true
  pub same : map (λ e. e.call) events ≡ calls
  pub ruled : seen_all events [] ≡ history set M (called events [])
  pub lawful : Throughout (Law set M) (seen_all events [])

-- settings that are not accepted; or no memory, which is said only where they are
abbrev pub Stops : Settings → Stopped → Type 0
Stops set (Refused why) = (acceptable set ≡ false) × (why ≡ no.Settings)
Stops set NoMemory = acceptable set ≡ true
