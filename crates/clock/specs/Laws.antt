-- What is defined here on a clock is what the rules define on a whole gateway. Assumes nothing.
use Rattle.std.specs.Prelude.{◌≡◌, ℕ, None, Option}
use Rattle.rules.specs.GroupTime.{heard, notified_at, sent_at}
use Rattle.rules.specs.Making.{latency, sync}
use Rattle.rules.specs.Meaning.{Meaning}
use Rattle.rules.specs.Model.{Model, Session, new}
use Rattle.rules.specs.Rules.{passed}
use Rattle.rules.specs.Sessions.{all_waited}
use Rattle.rules.specs.declared.settings.Settings.{Settings}
use Rattle.clock.specs.Times.{heard_by, notified_by, passed_by, sent_by, started_at}
use Rattle.clock.specs.declared.group.Group.{Group}

-- the gateway that has this clock, holds so many sessions, and finds these
abbrev pub gateway_of : Group → ℕ → (ℕ → Option Session) → Model
gateway_of g held sessions = record
    { timer = g.timer; sent = g.sent; keeper = g.keeper; wanted = g.wanted; countdown = g.countdown; held = held; sessions = sessions }

abbrev pub NewIsTheRule : Type 0
NewIsTheRule = (set : Settings) → new set ≡ gateway_of (started_at (sync set) set.start) 0 (λ _. None)

abbrev pub HeardIsTheRule : Type 0
HeardIsTheRule = (set : Settings) (g : Group) (held : ℕ) (sessions : ℕ → Option Session) (time serial tag lot : ℕ)
    → heard set (gateway_of g held sessions) time serial tag lot ≡ gateway_of (heard_by (latency set) (sync set) g time serial tag lot) held sessions

abbrev pub PassedIsTheRule : Type 0
PassedIsTheRule = (set : Settings) (M : Meaning) (g : Group) (held : ℕ) (sessions : ℕ → Option Session) (ms : ℕ)
    → (passed set M (gateway_of g held sessions) ms).to ≡ gateway_of (passed_by g ms) held (λ n. all_waited ms (sessions n))

abbrev pub SentIsTheRule : Type 0
SentIsTheRule = (g : Group) (held : ℕ) (sessions : ℕ → Option Session) (time : ℕ)
    → sent_at (gateway_of g held sessions) time ≡ gateway_of (sent_by g time) held sessions

abbrev pub NotifiedIsTheRule : Type 0
NotifiedIsTheRule = (set : Settings) (g : Group) (held : ℕ) (sessions : ℕ → Option Session) (time lot : ℕ)
    → notified_at set (gateway_of g held sessions) time lot ≡ gateway_of (notified_by (sync set) time lot) held sessions
