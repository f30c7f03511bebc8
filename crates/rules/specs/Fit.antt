-- What holds of every gateway to which calls lead: its numbers are within bounds. Assumes nothing.
use Rattle.std.specs.Prelude.{◌≡◌, ℕ, ◌^◌, ◌<◌, ◌≤◌, ◌≢◌, length, Some, None}
use Rattle.rules.specs.Limits.{last_time}
use Rattle.rules.specs.Model.{Model, Session}

-- a session whose wrappers can be written and read
pub record GoodSession (n : ℕ) (s : Session) : Type 0 where
  pub nonzero : n ≢ 0
  pub numbered : n < 2 ^ 16
  pub keyed : length s.key ≡ 16
  pub countable : s.own ≤ last_time
  -- nothing was sent before the sign-in
  pub fresh : s.user ≡ None → s.own ≡ 0

pub record Fit (g : Model) : Type 0 where
  pub timer : g.timer ≤ last_time
  pub sessions : (n : ℕ) (s : Session) → g.sessions n ≡ Some s → GoodSession n s
  pub wanted : (w : ℕ × ℕ) → g.wanted ≡ Some w → (w.0 < 2 ^ 48) × (w.1 < 2 ^ 16)
  pub sent : (x : ℕ) → g.sent ≡ Some x → x ≤ last_time
