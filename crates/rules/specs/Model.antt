-- The gateway without its slots: sessions are found by their numbers. Assumes nothing.
use Rattle.std.specs.Prelude.{ℕ, ◌+◌, ◌-◌, ◌*◌, Bool, false, cond, List, Some, None, Option, ◌==◌}
use Rattle.rules.specs.declared.settings.Settings.{Settings}
use Rattle.rules.specs.Limits.{notify_time}
use Rattle.rules.specs.Making.{sync}

pub record Session : Type 0 where
  -- the session key, and the values X and Y that were exchanged
  pub key : List ℕ
  pub x : List ℕ
  pub y : List ℕ
  -- the number of the last wrapper that opened
  pub last : Option ℕ
  -- the number of the next own wrapper
  pub own : ℕ
  -- the user who is signed in
  pub user : Option ℕ
  pub idle : ℕ

pub record Model : Type 0 where
  -- the group timer, and the last group time sent
  pub timer : ℕ
  pub sent : Option ℕ
  -- time keeper, or time follower
  pub keeper : Bool
  -- serial and tag of the frame to which a reply is wanted
  pub wanted : Option (ℕ × ℕ)
  pub countdown : ℕ
  -- how many sessions are held
  pub held : ℕ
  pub sessions : ℕ → Option Session

-- a new gateway is follower, wants nothing and has no session
abbrev pub new : Settings → Model
new set = record { timer = set.start; sent = None; keeper = false; wanted = None; countdown = notify_time + 4 * sync set; held = 0; sessions = λ _. None }

-- how many sessions are held where one goes from before to after
abbrev pub held_after : Option Session → Option Session → ℕ → ℕ
held_after None None n = n
held_after None (Some s) n = n + 1
held_after (Some s) None n = n - 1
held_after (Some s) (Some t) n = n

-- session n becomes o; no other changes
abbrev pub put : Model → ℕ → Option Session → Model
put g n o = record {
  timer = g.timer;
  sent = g.sent;
  keeper = g.keeper;
  wanted = g.wanted;
  countdown = g.countdown;
  held = held_after (g.sessions n) o g.held;
  sessions = λ m. cond (m == n) o (g.sessions m);
}
