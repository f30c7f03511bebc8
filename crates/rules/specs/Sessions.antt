-- Sessions: how they begin, lapse, sign in and end. Assumes nothing.
use Rattle.std.specs.Prelude.{ℕ, zero, suc, ◌+◌, min, Bool, true, false, cond, List, Some, None, Option, nat_le, nat_lt}
use Rattle.frames.specs.Sealing.{authenticate_mac}
use Rattle.frames.specs.Telegrams.{sign_in}
use Rattle.sealer.specs.Sealing.{same}
use Rattle.rules.specs.declared.settings.Settings.{Settings}
use Rattle.rules.specs.Limits.{idle_time, session_numbers, sign_in_time}
use Rattle.rules.specs.Making.{hash_of}
use Rattle.rules.specs.Meaning.{Meaning}
use Rattle.rules.specs.Model.{Model, Session}

-- a session as it opens
abbrev pub begun : List ℕ → List ℕ → List ℕ → Session
begun key x y = record { key = key; x = x; y = y; last = None; own = 0; user = None; idle = 0 }

abbrev pub patience : Option ℕ → ℕ
patience None = sign_in_time
patience (Some u) = idle_time

abbrev pub lapsed : Session → Bool
lapsed s = nat_le (patience s.user) s.idle

-- idle time counts up to the longest that matters
abbrev pub waited : ℕ → Session → Session
waited ms s = record { key = s.key; x = s.x; y = s.y; last = s.last; own = s.own; user = s.user; idle = min idle_time (s.idle + ms) }

abbrev pub all_waited : ℕ → Option Session → Option Session
all_waited ms None = None
all_waited ms (Some s) = Some (waited ms s)

-- a number that is above every number that opened
abbrev pub above : Option ℕ → ℕ → Bool
above None number = true
above (Some last) number = nat_lt last number

-- idle time after a wrapper opened: only a session that is signed in then starts to wait anew
abbrev pub idle_after : Option ℕ → ℕ → ℕ
idle_after None idle = idle
idle_after (Some u) idle = 0

-- the session after a wrapper opened, with its next own number and its user
abbrev pub opened_by : Session → ℕ → ℕ → Option ℕ → Session
opened_by s number own user = record { key = s.key; x = s.x; y = s.y; last = Some number; own = own; user = user; idle = idle_after user s.idle }

-- the session after an own wrapper
abbrev pub sent_one : Session → Session
sent_one s = record { key = s.key; x = s.x; y = s.y; last = s.last; own = s.own + 1; user = s.user; idle = s.idle }

module _ (set : Settings) (M : Meaning) (s : Session) where
  -- the user whose hash makes the MAC
  abbrev pub by_hash : ℕ → List ℕ → Option (List ℕ) → Option ℕ
  by_hash user mac None = None
  by_hash user mac (Some hash) = cond (same mac (authenticate_mac M.mac hash user s.x s.y)) (Some user) None

  abbrev pub by_parts : Option (ℕ × List ℕ) → Option ℕ
  by_parts None = None
  by_parts (Some p) = by_hash p.0 p.1 (hash_of set p.0)

  -- the user whom a session authenticate signs in
  abbrev pub signs_in : List ℕ → Option ℕ
  signs_in telegram = by_parts (sign_in telegram)

-- the first of n numbers from i on that passes a test
abbrev pub first : ℕ → ℕ → (ℕ → Bool) → Option ℕ
first zero i test = None
first (suc n) i test = cond (test i) (Some i) (first n (i + 1) test)

abbrev pub is_lapsed : Option Session → Bool
is_lapsed None = false
is_lapsed (Some s) = lapsed s

-- the lapsed session with the smallest number
abbrev pub first_lapsed : Model → Option ℕ
first_lapsed g = first session_numbers 0 (λ n. is_lapsed (g.sessions n))
