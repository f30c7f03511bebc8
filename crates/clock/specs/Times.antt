-- Group time on the five fields that it changes. L is the latency tolerance and S the sync tolerance. Assumes nothing.
use Rattle.std.specs.Prelude.{ℕ, ◌+◌, ◌-◌, ◌*◌, ◌%◌, ◌<◌, min, Bool, true, false, cond, IfSome, Some, None, Option, nat_lt}
use Rattle.rules.specs.GroupTime.{wanting, within}
use Rattle.rules.specs.Limits.{last_time, numbers}
use Rattle.clock.specs.declared.group.Group.{Group}

-- a time that was sent, if any, is a time
abbrev pub Small : Option ℕ → Type 0
Small o = IfSome o (λ t. t < numbers)

-- a new gateway is follower and wants nothing
abbrev pub started_at : ℕ → ℕ → Group
started_at S start = record { timer = start; sent = None; keeper = false; wanted = None; countdown = 10000 + 4 * S }

-- follower, and the timer is t from now on
abbrev pub followed : ℕ → Group → ℕ → ℕ → Group
followed S g t lot = record { timer = t; sent = g.sent; keeper = false; wanted = None; countdown = 10000 + 4 * S + lot % (10 * S + 1) }

-- milliseconds until the reply, of a keeper and of a follower
abbrev pub reply_in : ℕ → Bool → ℕ → ℕ
reply_in S true lot = 100 + lot % (S + 1)
reply_in S false lot = 100 + 2 * S + lot % (10 * S + 1)

-- a reply is wanted, to the first frame that was late, and the sooner of two times stands
abbrev pub asked : ℕ → Group → ℕ → ℕ → ℕ → Group
asked S g serial tag lot = record
    { timer = g.timer; sent = g.sent; keeper = g.keeper; wanted = wanting g.wanted serial tag; countdown = min g.countdown (reply_in S g.keeper lot) }

-- a frame with a time: ahead of the timer, in step with it, behind but tolerated, or late
abbrev pub heard_by : ℕ → ℕ → Group → ℕ → ℕ → ℕ → ℕ → Group
heard_by L S g time serial tag lot =
    cond (nat_lt g.timer time) (followed S g time lot)
    (cond (within g.timer S time) (followed S g g.timer lot)
    (cond (within g.timer L time) g
    (asked S g serial tag lot)))

-- milliseconds pass
abbrev pub passed_by : Group → ℕ → Group
passed_by g ms = record { timer = min last_time (g.timer + ms); sent = g.sent; keeper = g.keeper; wanted = g.wanted; countdown = g.countdown - ms }

-- a frame with this time goes out
abbrev pub sent_by : Group → ℕ → Group
sent_by g time = record { timer = time; sent = Some time; keeper = g.keeper; wanted = g.wanted; countdown = g.countdown }

-- and a timer notify: keeper from now on
abbrev pub notified_by : ℕ → ℕ → ℕ → Group
notified_by S time lot = record { timer = time; sent = Some time; keeper = true; wanted = None; countdown = 10000 + lot % (3 * S + 1) }
