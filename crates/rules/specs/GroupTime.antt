-- Group time: what a frame of the group does to the gateway, and what is sent to the group. Assumes nothing.
use Rattle.std.specs.Prelude.{ℕ, ◌+◌, ◌*◌, ◌%◌, ◌^◌, min, max, Bool, true, false, cond, Some, None, Option, nat_lt}
use Rattle.rules.specs.declared.settings.Settings.{Settings}
use Rattle.rules.specs.Limits.{notify_time, reply_delay}
use Rattle.rules.specs.Making.{latency, sync}
use Rattle.rules.specs.Model.{Model}

-- whether a time exceeds the timer less a tolerance, as whole numbers: t - tolerance < time
abbrev pub within : ℕ → ℕ → ℕ → Bool
within t tolerance time = nat_lt t (time + tolerance)

-- the gateway follows: the timer is t from now on
abbrev pub follow : Settings → Model → ℕ → ℕ → Model
follow set g t lot = record {
  timer = t;
  sent = g.sent;
  keeper = false;
  wanted = None;
  countdown = notify_time + 4 * sync set + lot % (10 * sync set + 1);
  held = g.held;
  sessions = g.sessions;
}

-- the first frame to which a reply is wanted stays the one
abbrev pub wanting : Option (ℕ × ℕ) → ℕ → ℕ → Option (ℕ × ℕ)
wanting None serial tag = Some (serial, tag)
wanting (Some w) serial tag = Some w

abbrev pub reply_time : Settings → Bool → ℕ → ℕ
reply_time set true lot = reply_delay + lot % (sync set + 1)
reply_time set false lot = reply_delay + 2 * sync set + lot % (10 * sync set + 1)

-- a frame that is late wants a reply
abbrev pub want_reply : Settings → Model → ℕ → ℕ → ℕ → Model
want_reply set g serial tag lot = record {
  timer = g.timer;
  sent = g.sent;
  keeper = g.keeper;
  wanted = wanting g.wanted serial tag;
  countdown = min g.countdown (reply_time set g.keeper lot);
  held = g.held;
  sessions = g.sessions;
}

-- a frame of the group with a time: ahead of the timer, in step with it, behind but tolerated, or late
abbrev pub heard : Settings → Model → ℕ → ℕ → ℕ → ℕ → Model
heard set g time serial tag lot =
    cond (nat_lt g.timer time) (follow set g time lot)
    (cond (within g.timer (sync set) time) (follow set g g.timer lot)
    (cond (within g.timer (latency set) time) g
    (want_reply set g serial tag lot)))

-- the time that the next frame to the group bears
abbrev pub next_time : ℕ → Option ℕ → ℕ
next_time t None = t
next_time t (Some last) = max t (last + 1)

-- the gateway after a frame to the group
abbrev pub sent_at : Model → ℕ → Model
sent_at g time = record
    { timer = time; sent = Some time; keeper = g.keeper; wanted = g.wanted; countdown = g.countdown; held = g.held; sessions = g.sessions }

-- and after a timer notify: the gateway keeps the time
abbrev pub notified_at : Settings → Model → ℕ → ℕ → Model
notified_at set g time lot = record
    { timer = time; sent = Some time; keeper = true; wanted = None; countdown = notify_time + lot % (3 * sync set + 1); held = g.held; sessions = g.sessions }

-- the tag that a lot makes
abbrev pub tag_of : ℕ → ℕ
tag_of lot = lot % 2 ^ 16

-- serial and tag of a timer notify: those that are wanted, or our own and the lot's
abbrev pub notice_serial : Option (ℕ × ℕ) → ℕ → ℕ
notice_serial None own = own
notice_serial (Some w) own = w.0

abbrev pub notice_tag : Option (ℕ × ℕ) → ℕ → ℕ
notice_tag None lot = tag_of lot
notice_tag (Some w) lot = w.1
