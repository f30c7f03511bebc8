-- Slots, numbers, times and tolerances, each in one place. Assumes nothing.
use Rattle.std.specs.Prelude.{ℕ, ◌-◌, ◌^◌, Bool, not, ◌||◌, ◌==◌}

-- the slots for sessions
abbrev pub slots : ℕ
slots = 8

-- session numbers lie below this
abbrev pub session_numbers : ℕ
session_numbers = 2 ^ 16

-- numbers of wrappers and group times lie below this
abbrev pub numbers : ℕ
numbers = 2 ^ 48

-- the timer's largest value
abbrev pub last_time : ℕ
last_time = 2 ^ 48 - 1

-- milliseconds after which a session lapses that is not signed in, and one that is
abbrev pub sign_in_time : ℕ
sign_in_time = 10000

abbrev pub idle_time : ℕ
idle_time = 60000

-- milliseconds that a gateway waits at least before its next timer notify, and before a reply to a late frame
abbrev pub notify_time : ℕ
notify_time = 10000

abbrev pub reply_delay : ℕ
reply_delay = 100

abbrev pub default_latency : ℕ
default_latency = 1000

abbrev pub largest_latency : ℕ
largest_latency = 10000

-- telegrams of this family manage the installation
abbrev pub management : ℕ
management = 0x03

-- whether a user's telegram of a family is delivered: user 1 manages
abbrev pub may_deliver : ℕ → ℕ → Bool
may_deliver user family = not (family == management) || user == 1
