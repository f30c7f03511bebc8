-- Settings, with their defaults filled in, and what makes a gateway. Assumes nothing.
use Rattle.std.specs.Prelude.{ℕ, ◌-◌, ◌/◌, max, Bool, false, cond, ◌&&◌, List, [], Some, None, Option, ◌==◌, nat_le, nat_lt, slice_index_or}
use Rattle.octets.specs.Numbers.{value}
use Rattle.rules.specs.declared.settings.Settings.{Settings}
use Rattle.rules.specs.Limits.{default_latency, largest_latency, numbers}

-- the latency tolerance L; 0 stands for the default
abbrev pub latency : Settings → ℕ
latency set = cond (set.latency == 0) default_latency set.latency

-- the sync tolerance S; 0 stands for a tenth of L, and at least 1
abbrev pub sync : Settings → ℕ
sync set = cond (set.sync == 0) (max 1 (latency set / 10)) set.sync

abbrev pub own_serial : Settings → ℕ
own_serial set = value set.serial

-- whether a gateway can be made
abbrev pub acceptable : Settings → Bool
acceptable set = nat_le (sync set) (latency set) && nat_le (latency set) largest_latency && nat_lt set.start numbers

-- the hash of a user's password, if the user, 1 to 8, has one
abbrev pub hash_of : Settings → ℕ → Option (List ℕ)
hash_of set user = cond (nat_le 1 user && nat_le user 8 && (slice_index_or set.users (user - 1) (record { present = false; hash = [] })).present) (Some (slice_index_or set.users (user - 1) (record { present = false; hash = [] })).hash) None
