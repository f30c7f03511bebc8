-- What a telegram is, the octets that a secure wrapper held. Assumes nothing.
use Rattle.std.specs.Prelude.{ℕ, Bool, cond, not, ◌&&◌, List, length, Some, None, Option, ◌==◌, nat_le, slice_index}
use Rattle.sealer.specs.Limits.{largest_telegram}
use Rattle.frames.specs.Limits.{authenticate_kind, authenticate_length, status_length}
use Rattle.frames.specs.Headers.{part, headed, stated_length, stated_kind}
use Rattle.frames.specs.declared.telegrams.Telegram.{Telegram}
use Rattle.frames.specs.declared.telegrams.Telegram.TheVariants.{Authenticate, Status, Good, Other}
use Rattle.frames.specs.declared.telegrams.SignIn.{SignIn}

-- begins 06 10 09 and then this octet
abbrev pub begins_secure : ℕ → List ℕ → Bool
begins_secure k t = nat_le 4 (length t) && slice_index t 0 == 0x06 && slice_index t 1 == 0x10 && slice_index t 2 == 0x09 && slice_index t 3 == k

-- session authenticate, whatever its length
abbrev pub is_authenticate : List ℕ → Bool
is_authenticate t = begins_secure 0x53 t

abbrev pub is_status : List ℕ → Bool
is_status t = begins_secure 0x54 t && length t == status_length && stated_length t == status_length

-- a telegram that may be delivered or sent: its family is not 09, the family of the secure frames
abbrev pub is_good : List ℕ → Bool
is_good t = headed t && nat_le (length t) largest_telegram && not (slice_index t 2 == 0x09)

abbrev pub good_family : List ℕ → Option ℕ
good_family t = cond (is_good t) (Some (slice_index t 2)) None

abbrev pub good_or_other : Option ℕ → Telegram
good_or_other (Some family) = Good family
good_or_other None = Other

abbrev pub telegram_kind : List ℕ → Telegram
telegram_kind t =
    cond (is_authenticate t) Authenticate
    (cond (is_status t) (Status (slice_index t 6))
    (good_or_other (good_family t)))

-- the user and the MAC of a session authenticate that is well formed
abbrev pub well_formed : ℕ → List ℕ → Bool
well_formed k t = k == authenticate_kind && length t == authenticate_length && slice_index t 6 == 0

abbrev pub sign_in_of : Option ℕ → List ℕ → Option (ℕ × List ℕ)
sign_in_of None t = None
sign_in_of (Some k) t = cond (well_formed k t) (Some (slice_index t 7, part 16 8 t)) None

abbrev pub sign_in : List ℕ → Option (ℕ × List ℕ)
sign_in t = sign_in_of (stated_kind t) t

abbrev pub signed : Option SignIn → Option (ℕ × List ℕ)
signed (Some s) = Some (s.user, s.mac.now)
signed None = None
