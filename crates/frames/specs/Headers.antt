-- The six octets that begin each frame and each telegram: 06 10, the kind, the length. Assumes nothing.
use Rattle.std.specs.Prelude.{ℕ, Bool, cond, ◌&&◌, List, length, take, drop, Some, None, Option, ◌==◌, nat_le, slice_index}
use Rattle.octets.specs.Runs.{number}

-- n octets from a place on
abbrev pub part : ℕ → ℕ → List ℕ → List ℕ
part n at f = take n (drop at f)

abbrev pub kind : List ℕ → ℕ
kind f = number 2 2 f

abbrev pub stated_length : List ℕ → ℕ
stated_length f = number 2 4 f

-- six octets or more, which begin 06 10 and state their own length
abbrev pub headed : List ℕ → Bool
headed f = nat_le 6 (length f) && slice_index f 0 == 6 && slice_index f 1 == 16 && stated_length f == length f

-- the kind that such octets state
abbrev pub stated_kind : List ℕ → Option ℕ
stated_kind f = cond (headed f) (Some (kind f)) None
