-- What opening leaves in a work area, by what the sealer opens. Assumes nothing.
use Rattle.std.specs.Prelude.{ℕ, Bool, true, false, ◌&&◌, List, length, replicate, Some, None, Option, nat_le}
use Rattle.octets.specs.Runs.{over}
use Rattle.sealer.specs.Limits.{largest_telegram}

-- whether a ciphertext is none too long, and the work area has the room
abbrev pub fits_in : List ℕ → List ℕ → Bool
fits_in c work = nat_le (length c) largest_telegram && nat_le (length c) (length work)

-- the length of the telegram that stands in front of the work area then
abbrev pub opened_length : Bool → Option (List ℕ) → Option ℕ
opened_length false opening = None
opened_length true None = None
opened_length true (Some t) = Some (length t)

-- the work area: the telegram in front, or zeros where the ciphertext stood
abbrev pub opened_area : Bool → Option (List ℕ) → List ℕ → List ℕ → List ℕ
opened_area false opening c work = work
opened_area true None c work = over (replicate (length c) 0) work
opened_area true (Some t) c work = over t work
