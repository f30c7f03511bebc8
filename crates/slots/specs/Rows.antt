-- Rows of the session table, read as sessions by their numbers. Assumes nothing.
use Rattle.std.specs.Prelude.{◌≡◌, ℕ, ◌+◌, min, Bool, true, cond, not, ◌&&◌, List, [], ◌∷◌, replicate, is_some, Some, None, Option, ◌==◌, slice_index_or}
use Rattle.rules.specs.Limits.{idle_time}
use Rattle.rules.specs.Model.{Session}
use Rattle.rules.specs.Sessions.{lapsed}
use Rattle.slots.specs.declared.slot.Slot.{Slot}
use Rattle.slots.specs.declared.slot.State.{State}
use Rattle.slots.specs.declared.slot.State.TheVariants.{Unsigned, SignedIn}

abbrev pub user_of : State → Option ℕ
user_of Unsigned = None
user_of (SignedIn user) = Some user

abbrev pub session_of : Slot → Session
session_of r = record { key = r.key; x = r.x; y = r.y; last = r.last; own = r.own; user = user_of r.state; idle = r.idle }

-- a row with the number 0 is free
abbrev pub is_free : Slot → Bool
is_free r = r.number == 0

-- whether a row has a session that waited too long
abbrev pub lapsed_row : Slot → Bool
lapsed_row r = not (is_free r) && lapsed (session_of r)

-- whether a row is that of session n; there is no session 0
abbrev pub has : ℕ → Slot → Bool
has n r = not (n == 0) && r.number == n

-- the session of the row whose number is n
abbrev pub look_up : List Slot → ℕ → Option Session
look_up [] n = None
look_up (r ∷ rs) n = cond (has n r) (Some (session_of r)) (look_up rs n)

-- how many rows are not free
abbrev pub held_rows : List Slot → ℕ
held_rows [] = 0
held_rows (r ∷ rs) = cond (is_free r) (held_rows rs) (held_rows rs + 1)

-- no two rows that are not free have one number
abbrev pub distinct : List Slot → Bool
distinct [] = true
distinct (r ∷ rs) = not (is_some (look_up rs r.number)) && distinct rs

abbrev pub Distinct : List Slot → Type 0
Distinct rows = distinct rows ≡ true

-- a row that is free, with nothing left in it
abbrev pub free_row : Slot
free_row = record { number = 0; key = replicate 16 0; x = replicate 32 0; y = replicate 32 0; last = None; own = 0; state = Unsigned; idle = 0 }

-- what stands for a row past the end
abbrev pub no_row : Slot
no_row = record { number = 0; key = []; x = []; y = []; last = None; own = 0; state = Unsigned; idle = 0 }

-- the row at a place
abbrev pub row : List Slot → ℕ → Slot
row rows i = slice_index_or rows i no_row

-- a row after milliseconds of waiting
abbrev pub waited_row : ℕ → Slot → Slot
waited_row ms r = record
    { number = r.number; key = r.key; x = r.x; y = r.y; last = r.last; own = r.own; state = r.state; idle = min idle_time (r.idle + ms) }
