-- What the calls on a table find and change. Assumes nothing.
use Rattle.std.specs.Prelude.{◌≡◌, ℕ, ◌<◌, cond, List, length, Some, None, Option, MatchOption, ◌==◌}
use Rattle.rules.specs.Model.{Session, held_after}
use Rattle.rules.specs.Sessions.{all_waited}
use Rattle.slots.specs.Rows.{Distinct, held_rows, look_up, row, session_of}
use Rattle.slots.specs.declared.slot.Slot.{Slot}

-- session n becomes o, no other changes, and the count of those held follows
pub record Puts (rows rows' : List Slot) (n : ℕ) (o : Option Session) : Type 0 where
  pub finds : (m : ℕ) → look_up rows' m ≡ cond (m == n) o (look_up rows m)
  pub held : held_rows rows' ≡ held_after (look_up rows n) o (held_rows rows)
  pub apart : Distinct rows'

-- every session waits, and none comes or goes
pub record Waits (rows rows' : List Slot) (ms : ℕ) : Type 0 where
  pub finds : (m : ℕ) → look_up rows' m ≡ all_waited ms (look_up rows m)
  pub held : held_rows rows' ≡ held_rows rows
  pub apart : Distinct rows → Distinct rows'

-- no session
pub record Empty (rows : List Slot) : Type 0 where
  pub finds : (m : ℕ) → look_up rows m ≡ None
  pub held : held_rows rows ≡ 0
  pub apart : Distinct rows

-- session n stands at place i
pub record Found (rows : List Slot) (n i : ℕ) : Type 0 where
  pub within : i < length rows
  pub some : 0 < n
  pub number : (row rows i).number ≡ n
  pub session : look_up rows n ≡ Some (session_of (row rows i))

abbrev pub Finds : List Slot → ℕ → Option ℕ → Type 0
Finds rows n o = MatchOption o (look_up rows n ≡ None) (Found rows n)

-- place i of so many is free
pub record Free (rows : List Slot) (size i : ℕ) : Type 0 where
  pub within : i < size
  pub free : (row rows i).number ≡ 0
  pub room : held_rows rows < size

abbrev pub Frees : List Slot → ℕ → Option ℕ → Type 0
Frees rows size o = MatchOption o (held_rows rows ≡ size) (Free rows size)
