-- Which session lapsed, by places and by numbers. Assumes nothing.
use Rattle.std.specs.Prelude.{◌≡◌, ℕ, zero, suc, Bool, true, cond, ◌&&◌, List, Some, None, Option, MatchOption, nat_lt}
use Rattle.rules.specs.Limits.{session_numbers}
use Rattle.rules.specs.Sessions.{first, is_lapsed}
use Rattle.slots.specs.Rows.{lapsed_row, look_up, row}
use Rattle.slots.specs.Tables.{Found}
use Rattle.slots.specs.declared.slot.Slot.{Slot}

-- whether a number is smaller than that of the row so far
abbrev pub precedes : List Slot → ℕ → Option ℕ → Bool
precedes rows n None = true
precedes rows n (Some j) = nat_lt n (row rows j).number

-- the place of the lapsed row with the smallest number, with place i considered too
abbrev pub or_at : List Slot → Option ℕ → ℕ → Option ℕ
or_at rows o i = cond (lapsed_row (row rows i) && precedes rows (row rows i).number o) (Some i) o

-- that place among the first n
abbrev pub least : List Slot → ℕ → Option ℕ
least rows zero = None
least rows (suc i) = or_at rows (least rows i) i

-- the lapsed session with the smallest number, as the rules have it
abbrev pub lapsed_number : List Slot → Option ℕ
lapsed_number rows = first session_numbers 0 (λ n. is_lapsed (look_up rows n))

-- its place
pub record Lapsed (rows : List Slot) (i : ℕ) : Type 0 where
  pub is : lapsed_number rows ≡ Some (row rows i).number
  pub found : Found rows (row rows i).number i

abbrev pub Lapses : List Slot → Option ℕ → Type 0
Lapses rows o = MatchOption o (lapsed_number rows ≡ None) (Lapsed rows)
