-- What is said of rows is what the rules say of a gateway's sessions. Assumes nothing.
use Rattle.std.specs.Prelude.{◌≡◌, ℕ, ◌<◌, ◌↔◌, List, length, Option}
use Rattle.rules.specs.Model.{Model, Session, new, put}
use Rattle.rules.specs.Sessions.{all_waited, first_lapsed}
use Rattle.rules.specs.declared.settings.Settings.{Settings}
use Rattle.slots.specs.Lapses.{lapsed_number}
use Rattle.slots.specs.Rows.{Distinct, held_rows, look_up, row}
use Rattle.slots.specs.Tables.{Empty, Puts, Waits}
use Rattle.slots.specs.declared.slot.Slot.{Slot}

-- the gateway g with these sessions in place of its own
abbrev pub with_sessions : Model → ℕ → (ℕ → Option Session) → Model
with_sessions g held sessions = record
    { timer = g.timer; sent = g.sent; keeper = g.keeper; wanted = g.wanted; countdown = g.countdown; held = held; sessions = sessions }

-- the gateway g with the sessions of these rows
abbrev pub with_rows : Model → List Slot → Model
with_rows g rows = with_sessions g (held_rows rows) (look_up rows)

abbrev pub EmptyIsTheRule : Type 0
EmptyIsTheRule = (set : Settings) (rows : List Slot) → Empty rows → with_rows (new set) rows ≡ new set

abbrev pub PutsIsTheRule : Type 0
PutsIsTheRule = (g : Model) (rows rows' : List Slot) (n : ℕ) (o : Option Session) → Puts rows rows' n o → with_rows g rows' ≡ put (with_rows g rows) n o

abbrev pub WaitsIsTheRule : Type 0
WaitsIsTheRule = (g : Model) (rows rows' : List Slot) (ms : ℕ) → Waits rows rows' ms → with_rows g rows' ≡ with_sessions g (held_rows rows) (λ n. all_waited ms (look_up rows n))

abbrev pub LapsedIsTheRule : Type 0
LapsedIsTheRule = (g : Model) (rows : List Slot) → lapsed_number rows ≡ first_lapsed (with_rows g rows)

-- rows are distinct exactly where two rows of one number that are not free are one row
abbrev pub DistinctIsApart : Type 0
DistinctIsApart = (rows : List Slot)
    → Distinct rows ↔ ((i j : ℕ) → i < length rows → j < length rows → 0 < (row rows i).number → (row rows i).number ≡ (row rows j).number → i ≡ j)
