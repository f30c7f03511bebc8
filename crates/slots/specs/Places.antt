-- Places in the table. Assumes nothing.
use Rattle.std.specs.Prelude.{ℕ, Some, None, Option}
use Rattle.slots.specs.declared.place.Place.{Place}

-- the number of a place, if there is one
abbrev pub index_of : Option Place → Option ℕ
index_of None = None
index_of (Some at) = Some at.index
