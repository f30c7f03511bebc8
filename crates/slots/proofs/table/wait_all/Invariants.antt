use Rattle.std.proofs.Common.{◌≡◌, ◌++◌, map, take, drop}
use Rattle.slots.specs.Rows.{waited_row}
use Rattle.slots.proofs.table.wait_all.Given as goal

abbrev pub invariant-loop-slot : goal.invariant-loop-slot
invariant-loop-slot l = l.rows ≡ map (waited_row l.ms) (take l.slot-index l.initial.rows) ++ drop l.slot-index l.initial.rows
