use Rattle.std.proofs.Common.{◌≡◌, ◌<◌, length, IfSome}
use Rattle.rules.specs.Limits.{session_numbers}
use Rattle.slots.specs.Lapses.{least}
use Rattle.slots.specs.Rows.{row}
use Rattle.slots.proofs.table.least_lapsed.Given as goal

abbrev pub invariant-loop-at : goal.invariant-loop-at
invariant-loop-at l =
    (l.first ≡ least l.rows l.at)
    × IfSome l.first (λ j. j < length l.rows)
    × IfSome l.first (λ j. (row l.rows j).number < session_numbers)
