use Rattle.std.proofs.Common.{rules}
use Rattle.std.proofs.lemmas.List.Edits.{map_over_more}
use Rattle.slots.specs.Rows.{waited_row}
use Rattle.slots.proofs.table.wait_all.Goals as goal

pub loop-slot-preserved : goal.loop-slot-preserved
loop-slot-preserved c = search (rules, map_over_more (waited_row c.args.ms))
