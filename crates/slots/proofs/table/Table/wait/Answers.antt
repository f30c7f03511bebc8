use Rattle.slots.proofs.Looks.{waits}
use Rattle.slots.proofs.table.Table.wait.Goals as goal

pub returns : goal.returns
returns c = waits c.args.ms c.args.self.now.rows c.wait_all.new.rows c.wait_all.ensures
