use Rattle.std.proofs.Common.{◌<◌, length, rules}
use Rattle.slots.proofs.Looks.{cleared}
use Rattle.slots.proofs.table.Table.end.Goals as goal

pub returns-clause-ended : goal.returns-clause-ended
returns-clause-ended c =
    let rows = c.args.self.now.rows in
    let inside : c.args.at.index < length rows = search rules in
    cleared rows c.clear.new.self.rows c.args.at.index inside c.requires.apart c.clear.ensures
