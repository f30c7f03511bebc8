use Rattle.std.proofs.Common.{◌<◌, length, rules}
use Rattle.slots.proofs.Looks.{changed}
use Rattle.slots.proofs.table.Table.set.Goals as goal

pub returns : goal.returns
returns c =
    let rows = c.args.self.now.rows in
    let inside : c.args.at.index < length rows = search rules in
    changed rows c.write.new.self.rows c.args.at.index c.args.slot inside c.requires.same c.requires.some c.requires.apart c.write.ensures
