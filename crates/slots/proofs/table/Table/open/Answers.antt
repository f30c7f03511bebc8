use Rattle.std.proofs.Common.{◌<◌, length, rules}
use Rattle.slots.proofs.Looks.{filled}
use Rattle.slots.proofs.table.Table.open.Goals as goal

pub returns : goal.returns
returns c =
    let rows = c.args.self.now.rows in
    let inside : c.args.at.index < length rows = search rules in
    filled rows c.write.new.self.rows c.args.at.index c.args.slot inside c.requires.free c.requires.some c.requires.unknown c.requires.apart c.write.ensures
