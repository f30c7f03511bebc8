use Rattle.std.proofs.Common.{Some, None, sym, subst}
use Rattle.slots.specs.Lapses.{Lapses}
use Rattle.slots.specs.Places.{index_of}
use Rattle.slots.proofs.Lapsing.{lapses}
use Rattle.slots.proofs.table.Table.first_lapsed.Goals as goal

pub returns-in_err-index : goal.returns-in_err-index
returns-in_err-index c =
    subst (λ o. Lapses c.args.self.now.rows (index_of o)) (sym c.from_residual.ensures)
    (lapses c.args.self.now.rows None c.requires tt c.in_err-index.ensures.place)

pub returns : goal.returns
returns c = lapses c.args.self.now.rows (Some c.in_ok-index.index) c.requires c.in_ok-index.ensures.small c.in_ok-index.ensures.place
