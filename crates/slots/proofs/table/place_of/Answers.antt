use borrow.Author.Tests.{tests}
use Rattle.std.proofs.Common.{◌≡◌, true, false, rules}
use Rattle.std.proofs.lemmas.Iterator.{IsFirst-from_position, YieldsList-from_slice}
use Rattle.slots.specs.Rows.{has}
use Rattle.slots.proofs.Looks.{finds}
use Rattle.slots.proofs.table.place_of.Goals as goal

pub returns : goal.returns
returns c =
    finds c.args.rows.now c.args.number _
    (IsFirst-from_position _ _ _ (λ r. has c.args.number r ≡ true) (λ r. has c.args.number r ≡ false) c.position.ensures.ran (YieldsList-from_slice c.args.rows.now cc) (λ x q k. search (rules, tests)) (λ x q k. search (rules, tests)))
