use borrow.Author.Tests.{tests}
use Rattle.std.proofs.Common.{◌≡◌, true, false, rules}
use Rattle.std.proofs.lemmas.Iterator.{IsFirst-from_position, YieldsList-from_slice}
use Rattle.slots.specs.Rows.{is_free}
use Rattle.slots.proofs.Looks.{frees}
use Rattle.slots.proofs.table.free_place.Goals as goal

pub returns : goal.returns
returns c =
    frees c.args.rows.now _
    (IsFirst-from_position _ _ _ (λ r. is_free r ≡ true) (λ r. is_free r ≡ false) c.position.ensures.ran (YieldsList-from_slice c.args.rows.now cc) (λ x q k. search (rules, tests)) (λ x q k. search (rules, tests)))
