use Rattle.std.proofs.Common.{arith}
use Rattle.rules.specs.Meaning.{meaning}
use Rattle.steps.proofs.Standing.{opened_long, opens}
use Rattle.steps.proofs.wrappers.open.Goals as goal

pub returns : goal.returns
returns g c = opens _ _ c.requires.small (omega (arith, c.told-work)) _ (λ t e. opened_long (meaning g.S.Sealer) _ _ _ _ _ t e) _ _ _
    c.open.ensures.length c.open.ensures.area c.ok_or.ensures.value
