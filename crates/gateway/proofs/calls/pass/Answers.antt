use Rattle.rules.specs.Meaning.{meaning}
use Rattle.std.proofs.Common.{refl}
use Rattle.rules.specs.Calls.{pass}
use Rattle.gateway.proofs.Promised.{kept, passing}
use Rattle.gateway.proofs.calls.pass.Goals as goal

pub returns : goal.returns
returns g c =
    let M = meaning g.S.Sealer in
    let does = passing M c.args.milliseconds _ _ c.passed.ensures in
    let k = kept M (pass c.args.milliseconds) _ _ _ _ _ does refl c.requires tt in
    record { ready = k.0; promise = k.1 }
