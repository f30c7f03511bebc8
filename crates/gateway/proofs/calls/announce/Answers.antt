use Rattle.rules.specs.Meaning.{meaning}
use Rattle.rules.specs.Calls.{announce}
use Rattle.steps.specs.Buffers.{lending}
use Rattle.gateway.proofs.Promised.{kept}
use Rattle.gateway.proofs.calls.announce.Goals as goal

pub returns : goal.returns
returns g c =
    let call = announce c.args.telegram.now c.args.lot (lending c.args.out.now c.args.work.now) in
    let k = kept (meaning g.S.Sealer) call _ _ _ _ _ c.announce.ensures.rule c.announce.ensures.work c.requires tt in
    record { ready = k.0; promise = k.1 }
