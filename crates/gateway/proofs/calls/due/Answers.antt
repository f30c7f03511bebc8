use Rattle.rules.specs.Meaning.{meaning}
use Rattle.rules.specs.Calls.{due}
use Rattle.steps.specs.Buffers.{lending}
use Rattle.gateway.proofs.Promised.{kept}
use Rattle.gateway.proofs.calls.due.Goals as goal

pub returns : goal.returns
returns g c =
    let call = due c.args.lot (lending c.args.out.now c.args.work.now) in
    let k = kept (meaning g.S.Sealer) call _ _ _ _ _ c.due.ensures.rule c.due.ensures.work c.requires tt in
    record { ready = k.0; promise = k.1 }
