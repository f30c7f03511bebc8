use Rattle.rules.specs.Meaning.{meaning}
use Rattle.rules.specs.Calls.{hang_up}
use Rattle.steps.specs.Buffers.{lending}
use Rattle.gateway.proofs.Promised.{kept}
use Rattle.gateway.proofs.calls.hang_up.Goals as goal

pub returns : goal.returns
returns g c =
    let call = hang_up c.args.session (lending c.args.out.now c.args.work.now) in
    let k = kept (meaning g.S.Sealer) call _ _ _ _ _ c.hang_up.ensures.rule c.hang_up.ensures.work c.requires tt in
    record { ready = k.0; promise = k.1 }
