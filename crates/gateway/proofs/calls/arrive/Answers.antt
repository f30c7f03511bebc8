use Rattle.rules.specs.Meaning.{meaning}
use Rattle.rules.proofs.Facts.{all_octets}
use Rattle.rules.specs.Calls.{arrive}
use Rattle.steps.specs.Buffers.{lending}
use Rattle.gateway.proofs.Promised.{kept}
use Rattle.gateway.proofs.calls.arrive.Goals as goal

pub returns : goal.returns
returns g c =
    let call = arrive c.args.frame.now c.args.offer.now c.args.lot (lending c.args.out.now c.args.work.now) in
    let k = kept (meaning g.S.Sealer) call _ _ _ _ _ c.arrive.ensures.rule c.arrive.ensures.work c.requires (all_octets c.args.frame.now (λ i. (c.type_inv.frame i).fits), all_octets c.args.offer.now (λ i. (c.type_inv.offer i).fits)) in
    record { ready = k.0; promise = k.1 }
