use Rattle.sealer.proofs.Openings.{opened_masked}
use Rattle.sealer.proofs.sealers.KnxSealer.open.Goals as goal

pub returns : goal.returns
returns g c =
    opened_masked (g.C.BlockCipher.enciphered c.args.key.now) _ c.args.nonce.now c.args.associated.now c.args.text.now c.args.given.now
    c.confirm.new.text c.confirm.result c.prepare-prepared.ensures c.mask.new.text c.mask.ensures c.confirm.ensures.answer c.confirm.ensures.left
