use Rattle.sealer.proofs.Openings.{opened_plain}
use Rattle.sealer.proofs.sealers.ReadingSealer.open.Goals as goal

pub returns : goal.returns
returns g c =
    opened_plain (g.C.BlockCipher.enciphered c.args.key.now) _ c.args.nonce.now c.args.associated.now c.args.text.now c.args.given.now
    c.confirm.new.text c.confirm.result c.prepare.ensures c.confirm.ensures.answer c.confirm.ensures.left
