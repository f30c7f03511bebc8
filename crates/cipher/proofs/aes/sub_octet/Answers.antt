use Rattle.std.proofs.Common.{refl, arith}
use Rattle.cipher.specs.Field.{inverse}
use Rattle.cipher.specs.Sbox.{sub}
use Rattle.cipher.proofs.Tables.{entry}
use Rattle.cipher.proofs.aes.sub_octet.Goals as goal

pub returns : goal.returns
unfolding sub inverse
returns c = entry sub _ 256 refl c.args.x (omega arith)
