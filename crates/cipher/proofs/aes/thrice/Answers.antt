use Rattle.std.proofs.Common.{refl, ap, ◌∙◌, arith}
use lib.Bits.{bit_xor}
use Rattle.cipher.specs.Field.{product}
use Rattle.cipher.proofs.Tables.{agree}
use Rattle.cipher.proofs.aes.thrice.Goals as goal

pub returns : goal.returns
returns c = ap (λ y. bit_xor y c.args.x) c.twice.ensures ∙ agree (λ x. bit_xor (product 2 x) x) (product 3) 256 refl c.args.x (omega arith)
