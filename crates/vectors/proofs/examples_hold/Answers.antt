use Rattle.std.proofs.Common.{refl}
use Rattle.cipher.specs.Aes.{mix_columns, next_key, rounds, schedule, shift_rows}
use Rattle.cipher.specs.Field.{inverse}
use Rattle.cipher.specs.Sbox.{sub}
use Rattle.vectors.proofs.examples_hold.Goals as goal

pub returns : goal.returns
unfolding rounds schedule next_key shift_rows mix_columns sub inverse
returns c = record { worked_example = refl; example_vector = refl }
