-- The substitution of FIPS 197. Assumes nothing.
use Rattle.std.specs.Prelude.{ℕ, zero, suc, ◌+◌, ◌*◌, ◌/◌, ◌%◌, ◌^◌}
use Rattle.cipher.specs.Field.{inverse}

-- bit i of an octet
abbrev pub bit : ℕ → ℕ → ℕ
bit b i = b / 2 ^ i % 2

-- bit i of the affine map: five bits of b, counted round, and a bit of 63
abbrev pub affine_bit : ℕ → ℕ → ℕ
affine_bit b i = (bit b i + bit b ((i + 4) % 8) + bit b ((i + 5) % 8) + bit b ((i + 6) % 8) + bit b ((i + 7) % 8) + bit 0x63 i) % 2

-- the lowest n bits of the affine map
abbrev pub affine_bits : ℕ → ℕ → ℕ
affine_bits zero b = 0
affine_bits (suc n) b = affine_bit b n * 2 ^ n + affine_bits n b

-- S-box: the inverse in the field, then the affine map
unfoldable pub sub : ℕ → ℕ
sub b = affine_bits 8 (inverse b)
