-- The field of 256 elements of FIPS 197: an octet is a polynomial over its bits, modulo x^8 + x^4 + x^3 + x + 1. Assumes nothing.
use Rattle.std.specs.Prelude.{ℕ, zero, suc, ◌*◌, ◌/◌, ◌%◌, Bool, cond, ◌==◌, bit_xor, nat_eq, nat_lt}

-- x times an element: where x^8 appears, the modulus is taken away
abbrev pub double : ℕ → ℕ
double b = cond (nat_lt b 128) (2 * b) (bit_xor (2 * b) 0x11b)

-- the sum, over the lowest n bits of a that are set, of b doubled as often as the bit's place says
abbrev pub product_of : ℕ → ℕ → ℕ → ℕ
product_of zero a b = 0
product_of (suc n) a b = bit_xor (cond (a % 2 == 1) b 0) (product_of n (a / 2) (double b))

abbrev pub product : ℕ → ℕ → ℕ
product a b = product_of 8 a b

-- the largest number below n that passes a test, or 0
abbrev pub last : ℕ → (ℕ → Bool) → ℕ
last zero f = 0
last (suc n) f = cond (f n) n (last n f)

-- the element whose product with b is 1; 0 has none and stands for its own
unfoldable pub inverse : ℕ → ℕ
inverse b = last 256 (λ c. nat_eq (product b c) 1)
