-- Numbers as octets, the highest first. Assumes nothing.
use Rattle.std.specs.Prelude.{ℕ, zero, suc, ◌+◌, ◌*◌, ◌/◌, ◌%◌, ◌^◌, List, [], ◌∷◌, length}

-- the number that octets stand for
abbrev pub value : List ℕ → ℕ
value [] = 0
value (x ∷ xs) = x * 256 ^ length xs + value xs

-- a number in n octets; what does not fit is cut off at the high end
abbrev pub octets_of : ℕ → ℕ → List ℕ
octets_of zero v = []
octets_of (suc n) v = v / 256 ^ n % 256 ∷ octets_of n v
