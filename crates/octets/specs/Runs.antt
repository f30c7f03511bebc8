-- Runs of octets: taken out of a list, written over one, XORed. Assumes nothing.
use Rattle.std.specs.Prelude.{ℕ, zero, suc, ◌+◌, List, [], ◌∷◌, ◌++◌, length, take, drop, bit_xor, slice_index}
use Rattle.octets.specs.Numbers.{value}

-- n octets from a place on; past the end there are zeros
abbrev pub run : ℕ → ℕ → List ℕ → List ℕ
run zero at xs = []
run (suc n) at xs = slice_index xs at ∷ run n (at + 1) xs

-- the number in n octets from a place on
abbrev pub number : ℕ → ℕ → List ℕ → ℕ
number n at xs = value (run n at xs)

-- the first octets of xs become ys, the others stay
abbrev pub over : List ℕ → List ℕ → List ℕ
over ys xs = ys ++ drop (length ys) xs

-- the octets of xs from a place on become ys, the others stay
abbrev pub over_at : ℕ → List ℕ → List ℕ → List ℕ
over_at at ys xs = take at xs ++ over ys (drop at xs)

-- each octet of xs XORed with the one of ys at its place; where ys has ended, xs stays
abbrev pub xor : List ℕ → List ℕ → List ℕ
xor [] ys = []
xor (x ∷ xs) [] = x ∷ xs
xor (x ∷ xs) (y ∷ ys) = bit_xor x y ∷ xor xs ys
