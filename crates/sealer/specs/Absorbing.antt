-- CBC octet by octet, as the code goes about it. The rule, block by block, is in Mac. Assumes nothing.
use Rattle.std.specs.Prelude.{ℕ, ◌+◌, cond, List, [], ◌∷◌, ◌==◌, bit_xor, slice_index, slice_set}

-- the result over the octets that are left, from a state into which `at` octets of a block are XORed already
abbrev pub finish : (List ℕ → List ℕ) → List ℕ → ℕ → List ℕ → List ℕ
finish f s at [] = cond (at == 0) s (f s)
finish f s at (x ∷ xs) = cond (at == 15) (finish f (f (slice_set s at (bit_xor (slice_index s at) x))) 0 xs) (finish f (slice_set s at (bit_xor (slice_index s at) x)) (at + 1) xs)
