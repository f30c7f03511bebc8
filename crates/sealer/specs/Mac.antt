-- The MAC over a block function f, which enciphers under one key. Assumes nothing.
use Rattle.std.specs.Prelude.{ℕ, zero, suc, ◌-◌, ◌/◌, ◌%◌, List, [], ◌∷◌, ◌++◌, length, take, drop, replicate}
use Rattle.octets.specs.Numbers.{octets_of}
use Rattle.octets.specs.Runs.{xor}
use Rattle.sealer.specs.Counter.{counter}

-- what the MAC covers: the nonce and the telegram's length, which make the first block, then the length of the associated data,
-- the associated data and the telegram
unfoldable pub covered : List ℕ → List ℕ → List ℕ → List ℕ
covered nonce associated telegram = nonce ++ (octets_of 2 (length telegram) ++ (octets_of 2 (length associated) ++ (associated ++ telegram)))

-- zero octets up to a multiple of 16
abbrev pub padded : List ℕ → List ℕ
padded xs = xs ++ replicate ((16 - length xs % 16) % 16) 0

-- the first n blocks of 16 octets
abbrev pub blocks : ℕ → List ℕ → List (List ℕ)
blocks zero xs = []
blocks (suc n) xs = take 16 xs ∷ blocks n (drop 16 xs)

-- each block XORed with the result so far and enciphered
abbrev pub chained : (List ℕ → List ℕ) → List ℕ → List (List ℕ) → List ℕ
chained f so_far [] = so_far
chained f so_far (b ∷ bs) = chained f (f (xor so_far b)) bs

-- the last result over all blocks of xs, from sixteen zero octets on
unfoldable pub raw_mac : (List ℕ → List ℕ) → List ℕ → List ℕ
raw_mac f xs = chained f (replicate 16 0) (blocks (length (padded xs) / 16) (padded xs))

-- the MAC: the raw MAC XORed with the enciphered counter block 0
unfoldable pub mac_of : (List ℕ → List ℕ) → List ℕ → List ℕ → List ℕ → List ℕ
mac_of f nonce associated telegram = xor (raw_mac f (covered nonce associated telegram)) (f (counter nonce 0))
