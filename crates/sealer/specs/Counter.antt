-- Counter mode over a block function f, which enciphers under one key. Assumes nothing.
use Rattle.std.specs.Prelude.{ℕ, zero, suc, ◌+◌, ◌/◌, List, [], ◌∷◌, ◌++◌, length}
use Rattle.octets.specs.Runs.{xor}

-- counter block i: the nonce, FF and the octet i
abbrev pub counter : List ℕ → ℕ → List ℕ
counter nonce i = nonce ++ (0xff ∷ i ∷ [])

-- n enciphered counter blocks from block i on, one after the other
abbrev pub stream : (List ℕ → List ℕ) → List ℕ → ℕ → ℕ → List ℕ
stream f nonce i zero = []
stream f nonce i (suc n) = f (counter nonce i) ++ stream f nonce (i + 1) n

-- how many blocks it takes to cover n octets
abbrev pub blocks_for : ℕ → ℕ
blocks_for n = (n + 15) / 16

-- the text XORed with as many enciphered counter blocks as cover it, from block 1 on
unfoldable pub masked : (List ℕ → List ℕ) → List ℕ → List ℕ → List ℕ
masked f nonce text = xor text (stream f nonce 1 (blocks_for (length text)))
