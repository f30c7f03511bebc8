-- AES-128 as in FIPS 197. A state is its sixteen octets column by column, and so is a round key. Assumes nothing.
use Rattle.std.specs.Prelude.{ℕ, zero, suc, ◌+◌, ◌*◌, ◌/◌, ◌%◌, List, [], ◌∷◌, ◌++◌, map, take, drop, bit_xor, slice_index, slice_index_or}
use Rattle.std.specs.List.{range_with_len}
use Rattle.octets.specs.Runs.{run, xor}
use Rattle.cipher.specs.Field.{double, product}
use Rattle.cipher.specs.Sbox.{sub}

-- the octet in a row and a column of a state
abbrev pub at : List ℕ → ℕ → ℕ → ℕ
at s r c = slice_index s (r + 4 * c)

-- the state that has f r c in row r and column c
abbrev pub state : (ℕ → ℕ → ℕ) → List ℕ
state f = map (λ i. f (i % 4) (i / 4)) (range_with_len 0 16)

-- SubBytes: each octet through the S-box
abbrev pub sub_bytes : List ℕ → List ℕ
sub_bytes s = map sub s

-- ShiftRows: row r moves r places to the left, round
abbrev pub shifted : List ℕ → ℕ → ℕ → ℕ
shifted s r c = at s r ((c + r) % 4)

unfoldable pub shift_rows : List ℕ → List ℕ
shift_rows s = state (shifted s)

-- MixColumns: 2 times the octet and 3 times the one below it, and the two others of the column, round
abbrev pub mix : ℕ → ℕ → ℕ → ℕ → ℕ
mix a b c d = bit_xor (bit_xor (bit_xor (product 2 a) (product 3 b)) c) d

abbrev pub mixed : List ℕ → ℕ → ℕ → ℕ
mixed s r c = mix (at s r c) (at s ((r + 1) % 4) c) (at s ((r + 2) % 4) c) (at s ((r + 3) % 4) c)

unfoldable pub mix_columns : List ℕ → List ℕ
mix_columns s = state (mixed s)

-- AddRoundKey
abbrev pub add_round_key : List ℕ → List ℕ → List ℕ
add_round_key s key = xor s key

-- a full round
abbrev pub round : List ℕ → List ℕ → List ℕ
round s key = add_round_key (mix_columns (shift_rows (sub_bytes s))) key

-- the last round has no MixColumns
abbrev pub last_round : List ℕ → List ℕ → List ℕ
last_round s key = add_round_key (shift_rows (sub_bytes s)) key

-- word c of a round key
abbrev pub word : List ℕ → ℕ → List ℕ
word k c = run 4 (4 * c) k

-- RotWord: one octet to the left, round
abbrev pub rot_word : List ℕ → List ℕ
rot_word w = drop 1 w ++ take 1 w

-- SubWord
abbrev pub sub_word : List ℕ → List ℕ
sub_word w = map sub w

-- the round constant after n doublings of 1
abbrev pub round_constant : ℕ → ℕ
round_constant zero = 1
round_constant (suc n) = double (round_constant n)

-- word c of round key n + 1, by round key n and its constant: the word at that place in round key n, XORed with the word before;
-- what stands before word 0 is the last word of round key n, turned, substituted and XORed with the constant
abbrev pub next_word : ℕ → List ℕ → ℕ → List ℕ
next_word rc k zero = xor (word k 0) (xor (sub_word (rot_word (word k 3))) (rc ∷ 0 ∷ 0 ∷ 0 ∷ []))
next_word rc k (suc c) = xor (word k (suc c)) (next_word rc k c)

abbrev pub next_words : ℕ → List ℕ → List ℕ
next_words rc k = next_word rc k 0 ++ next_word rc k 1 ++ next_word rc k 2 ++ next_word rc k 3

unfoldable pub next_key : ℕ → List ℕ → List ℕ
next_key rc k = next_words rc k

-- round key n; round key 0 is the key itself
abbrev pub round_key : List ℕ → ℕ → List ℕ
round_key k zero = k
round_key k (suc n) = next_key (round_constant n) (round_key k n)

-- the key schedule: eleven round keys
unfoldable pub schedule : List ℕ → List (List ℕ)
schedule k = map (round_key k) (range_with_len 0 11)

-- the state after n full rounds from s, by the round keys
abbrev pub after : ℕ → List (List ℕ) → List ℕ → List ℕ
after zero ks s = s
after (suc n) ks s = round (after n ks s) (slice_index_or ks (suc n) [])

-- a block enciphered by eleven round keys
unfoldable pub rounds : List (List ℕ) → List ℕ → List ℕ
rounds ks b = last_round (after 9 ks (add_round_key b (slice_index_or ks 0 []))) (slice_index_or ks 10 [])

-- AES-128: key, block
abbrev pub aes_128 : List ℕ → List ℕ → List ℕ
aes_128 k b = rounds (schedule k) b
