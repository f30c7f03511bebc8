-- A block cipher makes sixteen octets of sixteen. Assumes nothing.
use Rattle.std.specs.Prelude.{◌≡◌, ℕ, List, [], length, slice_index_or, refl}
use Rattle.std.proofs.Common.{◌∙◌}
use Rattle.octets.proofs.Laws.{xor_keeps_length}
use Rattle.octets.specs.Runs.{xor}
use Rattle.cipher.specs.Aes.{add_round_key, after, aes_128, rounds, schedule, shift_rows, sub_bytes}

-- a function of key and block, at keys and blocks of sixteen octets
abbrev pub Wide : (List ℕ → List ℕ → List ℕ) → Type 0
Wide enciphered = (key block : List ℕ) → length key ≡ 16 → length block ≡ 16 → length (enciphered key block) ≡ 16

pub rounds_wide : (ks : List (List ℕ)) (b : List ℕ) → length (rounds ks b) ≡ 16
unfolding rounds shift_rows
rounds_wide ks b = xor_keeps_length (shift_rows (sub_bytes (after 9 ks (add_round_key b (slice_index_or ks 0 []))))) (slice_index_or ks 10 []) ∙ refl

pub aes_wide : Wide aes_128
aes_wide key block k b = rounds_wide (schedule key) block

pub bench_wide : Wide (λ key block. xor block key)
bench_wide key block k b = xor_keeps_length block key ∙ b
