-- Masking part by part is XOR with the whole stream. Assumes nothing.
use Rattle.std.proofs.Common.{◌≡◌, ℕ, zero, suc, ◌+◌, ◌*◌, List, [], ◌∷◌, ◌++◌, length, take, drop, sym, refl, ap, ◌∙◌, add-one, add-zero, arith, length-append}
use lib.Bits.{bit_xor}
use Rattle.std.proofs.lemmas.List.{append_assoc, append-nil}
use Rattle.octets.specs.Runs.{xor}
use Rattle.sealer.specs.Counter.{counter, stream}

-- XOR with two runs, one after the other
pub xor_append : (xs b r : List ℕ) → xor xs (b ++ r) ≡ take (length b) (xor xs b) ++ xor (drop (length b) (xor xs b)) r
xor_append [] [] r = refl
xor_append [] (y ∷ b) r = refl
xor_append (x ∷ xs) [] r = refl
xor_append (x ∷ xs) (y ∷ b) r = ap (λ (l : List ℕ). bit_xor x y ∷ l) (xor_append xs b r)

module _ (f : List ℕ → List ℕ) (nonce : List ℕ) where
  stream_more : (i n : ℕ) → stream f nonce i (suc n) ≡ stream f nonce i n ++ f (counter nonce (i + n))
  stream_more i zero = append-nil (f (counter nonce i)) ∙ ap (λ k. f (counter nonce k)) (sym (add-zero i))
  stream_more i (suc n) =
      let next : i + 1 + n ≡ i + suc n = omega arith in
      rw (stream_more (i + 1) n, next, append_assoc) refl

  -- one part more; the first half is for `grind` to find it by
  pub mask_more : (n : ℕ) (xs : List ℕ) → length (stream f nonce 1 n) ≡ 16 * n → length (f (counter nonce (n + 1))) ≡ 16
      → (xor xs (stream f nonce 1 n) ≡ xor xs (stream f nonce 1 n))
      × (xor xs (stream f nonce 1 (n + 1)) ≡ take (16 * n) (xor xs (stream f nonce 1 n)) ++ xor (drop (16 * n) (xor xs (stream f nonce 1 n))) (f (counter nonce (n + 1))))
      × (length (stream f nonce 1 (n + 1)) ≡ 16 * (n + 1))
  mask_more n xs l w =
      let made = stream f nonce 1 n in
      let next : 1 + n ≡ n + 1 = omega arith in
      let more : stream f nonce 1 (n + 1) ≡ made ++ f (counter nonce (n + 1)) = ap (stream f nonce 1) (add-one n) ∙ stream_more 1 n ∙ ap (λ k. made ++ f (counter nonce k)) next in
      (refl, rw more (rw l at (xor_append xs made (f (counter nonce (n + 1))))), rw (more, length-append, l, w) (omega arith))
