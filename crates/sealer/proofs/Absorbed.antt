-- CBC octet by octet is CBC block by block. Assumes nothing.
use Rattle.std.proofs.Common.{◌≡◌, ℕ, zero, suc, ◌+◌, ◌-◌, ◌*◌, ◌/◌, ◌%◌, ◌<◌, ◌≤◌, eqb, List, [], ◌∷◌, ◌++◌, length, get_or, take, drop, set, replicate, sym, refl, ap, ◌∙◌, ⊎_elim, add-one, arith, length-append, length-drop}
use lib.ListN.{length-replicate}
use lib.Bits.{bit_xor, xor_zero_r}
use Rattle.std.proofs.lemmas.List.{take-append-drop, take-append-le, drop-append-le, length-take-le, take_all, nil_from_length}
use Rattle.std.proofs.lemmas.Bool.{cases_lt, cond-true, cond-false, eq-eqb, ne_eqb}
use Rattle.octets.proofs.Xors.{xor_none}
use Rattle.octets.specs.Runs.{xor}
use Rattle.sealer.specs.Absorbing.{finish}
use Rattle.sealer.specs.Mac.{blocks, chained, padded, raw_mac}

-- b XORed into s from a place on
abbrev xor_at : List ℕ → ℕ → List ℕ → List ℕ
xor_at s at [] = s
xor_at s at (x ∷ b) = xor_at (set s at (bit_xor (get_or s at 0) x)) (suc at) b

xor_at_nil : (at : ℕ) (b : List ℕ) → xor_at [] at b ≡ []
xor_at_nil at [] = refl
xor_at_nil at (x ∷ b) = xor_at_nil (suc at) b

xor_at_cons : (y : ℕ) (s : List ℕ) (at : ℕ) (b : List ℕ) → xor_at (y ∷ s) (suc at) b ≡ y ∷ xor_at s at b
xor_at_cons y s at [] = refl
xor_at_cons y s at (x ∷ b) = xor_at_cons y (set s at (bit_xor (get_or s at 0) x)) (suc at) b

xor_at_start : (s b : List ℕ) → xor_at s 0 b ≡ xor s b
xor_at_start [] [] = refl
xor_at_start (y ∷ s) [] = refl
xor_at_start [] (x ∷ b) = xor_at_nil 1 b
xor_at_start (y ∷ s) (x ∷ b) = xor_at_cons (bit_xor y x) s 0 b ∙ ap (λ (l : List ℕ). bit_xor y x ∷ l) (xor_at_start s b)

xor_zeros : (n : ℕ) (s : List ℕ) → xor s (replicate n 0) ≡ s
xor_zeros n [] = refl
xor_zeros zero (y ∷ s) = refl
xor_zeros (suc n) (y ∷ s) = rw (xor_zero_r, xor_zeros n s)

xor_padded : (s b : List ℕ) (n : ℕ) → xor s (b ++ replicate n 0) ≡ xor s b
xor_padded s [] n = xor_zeros n s ∙ sym (xor_none s)
xor_padded [] (x ∷ b) n = refl
xor_padded (y ∷ s) (x ∷ b) n = ap (λ (l : List ℕ). bit_xor y x ∷ l) (xor_padded s b n)

module _ (f : List ℕ → List ℕ) where
  -- the octet before the last place, or at it
  fed_on : (at : ℕ) (s : List ℕ) (x : ℕ) (xs : List ℕ) → at < 15 → finish f s at (x ∷ xs) ≡ finish f (set s at (bit_xor (get_or s at 0) x)) (suc at) xs
  fed_on at s x xs h = cond-false (eqb at 15) _ _ (ne_eqb at 15 (λ e. omega arith)) ∙ rw add-one

  fed_last : (at : ℕ) (s : List ℕ) (x : ℕ) (xs : List ℕ) → at ≡ 15 → finish f s at (x ∷ xs) ≡ finish f (f (set s at (bit_xor (get_or s at 0) x))) 0 xs
  fed_last at s x xs e = cond-true (eqb at 15) _ _ (eq-eqb at 15 e)

  fed_whole : (at : ℕ) (s b rest : List ℕ) → 0 < length b → at + length b ≡ 16 → finish f s at (b ++ rest) ≡ finish f (f (xor_at s at b)) 0 rest
  fed_whole at s [] rest h e = absurd (omega arith)
  fed_whole at s (x ∷ []) rest h e = fed_last at s x rest (omega arith)
  fed_whole at s (x ∷ (y ∷ b)) rest h e =
      fed_on at s x ((y ∷ b) ++ rest) (omega arith) ∙ fed_whole (suc at) (set s at (bit_xor (get_or s at 0) x)) (y ∷ b) rest (omega arith) (omega arith)

  fed_part : (at : ℕ) (s b : List ℕ) → 0 < at + length b → at + length b < 16 → finish f s at b ≡ f (xor_at s at b)
  fed_part at s [] h e = cond-false (eqb at 0) _ _ (ne_eqb at 0 (λ e. omega arith))
  fed_part at s (x ∷ b) h e =
      fed_on at s x b (omega arith) ∙ fed_part (suc at) (set s at (bit_xor (get_or s at 0) x)) b (omega arith) (omega arith)

  -- a whole block at the front
  whole_front : (s xs : List ℕ) → 16 ≤ length xs → finish f s 0 xs ≡ finish f (f (xor s (take 16 xs))) 0 (drop 16 xs)
  whole_front s xs l =
      let front : length (take 16 xs) ≡ 16 = length-take-le 16 xs l in
      ap (finish f s 0) (sym (take-append-drop 16 xs))
      ∙ fed_whole 0 s (take 16 xs) (drop 16 xs) (omega arith) (omega arith)
      ∙ ap (λ (v : List ℕ). finish f (f v) 0 (drop 16 xs)) (xor_at_start s (take 16 xs))

  -- the last block, filled up
  last_block : (z : ℕ) (s xs : List ℕ) → 0 < length xs → length xs < 16 → length xs + z ≡ 16 → finish f s 0 xs ≡ f (xor s (take 16 (xs ++ replicate z 0)))
  last_block z s xs h l e =
      let all : length (xs ++ replicate z 0) ≤ 16 = simp (length-append, length-replicate) (omega arith) in
      fed_part 0 s xs (omega arith) (omega arith)
      ∙ ap f (xor_at_start s xs ∙ sym (xor_padded s xs z) ∙ ap (xor s) (sym (take_all 16 (xs ++ replicate z 0) all)))

  -- the blocks of a text that z zeros fill up
  pub fed_chained : (n z : ℕ) (s xs : List ℕ) → z < 16 → length xs + z ≡ n * 16 → finish f s 0 xs ≡ chained f s (blocks n (xs ++ replicate z 0))
  fed_chained zero z s xs h e =
      let none : length xs ≡ 0 = omega arith in
      rw (nil_from_length xs none)
  fed_chained (suc n) z s xs h e = ⊎_elim
      (λ (l : length xs < 16). let n0 : n ≡ 0 = omega arith in rw n0 (last_block z s xs (omega arith) l (omega arith)))
      (λ (l : 16 ≤ length xs).
      let rest : length (drop 16 xs) + z ≡ n * 16 = simp length-drop (omega arith) in
      whole_front s xs l ∙ fed_chained n z (f (xor s (take 16 xs))) (drop 16 xs) h rest ∙ rw (take-append-le, drop-append-le))
      (cases_lt (length xs) 16)

  pub raw_is : (xs : List ℕ) → finish f (replicate 16 0) 0 xs ≡ raw_mac f xs
  unfolding raw_mac
  raw_is xs = fed_chained (length (padded xs) / 16) ((16 - length xs % 16) % 16) (replicate 16 0) xs (omega arith) (simp (length-append, length-replicate) (omega arith))
