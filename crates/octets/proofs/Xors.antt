-- A loop that XORs one run into another, place by place. Assumes nothing.
use Rattle.std.proofs.Common.{◌≡◌, ℕ, zero, suc, ◌+◌, ◌<◌, ◌≤◌, min, List, [], ◌∷◌, length, get_or, set, take, refl, ap, add-one, arith}
use lib.Bits.{bit_xor}
use Rattle.octets.specs.Runs.{xor}

pub xor_none : (xs : List ℕ) → xor xs [] ≡ xs
xor_none [] = refl
xor_none (x ∷ xs) = refl

xor_suc : (i : ℕ) (xs ys : List ℕ) → i < length xs → i < length ys → xor xs (take (suc i) ys) ≡ set (xor xs (take i ys)) i (bit_xor (get_or (xor xs (take i ys)) i 0) (get_or ys i 0))
xor_suc i [] ys h g = absurd (omega arith)
xor_suc i (x ∷ xs) [] h g = absurd (omega arith)
xor_suc zero (x ∷ xs) (y ∷ ys) h g = ap (λ (l : List ℕ). bit_xor x y ∷ l) (xor_none xs)
xor_suc (suc i) (x ∷ xs) (y ∷ ys) h g = ap (λ (l : List ℕ). bit_xor x y ∷ l) (xor_suc i xs ys (omega arith) (omega arith))

-- one more place; the first half is for `grind` to find it by
pub xor_more : (i : ℕ) (xs ys : List ℕ) → i < length xs → i < length ys → (xor xs (take i ys) ≡ xor xs (take i ys)) × (xor xs (take (i + 1) ys) ≡ set (xor xs (take i ys)) i (bit_xor (get_or (xor xs (take i ys)) i 0) (get_or ys i 0)))
xor_more i xs ys h g = (refl, rw add-one (xor_suc i xs ys h g))

pub xor_all : (n : ℕ) (xs ys : List ℕ) → min (length xs) (length ys) ≤ n → xor xs (take n ys) ≡ xor xs ys
xor_all n [] ys h = refl
xor_all zero (x ∷ xs) [] h = refl
xor_all zero (x ∷ xs) (y ∷ ys) h = absurd (omega arith)
xor_all (suc n) (x ∷ xs) [] h = refl
xor_all (suc n) (x ∷ xs) (y ∷ ys) h = ap (λ (l : List ℕ). bit_xor x y ∷ l) (xor_all n xs ys (omega arith))
