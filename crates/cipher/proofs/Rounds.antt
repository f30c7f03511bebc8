-- One turn of the loops over octets and over round keys, and the end of the latter. Assumes nothing.
use Rattle.std.proofs.Common.{◌≡◌, ℕ, zero, suc, ◌+◌, ◌<◌, List, [], ◌++◌, length, get_or, set, map, replicate, take, drop, refl, sym, ◌∙◌, add-one, arith, length-set}
use Rattle.std.proofs.lemmas.List.{length-append, length-map, length-take, length-drop, get_or_default, get_or-set_same}
use Rattle.std.proofs.lemmas.List.Edits.{map_over_more}
use Rattle.cipher.specs.Aes.{next_key, round_constant, round_key, schedule}
use Rattle.cipher.specs.Sbox.{sub}

-- one more octet substituted; the first half is for `grind` to find it by
pub sub_more : (i : ℕ) (xs : List ℕ) → i < length xs → (map sub (take i xs) ++ drop i xs ≡ map sub (take i xs) ++ drop i xs) × (map sub (take (i + 1) xs) ++ drop (i + 1) xs ≡ set (map sub (take i xs) ++ drop i xs) i (sub (get_or (map sub (take i xs) ++ drop i xs) i 0)))
sub_more i xs h =
    let s = map sub (take i xs) ++ drop i xs in
    let long : i < length s = simp (length-append, length-map, length-take, length-drop) (omega arith) in
    (refl, sym (map_over_more sub xs s i (get_or s i 0) h refl (get_or_default s i 0 (get_or s i 0) long)))

-- the round keys where n of them are made, and the key stands in the others' places
unfoldable pub keyed : List ℕ → ℕ → List (List ℕ)
keyed k zero = replicate 11 k
keyed k (suc n) = set (keyed k n) (suc n) (round_key k (suc n))

length_keyed : (k : List ℕ) (n : ℕ) → length (keyed k n) ≡ 11
unfolding keyed
length_keyed k zero = refl
length_keyed k (suc n) = length-set (keyed k n) (suc n) (round_key k (suc n)) ∙ length_keyed k n

key_at : (k : List ℕ) (n : ℕ) → n < 11 → get_or (keyed k n) n [] ≡ round_key k n
unfolding keyed
key_at k zero h = refl
key_at k (suc n) h = get_or-set_same (keyed k n) (suc n) (round_key k (suc n)) [] (rw length_keyed h)

pub keys_none : (k : List ℕ) → keyed k 0 ≡ replicate 11 k
unfolding keyed
keys_none k = refl

pub keys_more : (k : List ℕ) (n : ℕ) → n < 10 → (keyed k n ≡ keyed k n) × (keyed k (n + 1) ≡ set (keyed k n) (n + 1) (next_key (round_constant n) (get_or (keyed k n) n [])))
unfolding keyed
keys_more k n h = (refl, rw (add-one, key_at k n (omega arith)) refl)

pub keys_all : (k : List ℕ) (n : ℕ) → n ≡ 10 → keyed k n ≡ schedule k
unfolding keyed schedule
keys_all k n e = rw e refl
