-- The laws of the definitions. Assumes nothing.
use Rattle.std.proofs.Common.{◌≡◌, ℕ, zero, suc, ◌+◌, ◌*◌, ◌/◌, ◌%◌, ◌^◌, ◌<◌, ◌≤◌, List, [], ◌∷◌, length, get_or, take, drop, sym, refl, ap, ◌∙◌, mul_assoc, mul_comm, pow-suc, arith, pow-add}
use Rattle.std.proofs.Math.Nat.{one-le-pow}
use native.Mathlib.Nat.{pow-succ', add-mul-div_right, add-mul-mod_self_right}
use lib.Arith.{mod-mul}
use lib.Bits.{xor_assoc, xor_self, xor_zero_r, xor_comm, xor_lt}
use Rattle.std.proofs.lemmas.List.{drop_more, take_all, take_at, drop_at, drop-drop, length-append, length-take, length-drop, length-take-le}
use Rattle.std.proofs.lemmas.Nat.{mul-add-lt, div-mul-add}
use Rattle.octets.specs.Numbers.{value, octets_of}
use Rattle.octets.specs.Runs.{run, over, over_at}
use Rattle.octets.specs.Laws as law
use Rattle.octets.specs.Laws.{Octets}

pub length_of_octets : law.LengthOfOctets
length_of_octets zero v = refl
length_of_octets (suc n) v = ap suc (length_of_octets n v)

pub xor_keeps_length : law.XorKeepsLength
xor_keeps_length [] ys = refl
xor_keeps_length (x ∷ xs) [] = refl
xor_keeps_length (x ∷ xs) (y ∷ ys) = ap suc (xor_keeps_length xs ys)

pub xor_twice : law.XorTwice
xor_twice [] ys = refl
xor_twice (x ∷ xs) [] = refl
xor_twice (x ∷ xs) (y ∷ ys) = rw (xor_assoc x y y, xor_self y, xor_zero_r x, xor_twice xs ys)

pub xor_swaps : law.XorSwaps
xor_swaps [] [] e = refl
xor_swaps [] (y ∷ ys) e = absurd (omega arith)
xor_swaps (x ∷ xs) [] e = absurd (omega arith)
xor_swaps (x ∷ xs) (y ∷ ys) e = rw (xor_comm x y, xor_swaps xs ys (omega arith))

pub xor_keeps_octets : law.XorKeepsOctets
xor_keeps_octets [] ys p q = tt
xor_keeps_octets (x ∷ xs) [] p q = p
xor_keeps_octets (x ∷ xs) (y ∷ ys) p q = (xor_lt 8 x y p.0 q.0, xor_keeps_octets xs ys p.1 q.1)

pub octets_are_octets : law.OctetsAreOctets
octets_are_octets zero v = tt
octets_are_octets (suc n) v = (omega arith, octets_are_octets n v)

-- an octet at a place; past the end there is 0
pub octet_at : (xs : List ℕ) (i : ℕ) → Octets xs → get_or xs i 0 < 256
octet_at [] i o = omega arith
octet_at (x ∷ xs) zero o = o.0
octet_at (x ∷ xs) (suc i) o = octet_at xs i o.1

octets_run : (n at : ℕ) (xs : List ℕ) → Octets xs → Octets (run n at xs)
octets_run zero at xs o = tt
octets_run (suc n) at xs o = (octet_at xs at o, octets_run n (at + 1) xs o)

length_run : (n at : ℕ) (xs : List ℕ) → length (run n at xs) ≡ n
length_run zero at xs = refl
length_run (suc n) at xs = ap suc (length_run n (at + 1) xs)

run_from : (n at : ℕ) (xs : List ℕ) → at + n ≤ length xs → run n at xs ≡ take n (drop at xs)
run_from zero at xs h = refl
run_from (suc n) at xs h =
    ap (λ (l : List ℕ). get_or xs at 0 ∷ l) (run_from n (at + 1) xs (omega arith)) ∙ ap (take (suc n)) (sym (drop_more xs at 0 (omega arith)))

pub run_is_part : law.RunIsPart
run_is_part = run_from

-- a number is read out of the part that it stands in
pub number_of_part : (n at : ℕ) (xs : List ℕ) → at + n ≤ length xs → value (run n 0 (take n (drop at xs))) ≡ value (run n at xs)
number_of_part n at xs h =
    let part = take n (drop at xs) in
    let long : length part ≡ n = simp (length-take, length-drop) (omega arith) in
    ap value (run_from n 0 part (omega (arith, long)) ∙ take_all n part (omega (arith, long)) ∙ sym (run_from n at xs h))

pub number_of_whole : law.NumberOfWhole
number_of_whole xs = ap value (run_from (length xs) 0 xs (omega arith) ∙ take_all (length xs) xs (omega arith))

pub over_keeps_length : law.OverKeepsLength
over_keeps_length at ys xs h = simp (length-append, length-take, length-drop) (omega arith)

pub over_keeps_before : law.OverKeepsBefore
over_keeps_before at ys xs h = take_at (take at xs) (over ys (drop at xs)) at (length-take-le at xs h)

pub over_is_read : law.OverIsRead
over_is_read at ys xs h =
    ap (take (length ys)) (drop_at (take at xs) (over ys (drop at xs)) at (length-take-le at xs (omega arith))) ∙ take_at ys (drop (length ys) (drop at xs)) (length ys) refl

pub over_keeps_after : law.OverKeepsAfter
over_keeps_after at ys xs h =
    sym (drop-drop (length ys) at (over_at at ys xs))
    ∙ ap (drop (length ys)) (drop_at (take at xs) (over ys (drop at xs)) at (length-take-le at xs h))
    ∙ drop_at ys (drop (length ys) (drop at xs)) (length ys) refl
    ∙ drop-drop (length ys) at xs

places_pos : (n : ℕ) → 0 < 256 ^ n
places_pos n = one-le-pow n 256 (omega arith)

pub value_below : law.ValueBelow
value_below [] o = omega arith
value_below (x ∷ xs) o = rw (pow-suc 256 (length xs)) (mul-add-lt x (256 ^ length xs) (value xs) 256 o.0 (value_below xs o.1))

pub number_below : law.NumberBelow
number_below n at xs o = rw length_run at (value_below (run n at xs) (octets_run n at xs o))

pub value_of_octets : law.ValueOfOctets
value_of_octets zero v = omega arith
value_of_octets (suc n) v =
    rw (length_of_octets n v, value_of_octets n v, pow-succ' 256 n) (sym (mod-mul v {m = 256} {c = 256 ^ n} (omega arith) (places_pos n)))

-- what stands above the lowest k octets does not change them
high_cut : (k j a v : ℕ) → octets_of k (a * 256 ^ (k + j) + v) ≡ octets_of k v
high_cut zero j a v = refl
high_cut (suc k) j a v =
    let P = 256 ^ k in
    let J = 256 ^ j in
    let up : a * 256 ^ (suc k + j) + v ≡ v + (a * J * 256) * P =
    rw (pow-add 256 (suc k) j, pow-suc 256 k, mul_comm (P * 256) J, ← mul_assoc a J (P * 256), mul_comm P 256, ← mul_assoc (a * J) 256 P) (omega arith) in
    let head : (a * 256 ^ (suc k + j) + v) / P % 256 ≡ v / P % 256 =
    ap (λ n. n / P % 256) up ∙ ap (λ n. n % 256) (add-mul-div_right v (a * J * 256) (places_pos k)) ∙ add-mul-mod_self_right (v / P) (a * J) 256 in
    let rest : octets_of k (a * 256 ^ (suc k + j) + v) ≡ octets_of k v =
    ap (λ m. octets_of k (a * 256 ^ m + v)) (omega arith) ∙ high_cut k (suc j) a v in
    rw (head, rest)

pub octets_of_value : law.OctetsOfValue
octets_of_value [] o = refl
octets_of_value (x ∷ xs) o =
    let n = length xs in
    let head : (x * 256 ^ n + value xs) / 256 ^ n % 256 ≡ x =
    ap (λ m. m % 256) (div-mul-add x (256 ^ n) (value xs) (value_below xs o.1)) ∙ omega (arith, o.0) in
    let rest : octets_of n (x * 256 ^ n + value xs) ≡ xs =
    ap (λ m. octets_of n (x * 256 ^ m + value xs)) (omega arith) ∙ high_cut n 0 x (value xs) ∙ octets_of_value xs o.1 in
    rw (head, rest)
