-- What the definitions of this crate owe their readers. Assumes nothing.
use Rattle.std.specs.Prelude.{◌≡◌, ℕ, ◌+◌, ◌%◌, ◌^◌, ◌<◌, ◌≤◌, List, [], ◌∷◌, length, take, drop}
use Rattle.octets.specs.Numbers.{value, octets_of}
use Rattle.octets.specs.Runs.{run, number, over_at, xor}

-- every number of the list is an octet
abbrev pub Octets : List ℕ → Type 0
Octets [] = Unit {0}
Octets (x ∷ xs) = (x < 256) × Octets xs

-- a number in n octets, and back: the number, less what n octets cannot hold
abbrev pub ValueOfOctets : Type 0
ValueOfOctets = (n v : ℕ) → value (octets_of n v) ≡ v % 256 ^ n

-- octets to a number, and back
abbrev pub OctetsOfValue : Type 0
OctetsOfValue = (xs : List ℕ) → Octets xs → octets_of (length xs) (value xs) ≡ xs

abbrev pub ValueBelow : Type 0
ValueBelow = (xs : List ℕ) → Octets xs → value xs < 256 ^ length xs

abbrev pub LengthOfOctets : Type 0
LengthOfOctets = (n v : ℕ) → length (octets_of n v) ≡ n

abbrev pub OctetsAreOctets : Type 0
OctetsAreOctets = (n v : ℕ) → Octets (octets_of n v)

-- a run that lies within the list is a part of it
abbrev pub RunIsPart : Type 0
RunIsPart = (n at : ℕ) (xs : List ℕ) → at + n ≤ length xs → run n at xs ≡ take n (drop at xs)

-- the number in all octets of a list is its value
abbrev pub NumberOfWhole : Type 0
NumberOfWhole = (xs : List ℕ) → number (length xs) 0 xs ≡ value xs

-- and n octets make a number of n octets
abbrev pub NumberBelow : Type 0
NumberBelow = (n at : ℕ) (xs : List ℕ) → Octets xs → number n at xs < 256 ^ n

-- writing over a part keeps the length, is read back, and touches nothing else
abbrev pub OverKeepsLength : Type 0
OverKeepsLength = (at : ℕ) (ys xs : List ℕ) → at + length ys ≤ length xs → length (over_at at ys xs) ≡ length xs

abbrev pub OverIsRead : Type 0
OverIsRead = (at : ℕ) (ys xs : List ℕ) → at + length ys ≤ length xs → take (length ys) (drop at (over_at at ys xs)) ≡ ys

abbrev pub OverKeepsBefore : Type 0
OverKeepsBefore = (at : ℕ) (ys xs : List ℕ) → at ≤ length xs → take at (over_at at ys xs) ≡ take at xs

abbrev pub OverKeepsAfter : Type 0
OverKeepsAfter = (at : ℕ) (ys xs : List ℕ) → at ≤ length xs → drop (at + length ys) (over_at at ys xs) ≡ drop (at + length ys) xs

abbrev pub XorKeepsLength : Type 0
XorKeepsLength = (xs ys : List ℕ) → length (xor xs ys) ≡ length xs

abbrev pub XorKeepsOctets : Type 0
XorKeepsOctets = (xs ys : List ℕ) → Octets xs → Octets ys → Octets (xor xs ys)

-- XOR twice with the same octets changes nothing
abbrev pub XorTwice : Type 0
XorTwice = (xs ys : List ℕ) → xor (xor xs ys) ys ≡ xs

-- which of two equally long runs is XORed into which does not matter
abbrev pub XorSwaps : Type 0
XorSwaps = (xs ys : List ℕ) → length xs ≡ length ys → xor xs ys ≡ xor ys xs
