-- What a sealer means, and the laws that it shows. Assumes nothing.
use Rattle.std.specs.Prelude.{◌≡◌, ℕ, ◌≤◌, Bool, true, false, cond, ◌&&◌, List, [], ◌∷◌, length, replicate, Some, None, Option, ◌==◌, ◌≢◌}
use Rattle.sealer.specs.Limits.{largest_telegram}

-- a function of key, nonce, associated data and telegram
abbrev pub Sealed : Type 0
Sealed = List ℕ → List ℕ → List ℕ → List ℕ → List ℕ

-- a function of key, nonce, associated data, ciphertext and MAC
abbrev pub Openings : Type 0
Openings = List ℕ → List ℕ → List ℕ → List ℕ → List ℕ → Option (List ℕ)

-- whether two lists are the same
abbrev pub same : List ℕ → List ℕ → Bool
same [] [] = true
same [] (y ∷ ys) = false
same (x ∷ xs) [] = false
same (x ∷ xs) (y ∷ ys) = x == y && same xs ys

-- the telegram, where its MAC is the one that came with it
abbrev pub confirmed : List ℕ → List ℕ → List ℕ → Option (List ℕ)
confirmed mac given telegram = cond (same mac given) (Some telegram) None

-- under one key, nonce and associated data no two telegrams have the same ciphertext
abbrev pub Apart : Sealed → Type 0
Apart ciphertext = (k n a s t : List ℕ) → length s ≤ largest_telegram → length t ≤ largest_telegram → ciphertext k n a s ≡ ciphertext k n a t → s ≡ t

-- a ciphertext is as long as its telegram
abbrev pub Long : Sealed → Type 0
Long ciphertext = (k n a t : List ℕ) → length (ciphertext k n a t) ≡ length t

-- a MAC has sixteen octets
abbrev pub Wide : Sealed → Type 0
Wide mac = (k n a t : List ℕ) → length k ≡ 16 → length (mac k n a t) ≡ 16

-- what opens, seals back to what was opened
abbrev pub Sound : Sealed → Sealed → Openings → Type 0
Sound ciphertext mac opened = (k n a c m t : List ℕ) → opened k n a c m ≡ Some t → (ciphertext k n a t ≡ c) × (mac k n a t ≡ m)

-- what was sealed, opens to what was sealed
abbrev pub Complete : Sealed → Sealed → Openings → Type 0
Complete ciphertext mac opened = (k n a t : List ℕ) → opened k n a (ciphertext k n a t) (mac k n a t) ≡ Some t

-- one answer of opening: the octets left in the buffer, and whether they are a telegram
pub record Opened (opening : Option (List ℕ)) (ciphertext mac : List ℕ → List ℕ) (c m : List ℕ) (yes : Bool) (left : List ℕ) : Type 0 where
  pub answer : opening ≡ cond yes (Some left) None
  pub seals_back : yes ≡ true → (ciphertext left ≡ c) × (mac left ≡ m)
  pub nothing_seals_so : yes ≡ false → (t : List ℕ) → ciphertext t ≡ c → mac t ≢ m
  pub cleared : yes ≡ false → left ≡ replicate (length c) 0
