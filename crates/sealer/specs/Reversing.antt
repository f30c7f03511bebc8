-- Both sealers can be taken back, so each shows the laws of a sealer. Assumes nothing.
use Rattle.std.specs.Prelude.{◌≡◌, ℕ, Bool, true, false, cond, List, length, Some, None, refl}
use Rattle.std.proofs.Common.{sym, ap, ◌∙◌, arith}
use Rattle.octets.proofs.Laws.{xor_keeps_length, xor_twice}
use Rattle.octets.specs.Runs.{xor}
use Rattle.sealer.specs.Comparing.{same_true, same_self}
use Rattle.sealer.specs.Counter.{blocks_for, masked, stream}
use Rattle.sealer.specs.Sealing.{confirmed, same}

-- by what hides a telegram, what shows it again, and its MAC
module _ (hide show mac : List ℕ → List ℕ) (there : (t : List ℕ) → show (hide t) ≡ t) (back : (c : List ℕ) → hide (show c) ≡ c) where
  -- what a comparison of MACs lets through
  through : (r : Bool) (m s t u : List ℕ) → (r ≡ true → s ≡ m) → cond r (Some u) None ≡ Some t → (u ≡ t) × (s ≡ m)
  through true m s t u h e = (cc, h refl)
  through false m s t u h e = let z : ◌≡◌ {A = ℕ} 0 1 = cc in absurd (omega arith)

  pub sound : (c m t : List ℕ) → confirmed (mac (show c)) m (show c) ≡ Some t → (hide t ≡ c) × (mac t ≡ m)
  sound c m t e =
      let p = through (same (mac (show c)) m) m (mac (show c)) t (show c) (same_true (mac (show c)) m) e in
      (ap hide (sym p.0) ∙ back c, ap mac (sym p.0) ∙ p.1)

  pub complete : (t : List ℕ) → confirmed (mac (show (hide t))) (mac t) (show (hide t)) ≡ Some t
  complete t = rw (there t, same_self (mac t))

-- the KNX sealer: masking twice changes nothing
pub masked_long : (f : List ℕ → List ℕ) (n t : List ℕ) → length (masked f n t) ≡ length t
unfolding masked
masked_long f n t = xor_keeps_length t (stream f n 1 (blocks_for (length t)))

pub masked_twice : (f : List ℕ → List ℕ) (n t : List ℕ) → masked f n (masked f n t) ≡ t
unfolding masked
masked_twice f n t =
    let s = stream f n 1 (blocks_for (length t)) in
    ap (λ k. xor (xor t s) (stream f n 1 (blocks_for k))) (xor_keeps_length t s) ∙ xor_twice t s

pub masked_apart : (f : List ℕ → List ℕ) (n s t : List ℕ) → masked f n s ≡ masked f n t → s ≡ t
masked_apart f n s t e = sym (masked_twice f n s) ∙ ap (masked f n) e ∙ masked_twice f n t

pub masked_sound : (f : List ℕ → List ℕ) (n : List ℕ) (mac : List ℕ → List ℕ) (c m t : List ℕ)
    → confirmed (mac (masked f n c)) m (masked f n c) ≡ Some t → (masked f n t ≡ c) × (mac t ≡ m)
masked_sound f n mac c m t e = sound (masked f n) (masked f n) mac (masked_twice f n) (masked_twice f n) c m t e

pub masked_complete : (f : List ℕ → List ℕ) (n : List ℕ) (mac : List ℕ → List ℕ) (t : List ℕ)
    → confirmed (mac (masked f n (masked f n t))) (mac t) (masked f n (masked f n t)) ≡ Some t
masked_complete f n mac t = complete (masked f n) (masked f n) mac (masked_twice f n) (masked_twice f n) t

-- the reading sealer: the telegram is its own ciphertext
pub plain_sound : (mac : List ℕ → List ℕ) (c m t : List ℕ) → confirmed (mac c) m c ≡ Some t → (t ≡ c) × (mac t ≡ m)
plain_sound mac c m t e = sound (λ t. t) (λ c. c) mac (λ t. refl) (λ c. refl) c m t e

pub plain_complete : (mac : List ℕ → List ℕ) (t : List ℕ) → confirmed (mac t) (mac t) t ≡ Some t
plain_complete mac t = complete (λ t. t) (λ c. c) mac (λ t. refl) (λ c. refl) t
