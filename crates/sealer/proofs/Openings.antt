-- The two answers of opening, by what hides a telegram, what shows it again, and its MAC. Assumes nothing.
use Rattle.std.proofs.Common.{◌≡◌, ℕ, Bool, true, false, cond, List, length, replicate, Some, None, sym, refl, ap, ◌∙◌}
use Rattle.std.proofs.lemmas.Bool.{both_ways}
use Rattle.sealer.specs.Comparing.{same_true, same_self}
use Rattle.sealer.specs.Counter.{masked}
use Rattle.sealer.specs.Mac.{mac_of}
use Rattle.sealer.specs.Reversing.{masked_long, masked_twice}
use Rattle.sealer.specs.Sealing.{Opened, confirmed, same}

module _ (hide show mac : List ℕ → List ℕ) (there : (t : List ℕ) → show (hide t) ≡ t) (back : (c : List ℕ) → hide (show c) ≡ c) (c m : List ℕ) where
  -- from a comparison that came out as r, and what was left then
  by_answer : (r : Bool) → same (mac (show c)) m ≡ r → Opened (cond r (Some (show c)) None) hide mac c m r (cond r (show c) (replicate (length c) 0))
  by_answer true e = record {
    answer = refl;
    seals_back = λ _. (back c, same_true (mac (show c)) m e);
    nothing_seals_so = λ z. absurd (both_ways true z refl);
    cleared = λ z. absurd (both_ways true z refl);
  }
  by_answer false e = record {
    answer = refl;
    seals_back = λ z. absurd (both_ways false refl z);
    nothing_seals_so = λ _ t p q. both_ways (same (mac (show c)) m) e (rw (← p, there t, ← q) (same_self (mac t)));
    cleared = λ _. refl;
  }

  pub opened_by : (r : Bool) (left : List ℕ) → r ≡ same (mac (show c)) m → left ≡ cond r (show c) (replicate (length c) 0)
      → Opened (confirmed (mac (show c)) m (show c)) hide mac c m r left
  opened_by r left e l = rw (l, ← e) (by_answer r (sym e))

-- opening by a prepared key h, which does what the key f does
module _ (f h : List ℕ → List ℕ) (n a c m left : List ℕ) (r : Bool) (is : h ≡ f) where
  pub opened_masked : (shown : List ℕ) → shown ≡ masked h n c → r ≡ same (mac_of h n a shown) m → left ≡ cond r shown (replicate (length shown) 0)
      → Opened (confirmed (mac_of f n a (masked f n c)) m (masked f n c)) (masked f n) (mac_of f n a) c m r left
  opened_masked shown e q l =
      let s : shown ≡ masked f n c = e ∙ ap (λ g. masked g n c) is in
      opened_by (masked f n) (masked f n) (mac_of f n a) (masked_twice f n) (masked_twice f n) c m r left
      (q ∙ ap (λ g. same (mac_of g n a shown) m) is ∙ ap (λ t. same (mac_of f n a t) m) s)
      (l ∙ ap (λ t. cond r t (replicate (length t) 0)) s ∙ ap (λ k. cond r (masked f n c) (replicate k 0)) (masked_long f n c))

  pub opened_plain : r ≡ same (mac_of h n a c) m → left ≡ cond r c (replicate (length c) 0)
      → Opened (confirmed (mac_of f n a c) m c) (λ t. t) (mac_of f n a) c m r left
  opened_plain q l = opened_by (λ t. t) (λ t. t) (mac_of f n a) (λ t. refl) (λ t. refl) c m r left (q ∙ ap (λ g. same (mac_of g n a c) m) is) l
