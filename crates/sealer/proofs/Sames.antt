-- Two runs compared octet by octet, with the decision at the end. Assumes nothing.
use Rattle.std.proofs.Common.{◌≡◌, ℕ, ◌&&◌, eqb, List, [], ◌∷◌, length, sym, refl, ◌∙◌, ⊎_elim, arith}
use lib.Bits.{bit_or, bit_xor, or_add_and, xor_add_and, and_le_l, and_le_r, xor_self}
use Rattle.std.proofs.Math.Bool.{and_assoc, and-true}
use Rattle.std.proofs.lemmas.Bool.{and_left, and_right, cases_eq, eq-eqb, ne_eqb}
use Rattle.std.specs.List.{fold, zip}
use Rattle.sealer.specs.Sealing.{same}

or_none : (a b : ℕ) → bit_or a b ≡ 0 → (a ≡ 0) × (b ≡ 0)
or_none a b e = let s = or_add_and a b in let l = and_le_l a b in let r = and_le_r a b in (omega arith, omega arith)

xor_none : (a b : ℕ) → bit_xor a b ≡ 0 → a ≡ b
xor_none a b e = let s = xor_add_and a b in let l = and_le_l a b in let r = and_le_r a b in omega arith

differ_none : (d x y : ℕ) → eqb (bit_or d (bit_xor x y)) 0 ≡ eqb d 0 && eqb x y
differ_none d x y = ⊎_elim
    (λ (p : d ≡ 0). ⊎_elim
    (λ (q : x ≡ y). rw (p, q, xor_self y) (sym (eq-eqb y y refl)))
    (λ (q : x ≡ y → ⊥). ne_eqb _ 0 (λ e. q (xor_none x y (or_none d (bit_xor x y) e).1)) ∙ sym (and_right (eqb d 0) (eqb x y) (ne_eqb x y q)))
    (cases_eq x y))
    (λ (p : d ≡ 0 → ⊥). ne_eqb _ 0 (λ e. p (or_none d (bit_xor x y) e).0) ∙ sym (and_left (eqb d 0) (eqb x y) (ne_eqb d 0 p)))
    (cases_eq d 0)

folded : (d : ℕ) (a b : List ℕ) → length a ≡ length b → eqb (fold (λ d p. bit_or d (bit_xor p.0 p.1)) d (zip a b)) 0 ≡ eqb d 0 && same a b
folded d [] [] e = sym (and-true (eqb d 0))
folded d [] (y ∷ b) e = absurd (omega arith)
folded d (x ∷ a) [] e = absurd (omega arith)
folded d (x ∷ a) (y ∷ b) e = folded (bit_or d (bit_xor x y)) a b (omega arith) ∙ rw (differ_none d x y) (and_assoc (eqb d 0) (eqb x y) (same a b))

pub same_folded : (a b : List ℕ) → length a ≡ length b → same a b ≡ eqb (fold (λ d p. bit_or d (bit_xor p.0 p.1)) 0 (zip a b)) 0
same_folded a b e = sym (folded 0 a b e)
