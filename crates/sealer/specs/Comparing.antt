-- What a comparison of two lists tells. Assumes nothing.
use Rattle.std.specs.Prelude.{◌≡◌, ℕ, true, false, List, [], ◌∷◌, ◌==◌, refl}
use Rattle.std.proofs.lemmas.Bool.{and_from, and_parts, both_ways, eq-eqb, eqb-true}
use Rattle.sealer.specs.Sealing.{same}

pub same_true : (a b : List ℕ) → same a b ≡ true → a ≡ b
same_true [] [] e = refl
same_true [] (y ∷ b) e = absurd (both_ways false refl e)
same_true (x ∷ a) [] e = absurd (both_ways false refl e)
same_true (x ∷ a) (y ∷ b) e =
    let p = and_parts (x == y) (same a b) e in
    rw (eqb-true x y p.0, same_true a b p.1)

pub same_self : (a : List ℕ) → same a a ≡ true
same_self [] = refl
same_self (x ∷ a) = and_from (x == x) (same a a) (eq-eqb x x refl) (same_self a)
