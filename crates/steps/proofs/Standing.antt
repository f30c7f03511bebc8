-- What opening leaves in a work area that has the room. Assumes nothing.
use Rattle.std.proofs.Common.{◌≡◌, ℕ, ◌≤◌, true, List, length, drop, Some, None, Option, Result, sym, refl, ap, ◌∙◌, subst, arith}
use Rattle.std.proofs.lemmas.List.{length-append}
use Rattle.std.proofs.lemmas.Bool.{le-leb}
use Rattle.std.specs.Option.{ok_or}
use Rattle.frames.specs.Limits.{largest_frame}
use Rattle.frames.specs.Opening.{fits_in, opened_area, opened_length}
use Rattle.rules.proofs.Facts.{take_over}
use Rattle.rules.specs.declared.answers.Refusal.{Refusal}
use Rattle.rules.specs.declared.answers.Refusal.TheVariants as no
use Rattle.sealer.specs.Limits.{largest_telegram}
use Rattle.rules.specs.Meaning.{Meaning}
use Rattle.steps.specs.Opened.{Opens}

module _ (c work : List ℕ) (small : length c ≤ largest_telegram) (room : largest_frame ≤ length work) where
  fits : fits_in c work ≡ true
  fits =
      let a = le-leb (length c) largest_telegram small in
      let b = le-leb (length c) (length work) (omega arith) in
      rw (a, b)

  stands : (opening : Option (List ℕ)) → ((t : List ℕ) → opening ≡ Some t → length t ≡ length c)
      → Opens opening (opened_area true opening c work) (ok_or (opened_length true opening) no.Opening)
  stands None long = (refl, refl)
  stands (Some t) long =
      let l = length-append t (drop (length t) work) in
      let same = long t refl in
      let taken = ap length (take_over t work) in
      record { is = ap Some (sym (take_over t work)); within = omega arith; small = omega arith }

  pub opens : (opening : Option (List ℕ)) → ((t : List ℕ) → opening ≡ Some t → length t ≡ length c)
      → (work' : List ℕ) (o : Option ℕ) (r : Result ℕ Refusal)
      → o ≡ opened_length (fits_in c work) opening → work' ≡ opened_area (fits_in c work) opening c work → r ≡ ok_or o no.Opening
      → Opens opening work' r
  opens opening long work' o r p q s =
      let os : ok_or (opened_length true opening) no.Opening ≡ r = ap (λ b. ok_or (opened_length b opening) no.Opening) (sym fits) ∙ ap (λ x. ok_or x no.Opening) (sym p) ∙ sym s in
      let ws : opened_area true opening c work ≡ work' = ap (λ b. opened_area b opening c work) (sym fits) ∙ sym q in
      subst (λ w. Opens opening w r) ws (subst (Opens opening (opened_area true opening c work)) os (stands opening long))

-- what opens is as long as its ciphertext
pub opened_long : (M : Meaning) (k n a c m t : List ℕ) → M.opened k n a c m ≡ Some t → length t ≡ length c
opened_long M k n a c m t e = sym (M.long k n a t) ∙ ap length (M.sound k n a c m t e).0
