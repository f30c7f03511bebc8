-- The lapsed row with the smallest number is the session that the rules pick. Assumes nothing.
use Rattle.std.proofs.Common.{◌≡◌, ℕ, zero, suc, ◌+◌, ◌<◌, ◌≤◌, Bool, true, false, not, List, [], ◌∷◌, length, Some, None, Option, sym, refl, ap, ◌∙◌, subst, ⊎_elim, arith, IfSome, MatchOption}
use Rattle.std.proofs.lemmas.Bool.{and_parts, false_from_ne_true, both_ways, cases_eq, cond-false, cond-true, ltb-false, ltb-true}
use Rattle.std.proofs.lemmas.Bool.Decides.{nat_tests}
use Rattle.rules.specs.Limits.{session_numbers}
use Rattle.rules.specs.Sessions.{first, is_lapsed, lapsed}
use Rattle.slots.specs.Lapses.{Lapses, least, or_at, precedes}
use Rattle.slots.specs.Rows.{Distinct, has, is_free, lapsed_row, look_up, row, session_of}
use Rattle.slots.specs.declared.slot.Slot.{Slot}
use Rattle.slots.proofs.Looks.{by_test, has_is, look_row}

-- THE FIRST NUMBER THAT PASSES A TEST

first_none : (n i : ℕ) (test : ℕ → Bool) → ((k : ℕ) → test k ≡ false) → first n i test ≡ None
first_none zero i test no_one = refl
first_none (suc n) i test no_one = rw (no_one i) (first_none n (i + 1) test no_one)

first_some : (n i k : ℕ) (test : ℕ → Bool) → i ≤ k → k < i + n → test k ≡ true → ((j : ℕ) → j < k → test j ≡ false) → first n i test ≡ Some k
first_some zero i k test from below here before = absurd (omega arith)
first_some (suc n) i k test from below here before =
    ⊎_elim
    (λ e. cond-true (test i) (Some i) (first n (i + 1) test) (ap test e ∙ here) ∙ ap (λ (j : ℕ). Some j) e)
    (λ ne. let lt : i < k = omega arith in cond-false (test i) (Some i) (first n (i + 1) test) (before i lt) ∙ first_some n (i + 1) k test (omega arith) (omega arith) here before)
    (cases_eq i k)

-- THE LEAST LAPSED ROW

-- no row below i lapsed, or the one at j did and no other below i has a smaller number
abbrev Least : List Slot → ℕ → Option ℕ → Type 0
Least rows i o =
    MatchOption o ((k : ℕ) → k < i → lapsed_row (row rows k) ≡ false)
    (λ j. (j < i) × (lapsed_row (row rows j) ≡ true) × ((k : ℕ) → k < i → lapsed_row (row rows k) ≡ true → (row rows j).number ≤ (row rows k).number))

least_kept : (rows : List Slot) (i : ℕ) (o : Option ℕ) → Least rows i o → lapsed_row (row rows i) ≡ false → Least rows (suc i) o
least_kept rows i None l no-lapse = λ k lt. ⊎_elim (λ e. ap (λ (j : ℕ). lapsed_row (row rows j)) e ∙ no-lapse) (λ ne. l k (omega arith)) (cases_eq k i)
least_kept rows i (Some j) l no-lapse =
    (omega (arith, l.0), l.1, λ k lt y. ⊎_elim (λ e. absurd (both_ways _ no-lapse (sym (ap (λ (m : ℕ). lapsed_row (row rows m)) e) ∙ y))) (λ ne. l.2 k (omega arith) y) (cases_eq k i))

least_none : (rows : List Slot) (i : ℕ) → Least rows i None → lapsed_row (row rows i) ≡ true → Least rows (suc i) (Some i)
least_none rows i l y =
    (omega arith, y, λ k lt z. ⊎_elim (λ e. rw e (omega arith)) (λ ne. absurd (both_ways _ (l k (omega arith)) z)) (cases_eq k i))

least_less : (rows : List Slot) (i j : ℕ) → Least rows i (Some j) → lapsed_row (row rows i) ≡ true → (row rows i).number < (row rows j).number → Least rows (suc i) (Some i)
least_less rows i j l y less =
    (omega arith, y, λ k lt z. ⊎_elim (λ e. rw e (omega arith)) (λ ne. let most = l.2 k (omega arith) z in omega arith) (cases_eq k i))

least_stays : (rows : List Slot) (i j : ℕ) → Least rows i (Some j) → (row rows j).number ≤ (row rows i).number → Least rows (suc i) (Some j)
least_stays rows i j l le =
    (omega (arith, l.0), l.1, λ k lt z. ⊎_elim (λ e. rw e le) (λ ne. l.2 k (omega arith) z) (cases_eq k i))

least_more : (rows : List Slot) (i : ℕ) (o : Option ℕ) → Least rows i o → Least rows (suc i) (or_at rows o i)
least_more rows i None l =
    by_test (lapsed_row (row rows i)) _
    (λ y. rw y (least_none rows i l y))
    (λ z. rw z (least_kept rows i None l z))
least_more rows i (Some j) l =
    by_test (lapsed_row (row rows i)) _
    (λ y. by_test (precedes rows (row rows i).number (Some j)) _
    (λ p. rw (y, p) (least_less rows i j l y (ltb-true _ _ p)))
    (λ q. rw (y, q) (least_stays rows i j l (ltb-false _ _ q))))
    (λ z. rw z (least_kept rows i (Some j) l z))

least_is : (rows : List Slot) (i : ℕ) → Least rows i (least rows i)
least_is rows zero = λ k lt. absurd (omega arith)
least_is rows (suc i) = least_more rows i (least rows i) (least_is rows i)

-- ROWS AND NUMBERS

-- a session that lapsed stands in a row
record Stands (rows : List Slot) (n : ℕ) : Type 0 where
  at : ℕ
  within : at < length rows
  number : (row rows at).number ≡ n
  lapsed_there : lapsed_row (row rows at) ≡ true

row_lapsed : (r : Slot) → 0 < r.number → lapsed (session_of r) ≡ true → lapsed_row r ≡ true
row_lapsed r p y = rw y (grind (arith, nat_tests))

stands : (rows : List Slot) (n : ℕ) → is_lapsed (look_up rows n) ≡ true → Stands rows n
stands [] n y = absurd (both_ways false refl y)
stands (r ∷ rs) n y =
    by_test (has n r) _
    (λ h. let is = has_is n r h in record { at = 0; within = omega arith; number = is.1; lapsed_there = row_lapsed r (omega arith) (rw h at y) })
    (λ h. let rest = stands rs n (rw h at y) in record { at = suc rest.at; within = omega arith; number = rest.number; lapsed_there = rest.lapsed_there })

-- what holds of a lapsed row
lapsed_is : (r : Slot) → lapsed_row r ≡ true → (0 < r.number) × (lapsed (session_of r) ≡ true)
lapsed_is r y = let parts = and_parts (not (is_free r)) (lapsed (session_of r)) y in (let used : not (is_free r) ≡ true = parts.0 in grind (arith, nat_tests), parts.1)

from_least : (rows : List Slot) (o : Option ℕ) → Distinct rows → IfSome o (λ j. (row rows j).number < session_numbers) → Least rows (length rows) o → Lapses rows o
from_least rows None d small l =
    first_none session_numbers 0 _ (λ k. false_from_ne_true _ (λ y. let s = stands rows k y in both_ways _ (l s.at s.within) s.lapsed_there))
from_least rows (Some j) d small l =
    let n = (row rows j).number in
    let is = lapsed_is (row rows j) l.1 in
    let finds = look_row rows n j d l.0 is.0 refl in
    record {
      is = first_some session_numbers 0 n _ (omega arith) (omega (arith, small)) (ap is_lapsed finds ∙ is.1)
          (λ k lt. false_from_ne_true _ (λ y. let s = stands rows k y in let most = l.2 s.at s.within s.lapsed_there in let which = s.number in absurd (omega arith)));
      found = record { within = l.0; some = is.0; number = refl; session = finds };
    }

pub lapses : (rows : List Slot) (o : Option ℕ) → Distinct rows → IfSome o (λ j. (row rows j).number < session_numbers) → o ≡ least rows (length rows) → Lapses rows o
lapses rows o d small e = from_least rows o d small (subst (Least rows (length rows)) (sym e) (least_is rows (length rows)))
