-- How many sessions are held, counted over all session numbers. Assumes nothing.
use Rattle.std.proofs.Common.{◌≡◌, ℕ, zero, suc, ◌+◌, ◌^◌, ◌<◌, ◌≤◌, Bool, true, false, cond, eqb, is_some, Some, None, Option, sym, refl, ap, ◌∙◌, ⊎_elim, zero-le, arith}
use Rattle.std.proofs.lemmas.Option.{none-some}
use Rattle.std.proofs.lemmas.Bool.{both_ways, cases_eq, cases_lt, cond_both, eq-eqb, eqb-true, ne_eqb}
use Rattle.rules.specs.Limits.{session_numbers, slots}
use Rattle.rules.specs.Model.{Model, Session, held_after, put}
use Rattle.rules.specs.Sessions.{first}
use Rattle.rules.proofs.Facts.{some_some}

abbrev pub bit : Bool → ℕ
bit b = cond b 1 0

-- how many of n numbers from i on pass a test
abbrev pub count : ℕ → ℕ → (ℕ → Bool) → ℕ
count zero i test = 0
count (suc n) i test = bit (test i) + count n (i + 1) test

pub count_same : (n i : ℕ) (p q : ℕ → Bool) → ((k : ℕ) → i ≤ k → p k ≡ q k) → count n i p ≡ count n i q
count_same zero i p q h = refl
count_same (suc n) i p q h = rw (h i (omega arith), count_same n (i + 1) p q (λ k l. h k (omega arith)))

bit_le : (a b : Bool) → (a ≡ true → b ≡ true) → bit a ≤ bit b
bit_le true b h = let e = h refl in rw e (omega arith)
bit_le false true h = omega arith
bit_le false false h = omega arith

pub count_le : (n i : ℕ) (p q : ℕ → Bool) → ((k : ℕ) → p k ≡ true → q k ≡ true) → count n i p ≤ count n i q
count_le zero i p q h = omega arith
count_le (suc n) i p q h = omega (arith, bit_le (p i) (q i) (h i), count_le n (i + 1) p q h)

-- one number's test is changed
abbrev pub changed : ℕ → Bool → (ℕ → Bool) → ℕ → Bool
changed m b p k = cond (eqb k m) b (p k)

above_it : (i m : ℕ) → i ≤ m → eqb i m ≡ false → i + 1 ≤ m
above_it i m l e = ⊎_elim (λ (q : i ≡ m). absurd (both_ways (eqb i m) e (eq-eqb i m q))) (λ (q : i ≡ m → ⊥). ne_lt i m l q) (cases_eq i m) where
  ne_lt : (i m : ℕ) → i ≤ m → (i ≡ m → ⊥) → i + 1 ≤ m
  ne_lt i m l q = ⊎_elim (λ (z : i < m). omega arith) (λ (z : m ≤ i). absurd (q (omega arith))) (cases_lt i m)

pub count_changed : (n i m : ℕ) (b : Bool) (p : ℕ → Bool) → i ≤ m → m < i + n → count n i (changed m b p) + bit (p m) ≡ count n i p + bit b
count_changed zero i m b p l h = absurd (omega arith)
count_changed (suc n) i m b p l h = at (eqb i m) refl (λ low. count_changed n (i + 1) m b p low (omega arith)) where
  at : (e : Bool) → eqb i m ≡ e → (i + 1 ≤ m → count n (i + 1) (changed m b p) + bit (p m) ≡ count n (i + 1) p + bit b)
      → count (suc n) i (changed m b p) + bit (p m) ≡ count (suc n) i p + bit b
  at true e more =
      let same : i ≡ m = eqb-true i m e in
      let rest : count n (i + 1) (changed m b p) ≡ count n (i + 1) p = count_same n (i + 1) (changed m b p) p (λ k lk. let ne = ne_eqb k m (λ q. omega arith) in rw ne) in
      rw (e, rest, ← same) (omega arith)
  at false e more = let rest = more (above_it i m l e) in rw e (omega (arith, rest))

-- as many sessions are held as the gateway counts, and no more than it has slots
pub record Counted (g : Model) : Type 0 where
  pub is : count session_numbers 0 (λ n. is_some (g.sessions n)) ≡ g.held
  pub few : g.held ≤ slots

-- a session goes from b to o
counted_held : (b o : Option Session) (c held after : ℕ) → c ≡ held → held ≤ 8 → after + bit (is_some b) ≡ c + bit (is_some o) → (b ≡ None → held < 8)
    → (after ≡ held_after b o held) × (held_after b o held ≤ 8)
counted_held None None c held after e f a r = (omega arith, f)
counted_held None (Some s) c held after e f a r = (omega arith, omega (arith, r refl))
counted_held (Some t) None c held after e f a r = (omega arith, omega arith)
counted_held (Some t) (Some s) c held after e f a r = (omega arith, f)

from_zero : (m n : ℕ) → m < n → m < 0 + n
from_zero m n h = omega arith

through : (b : Bool) (o q : Option Session) → is_some (cond b o q) ≡ cond b (is_some o) (is_some q)
through true o q = refl
through false o q = refl

-- over any number of session numbers
put_counts : (n : ℕ) (f : ℕ → Option Session) (m held : ℕ) (o : Option Session) → m < n → (f m ≡ None → held < 8) → count n 0 (λ k. is_some (f k)) ≡ held → held ≤ 8
    → (count n 0 (λ k. is_some (cond (eqb k m) o (f k))) ≡ held_after (f m) o held) × (held_after (f m) o held ≤ 8)
put_counts n f m held o mb room is few =
    let same = count_same n 0 (λ k. is_some (cond (eqb k m) o (f k))) (changed m (is_some o) (λ k. is_some (f k))) (λ k l. through (eqb k m) o (f k)) in
    let x = counted_held (f m) o _ held (count n 0 (changed m (is_some o) (λ k. is_some (f k)))) is few (count_changed n 0 m (is_some o) (λ k. is_some (f k)) zero-le (from_zero m n mb)) room in
    (same ∙ x.0, x.1)

pub counted_put : (g : Model) (m : ℕ) (o : Option Session) → m < 2 ^ 16 → (g.sessions m ≡ None → g.held < slots) → Counted g → Counted (put g m o)
counted_put g m o mb room c =
    let x = put_counts session_numbers g.sessions m g.held o mb room c.is c.few in
    record { is = x.0; few = x.1 }

-- a gateway with the same sessions
pub counted_same : (g h : Model) → h.sessions ≡ g.sessions → h.held ≡ g.held → Counted g → Counted h
counted_same g h s e c = record { is = ap (λ f. count session_numbers 0 (λ n. is_some (f n))) s ∙ c.is ∙ sym e; few = rw e c.few }

-- the first that passes, and whether any does
pub first_some : (n i m : ℕ) (p : ℕ → Bool) → first n i p ≡ Some m → (p m ≡ true) × (i ≤ m) × (m < i + n)
first_some zero i m p e = absurd (none-some m e)
first_some (suc n) i m p e = cond_both (p i) _ _ (λ (r : Option ℕ). r ≡ Some m → (p m ≡ true) × (i ≤ m) × (m < i + suc n))
    (λ y q. let same = some_some i m q in (ap p (sym same) ∙ y, omega arith, omega arith))
    (λ y q. let r = first_some n (i + 1) m p q in (r.0, omega (arith, r.1), omega (arith, r.2)))
    e

pub first_none : (n i : ℕ) (p : ℕ → Bool) → first n i p ≡ None → count n i p ≡ 0
first_none zero i p e = refl
first_none (suc n) i p e = cond_both (p i) (Some i) (first n (i + 1) p) (λ (r : Option ℕ). r ≡ None → count (suc n) i p ≡ 0)
    (λ y q. absurd (none-some i (sym q)))
    (λ y q. let r = first_none n (i + 1) p q in rw (y, r))
    e
