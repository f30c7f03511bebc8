-- Due, repeated, comes to rest: each call of it ends a lapsed session, or sends the notice that is due, or does nothing. Assumes nothing.
use Rattle.std.proofs.Common.{◌≡◌, ℕ, suc, ◌+◌, ◌-◌, ◌*◌, ◌%◌, ◌<◌, ◌≤◌, Bool, true, false, cond, ◌&&◌, eqb, ltb, List, [], ◌∷◌, length, is_some, Some, None, Ok, Option, sym, refl, ap, ◌∙◌, subst, zero-le, arith}
use Rattle.std.proofs.lemmas.Bool.{and_left, both_ways, cond-true, cond_both, ne_eqb}
use Rattle.rules.specs.declared.answers.Answer.TheVariants.{Nothing}
use Rattle.rules.specs.declared.settings.Settings.{Settings}
use Rattle.rules.specs.Calls.{Buffers, Step, due, quietly}
use Rattle.rules.specs.GroupTime.{next_time}
use Rattle.rules.specs.Limits.{numbers, session_numbers}
use Rattle.rules.specs.Making.{sync}
use Rattle.rules.specs.Meaning.{Meaning}
use Rattle.rules.specs.Model.{Model, Session}
use Rattle.rules.specs.Rules.{due_notice, due_now, end_lapsed, next, notify, roomy}
use Rattle.rules.specs.Runs.{state}
use Rattle.rules.specs.Sessions.{first, first_lapsed, is_lapsed}
use Rattle.rules.specs.Theorems.{AllRoomy, NothingDueAfterNine, after}
use Rattle.rules.proofs.Counting.{bit, changed, count, count_changed, count_le, count_same, first_none, first_some}
use Rattle.rules.proofs.Kept.{inv_all}

lapsed_there : (o : Option Session) → is_lapsed o ≡ true → is_some o ≡ true
lapsed_there None e = e
lapsed_there (Some s) e = refl

from_zero : (m n : ℕ) → m < 0 + n → m < n
from_zero m n h = omega arith

bit_few : (b : Bool) → bit b ≤ 1
bit_few true = omega arith
bit_few false = omega arith

bit_none : (b : Bool) → bit b ≡ 0 → b ≡ false
bit_none true e = absurd (omega arith)
bit_none false e = refl

no_less : (a : ℕ) → a ≤ a - 0
no_less a = omega arith

one_less : (a b c l : ℕ) → a ≤ b - 1 → b ≤ c - l → a ≤ c - suc l
one_less a b c l p q = omega arith

all_done : (a w l : ℕ) → a ≤ w - l → l ≡ 9 → w ≤ 9 → a ≡ 0
all_done a w l p q r = omega arith

-- the lapsed sessions among n numbers
abbrev lapses : ℕ → (ℕ → Option Session) → ℕ
lapses n f = count n 0 (λ k. is_lapsed (f k))

-- whether a notice is due
abbrev noticing : Model → Bool
noticing g = eqb g.countdown 0 && ltb (next_time g.timer g.sent) numbers

pass_on : (b : Bool) (q : Option Session) → is_lapsed (cond b None q) ≡ cond b false (is_lapsed q)
pass_on true q = refl
pass_on false q = refl

-- ending a lapsed session leaves one less
less_lapses : (n : ℕ) (f : ℕ → Option Session) (m : ℕ) → m < n → is_lapsed (f m) ≡ true → lapses n (λ k. cond (eqb k m) None (f k)) + 1 ≡ lapses n f
less_lapses n f m h e =
    let same = count_same n 0 (λ k. is_lapsed (cond (eqb k m) None (f k))) (changed m false (λ k. is_lapsed (f k))) (λ k l. pass_on (eqb k m) (f k)) in
    let c = count_changed n 0 m false (λ k. is_lapsed (f k)) zero-le (add_front m n h) in
    let b : bit (is_lapsed (f m)) ≡ 1 = ap bit e in
    omega (arith, same, c, b) where
      add_front : (m n : ℕ) → m < n → m < 0 + n
      add_front m n h = omega arith

module _ (set : Settings) (M : Meaning) where
  -- what is left to be done
  abbrev work_left : ℕ → Model → ℕ
  work_left n g = lapses n g.sessions + bit (noticing g)

  -- over any number of session numbers, by the first that has lapsed
  module _ (n : ℕ) (g : Model) (lot : ℕ) where
    ended : (m : ℕ) → m < n → is_lapsed (g.sessions m) ≡ true → (o : Option Session) → g.sessions m ≡ o → work_left n (end_lapsed set M g m o).to + 1 ≡ work_left n g
    ended m h e None at = absurd (both_ways false refl (sym (ap is_lapsed at) ∙ e))
    ended m h e (Some s) at = let l = less_lapses n g.sessions m h e in omega (arith, l)

    not_yet : (a : ℕ) → eqb (10000 + a) 0 ≡ false
    not_yet a = ne_eqb (10000 + a) 0 (λ q. omega arith)

    notified : lapses n g.sessions ≡ 0 → work_left n (due_notice set M g lot).to ≡ 0
    notified none = cond_both (noticing g) (notify set M g (next_time g.timer g.sent) lot) (quietly g Nothing) (λ r. work_left n r.to ≡ 0)
        (λ _. let z : noticing (notify set M g (next_time g.timer g.sent) lot).to ≡ false = and_left _ _ (not_yet (lot % (3 * sync set + 1))) in rw (none, z))
        (λ no_notice. rw (none, no_notice))

    less_left : (o : Option ℕ) → first n 0 (λ k. is_lapsed (g.sessions k)) ≡ o → work_left n (due_now set M g lot o).to ≤ work_left n g - 1
    less_left None e =
        let none = first_none n 0 (λ k. is_lapsed (g.sessions k)) e in
        let z = notified none in
        omega (arith, z)
    less_left (Some m) e =
        let p = first_some n 0 m (λ k. is_lapsed (g.sessions k)) e in
        let x = ended m (from_zero m n p.2) p.0 (g.sessions m) refl in
        omega (arith, x)

    first_counted : (m : ℕ) → first n 0 (λ k. is_lapsed (g.sessions k)) ≡ Some m → 0 < work_left n g
    first_counted m e =
        let p = first_some n 0 m (λ k. is_lapsed (g.sessions k)) e in
        omega (arith, less_lapses n g.sessions m (from_zero m n p.2) p.0)

    resting : work_left n g ≡ 0 → (o : Option ℕ) → first n 0 (λ k. is_lapsed (g.sessions k)) ≡ o → (due_now set M g lot o).answer ≡ Ok Nothing
    resting z None e =
        let b : noticing g ≡ false = bit_none (noticing g) (omega arith) in
        rw b
    resting z (Some m) e = absurd (omega (arith, first_counted m e))

    few_left : count n 0 (λ k. is_some (g.sessions k)) ≤ 8 → work_left n g ≤ 9
    few_left h =
        let l = count_le n 0 (λ k. is_lapsed (g.sessions k)) (λ k. is_some (g.sessions k)) (λ k. lapsed_there (g.sessions k)) in
        let b = bit_few (noticing g) in
        omega arith

  -- a call of due that has room
  due_step : (g : Model) (lot : ℕ) (b : Buffers) → roomy set M b ≡ true → next set M g (due lot b) ≡ due_now set M g lot (first_lapsed g)
  due_step g lot b room = cond-true (roomy set M b) (due_now set M g lot (first_lapsed g)) _ room

  due_less : (g : Model) (lot : ℕ) (b : Buffers) → roomy set M b ≡ true → work_left session_numbers (next set M g (due lot b)).to ≤ work_left session_numbers g - 1
  due_less g lot b room =
      subst (λ (r : Step). work_left session_numbers r.to ≤ work_left session_numbers g - 1) (sym (due_step g lot b room)) (less_left session_numbers g lot (first_lapsed g) refl)

  left_after : (g : Model) (ds : List (ℕ × Buffers)) → AllRoomy ds → work_left session_numbers (after set M g ds) ≤ work_left session_numbers g - length ds
  left_after g [] r = no_less (work_left session_numbers g)
  left_after g (d ∷ ds) r = one_less _ _ _ (length ds) (due_less (after set M g ds) d.0 d.1 r.0) (left_after g ds r.1)

pub nothing_due_after_nine : NothingDueAfterNine
nothing_due_after_nine set M proper ok calls pc ds nine r lot b room =
    let g = state set M calls in
    let c = (inv_all set M proper ok calls pc).counted in
    let few = few_left set M session_numbers g lot (subst (λ n. n ≤ 8) (sym c.is) c.few) in
    let none = all_done _ _ (length ds) (left_after set M g ds r) nine few in
    ap (λ (s : Step). s.answer) (due_step set M (after set M g ds) lot b room)
    ∙ resting set M session_numbers (after set M g ds) lot none (first_lapsed (after set M g ds)) refl
