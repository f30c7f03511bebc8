-- One row written, as one session changed. Assumes nothing.
use Rattle.std.proofs.Common.{◌≡◌, ℕ, zero, suc, ◌+◌, ◌<◌, ◌≤◌, Bool, true, false, cond, not, eqb, List, [], ◌∷◌, map, length, set, is_some, Some, None, Option, sym, refl, ap, ◌∙◌, subst, ⊎_elim, MatchOption, le_of_suc-le-suc, arith, length-set}
use Rattle.std.proofs.lemmas.List.{get_or-set_same, set-set}
use Rattle.std.proofs.lemmas.Option.{none-some}
use Rattle.std.proofs.lemmas.Bool.{and_from, and_parts, both_ways, cases_eq, cond-false, eq-eqb, eqb-true, ne_eqb}
use Rattle.std.proofs.lemmas.Bool.Decides.{nat_tests}
use Rattle.std.specs.List.{AllWithin, HoldsAt}
use Rattle.rules.proofs.Others.{is_none}
use Rattle.rules.specs.Model.{Session, held_after}
use Rattle.rules.specs.Sessions.{all_waited}
use Rattle.slots.specs.Rows.{Distinct, distinct, free_row, has, held_rows, is_free, look_up, no_row, row, session_of, waited_row}
use Rattle.slots.specs.Tables.{Finds, Frees, Puts, Waits}
use Rattle.slots.specs.declared.slot.Slot.{Slot}

-- FINDING

pub look_found : (rs : List Slot) (n i : ℕ) → i < length rs → has n (row rs i) ≡ true → ((j : ℕ) → j < i → has n (row rs j) ≡ false) → look_up rs n ≡ Some (session_of (row rs i))
look_found [] n i lt h b = absurd (omega arith)
look_found (r ∷ rs) n zero lt h b = rw h refl
look_found (r ∷ rs) n (suc i) lt h b = let first = b 0 (omega arith) in rw first (look_found rs n i (le_of_suc-le-suc lt) h (λ j l. b (suc j) (omega arith)))

pub look_none : (rs : List Slot) (n : ℕ) → ((j : ℕ) → j < length rs → has n (row rs j) ≡ false) → look_up rs n ≡ None
look_none [] n b = refl
look_none (r ∷ rs) n b = let first = b 0 (omega arith) in rw first (look_none rs n (λ j l. b (suc j) (omega arith)))

pub has_is : (n : ℕ) (r : Slot) → has n r ≡ true → (0 < n) × (r.number ≡ n)
has_is n r h = (grind (arith, nat_tests), grind (arith, nat_tests))

has_from : (n : ℕ) (r : Slot) → 0 < n → r.number ≡ n → has n r ≡ true
has_from n r lt e = grind (arith, nat_tests)

has_not : (n : ℕ) (r : Slot) → (r.number ≡ n → ⊥) → has n r ≡ false
has_not n r ne = grind (arith, nat_tests)

-- there is no session 0
look_zero : (rs : List Slot) → look_up rs 0 ≡ None
look_zero [] = refl
look_zero (r ∷ rs) = look_zero rs

-- what the first row that passes a test says, or none
abbrev pub First : (Slot → Bool) → List Slot → Option ℕ → Type 0
First test rs o =
    MatchOption o (AllWithin (λ r. test r ≡ false) rs 0 (length rs))
    (λ i. (i < length rs) × HoldsAt (λ r. test r ≡ true) rs i × AllWithin (λ r. test r ≡ false) rs 0 i)

pub finds : (rs : List Slot) (n : ℕ) (o : Option ℕ) → First (has n) rs o → Finds rs n o
finds rs n None f = look_none rs n (λ j lt. f j no_row (omega arith) lt)
finds rs n (Some i) f =
    let h = f.1 no_row in
    record { within = f.0; some = (has_is n (row rs i) h).0; number = (has_is n (row rs i) h).1; session = look_found rs n i f.0 h (λ j lt. f.2 j no_row (omega arith) lt) }

-- HOW MANY ARE HELD

abbrev held_row : Slot → ℕ
held_row r = cond (is_free r) 0 1

held_cons : (r : Slot) (rs : List Slot) → held_rows (r ∷ rs) ≡ held_row r + held_rows rs
held_cons r rs = grind (arith, nat_tests)

pub held_most : (rs : List Slot) → held_rows rs ≤ length rs
held_most [] = omega arith
held_most (r ∷ rs) = let e = held_cons r rs in let h = held_most rs in grind (arith, nat_tests)

pub held_all : (rs : List Slot) → ((j : ℕ) → j < length rs → is_free (row rs j) ≡ false) → held_rows rs ≡ length rs
held_all [] b = refl
held_all (r ∷ rs) b = let first = b 0 (omega arith) in let h = held_all rs (λ j l. b (suc j) (omega arith)) in rw first (omega arith)

pub held_not_all : (rs : List Slot) (i : ℕ) → i < length rs → is_free (row rs i) ≡ true → held_rows rs < length rs
held_not_all [] i lt f = absurd (omega arith)
held_not_all (r ∷ rs) zero lt f = let h = held_most rs in rw f (omega arith)
held_not_all (r ∷ rs) (suc i) lt f = let e = held_cons r rs in let h = held_not_all rs i (le_of_suc-le-suc lt) f in grind (arith, nat_tests)

held_set : (rs : List Slot) (i : ℕ) (r : Slot) → i < length rs → held_rows (set rs i r) + held_row (row rs i) ≡ held_rows rs + held_row r
held_set [] i r lt = absurd (omega arith)
held_set (x ∷ rs) zero r lt = omega (arith, held_cons x rs, held_cons r rs)
held_set (x ∷ rs) (suc i) r lt = omega (arith, held_cons x rs, held_cons x (set rs i r), held_set rs i r (le_of_suc-le-suc lt))

pub frees : (rs : List Slot) (o : Option ℕ) → First is_free rs o → Frees rs (length rs) o
frees rs None f = held_all rs (λ j lt. f j no_row (omega arith) lt)
frees rs (Some i) f = let h = f.1 no_row in record { within = f.0; free = eqb-true _ _ h; room = held_not_all rs i f.0 h }

-- ROWS APART

apart_none : (o : Option Session) → o ≡ None → not (is_some o) ≡ true
apart_none o e = rw e refl

-- what rows that are apart say of the first one
pub apart_here : (r : Slot) (rs : List Slot) → Distinct (r ∷ rs) → look_up rs r.number ≡ None
apart_here r rs d = is_none _ (and_parts (not (is_some (look_up rs r.number))) (distinct rs) d).0

pub apart_rest : (r : Slot) (rs : List Slot) → Distinct (r ∷ rs) → Distinct rs
apart_rest r rs d = (and_parts (not (is_some (look_up rs r.number))) (distinct rs) d).1

pub apart_cons : (r : Slot) (rs : List Slot) → look_up rs r.number ≡ None → Distinct rs → Distinct (r ∷ rs)
apart_cons r rs e d = and_from _ _ (apart_none _ e) d

pub by_test : (b : Bool) (P : Type 0) → (b ≡ true → P) → (b ≡ false → P) → P
by_test true P f g = f refl
by_test false P f g = g refl

-- among rows that are apart, each row is the one that its number finds
pub look_row : (rs : List Slot) (n i : ℕ) → Distinct rs → i < length rs → 0 < n → (row rs i).number ≡ n → look_up rs n ≡ Some (session_of (row rs i))
look_row [] n i d lt p e = absurd (omega arith)
look_row (r ∷ rs) n zero d lt p e = rw (has_from n r p e) refl
look_row (r ∷ rs) n (suc i) d lt p e =
    let there = look_row rs n i (apart_rest r rs d) (le_of_suc-le-suc lt) p e in
    by_test (has n r) _
    (λ h. absurd (none-some _ (sym (sym there ∙ sym (ap (look_up rs) (has_is n r h).1) ∙ apart_here r rs d))))
    (λ h. rw h there)

-- a write changes no look_up of a number that neither row has
look_set_other : (rs : List Slot) (i : ℕ) (r : Slot) (m : ℕ) → has m r ≡ false → has m (row rs i) ≡ false → look_up (set rs i r) m ≡ look_up rs m
look_set_other [] i r m p q = refl
look_set_other (x ∷ rs) zero r m p q = rw (p, q) refl
look_set_other (x ∷ rs) (suc i) r m p q = ap (cond (has m x) (Some (session_of x))) (look_set_other rs i r m p q)

-- A ROW CLEARED

has_free : (m : ℕ) (f : Slot) → f.number ≡ 0 → has m f ≡ false
has_free m f z = grind (arith, nat_tests)

look_cleared : (rs : List Slot) (i : ℕ) (f : Slot) → f.number ≡ 0 → Distinct rs → i < length rs → look_up (set rs i f) (row rs i).number ≡ None
look_cleared [] i f z d lt = absurd (omega arith)
look_cleared (r ∷ rs) zero f z d lt = rw (has_free r.number f z) (apart_here r rs d)
look_cleared (r ∷ rs) (suc i) f z d lt =
    let n = (row rs i).number in
    by_test (has n r) _
    (λ h. absurd (none-some _ (sym (sym (look_row rs n i (apart_rest r rs d) (le_of_suc-le-suc lt) (has_is n r h).0 refl) ∙ sym (ap (look_up rs) (has_is n r h).1) ∙ apart_here r rs d))))
    (λ h. rw h (look_cleared rs i f z (apart_rest r rs d) (le_of_suc-le-suc lt)))

-- a choice between what both ways give
choose : (m n : ℕ) (x y z : Option Session) → (m ≡ n → z ≡ x) → ((m ≡ n → ⊥) → z ≡ y) → z ≡ cond (eqb m n) x y
choose m n x y z p q = ⊎_elim (λ e. let t = eq-eqb m n e in rw t (p e)) (λ ne. let t = ne_eqb m n ne in rw t (q ne)) (cases_eq m n)

cleared_finds : (rs : List Slot) (i : ℕ) (f : Slot) → f.number ≡ 0 → Distinct rs → i < length rs → (m : ℕ) → look_up (set rs i f) m ≡ cond (eqb m (row rs i).number) None (look_up rs m)
cleared_finds rs i f z d lt m =
    choose m (row rs i).number None (look_up rs m) (look_up (set rs i f) m)
    (λ e. ap (look_up (set rs i f)) e ∙ look_cleared rs i f z d lt)
    (λ ne. look_set_other rs i f m (has_free m f z) (has_not m (row rs i) (λ e. ne (sym e))))

none_either : (b : Bool) (o : Option Session) → o ≡ None → cond b None o ≡ None
none_either true o e = refl
none_either false o e = e

cleared_apart : (rs : List Slot) (i : ℕ) (f : Slot) → f.number ≡ 0 → Distinct rs → i < length rs → Distinct (set rs i f)
cleared_apart [] i f z d lt = absurd (omega arith)
cleared_apart (r ∷ rs) zero f z d lt = apart_cons f rs (ap (look_up rs) z ∙ look_zero rs) (apart_rest r rs d)
cleared_apart (r ∷ rs) (suc i) f z d lt =
    let rest = apart_rest r rs d in
    let inside = le_of_suc-le-suc lt in
    apart_cons r (set rs i f) (cleared_finds rs i f z rest inside r.number ∙ none_either _ _ (apart_here r rs d)) (cleared_apart rs i f z rest inside)

held_row_free : (r : Slot) → r.number ≡ 0 → held_row r ≡ 0
held_row_free r e = grind (arith, nat_tests)

held_row_used : (r : Slot) → 0 < r.number → held_row r ≡ 1
held_row_used r lt = grind (arith, nat_tests)

cleared_held : (rs : List Slot) (i : ℕ) (f : Slot) → f.number ≡ 0 → Distinct rs → i < length rs → held_rows (set rs i f) ≡ held_after (look_up rs (row rs i).number) None (held_rows rs)
cleared_held rs i f z d lt =
    let change = held_set rs i f lt in
    let none = held_row_free f z in
    ⊎_elim
    (λ e. let free = held_row_free (row rs i) e in let nothing : look_up rs (row rs i).number ≡ None = ap (look_up rs) e ∙ look_zero rs in rw nothing (omega arith))
    (λ (ne : (row rs i).number ≡ 0 → ⊥). let more : 0 < (row rs i).number = omega arith in let used = held_row_used (row rs i) more in rw (look_row rs (row rs i).number i d lt more refl) (omega arith))
    (cases_eq (row rs i).number 0)

pub cleared : (rs rs' : List Slot) (i : ℕ) → i < length rs → Distinct rs → rs' ≡ set rs i free_row → Puts rs rs' (row rs i).number None
cleared rs rs' i lt d e =
    subst (λ (xs : List Slot). Puts rs xs (row rs i).number None) (sym e)
    (record { finds = cleared_finds rs i free_row refl d lt; held = cleared_held rs i free_row refl d lt; apart = cleared_apart rs i free_row refl d lt })

-- A ROW FILLED

-- what finds nothing finds nothing in the rest, and the first row has another number
none_rest : (x : Slot) (rs : List Slot) (n : ℕ) → look_up (x ∷ rs) n ≡ None → (has n x ≡ false) × (look_up rs n ≡ None)
none_rest x rs n e = by_test (has n x) _ (λ h. absurd (none-some _ (sym (rw h at e)))) (λ h. (h, rw h at e))

look_filled : (rs : List Slot) (i : ℕ) (r : Slot) → 0 < r.number → look_up rs r.number ≡ None → i < length rs → look_up (set rs i r) r.number ≡ Some (session_of r)
look_filled [] i r p e lt = absurd (omega arith)
look_filled (x ∷ rs) zero r p e lt = rw (has_from r.number r p refl) refl
look_filled (x ∷ rs) (suc i) r p e lt =
    let rest = none_rest x rs r.number e in
    rw rest.0 (look_filled rs i r p rest.1 (le_of_suc-le-suc lt))

filled_finds : (rs : List Slot) (i : ℕ) (r : Slot) → (row rs i).number ≡ 0 → 0 < r.number → look_up rs r.number ≡ None → i < length rs → (m : ℕ) → look_up (set rs i r) m ≡ cond (eqb m r.number) (Some (session_of r)) (look_up rs m)
filled_finds rs i r z p e lt m =
    choose m r.number (Some (session_of r)) (look_up rs m) (look_up (set rs i r) m)
    (λ q. ap (look_up (set rs i r)) q ∙ look_filled rs i r p e lt)
    (λ ne. look_set_other rs i r m (has_not m r (λ q. ne (sym q))) (has_free m (row rs i) z))

filled_apart : (rs : List Slot) (i : ℕ) (r : Slot) → (row rs i).number ≡ 0 → 0 < r.number → look_up rs r.number ≡ None → Distinct rs → i < length rs → Distinct (set rs i r)
filled_apart [] i r z p e d lt = absurd (omega arith)
filled_apart (x ∷ rs) zero r z p e d lt = apart_cons r rs (none_rest x rs r.number e).1 (apart_rest x rs d)
filled_apart (x ∷ rs) (suc i) r z p e d lt =
    let rest = none_rest x rs r.number e in
    let inside = le_of_suc-le-suc lt in
    let other : eqb x.number r.number ≡ false = ne_eqb _ _ (λ q. both_ways _ rest.0 (has_from r.number x p q)) in
    apart_cons x (set rs i r)
    (filled_finds rs i r z p rest.1 inside x.number ∙ cond-false _ _ _ other ∙ apart_here x rs d)
    (filled_apart rs i r z p rest.1 (apart_rest x rs d) inside)

filled_held : (rs : List Slot) (i : ℕ) (r : Slot) → (row rs i).number ≡ 0 → 0 < r.number → look_up rs r.number ≡ None → i < length rs → held_rows (set rs i r) ≡ held_after (look_up rs r.number) (Some (session_of r)) (held_rows rs)
filled_held rs i r z p e lt =
    let change = held_set rs i r lt in
    let free = held_row_free (row rs i) z in
    let used = held_row_used r p in
    rw e (omega arith)

pub filled : (rs rs' : List Slot) (i : ℕ) (r : Slot) → i < length rs → (row rs i).number ≡ 0 → 0 < r.number → look_up rs r.number ≡ None → Distinct rs → rs' ≡ set rs i r → Puts rs rs' r.number (Some (session_of r))
filled rs rs' i r lt z p none d e =
    subst (λ (xs : List Slot). Puts rs xs r.number (Some (session_of r))) (sym e)
    (record { finds = filled_finds rs i r z p none lt; held = filled_held rs i r z p none lt; apart = filled_apart rs i r z p none d lt })

-- A ROW CHANGED: cleared, and filled again

cond_again : (b : Bool) (x y z : Option Session) → cond b x (cond b y z) ≡ cond b x z
cond_again true x y z = refl
cond_again false x y z = refl

module _ (rs : List Slot) (i : ℕ) (r : Slot) (same : (row rs i).number ≡ r.number) (p : 0 < r.number) (d : Distinct rs) (lt : i < length rs) where
  abbrev between : List Slot
  between = set rs i free_row

  inside_between : i < length between
  inside_between = omega (arith, length-set rs i free_row)

  free_between : (row between i).number ≡ 0
  free_between = ap (λ (s : Slot). s.number) (get_or-set_same rs i free_row _ lt)

  none_between : look_up between r.number ≡ None
  none_between = ap (look_up between) (sym same) ∙ look_cleared rs i free_row refl d lt

  again : set between i r ≡ set rs i r
  again = set-set rs i free_row r

  changed_finds : (m : ℕ) → look_up (set rs i r) m ≡ cond (eqb m r.number) (Some (session_of r)) (look_up rs m)
  changed_finds m =
      ap (λ (xs : List Slot). look_up xs m) (sym again)
      ∙ filled_finds between i r free_between p none_between inside_between m
      ∙ ap (cond (eqb m r.number) (Some (session_of r))) (cleared_finds rs i free_row refl d lt m ∙ ap (λ (n : ℕ). cond (eqb m n) None (look_up rs m)) same)
      ∙ cond_again (eqb m r.number) _ _ _

  changed_apart : Distinct (set rs i r)
  changed_apart = ap distinct (sym again) ∙ filled_apart between i r free_between p none_between (cleared_apart rs i free_row refl d lt) inside_between

  changed_held : held_rows (set rs i r) ≡ held_after (look_up rs r.number) (Some (session_of r)) (held_rows rs)
  changed_held =
      let change = held_set rs i r lt in
      let was = held_row_used (row rs i) (omega arith) in
      let is = held_row_used r p in
      rw (look_row rs r.number i d lt p same) (omega arith)

pub changed : (rs rs' : List Slot) (i : ℕ) (r : Slot) → i < length rs → (row rs i).number ≡ r.number → 0 < r.number → Distinct rs → rs' ≡ set rs i r → Puts rs rs' r.number (Some (session_of r))
changed rs rs' i r lt same p d e =
    subst (λ (xs : List Slot). Puts rs xs r.number (Some (session_of r))) (sym e)
    (record { finds = changed_finds rs i r same p d lt; held = changed_held rs i r same p d lt; apart = changed_apart rs i r same p d lt })

-- EVERY ROW WAITS

look_waited : (ms : ℕ) (rs : List Slot) (m : ℕ) → look_up (map (waited_row ms) rs) m ≡ all_waited ms (look_up rs m)
look_waited ms [] m = refl
look_waited ms (r ∷ rs) m = by_test (has m r) _ (λ h. rw h refl) (λ h. rw h (look_waited ms rs m))

held_waited : (ms : ℕ) (rs : List Slot) → held_rows (map (waited_row ms) rs) ≡ held_rows rs
held_waited ms [] = refl
held_waited ms (r ∷ rs) = ap (λ (n : ℕ). cond (is_free r) n (n + 1)) (held_waited ms rs)

none_waited : (ms : ℕ) (o : Option Session) → o ≡ None → all_waited ms o ≡ None
none_waited ms o e = ap (all_waited ms) e

apart_waited : (ms : ℕ) (rs : List Slot) → Distinct rs → Distinct (map (waited_row ms) rs)
apart_waited ms [] d = d
apart_waited ms (r ∷ rs) d = apart_cons (waited_row ms r) (map (waited_row ms) rs) (look_waited ms rs r.number ∙ none_waited ms _ (apart_here r rs d)) (apart_waited ms rs (apart_rest r rs d))

pub waits : (ms : ℕ) (rs rs' : List Slot) → rs' ≡ map (waited_row ms) rs → Waits rs rs' ms
waits ms rs rs' e =
    subst (λ (xs : List Slot). Waits rs xs ms) (sym e)
    (record { finds = look_waited ms rs; held = held_waited ms rs; apart = apart_waited ms rs })
