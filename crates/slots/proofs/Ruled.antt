-- Rows as a gateway's sessions. Assumes nothing.
use Rattle.std.proofs.Common.{◌≡◌, ℕ, zero, suc, ◌<◌, false, List, [], ◌∷◌, length, sym, refl, ap, ◌∙◌, le_of_suc-le-suc, arith}
use Rattle.std.proofs.lemmas.Option.{none-some}
use Rattle.rules.specs.Model.{new}
use Rattle.slots.specs.Laws.{DistinctIsApart, EmptyIsTheRule, LapsedIsTheRule, PutsIsTheRule, WaitsIsTheRule, with_sessions}
use Rattle.slots.specs.Rows.{Distinct, has, row}
use Rattle.slots.specs.declared.slot.Slot.{Slot}
use Rattle.slots.proofs.Looks.{apart_cons, apart_here, apart_rest, by_test, has_is, look_none, look_row}

pub empty_is_the_rule : EmptyIsTheRule
empty_is_the_rule set rows e = λ j. with_sessions (new set) (e.held j) (λ m. e.finds m j)

pub puts_is_the_rule : PutsIsTheRule
puts_is_the_rule g rows rows' n o p = λ j. with_sessions g (p.held j) (λ m. p.finds m j)

pub waits_is_the_rule : WaitsIsTheRule
waits_is_the_rule g rows rows' ms w = λ j. with_sessions g (w.held j) (λ m. w.finds m j)

pub lapsed_is_the_rule : LapsedIsTheRule
lapsed_is_the_rule g rows = refl

-- two rows of one number that are not free are one row
abbrev Single : List Slot → Type 0
Single rows = (i j : ℕ) → i < length rows → j < length rows → 0 < (row rows i).number → (row rows i).number ≡ (row rows j).number → i ≡ j

single : (rows : List Slot) → Distinct rows → Single rows
single [] d i j li lj p e = absurd (omega arith)
single (r ∷ rs) d zero zero li lj p e = refl
single (r ∷ rs) d zero (suc j) li lj p e = absurd (none-some _ (sym (sym (look_row rs r.number j (apart_rest r rs d) (le_of_suc-le-suc lj) p (sym e)) ∙ apart_here r rs d)))
single (r ∷ rs) d (suc i) zero li lj p e = absurd (none-some _ (sym (sym (look_row rs r.number i (apart_rest r rs d) (le_of_suc-le-suc li) (omega arith) e) ∙ apart_here r rs d)))
single (r ∷ rs) d (suc i) (suc j) li lj p e = ap suc (single rs (apart_rest r rs d) i j (le_of_suc-le-suc li) (le_of_suc-le-suc lj) p e)

alone : (r : Slot) (rs : List Slot) → Single (r ∷ rs) → (k : ℕ) → k < length rs → has r.number (row rs k) ≡ false
alone r rs s k lt =
    by_test (has r.number (row rs k)) _
    (λ h. let is = has_is r.number (row rs k) h in let same : 0 ≡ suc k = s 0 (suc k) (omega arith) (omega arith) is.0 (sym is.1) in absurd (omega arith))
    (λ h. h)

apart : (rows : List Slot) → Single rows → Distinct rows
apart [] s = refl
apart (r ∷ rs) s = apart_cons r rs (look_none rs r.number (alone r rs s)) (apart rs (λ i j li lj p e. let same : suc i ≡ suc j = s (suc i) (suc j) (omega arith) (omega arith) p e in omega arith))

pub distinct_is_apart : DistinctIsApart
distinct_is_apart rows = (single rows, apart rows)
