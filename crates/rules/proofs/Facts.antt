-- Small facts on options, tests and lists. Assumes nothing.
use Rattle.std.proofs.Common.{◌≡◌, ℕ, suc, ◌<◌, ◌≤◌, false, List, [], ◌∷◌, length, get_or, take, drop, Some, None, Ok, Err, Option, Result, refl, ap, arith}
use Rattle.std.proofs.lemmas.List.{take_at}
use Rattle.std.proofs.lemmas.Bool.{both_ways}
use Rattle.std.specs.List.{AllByRecursion}
use Rattle.octets.specs.Laws.{Octets}
use Rattle.octets.specs.Runs.{over}
use Rattle.rules.specs.declared.answers.Answer.{Answer}
use Rattle.rules.specs.declared.answers.Answer.TheVariants.{Delivered}
use Rattle.rules.specs.declared.answers.Refusal.{Refusal}
use Rattle.rules.specs.Law.{delivered}

pub some_some : {A : Type 0} (x y : A) → Some x ≡ Some y → x ≡ y
some_some {A} x y p = cc

pub err_ok : {A E : Type 0} (e : E) (x : A) → Err e ≡ Ok x → ⊥
err_ok {A} {E} e x p = let z : ◌≡◌ {A = ℕ} 0 1 = cc in omega arith

pub ok_ok : {A E : Type 0} (x y : A) → ◌≡◌ {A = Result A E} (Ok x) (Ok y) → x ≡ y
ok_ok {A} {E} x y p = cc

pub every_map : {X : Type 0} {P Q : X → Type 0} (xs : List X) → ((x : X) → P x → Q x) → AllByRecursion P xs → AllByRecursion Q xs
every_map [] f a = tt
every_map (x ∷ xs) f a = (f x a.0, every_map xs f a.1)

-- what was written stands in front
pub take_over : (w out : List ℕ) → take (length w) (over w out) ≡ w
take_over w out = take_at w (drop (length w) out) (length w) refl

-- an answer that is none of delivery
pub no_delivery : (r : Result Answer Refusal) → delivered r ≡ false → (n count user size : ℕ) → r ≡ Ok (Delivered n count user size) → ⊥
no_delivery r h n count user size e = both_ways (delivered r) h (ap delivered e)

-- the largest so far, in an option
abbrev pub Reached : Option ℕ → ℕ → Type 0
Reached None j = ⊥
Reached (Some k) j = j ≤ k

-- a list whose numbers are octets at every place
pub all_octets : (xs : List ℕ) → ((i : ℕ) → get_or xs i 0 < 256) → Octets xs
all_octets [] f = tt
all_octets (x ∷ xs) f = (f 0, all_octets xs (λ i. f (suc i)))
