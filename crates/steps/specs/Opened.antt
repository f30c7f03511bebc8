-- A telegram that was opened in the work area. Assumes nothing.
use Rattle.std.specs.Prelude.{◌≡◌, ℕ, ◌≤◌, List, length, take, Some, None, Ok, Err, Option, Result}
use Rattle.rules.specs.declared.answers.Refusal.{Refusal}
use Rattle.rules.specs.declared.answers.Refusal.TheVariants as no
use Rattle.sealer.specs.Limits.{largest_telegram}

-- the telegram stands in front of the work area
pub record Stands (opening : Option (List ℕ)) (work : List ℕ) (n : ℕ) : Type 0 where
  pub is : opening ≡ Some (take n work)
  pub within : n ≤ length work
  pub small : length (take n work) ≤ largest_telegram

abbrev pub Opens : Option (List ℕ) → List ℕ → Result ℕ Refusal → Type 0
Opens opening work (Ok n) = Stands opening work n
Opens opening work (Err why) = (why ≡ no.Opening) × (opening ≡ None)
