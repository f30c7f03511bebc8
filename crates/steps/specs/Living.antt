-- Sessions that have not lapsed, and the one that lapsed with the smallest number. Assumes nothing.
use Rattle.std.specs.Prelude.{◌≡◌, ℕ, ◌<◌, Bool, true, false, Some, None, Ok, Err, Option, Result, MatchOption}
use Rattle.rules.specs.Model.{Session}
use Rattle.rules.specs.Sessions.{lapsed}
use Rattle.rules.specs.declared.answers.Refusal.{Refusal}
use Rattle.rules.specs.declared.answers.Refusal.TheVariants as no
use Rattle.slots.specs.declared.place.Place.{Place}
use Rattle.steps.specs.Cores.{model}
use Rattle.steps.specs.Steps.{found, next_lapsed, number_at, session_at}
use Rattle.steps.specs.declared.state.Core.{Core}

-- no session, or one that has lapsed
abbrev pub gone : Option Session → Bool
gone None = true
gone (Some s) = lapsed s

-- a session stands at a place: the row is not free, and its number finds it
pub record Standing (c : Core) (at : Place) : Type 0 where
  pub some : 0 < number_at c at
  pub session : found c (number_at c at) ≡ Some (session_at c at)

-- session n stands at a place, and has not lapsed
pub record Living (c : Core) (n : ℕ) (at : Place) : Type 0 where
  pub number : number_at c at ≡ n
  pub session : found c n ≡ Some (session_at c at)
  pub stands : Standing c at
  pub lives : lapsed (session_at c at) ≡ false

abbrev pub Lives : Core → ℕ → Result Place Refusal → Type 0
Lives c n (Ok at) = Living c n at
Lives c n (Err why) = (why ≡ no.Session) × (gone (found c n) ≡ true)

-- the lapsed session with the smallest number stands at a place
pub record Lapsed (c : Core) (at : Place) : Type 0 where
  pub is : next_lapsed (model c) ≡ Some (number_at c at)
  pub session : found c (number_at c at) ≡ Some (session_at c at)

abbrev pub Lapses : Core → Option Place → Type 0
Lapses c o = MatchOption o (next_lapsed (model c) ≡ None) (Lapsed c)
