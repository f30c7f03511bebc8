-- A gateway that was made. Assumes nothing.
use Rattle.std.specs.Prelude.{◌≡◌, true, false, [], Ok, Err, Result}
use Rattle.rules.specs.Making.{acceptable}
use Rattle.rules.specs.Runs.{state}
use Rattle.rules.specs.declared.answers.Refusal.{Refusal}
use Rattle.rules.specs.declared.answers.Refusal.TheVariants as no
use Rattle.rules.specs.declared.settings.Settings.{Settings}
use Rattle.rules.specs.Meaning.{Meaning}
use Rattle.steps.specs.Cores.{model}
use Rattle.steps.specs.declared.state.Core.{Core}

-- P of what is there, or Q of why it is not
abbrev pub EitherWay : {A B : Type 0} → Result A B → (A → Type 0) → (B → Type 0) → Type 0
EitherWay (Ok a) P Q = P a
EitherWay (Err b) P Q = Q b

-- the settings are accepted, and the gateway is the one to which the empty run leads
pub record Made (M : Meaning) (set : Settings) (c : Core) : Type 0 where
  pub accepted : acceptable set ≡ true
  pub kept : c.settings ≡ set
  pub led : state set M [] ≡ model c

-- the settings are not accepted
pub record Unmade (set : Settings) (why : Refusal) : Type 0 where
  pub declined : acceptable set ≡ false
  pub is : why ≡ no.Settings
