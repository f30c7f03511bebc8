-- What holds of every gateway's fields has one proof at most, so a ghost field can keep it. Assumes nothing.
use mathlib.Core.Bool.{Bool-set}
use Rattle.std.proofs.Common.{◌≡◌, ℕ, List, [], ◌∷◌, refl}
use mathlib.Core.Logic.{∥∥₁_elim}
use native.Mathlib.Nat.{ℕ_set}
use native.Mathlib.Bridge.{le_prop}
use Rattle.octets.specs.Laws.{Octets}
use Rattle.rules.specs.Fit.{Fit, GoodSession}
use Rattle.rules.specs.Law.{ProperSettings}
use Rattle.rules.specs.Model.{Model, Session}
use Rattle.rules.specs.declared.settings.Settings.{Settings}
use Rattle.steps.specs.Cores.{Ready, model}
use Rattle.steps.specs.declared.state.Core.{Core}

none : (x y : ⊥) → x ≡ y
none x y = absurd x

octets_prop : (xs : List ℕ) → IsProp (Octets xs)
octets_prop [] x y = refl
octets_prop (n ∷ xs) x y = λ i. (le_prop x.0 y.0 i, octets_prop xs x.1 y.1 i)

proper_prop : (set : Settings) → IsProp (ProperSettings set)
proper_prop set x y = λ i. record {
  serial = octets_prop set.serial x.serial y.serial i;
  serial_length = ℕ_set _ _ x.serial_length y.serial_length i;
  device_length = ℕ_set _ _ x.device_length y.device_length i;
  group_length = ℕ_set _ _ x.group_length y.group_length i;
}

session_prop : (n : ℕ) (s : Session) → IsProp (GoodSession n s)
session_prop n s x y = λ i. record {
  nonzero = λ e. none (x.nonzero e) (y.nonzero e) i;
  numbered = le_prop x.numbered y.numbered i;
  keyed = ℕ_set _ _ x.keyed y.keyed i;
  countable = le_prop x.countable y.countable i;
  fresh = λ e. ℕ_set _ _ (x.fresh e) (y.fresh e) i;
}

fit_prop : (g : Model) → IsProp (Fit g)
fit_prop g x y = λ i. record {
  timer = le_prop x.timer y.timer i;
  sessions = λ n s e. session_prop n s (x.sessions n s e) (y.sessions n s e) i;
  wanted = λ w e. (le_prop (x.wanted w e).0 (y.wanted w e).0 i, le_prop (x.wanted w e).1 (y.wanted w e).1 i);
  sent = λ t e. le_prop (x.sent t e) (y.sent t e) i;
}

ready_prop : (c : Core) → IsProp (Ready c)
ready_prop c x y = λ i. record {
  proper = proper_prop c.settings x.proper y.proper i;
  accepted = Bool-set _ _ x.accepted y.accepted i;
  apart = Bool-set _ _ x.apart y.apart i;
  fit = fit_prop (model c) x.fit y.fit i;
}

pub ready : (c : Core) → ∥ Ready c ∥₁ → Ready c
ready c h = ∥∥₁_elim h (ready_prop c) (λ r. r)
