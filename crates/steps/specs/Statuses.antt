-- The number that a telegram has for a status. Assumes nothing.
use Rattle.std.specs.Prelude.{ℕ}
use Rattle.steps.specs.declared.statuses.Status.{Status}
use Rattle.steps.specs.declared.statuses.Status.TheVariants.{SignedIn, TurnedAway, NotSignedIn, Lapsed, Close}

abbrev pub number_of : Status → ℕ
number_of SignedIn = 0
number_of TurnedAway = 1
number_of NotSignedIn = 2
number_of Lapsed = 3
number_of Close = 5
