-- What a host offers for a new session: its number, Y and the session key. Assumes nothing.
use Rattle.std.specs.Prelude.{◌≡◌, ℕ, ◌<◌, Bool, false, not, ◌&&◌, List, length, Some, None, Option, ◌==◌}
use Rattle.octets.specs.Runs.{number}
use Rattle.frames.specs.Headers.{part}
use Rattle.steps.specs.declared.requests.Offer.{Offer}

-- fifty octets, for a session other than 0; the parts are written out, since the rules' own words for them are under settings and a sealer, and reading an offer has neither
abbrev pub well_offered : List ℕ → Bool
well_offered octets = length octets == 50 && not (number 2 0 octets == 0)

pub record Offered (octets : List ℕ) (o : Offer) : Type 0 where
  pub whole : length octets ≡ 50
  pub some : 0 < o.session
  pub session : o.session ≡ number 2 0 octets
  pub y : o.y ≡ part 32 2 octets
  pub key : o.key ≡ part 16 34 octets

abbrev pub Offers : List ℕ → Option Offer → Type 0
Offers octets (Some o) = Offered octets o
Offers octets None = well_offered octets ≡ false
