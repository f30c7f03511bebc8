-- What the rules know of a sealer: its meaning and its laws. Assumes nothing.
use Rattle.sealer.specs.declared.Sealer.{Ghosts}
use Rattle.sealer.specs.Sealing.{Apart, Complete, Long, Openings, Sealed, Sound, Wide}

pub record Meaning : Type 0 where
  pub ciphertext : Sealed
  pub mac : Sealed
  pub opened : Openings
  pub apart : Apart ciphertext
  pub long : Long ciphertext
  pub sound : Sound ciphertext mac opened
  pub complete : Complete ciphertext mac opened
  pub wide : Wide mac

-- the meaning that a sealer's members make
abbrev pub meant : (ciphertext mac : Sealed) (opened : Openings) → Apart ciphertext → Long ciphertext → Sound ciphertext mac opened → Complete ciphertext mac opened → Wide mac → Meaning
meant ciphertext mac opened apart long sound complete wide = record
    { ciphertext = ciphertext; mac = mac; opened = opened; apart = apart; long = long; sound = sound; complete = complete; wide = wide }

-- the same of a sealer's members together
abbrev pub meaning : {A : Type 0} → Ghosts A → Meaning
meaning s = meant s.ciphertext s.mac s.opened s.apart s.long s.sound s.complete s.wide
