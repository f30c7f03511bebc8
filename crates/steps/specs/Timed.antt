-- A wrapper to the group, sealed with the time that it has to bear. Assumes nothing.
use Rattle.std.specs.Prelude.{◌≡◌, ℕ, cond, List, [], length, Ok, Err, Result, nat_lt}
use Rattle.frames.specs.Sealing.{wrapper}
use Rattle.octets.specs.Runs.{over}
use Rattle.rules.specs.GroupTime.{tag_of}
use Rattle.rules.specs.Limits.{numbers}
use Rattle.rules.specs.Making.{own_serial}
use Rattle.rules.specs.declared.answers.Refusal.{Refusal}
use Rattle.rules.specs.declared.answers.Refusal.TheVariants as no
use Rattle.rules.specs.declared.settings.Settings.{Settings}
use Rattle.rules.specs.Meaning.{Meaning}

module _ (M : Meaning) (set : Settings) (time lot : ℕ) (t : List ℕ) where
  abbrev pub timed_wrapper : List ℕ
  timed_wrapper = wrapper M.ciphertext M.mac set.group 0 time (own_serial set) (tag_of lot) t

  -- length and time, where the time is one, and the wrapper in front of the output
  pub record Timed (r : Result (ℕ × ℕ) Refusal) (out out' : List ℕ) : Type 0 where
    pub answers : r ≡ cond (nat_lt time numbers) (Ok (length timed_wrapper, time)) (Err no.TimesSpent)
    pub writes : out' ≡ over (cond (nat_lt time numbers) timed_wrapper []) out
