-- The rules at the fields of a gateway. A session is given by its place in the table, or by its number. Assumes nothing.
use Rattle.std.specs.Prelude.{ℕ, ◌+◌, ◌-◌, min, List, [], Some, None, Option}
use Rattle.frames.specs.Reading.{reading}
use Rattle.frames.specs.declared.reading.Notice.{Notice}
use Rattle.frames.specs.declared.reading.Wrapper.{Wrapper}
use Rattle.frames.specs.Telegrams.{telegram_kind}
use Rattle.rules.specs.Calls.{Call, Step}
use Rattle.rules.specs.Limits.{last_time}
use Rattle.rules.specs.Model.{Model, Session, put}
use Rattle.rules.specs.Rules as rule
use Rattle.rules.specs.Sessions.{all_waited, first_lapsed, opened_by, signs_in}
use Rattle.rules.specs.Meaning.{Meaning}
use Rattle.slots.specs.Rows.{held_rows, look_up, row, session_of}
use Rattle.slots.specs.declared.place.Place.{Place}
use Rattle.slots.specs.declared.slot.Slot.{Slot}
use Rattle.steps.specs.Cores.{model}
use Rattle.steps.specs.declared.state.Core.{Core}

-- the row at a place, its session's number, and its session
abbrev pub slot_at : Core → Place → Slot
slot_at c at = row c.table.rows at.index

abbrev pub number_at : Core → Place → ℕ
number_at c at = (slot_at c at).number

abbrev pub session_at : Core → Place → Session
session_at c at = session_of (slot_at c at)

-- the lapsed session with the smallest number; shut, since it looks through all session numbers
unfoldable pub next_lapsed : Model → Option ℕ
next_lapsed g = first_lapsed g

-- session n, if there is one
abbrev pub found : Core → ℕ → Option Session
found c n = look_up c.table.rows n

-- the session at a place goes on after a wrapper with this number
abbrev pub gone_on : Place → ℕ → Core → Model
gone_on at count c = put (model c) (number_at c at) (Some (opened_by (session_at c at) count (session_at c at).own (session_at c at).user))

-- or goes on with a user who is signed in, and its own number is the next
abbrev pub admitted : Place → ℕ → ℕ → Core → Model
admitted at count user c = put (model c) (number_at c at) (Some (opened_by (session_at c at) count ((session_at c at).own + 1) (Some user)))

-- or ends
abbrev pub ended : Place → Core → Model
ended at c = put (model c) (number_at c at) None

-- milliseconds pass
abbrev pub waited : ℕ → Core → Model
waited ms c = record {
  timer = min last_time (c.group.timer + ms);
  sent = c.group.sent;
  keeper = c.group.keeper;
  wanted = c.group.wanted;
  countdown = c.group.countdown - ms;
  held = held_rows c.table.rows;
  sessions = λ n. all_waited ms (found c n);
}

module _ (M : Meaning) where
  abbrev pub ending : Place → ℕ → Core → Step
  ending at code c = rule.end c.settings M (model c) (number_at c at) (session_at c at) code

  abbrev pub hanging_up : ℕ → Core → Step
  hanging_up n c = rule.hung_up c.settings M (model c) n (found c n)

  abbrev pub sending_at : Place → List ℕ → Core → Step
  sending_at at t c = rule.send_signed c.settings M (model c) (number_at c at) (session_at c at) t (session_at c at).user

  abbrev pub sending : ℕ → List ℕ → Core → Step
  sending n t c = rule.send_in c.settings M (model c) n t (found c n)

  abbrev pub signing_in : Place → ℕ → List ℕ → Core → Step
  signing_in at count t c = rule.sign c.settings M (model c) (number_at c at) (session_at c at) count (signs_in c.settings M (session_at c at) t)

  abbrev pub acting : Place → ℕ → List ℕ → Core → Step
  acting at count t c = rule.act c.settings M (model c) (number_at c at) (session_at c at) count t (session_at c at).user (telegram_kind t)

  -- what a wrapper opens to under a key
  abbrev pub opening : List ℕ → Wrapper → Option (List ℕ)
  opening key w = M.opened key w.nonce.now w.associated.now w.ciphertext.now w.mac.now

  abbrev pub receiving : Wrapper → Core → Step
  receiving w c = rule.wrapper_of c.settings M (model c) w.session w.stamp.number w.stamp.serial (λ s. opening s.key w) (found c w.session)

  abbrev pub requesting : List ℕ → List ℕ → Core → Step
  requesting x offer c = rule.requested c.settings M (model c) x offer

  -- frames of the group
  abbrev pub group_receiving : Wrapper → ℕ → Core → Step
  group_receiving w lot c = rule.group_wrapper c.settings M (model c) w.stamp.number w.stamp.serial w.stamp.tag lot (opening c.settings.group w)

  abbrev pub noticing : Notice → ℕ → Core → Step
  noticing n lot c =
      rule.noticed c.settings M (model c) n.stamp.number n.stamp.serial n.stamp.tag lot (M.opened c.settings.group n.nonce.now n.associated.now [] n.mac.now)

  abbrev pub announcing : List ℕ → ℕ → Core → Step
  announcing t lot c = rule.announced c.settings M (model c) t lot

  abbrev pub notifying : ℕ → Core → Step
  notifying lot c = rule.due_notice c.settings M (model c) lot

  abbrev pub falling_due : ℕ → Core → Step
  falling_due lot c = rule.due_now c.settings M (model c) lot (next_lapsed (model c))

  abbrev pub arriving : List ℕ → List ℕ → ℕ → Core → Step
  arriving frame offer lot c = rule.arrived c.settings M (model c) offer lot (reading frame)

  -- any call
  abbrev pub carrying : Call → Core → Step
  carrying call c = rule.next c.settings M (model c) call
