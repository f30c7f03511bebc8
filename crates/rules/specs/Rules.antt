-- The rule of each call: the questions in their order, then the effect. Assumes nothing.
use Rattle.std.specs.Prelude.{ℕ, ◌+◌, ◌-◌, min, Bool, cond, not, ◌&&◌, List, [], length, is_some, Some, None, Ok, Err, Option, Result, ◌==◌, nat_le, nat_lt}
use Rattle.octets.specs.Runs.{number}
use Rattle.frames.specs.Headers.{part}
use Rattle.frames.specs.Limits.{largest_frame}
use Rattle.frames.specs.Reading.{Shape, a_wrapper, a_request, a_notice, reading}
use Rattle.frames.specs.Sealing.{sealed_notice, sealed_response, wrapper}
use Rattle.frames.specs.Telegrams.{is_good, telegram_kind}
use Rattle.frames.specs.Writing.{no_session, status}
use Rattle.frames.specs.declared.reading.Unreadable.{Unreadable}
use Rattle.frames.specs.declared.telegrams.Telegram.{Telegram}
use Rattle.frames.specs.declared.telegrams.Telegram.TheVariants.{Authenticate, Status, Good, Other}
use Rattle.rules.specs.declared.answers.Answer.TheVariants.{Nothing, Delivered, Frame, Sealed, Taken}
use Rattle.rules.specs.declared.answers.Refusal.TheVariants as no
use Rattle.rules.specs.declared.settings.Settings.{Settings}
use Rattle.rules.specs.Answers.{unread}
use Rattle.rules.specs.Calls.{Buffers, Call, Step, announce, arrive, due, hang_up, pass, quietly, refuse, send}
use Rattle.rules.specs.GroupTime.{heard, next_time, notice_serial, notice_tag, notified_at, sent_at, tag_of, within}
use Rattle.rules.specs.Limits.{last_time, may_deliver, numbers, slots}
use Rattle.rules.specs.Making.{latency, own_serial}
use Rattle.rules.specs.Meaning.{Meaning}
use Rattle.rules.specs.Model.{Model, Session, put}
use Rattle.rules.specs.Sessions.{above, all_waited, begun, first_lapsed, lapsed, opened_by, sent_one, signs_in}

module _ (set : Settings) (M : Meaning) where
  -- an own wrapper of a session around a telegram
  abbrev pub own_wrapper : ℕ → Session → List ℕ → List ℕ
  own_wrapper n s telegram = wrapper M.ciphertext M.mac s.key n s.own (own_serial set) 0 telegram

  -- a status goes out, and session n becomes o
  abbrev pub tell : Model → ℕ → Session → ℕ → Option Session → Step
  tell g n s code o = record { to = put g n o; answer = Ok (Frame (length (own_wrapper n s (status code)))); written = own_wrapper n s (status code) }

  -- a status goes out, and the session ends
  abbrev pub end : Model → ℕ → Session → ℕ → Step
  end g n s code = tell g n s code None

  -- SESSION REQUEST

  abbrev pub offer_session : List ℕ → ℕ
  offer_session offer = number 2 0 offer

  abbrev pub offer_y : List ℕ → List ℕ
  offer_y offer = part 32 2 offer

  abbrev pub offer_key : List ℕ → List ℕ
  offer_key offer = part 16 34 offer

  abbrev pub good_offer : Model → List ℕ → Bool
  good_offer g offer = length offer == 50 && not (offer_session offer == 0) && not (is_some (g.sessions (offer_session offer)))

  abbrev pub response_to : List ℕ → List ℕ → List ℕ
  response_to x offer = sealed_response M.mac set.device (offer_session offer) x (offer_y offer)

  abbrev pub open_session : Model → List ℕ → List ℕ → Step
  open_session g x offer = record
      { to = put g (offer_session offer) (Some (begun (offer_key offer) x (offer_y offer))); answer = Ok (Frame (length (response_to x offer))); written = response_to x offer }

  abbrev pub no_slot : Model → Step
  no_slot g = record { to = g; answer = Ok (Frame (length no_session)); written = no_session }

  abbrev pub requested : Model → List ℕ → List ℕ → Step
  requested g x offer =
      cond (good_offer g offer)
      (cond (nat_lt g.held slots) (open_session g x offer) (no_slot g))
      (refuse g no.Offer)

  -- A TELEGRAM THAT OPENED IN A SESSION

  -- session n goes on: a wrapper with this number opened, and nothing goes out
  abbrev pub on : Model → ℕ → Session → ℕ → Model
  on g n s count = put g n (Some (opened_by s count s.own s.user))

  abbrev pub sign : Model → ℕ → Session → ℕ → Option ℕ → Step
  sign g n s count None = end g n s 1
  sign g n s count (Some user) = tell g n s 0 (Some (opened_by s count (s.own + 1) (Some user)))

  abbrev pub deliver : Model → ℕ → ℕ → ℕ → List ℕ → Step
  deliver g n count user telegram = record { to = g; answer = Ok (Delivered n count user (length telegram)); written = telegram }

  -- by who is signed in and what the telegram is
  abbrev pub act : Model → ℕ → Session → ℕ → List ℕ → Option ℕ → Telegram → Step
  act g n s count t None Authenticate = sign g n s count (signs_in set M s t)
  act g n s count t None (Status code) = cond (code == 5) (quietly (put g n None) Taken) (quietly (on g n s count) Taken)
  act g n s count t None (Good family) = end g n s 2
  act g n s count t None Other = end g n s 2
  act g n s count t (Some user) Authenticate = quietly (on g n s count) Taken
  act g n s count t (Some user) (Status code) = cond (code == 5) (quietly (put g n None) Taken) (quietly (on g n s count) Taken)
  act g n s count t (Some user) (Good family) = cond (may_deliver user family) (deliver (on g n s count) n count user t) (quietly (on g n s count) Taken)
  act g n s count t (Some user) Other = quietly (on g n s count) Taken

  -- SECURE WRAPPER OF A SESSION

  abbrev pub opened_session : Model → ℕ → Session → ℕ → Option (List ℕ) → Step
  opened_session g n s count None = refuse g no.Opening
  opened_session g n s count (Some t) = act g n s count t s.user (telegram_kind t)

  abbrev pub wrapper_of : Model → ℕ → ℕ → ℕ → (Session → Option (List ℕ)) → Option Session → Step
  wrapper_of g n count serial opens None = refuse g no.Session
  wrapper_of g n count serial opens (Some s) =
      cond (lapsed s) (refuse g no.Session)
      (cond (serial == (own_serial set)) (refuse g no.OwnSerial)
      (cond (above s.last count) (opened_session g n s count (opens s))
      (refuse g no.Number)))

  -- SECURE WRAPPER OF THE GROUP

  -- a late one is taken, any other is delivered
  abbrev pub group_good : Model → ℕ → ℕ → ℕ → ℕ → List ℕ → Step
  group_good g time serial tag lot t =
      cond (within g.timer (latency set) time)
      (deliver (heard set g time serial tag lot) 0 time 0 t)
      (quietly (heard set g time serial tag lot) Taken)

  abbrev pub group_opened : Model → ℕ → ℕ → ℕ → ℕ → Option (List ℕ) → Step
  group_opened g time serial tag lot None = refuse g no.Opening
  group_opened g time serial tag lot (Some t) = cond (is_good t) (group_good g time serial tag lot t) (refuse g no.Telegram)

  abbrev pub group_wrapper : Model → ℕ → ℕ → ℕ → ℕ → Option (List ℕ) → Step
  group_wrapper g time serial tag lot opening = cond (serial == (own_serial set)) (refuse g no.OwnSerial) (group_opened g time serial tag lot opening)

  -- TIMER NOTIFY

  abbrev pub noticed : Model → ℕ → ℕ → ℕ → ℕ → Option (List ℕ) → Step
  noticed g time serial tag lot None = refuse g no.Opening
  noticed g time serial tag lot (Some t) = quietly (heard set g time serial tag lot) Taken

  -- ARRIVE

  abbrev pub arrived : Model → List ℕ → ℕ → Result Shape Unreadable → Step
  arrived g offer lot (Err why) = refuse g (unread why)
  arrived g offer lot (Ok (a_request x)) = requested g x offer
  arrived g offer lot (Ok (a_notice time serial tag associated nonce mac)) =
      noticed g time serial tag lot (M.opened set.group nonce associated [] mac)
  arrived g offer lot (Ok (a_wrapper n count serial tag associated nonce c mac)) =
      cond (n == 0)
      (group_wrapper g count serial tag lot (M.opened set.group nonce associated c mac))
      (wrapper_of g n count serial (λ s. M.opened s.key nonce associated c mac) (g.sessions n))

  -- PASS

  abbrev pub passed : Model → ℕ → Step
  passed g ms = quietly
      (record {
        timer = min last_time (g.timer + ms);
        sent = g.sent;
        keeper = g.keeper;
        wanted = g.wanted;
        countdown = g.countdown - ms;
        held = g.held;
        sessions = λ n. all_waited ms (g.sessions n);
      })
      Taken

  -- DUE

  abbrev pub notify : Model → ℕ → ℕ → Step
  notify g time lot =
      let octets = sealed_notice M.mac set.group time (notice_serial g.wanted (own_serial set)) (notice_tag g.wanted lot) in
      record { to = notified_at set g time lot; answer = Ok (Frame (length octets)); written = octets }

  abbrev pub due_notice : Model → ℕ → Step
  due_notice g lot =
      cond (g.countdown == 0 && nat_lt (next_time g.timer g.sent) numbers)
      (notify g (next_time g.timer g.sent) lot)
      (quietly g Nothing)

  abbrev pub end_lapsed : Model → ℕ → Option Session → Step
  end_lapsed g n None = quietly g Nothing
  end_lapsed g n (Some s) = end g n s 3

  abbrev pub due_now : Model → ℕ → Option ℕ → Step
  due_now g lot None = due_notice g lot
  due_now g lot (Some n) = end_lapsed g n (g.sessions n)

  -- SEND

  abbrev pub send_signed : Model → ℕ → Session → List ℕ → Option ℕ → Step
  send_signed g n s t None = refuse g no.SignIn
  send_signed g n s t (Some user) =
      cond (nat_lt s.own last_time)
      (record { to = put g n (Some (sent_one s)); answer = Ok (Sealed (length (own_wrapper n s t)) s.own); written = own_wrapper n s t })
      (refuse g no.NumbersSpent)

  abbrev pub send_in : Model → ℕ → List ℕ → Option Session → Step
  send_in g n t None = refuse g no.Session
  send_in g n t (Some s) =
      cond (lapsed s) (refuse g no.Session)
      (cond (is_good t) (send_signed g n s t s.user) (refuse g no.Telegram))

  -- ANNOUNCE

  abbrev pub announce_at : Model → List ℕ → ℕ → ℕ → Step
  announce_at g t lot time =
      let octets = wrapper M.ciphertext M.mac set.group 0 time (own_serial set) (tag_of lot) t in
      cond (nat_lt time numbers)
      (record { to = sent_at g time; answer = Ok (Sealed (length octets) time); written = octets })
      (refuse g no.TimesSpent)

  abbrev pub announced : Model → List ℕ → ℕ → Step
  announced g t lot = cond (is_good t) (announce_at g t lot (next_time g.timer g.sent)) (refuse g no.Telegram)

  -- HANG UP

  abbrev pub hung_up : Model → ℕ → Option Session → Step
  hung_up g n None = refuse g no.Session
  hung_up g n (Some s) = cond (lapsed s) (refuse g no.Session) (end g n s 5)

  -- EVERY CALL

  abbrev pub roomy : Buffers → Bool
  roomy b = nat_le largest_frame (length b.out) && nat_le largest_frame (length b.work)

  abbrev pub with_room : Model → Buffers → Step → Step
  with_room g b step = cond (roomy b) step (refuse g no.Buffers)

  abbrev pub next : Model → Call → Step
  next g (arrive frame offer lot b) = with_room g b (arrived g offer lot (reading frame))
  next g (pass ms) = passed g ms
  next g (due lot b) = with_room g b (due_now g lot (first_lapsed g))
  next g (send n t b) = with_room g b (send_in g n t (g.sessions n))
  next g (announce t lot b) = with_room g b (announced g t lot)
  next g (hang_up n b) = with_room g b (hung_up g n (g.sessions n))
