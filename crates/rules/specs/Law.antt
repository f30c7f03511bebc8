-- The law over runs: what a history shows, read from settings, calls, answers, outputs and the timer alone. The newest event
-- comes first, and each line looks back from one event to those before it. Assumes nothing.
use Rattle.std.specs.Prelude.{◌≡◌, ℕ, ◌+◌, ◌<◌, min, max, Bool, true, false, cond, not, ◌&&◌, ◌||◌, ◌≢◌, ◌⊎◌, ◌↔◌, List, [], ◌∷◌, map, length, take, Some, None, Ok, Err, Option, Result, ◌==◌}
use Rattle.std.specs.List.{AllByRecursion}
use Rattle.octets.specs.Laws.{Octets}
use Rattle.octets.specs.Runs.{number}
use Rattle.frames.specs.Headers.{part}
use Rattle.frames.specs.Reading.{Shape, a_wrapper, a_request, a_notice, reading}
use Rattle.frames.specs.Sealing.{authenticate_mac, wrapped}
use Rattle.frames.specs.Telegrams.{telegram_kind}
use Rattle.frames.specs.Writing.{authenticate}
use Rattle.frames.specs.declared.reading.Unreadable.{Unreadable}
use Rattle.frames.specs.declared.telegrams.Telegram.{Telegram}
use Rattle.frames.specs.declared.telegrams.Telegram.TheVariants.{Authenticate, Status, Good, Other}
use Rattle.rules.specs.declared.answers.Answer.{Answer}
use Rattle.rules.specs.declared.answers.Answer.TheVariants.{Nothing, Delivered, Frame, Sealed, Taken}
use Rattle.rules.specs.declared.answers.Refusal.{Refusal}
use Rattle.rules.specs.declared.settings.Settings.{Settings}
use Rattle.rules.specs.Calls.{Call, announce, arrive, due, hang_up, pass, send}
use Rattle.rules.specs.Limits.{last_time}
use Rattle.rules.specs.Making.{acceptable, hash_of, latency}
use Rattle.rules.specs.Meaning.{Meaning}
use Rattle.rules.specs.Runs.{Event, event, history, state}

-- P holds of each event, with the events before it
abbrev pub Throughout : (Event → List Event → Type 0) → List Event → Type 0
Throughout P [] = Unit {0}
Throughout P (e ∷ h) = P e h × Throughout P h

-- P holds of some event
abbrev pub Once : (Event → Type 0) → List Event → Type 0
Once P [] = ⊥
Once P (e ∷ h) = P e ⊎ Once P h

module _ {A B : Type 0} where
  -- what f makes of what is there
  abbrev pub given : (A → Option B) → Option A → Option B
  given f None = None
  given f (Some x) = f x

abbrev pub has : {A : Type 0} → (A → Bool) → Option A → Bool
has test None = false
has test (Some x) = test x

-- WHAT AN EVENT SHOWS

abbrev pub readable : Result Shape Unreadable → Option Shape
readable (Err why) = None
readable (Ok shape) = Some shape

-- the octets that arrived
abbrev pub octets_in : Call → List ℕ
octets_in (arrive frame offer lot b) = frame
octets_in (pass ms) = []
octets_in (due lot b) = []
octets_in (send n t b) = []
octets_in (announce t lot b) = []
octets_in (hang_up n b) = []

-- the frame that arrived and was not refused
abbrev pub accepted : Call → Result Answer Refusal → Option Shape
accepted c (Err why) = None
accepted c (Ok a) = readable (reading (octets_in c))

-- the octets that were put out
abbrev pub octets_out : Result Answer Refusal → List ℕ → Option (List ℕ)
octets_out (Err why) out = None
octets_out (Ok Nothing) out = None
octets_out (Ok (Delivered n count user size)) out = None
octets_out (Ok (Frame size)) out = Some (take size out)
octets_out (Ok (Sealed size count)) out = Some (take size out)
octets_out (Ok Taken) out = None

-- the frame that came in, and the one that went out
abbrev pub came_in : Event → Option Shape
came_in e = accepted e.call e.answer

abbrev pub went_out : Event → Option Shape
went_out e = given (λ f. readable (reading f)) (octets_out e.answer e.out)

-- a secure wrapper of session n
pub record Wrapped : Type 0 where
  pub count : ℕ
  pub associated : List ℕ
  pub nonce : List ℕ
  pub ciphertext : List ℕ
  pub mac : List ℕ

abbrev pub of_session : ℕ → Shape → Option Wrapped
of_session n (a_request x) = None
of_session n (a_notice time serial tag associated nonce mac) = None
of_session n (a_wrapper m count serial tag associated nonce c mac) =
    cond (n == m) (Some (record { count = count; associated = associated; nonce = nonce; ciphertext = c; mac = mac })) None

abbrev pub arriving : ℕ → Event → Option Wrapped
arriving n e = given (of_session n) (came_in e)

abbrev pub leaving : ℕ → Event → Option Wrapped
leaving n e = given (of_session n) (went_out e)

abbrev pub count_of : Option Wrapped → Option ℕ
count_of o = given (λ w. Some w.count) o

-- the time of a frame of the group
abbrev pub group_time : Shape → Option ℕ
group_time (a_request x) = None
group_time (a_notice time serial tag associated nonce mac) = Some time
group_time (a_wrapper n count serial tag associated nonce c mac) = cond (n == 0) (Some count) None

-- the group time that came in and was not refused, or that went out
abbrev pub time_in : Event → Option ℕ
time_in e = given group_time (came_in e)

abbrev pub time_out : Event → Option ℕ
time_out e = given group_time (went_out e)

abbrev pub delivered : Result Answer Refusal → Bool
delivered (Err why) = false
delivered (Ok Nothing) = false
delivered (Ok (Delivered n count user size)) = true
delivered (Ok (Frame size)) = false
delivered (Ok (Sealed size count)) = false
delivered (Ok Taken) = false

abbrev pub taken : Result Answer Refusal → Bool
taken (Err why) = false
taken (Ok Nothing) = false
taken (Ok (Delivered n count user size)) = false
taken (Ok (Frame size)) = false
taken (Ok (Sealed size count)) = false
taken (Ok Taken) = true

-- LIVES

-- what client and gateway share in a session
pub record Secrets : Type 0 where
  pub key : List ℕ
  pub x : List ℕ
  pub y : List ℕ

abbrev pub is_response : Result Answer Refusal → Bool
is_response (Err why) = false
is_response (Ok Nothing) = false
is_response (Ok (Delivered n count user size)) = false
is_response (Ok (Frame size)) = size == 56
is_response (Ok (Sealed size count)) = false
is_response (Ok Taken) = false

-- session n opens with a session request that is answered by 56 octets; its number, Y and key are the offer's, X the request's
abbrev pub opens_with : ℕ → List ℕ → Result Shape Unreadable → Option Secrets
opens_with n offer (Err why) = None
opens_with n offer (Ok (a_wrapper m count serial tag associated nonce c mac)) = None
opens_with n offer (Ok (a_notice time serial tag associated nonce mac)) = None
opens_with n offer (Ok (a_request x)) = cond (n == number 2 0 offer) (Some (record { key = part 16 34 offer; x = x; y = part 32 2 offer })) None

abbrev pub opens_by : ℕ → Call → Option Secrets
opens_by n (arrive frame offer lot b) = opens_with n offer (reading frame)
opens_by n (pass ms) = None
opens_by n (due lot b) = None
opens_by n (send m t b) = None
opens_by n (announce t lot b) = None
opens_by n (hang_up m b) = None

abbrev pub opens : ℕ → Event → Option Secrets
opens n e = cond (is_response e.answer) (opens_by n e.call) None

-- a status that ends a session, one that grants a sign-in, and a close
abbrev pub ending : Telegram → Bool
ending Authenticate = false
ending (Status code) = not (code == 0)
ending (Good family) = false
ending Other = false

abbrev pub granting : Telegram → Bool
granting Authenticate = false
granting (Status code) = code == 0
granting (Good family) = false
granting Other = false

abbrev pub closing : Telegram → Bool
closing Authenticate = false
closing (Status code) = code == 5
closing (Good family) = false
closing Other = false

-- what has happened since a session opened, newest first
pub record Life : Type 0 where
  pub secrets : Secrets
  pub since : List Event

module _ (set : Settings) (M : Meaning) where
  -- the telegram whose sealing makes a wrapper
  abbrev pub held : Secrets → Option Wrapped → Option (List ℕ)
  held k o = given (λ w. M.opened k.key w.nonce w.associated w.ciphertext w.mac) o

  abbrev pub kind_held : Secrets → Option Wrapped → Option Telegram
  kind_held k o = given (λ t. Some (telegram_kind t)) (held k o)

  -- a session ends with the call that puts out a wrapper of it with a status other than 00, or takes one that holds a close
  abbrev pub ends : Secrets → ℕ → Event → Bool
  ends k n e = has ending (kind_held k (leaving n e)) || (taken e.answer && has closing (kind_held k (arriving n e)))

  abbrev pub lives_on : ℕ → Event → Option Life → Option Life
  lives_on n e None = None
  lives_on n e (Some l) = cond (ends l.secrets n e) None (Some (record { secrets = l.secrets; since = e ∷ l.since }))

  abbrev pub begins : Option Secrets → Option Life → Option Life
  begins None l = l
  begins (Some k) l = Some (record { secrets = k; since = [] })

  -- the life of session n, where it is open at the end of a history
  abbrev pub life : ℕ → List Event → Option Life
  life n [] = None
  life n (e ∷ h) = begins (opens n e) (lives_on n e (life n h))

  -- session n is open after h, and P holds of its life
  abbrev pub InLife : ℕ → List Event → (Life → Type 0) → Type 0
  InLife n h P = (l : Life) × (life n h ≡ Some l) × P l

  -- a wrapper of session n that was answered by status 00, and held the session authenticate frame of a user with the MAC that
  -- the hash of the user's password makes
  pub record SignsIn (k : Secrets) (n user : ℕ) (e : Event) : Type 0 where
    pub granted : has granting (kind_held k (leaving n e)) ≡ true
    pub hash : List ℕ
    pub known : hash_of set user ≡ Some hash
    pub frame : held k (arriving n e) ≡ Some (authenticate user (authenticate_mac M.mac hash user k.x k.y))

  -- sealing what was delivered, under this key and with the nonce and the associated data of the frame that arrived, makes that frame
  pub record Genuine (key : List ℕ) (n count size : ℕ) (e : Event) : Type 0 where
    pub session : number 2 6 (octets_in e.call) ≡ n
    pub numbered : number 6 8 (octets_in e.call) ≡ count
    pub sealed : octets_in e.call ≡ wrapped M.ciphertext M.mac key (part 8 0 (octets_in e.call)) (part 14 8 (octets_in e.call)) (take size e.out)

  -- THE LAW

  -- 1. Numbers rise: a wrapper of a session that is not refused has a higher number than each before it in the session's life.
  abbrev pub NumbersRise : Event → List Event → Type 0
  NumbersRise e h =
      (n count : ℕ) → n ≢ 0 → count_of (arriving n e) ≡ Some count
      → InLife n h (λ l. AllByRecursion (λ d. (before : ℕ) → count_of (arriving n d) ≡ Some before → before < count) l.since)

  -- 2. Deliveries are signed for: what is delivered to a user from a session follows that user's sign-in in the session's life.
  abbrev pub SignedFor : Event → List Event → Type 0
  SignedFor e h =
      (n count user size : ℕ) → n ≢ 0 → e.answer ≡ Ok (Delivered n count user size)
      → InLife n h (λ l. Once (SignsIn l.secrets n user) l.since)

  -- 3. Deliveries are genuine, from a session and from the group.
  abbrev pub GenuineInSession : Event → List Event → Type 0
  GenuineInSession e h =
      (n count user size : ℕ) → n ≢ 0 → e.answer ≡ Ok (Delivered n count user size)
      → InLife n h (λ l. Genuine l.secrets.key n count size e)

  abbrev pub GenuineInGroup : Event → Type 0
  GenuineInGroup e = (count user size : ℕ) → e.answer ≡ Ok (Delivered 0 count user size) → (user ≡ 0) × Genuine set.group 0 count size e

  -- 4. No number twice: no two wrappers put out in a session's life have one number, and no two frames put out to the group one time.
  abbrev pub NoNumberTwice : Event → List Event → Type 0
  NoNumberTwice e h =
      (n count : ℕ) → n ≢ 0 → count_of (leaving n e) ≡ Some count
      → InLife n h (λ l. AllByRecursion (λ d. count_of (leaving n d) ≢ Some count) l.since)

  abbrev pub NoTimeTwice : Event → List Event → Type 0
  NoTimeTwice e h = (time : ℕ) → time_out e ≡ Some time → AllByRecursion (λ d. time_out d ≢ Some time) h

  -- 5. The timer is accounted for.

  abbrev pub milliseconds : Call → ℕ
  milliseconds (arrive frame offer lot b) = 0
  milliseconds (pass ms) = ms
  milliseconds (due lot b) = 0
  milliseconds (send n t b) = 0
  milliseconds (announce t lot b) = 0
  milliseconds (hang_up n b) = 0

  abbrev pub larger : Option ℕ → ℕ → ℕ → ℕ
  larger None since so_far = so_far
  larger (Some time) since so_far = max (time + since) so_far

  -- the largest of the start and every group time that came in or went out, each with the milliseconds that passed since
  abbrev pub latest : ℕ → List Event → ℕ
  latest since [] = set.start + since
  latest since (e ∷ h) = larger (time_in e) since (larger (time_out e) since (latest (since + milliseconds e.call) h))

  -- what the timer shows after a history
  abbrev pub clock : List Event → ℕ
  clock h = min last_time (latest 0 h)

  -- a wrapper of the group that is not refused is delivered exactly when its time exceeds the timer less the latency tolerance
  abbrev pub Window : Event → Type 0
  Window e = (w : Wrapped) → arriving 0 e ≡ Some w → (delivered e.answer ≡ true) ↔ (e.before < w.count + latency set)

  pub record Law (e : Event) (h : List Event) : Type 0 where
    pub numbers_rise : NumbersRise e h
    pub signed_for : SignedFor e h
    pub genuine_in_session : GenuineInSession e h
    pub genuine_in_group : GenuineInGroup e
    pub no_number_twice : NoNumberTwice e h
    pub no_time_twice : NoTimeTwice e h
    pub timer_before : e.before ≡ clock h
    pub timer_after : e.after ≡ clock (e ∷ h)
    pub window : Window e
    -- 6. Answers are the rule's, at the gateway to which the calls before lead.
    pub ruled : e ≡ event set M (state set M (map (λ d. d.call) h)) e.call

-- PROPER SETTINGS AND CALLS: what their types in the code ensure

pub record ProperSettings (set : Settings) : Type 0 where
  pub serial : Octets set.serial
  pub serial_length : length set.serial ≡ 6
  pub device_length : length set.device ≡ 16
  pub group_length : length set.group ≡ 16

abbrev pub ProperCall : Call → Type 0
ProperCall (arrive frame offer lot b) = Octets frame × Octets offer
ProperCall (pass ms) = Unit {0}
ProperCall (due lot b) = Unit {0}
ProperCall (send n t b) = Unit {0}
ProperCall (announce t lot b) = Unit {0}
ProperCall (hang_up n b) = Unit {0}

abbrev pub ProperCalls : List Call → Type 0
ProperCalls [] = Unit {0}
ProperCalls (c ∷ calls) = ProperCall c × ProperCalls calls

-- every run of every list of calls keeps the law, from all settings that making accepts
abbrev pub RunsKeepTheLaw : Meaning → Type 0
RunsKeepTheLaw M =
    (set : Settings) → ProperSettings set → acceptable set ≡ true
    → (calls : List Call) → ProperCalls calls → Throughout (Law set M) (history set M calls)
