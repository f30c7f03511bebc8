-- A call that is refused changes nothing and writes nothing. Assumes nothing.
use Rattle.std.proofs.Common.{◌≡◌, ℕ, ◌&&◌, eqb, ltb, List, [], Some, None, Ok, Err, Option, Result, sym, refl, ◌∙◌, arith}
use Rattle.std.proofs.lemmas.Bool.{cond_both}
use Rattle.frames.specs.Reading.{Shape, a_notice, a_request, a_wrapper, reading}
use Rattle.frames.specs.Telegrams.{is_good, telegram_kind}
use Rattle.frames.specs.declared.reading.Unreadable.{Unreadable}
use Rattle.frames.specs.declared.telegrams.Telegram.{Telegram}
use Rattle.frames.specs.declared.telegrams.Telegram.TheVariants.{Authenticate, Status, Good, Other}
use Rattle.rules.specs.declared.answers.Answer.{Answer}
use Rattle.rules.specs.declared.answers.Refusal.{Refusal}
use Rattle.rules.specs.declared.answers.Refusal.TheVariants as no
use Rattle.rules.specs.declared.settings.Settings.{Settings}
use Rattle.rules.specs.Calls.{Buffers, Step, announce, arrive, due, hang_up, pass, refuse, send}
use Rattle.rules.specs.GroupTime.{next_time, within}
use Rattle.rules.specs.Limits.{last_time, may_deliver, numbers, slots}
use Rattle.rules.specs.Making.{latency, own_serial}
use Rattle.rules.specs.Meaning.{Meaning}
use Rattle.rules.specs.Model.{Model, Session}
use Rattle.rules.specs.Answers.{unread}
use Rattle.rules.specs.Rules.{act, announced, arrived, due_now, end_lapsed, good_offer, group_wrapper, hung_up, noticed, opened_session, roomy, send_in, send_signed, sign, with_room, wrapper_of}
use Rattle.rules.specs.Sessions.{above, first_lapsed, lapsed, signs_in}
use Rattle.rules.specs.Theorems.{RefusalsChangeNothing}

module _ (set : Settings) (M : Meaning) (g : Model) where
  abbrev Unmoved : Step → Type 0
  Unmoved r = (why : Refusal) → r.answer ≡ Err why → (r.to ≡ g) × (r.written ≡ [])

  answered : (a : Answer) (why : Refusal) → ◌≡◌ {A = Result Answer Refusal} (Ok a) (Err why) → ⊥
  answered a why e = let z : ◌≡◌ {A = ℕ} 0 1 = cc in omega arith

  -- a step that answers is no refusal
  done : (r : Step) (a : Answer) → r.answer ≡ Ok a → Unmoved r
  done r a e why q = absurd (answered a why (sym e ∙ q))

  left : (why : Refusal) → Unmoved (refuse g why)
  left why other e = (refl, refl)

  module _ (m count serial : ℕ) where
    signs : (s : Session) (o : Option ℕ) → Unmoved (sign set M g m s count o)
    signs s None = done _ _ refl
    signs s (Some u) = done _ _ refl

    acts : (s : Session) (t : List ℕ) (u : Option ℕ) (q : Telegram) → Unmoved (act set M g m s count t u q)
    acts s t None Authenticate = signs s (signs_in set M s t)
    acts s t None (Status code) = cond_both (eqb code 5) _ _ Unmoved (λ _. done _ _ refl) (λ _. done _ _ refl)
    acts s t None (Good family) = done _ _ refl
    acts s t None Other = done _ _ refl
    acts s t (Some u) Authenticate = done _ _ refl
    acts s t (Some u) (Status code) = cond_both (eqb code 5) _ _ Unmoved (λ _. done _ _ refl) (λ _. done _ _ refl)
    acts s t (Some u) (Good family) = cond_both (may_deliver u family) _ _ Unmoved (λ _. done _ _ refl) (λ _. done _ _ refl)
    acts s t (Some u) Other = done _ _ refl

    opens_or_not : (s : Session) (o : Option (List ℕ)) → Unmoved (opened_session set M g m s count o)
    opens_or_not s None = left no.Opening
    opens_or_not s (Some t) = acts s t s.user (telegram_kind t)

    in_session : (opens : Session → Option (List ℕ)) (o : Option Session) → Unmoved (wrapper_of set M g m count serial opens o)
    in_session opens None = left no.Session
    in_session opens (Some s) = cond_both (lapsed s) _ _ Unmoved (λ _. left no.Session)
        (λ _. cond_both (eqb serial (own_serial set)) _ _ Unmoved (λ _. left no.OwnSerial)
        (λ _. cond_both (above s.last count) _ _ Unmoved (λ _. opens_or_not s (opens s)) (λ _. left no.Number)))

  in_group : (time serial tag lot : ℕ) (o : Option (List ℕ)) → Unmoved (group_wrapper set M g time serial tag lot o)
  in_group time serial tag lot None = cond_both (eqb serial (own_serial set)) _ _ Unmoved (λ _. left no.OwnSerial) (λ _. left no.Opening)
  in_group time serial tag lot (Some t) = cond_both (eqb serial (own_serial set)) _ _ Unmoved (λ _. left no.OwnSerial)
      (λ _. cond_both (is_good t) _ _ Unmoved
      (λ _. cond_both (within g.timer (latency set) time) _ _ Unmoved (λ _. done _ _ refl) (λ _. done _ _ refl))
      (λ _. left no.Telegram))

  notices : (time serial tag lot : ℕ) (o : Option (List ℕ)) → Unmoved (noticed set M g time serial tag lot o)
  notices time serial tag lot None = left no.Opening
  notices time serial tag lot (Some t) = done _ _ refl

  arrives : (offer : List ℕ) (lot : ℕ) (o : Result Shape Unreadable) → Unmoved (arrived set M g offer lot o)
  arrives offer lot (Err why) = left (unread why)
  arrives offer lot (Ok (a_request x)) = cond_both (good_offer set M g offer) _ _ Unmoved
      (λ _. cond_both (ltb g.held slots) _ _ Unmoved (λ _. done _ _ refl) (λ _. done _ _ refl)) (λ _. left no.Offer)
  arrives offer lot (Ok (a_notice time serial tag associated nc mc)) = notices time serial tag lot (M.opened set.group nc associated [] mc)
  arrives offer lot (Ok (a_wrapper m count serial tag associated nc ct mc)) = cond_both (eqb m 0) _ _ Unmoved
      (λ _. in_group count serial tag lot (M.opened set.group nc associated ct mc))
      (λ _. in_session m count serial (λ s. M.opened s.key nc associated ct mc) (g.sessions m))

  sends : (m : ℕ) (t : List ℕ) (o : Option Session) → Unmoved (send_in set M g m t o)
  sends m t None = left no.Session
  sends m t (Some s) = cond_both (lapsed s) _ _ Unmoved (λ _. left no.Session)
      (λ _. cond_both (is_good t) _ _ Unmoved (λ _. signed s.user) (λ _. left no.Telegram)) where
        signed : (u : Option ℕ) → Unmoved (send_signed set M g m s t u)
        signed None = left no.SignIn
        signed (Some u) = cond_both (ltb s.own last_time) _ _ Unmoved (λ _. done _ _ refl) (λ _. left no.NumbersSpent)

  hangs : (m : ℕ) (o : Option Session) → Unmoved (hung_up set M g m o)
  hangs m None = left no.Session
  hangs m (Some s) = cond_both (lapsed s) _ _ Unmoved (λ _. left no.Session) (λ _. done _ _ refl)

  announces : (t : List ℕ) (lot : ℕ) → Unmoved (announced set M g t lot)
  announces t lot = cond_both (is_good t) _ _ Unmoved
      (λ _. cond_both (ltb (next_time g.timer g.sent) numbers) _ _ Unmoved (λ _. done _ _ refl) (λ _. left no.TimesSpent)) (λ _. left no.Telegram)

  is_due : (lot : ℕ) (o : Option ℕ) → Unmoved (due_now set M g lot o)
  is_due lot None = cond_both (eqb g.countdown 0 && ltb (next_time g.timer g.sent) numbers) _ _ Unmoved (λ _. done _ _ refl) (λ _. done _ _ refl)
  is_due lot (Some m) = ends_it (g.sessions m) where
    ends_it : (o : Option Session) → Unmoved (end_lapsed set M g m o)
    ends_it None = done _ _ refl
    ends_it (Some s) = done _ _ refl

  has_room : (b : Buffers) (r : Step) → Unmoved r → Unmoved (with_room set M g b r)
  has_room b r x = cond_both (roomy set M b) _ _ Unmoved (λ _. x) (λ _. left no.Buffers)

pub refusals_change_nothing : RefusalsChangeNothing
refusals_change_nothing set M g (arrive frame offer lot b) = has_room set M g b _ (arrives set M g offer lot (reading frame))
refusals_change_nothing set M g (pass ms) = done set M g _ _ refl
refusals_change_nothing set M g (due lot b) = has_room set M g b _ (is_due set M g lot (first_lapsed g))
refusals_change_nothing set M g (send m t b) = has_room set M g b _ (sends set M g m t (g.sessions m))
refusals_change_nothing set M g (announce t lot b) = has_room set M g b _ (announces set M g t lot)
refusals_change_nothing set M g (hang_up m b) = has_room set M g b _ (hangs set M g m (g.sessions m))
