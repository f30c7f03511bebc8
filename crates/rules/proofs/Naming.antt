-- A call, but for pass and due, changes the session that it names and no other. Assumes nothing.
use Rattle.std.proofs.Common.{◌≡◌, ℕ, false, eqb, ltb, ◌≢◌, List, [], Some, None, Ok, Err, Option, Result, sym, refl, ap}
use Rattle.std.proofs.lemmas.Bool.{both_ways, cond_both, ne_eqb}
use Rattle.octets.specs.Runs.{number}
use Rattle.frames.specs.Reading.{Shape, a_notice, a_request, a_wrapper, reading}
use Rattle.frames.specs.Telegrams.{is_good, telegram_kind}
use Rattle.frames.specs.declared.reading.Unreadable.{Unreadable}
use Rattle.frames.specs.declared.telegrams.Telegram.{Telegram}
use Rattle.frames.specs.declared.telegrams.Telegram.TheVariants.{Authenticate, Status, Good, Other}
use Rattle.rules.specs.declared.settings.Settings.{Settings}
use Rattle.rules.specs.Calls.{Buffers, Step, announce, arrive, due, hang_up, pass, send}
use Rattle.rules.specs.GroupTime.{heard, next_time, within}
use Rattle.rules.specs.Limits.{last_time, may_deliver, numbers, slots}
use Rattle.rules.specs.Making.{latency, own_serial, sync}
use Rattle.rules.specs.Meaning.{Meaning}
use Rattle.rules.specs.Model.{Model, Session, put}
use Rattle.rules.specs.Rules.{act, announced, arrived, good_offer, group_wrapper, hung_up, noticed, opened_session, roomy, send_in, send_signed, sign, with_room, wrapper_of}
use Rattle.rules.specs.Sessions.{above, lapsed, signs_in}
use Rattle.rules.specs.Theorems.{ChangesOneSession, named_in}

module _ (set : Settings) (M : Meaning) (g : Model) (n : ℕ) where
  abbrev Same : Step → Type 0
  Same r = r.to.sessions n ≡ g.sessions n

  put_same : (m : ℕ) (o : Option Session) → (m ≡ n → ⊥) → (put g m o).sessions n ≡ g.sessions n
  put_same m o ne = let z = ne_eqb n m (λ q. ne (sym q)) in rw z

  heard_same : (time serial tag lot : ℕ) → (heard set g time serial tag lot).sessions n ≡ g.sessions n
  heard_same time serial tag lot = cond_both (ltb g.timer time) _ _ (λ (h : Model). h.sessions n ≡ g.sessions n) (λ _. refl)
      (λ _. cond_both (within g.timer (sync set) time) _ _ (λ (h : Model). h.sessions n ≡ g.sessions n) (λ _. refl)
      (λ _. cond_both (within g.timer (latency set) time) _ _ (λ (h : Model). h.sessions n ≡ g.sessions n) (λ _. refl) (λ _. refl)))

  -- a wrapper of another session
  module _ (m count serial : ℕ) (ne : m ≡ n → ⊥) where
    sign_same : (s : Session) (o : Option ℕ) → Same (sign set M g m s count o)
    sign_same s None = put_same m _ ne
    sign_same s (Some u) = put_same m _ ne

    act_same : (s : Session) (t : List ℕ) (u : Option ℕ) (q : Telegram) → Same (act set M g m s count t u q)
    act_same s t None Authenticate = sign_same s (signs_in set M s t)
    act_same s t None (Status code) = cond_both (eqb code 5) _ _ Same (λ _. put_same m _ ne) (λ _. put_same m _ ne)
    act_same s t None (Good family) = put_same m _ ne
    act_same s t None Other = put_same m _ ne
    act_same s t (Some u) Authenticate = put_same m _ ne
    act_same s t (Some u) (Status code) = cond_both (eqb code 5) _ _ Same (λ _. put_same m _ ne) (λ _. put_same m _ ne)
    act_same s t (Some u) (Good family) = cond_both (may_deliver u family) _ _ Same (λ _. put_same m _ ne) (λ _. put_same m _ ne)
    act_same s t (Some u) Other = put_same m _ ne

    opened_same : (s : Session) (o : Option (List ℕ)) → Same (opened_session set M g m s count o)
    opened_same s None = refl
    opened_same s (Some t) = act_same s t s.user (telegram_kind t)

    wrapper_same : (opens : Session → Option (List ℕ)) (o : Option Session) → Same (wrapper_of set M g m count serial opens o)
    wrapper_same opens None = refl
    wrapper_same opens (Some s) = cond_both (lapsed s) _ _ Same (λ _. refl)
        (λ _. cond_both (eqb serial (own_serial set)) _ _ Same (λ _. refl)
        (λ _. cond_both (above s.last count) _ _ Same (λ _. opened_same s (opens s)) (λ _. refl)))

  group_same : (time serial tag lot : ℕ) (o : Option (List ℕ)) → Same (group_wrapper set M g time serial tag lot o)
  group_same time serial tag lot None = cond_both (eqb serial (own_serial set)) _ _ Same (λ _. refl) (λ _. refl)
  group_same time serial tag lot (Some t) = cond_both (eqb serial (own_serial set)) _ _ Same (λ _. refl)
      (λ _. cond_both (is_good t) _ _ Same
      (λ _. cond_both (within g.timer (latency set) time) _ _ Same (λ _. heard_same time serial tag lot) (λ _. heard_same time serial tag lot))
      (λ _. refl))

  noticed_same : (time serial tag lot : ℕ) (o : Option (List ℕ)) → Same (noticed set M g time serial tag lot o)
  noticed_same time serial tag lot None = refl
  noticed_same time serial tag lot (Some t) = heard_same time serial tag lot

  arrived_same : (offer : List ℕ) (lot : ℕ) (o : Result Shape Unreadable) → named_in offer o ≢ Some n → Same (arrived set M g offer lot o)
  arrived_same offer lot (Err why) ne = refl
  arrived_same offer lot (Ok (a_request x)) ne = cond_both (good_offer set M g offer) _ _ Same
      (λ _. cond_both (ltb g.held slots) _ _ Same (λ _. put_same (number 2 0 offer) _ (λ q. ne (ap Some q))) (λ _. refl))
      (λ _. refl)
  arrived_same offer lot (Ok (a_notice time serial tag associated nc mc)) ne = noticed_same time serial tag lot (M.opened set.group nc associated [] mc)
  arrived_same offer lot (Ok (a_wrapper m count serial tag associated nc ct mc)) ne = cond_both (eqb m 0) _ _ Same
      (λ _. group_same count serial tag lot (M.opened set.group nc associated ct mc))
      (λ _. wrapper_same m count serial (λ q. ne (ap Some q)) (λ s. M.opened s.key nc associated ct mc) (g.sessions m))

  send_same : (m : ℕ) (t : List ℕ) → (m ≡ n → ⊥) → (o : Option Session) → Same (send_in set M g m t o)
  send_same m t ne None = refl
  send_same m t ne (Some s) = cond_both (lapsed s) _ _ Same (λ _. refl)
      (λ _. cond_both (is_good t) _ _ Same (λ _. signed_same s.user) (λ _. refl)) where
        signed_same : (u : Option ℕ) → Same (send_signed set M g m s t u)
        signed_same None = refl
        signed_same (Some u) = cond_both (ltb s.own last_time) _ _ Same (λ _. put_same m _ ne) (λ _. refl)

  hung_same : (m : ℕ) → (m ≡ n → ⊥) → (o : Option Session) → Same (hung_up set M g m o)
  hung_same m ne None = refl
  hung_same m ne (Some s) = cond_both (lapsed s) _ _ Same (λ _. refl) (λ _. put_same m _ ne)

  announced_same : (t : List ℕ) (lot : ℕ) → Same (announced set M g t lot)
  announced_same t lot = cond_both (is_good t) _ _ Same
      (λ _. cond_both (ltb (next_time g.timer g.sent) numbers) _ _ Same (λ _. refl) (λ _. refl)) (λ _. refl)

  roomy_same : (b : Buffers) (r : Step) → Same r → Same (with_room set M g b r)
  roomy_same b r x = cond_both (roomy set M b) _ _ Same (λ _. x) (λ _. refl)

pub changes_one_session : ChangesOneSession
changes_one_session set M g (arrive frame offer lot b) one n ne = roomy_same set M g n b _ (arrived_same set M g n offer lot (reading frame) ne)
changes_one_session set M g (pass ms) one n ne = absurd (both_ways false refl one)
changes_one_session set M g (due lot b) one n ne = absurd (both_ways false refl one)
changes_one_session set M g (send m t b) one n ne = roomy_same set M g n b _ (send_same set M g n m t (λ q. ne (ap Some q)) (g.sessions m))
changes_one_session set M g (announce t lot b) one n ne = roomy_same set M g n b _ (announced_same set M g n t lot)
changes_one_session set M g (hang_up m b) one n ne = roomy_same set M g n b _ (hung_same set M g n m (λ q. ne (ap Some q)) (g.sessions m))
