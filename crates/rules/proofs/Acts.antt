-- A wrapper of a session that arrives, rule by rule. Assumes nothing.
use Rattle.std.proofs.Common.{◌≡◌, ℕ, ◌+◌, ◌^◌, ◌<◌, ◌≤◌, true, false, eqb, List, length, take, Some, None, Ok, Option, sym, refl, ap, ◌∙◌, subst, inl, inr, arith}
use Rattle.std.proofs.lemmas.Option.{none-some}
use Rattle.std.proofs.lemmas.Bool.{cond_both}
use Rattle.octets.proofs.Laws.{value_below}
use Rattle.octets.specs.Runs.{over}
use Rattle.frames.specs.Reading.{a_wrapper, reading}
use Rattle.frames.specs.Sealing.{authenticate_mac}
use Rattle.frames.specs.Telegrams.{sign_in, telegram_kind}
use Rattle.frames.specs.Writing.{authenticate, nonce, status}
use Rattle.frames.specs.declared.telegrams.Telegram.{Telegram}
use Rattle.frames.specs.declared.telegrams.Telegram.TheVariants.{Authenticate, Status, Good, Other}
use Rattle.sealer.specs.Comparing.{same_true}
use Rattle.sealer.specs.Sealing.{same}
use Rattle.rules.specs.declared.answers.Answer.TheVariants.{Taken}
use Rattle.rules.specs.declared.answers.Refusal.TheVariants as no
use Rattle.rules.specs.declared.settings.Settings.{Settings}
use Rattle.rules.specs.Calls.{Buffers, Call, Step, arrive, quietly}
use Rattle.rules.specs.Law.{ProperSettings, SignsIn, closing, count_of, granting, has, kind_held, leaving, octets_out, time_out}
use Rattle.rules.specs.Limits.{may_deliver}
use Rattle.rules.specs.Making.{hash_of, own_serial}
use Rattle.rules.specs.Meaning.{Meaning}
use Rattle.rules.specs.Model.{Model, Session, put}
use Rattle.rules.specs.Rules.{act, deliver, end, on, opened_session, own_wrapper, sign, tell, wrapper_of}
use Rattle.rules.specs.Runs.{lent, noted}
use Rattle.rules.specs.Sessions.{above, by_hash, by_parts, lapsed, opened_by, signs_in}
use Rattle.rules.specs.Fit.{Fit, GoodSession}
use Rattle.rules.proofs.Facts.{no_delivery, some_some, take_over}
use Rattle.rules.proofs.Frames.{cipher, code, lead, signed_frame, status_back, wrapper_back}
use Rattle.rules.proofs.Moves.{secrets}
use Rattle.rules.proofs.Steps as step
use Rattle.rules.proofs.Steps.{Fine, refused}

-- what a session authenticate that signs in holds
signed_parts : (set : Settings) (M : Meaning) (s : Session) (o : Option (ℕ × List ℕ)) (u : ℕ) → by_parts set M s o ≡ Some u
    → (p : ℕ × List ℕ) × (o ≡ Some p) × (p.0 ≡ u) × ((hash : List ℕ) × (hash_of set u ≡ Some hash) × (p.1 ≡ authenticate_mac M.mac hash u s.x s.y))
signed_parts set M s None u e = absurd (none-some u e)
signed_parts set M s (Some p) u e = hashed (hash_of set p.0) refl e where
  hashed : (h : Option (List ℕ)) → hash_of set p.0 ≡ h → by_hash set M s p.0 p.1 h ≡ Some u
      → (q : ℕ × List ℕ) × (Some p ≡ Some q) × (q.0 ≡ u) × ((hash : List ℕ) × (hash_of set u ≡ Some hash) × (q.1 ≡ authenticate_mac M.mac hash u s.x s.y))
  hashed None i e = absurd (none-some u e)
  hashed (Some hash) i e = cond_both
      (same p.1 (authenticate_mac M.mac hash p.0 s.x s.y)) _ _
      (λ (r : Option ℕ). r ≡ Some u → (q : ℕ × List ℕ) × (Some p ≡ Some q) × (q.0 ≡ u) × ((h : List ℕ) × (hash_of set u ≡ Some h) × (q.1 ≡ authenticate_mac M.mac h u s.x s.y)))
      (λ y q.
      let is : p.0 ≡ u = some_some p.0 u q in
      (p, refl, is, (hash, ap (hash_of set) (sym is) ∙ i, same_true _ _ y ∙ ap (λ v. authenticate_mac M.mac hash v s.x s.y) is)))
      (λ n q. absurd (none-some u q))
      e

module _ (set : Settings) (M : Meaning) (proper : ProperSettings set) where
  pub serial_below : own_serial set < 2 ^ 48
  serial_below = let b = value_below set.serial proper.serial in let l = proper.serial_length in rw l at b

  -- an own wrapper of session m around x goes out
  module _ (g : Model) (c : Call) (m : ℕ) (s : Session) (x : List ℕ) (good : GoodSession m s) (low : 6 ≤ length x) (high : length x ≤ 474)
      (r : Step) (is_written : r.written ≡ own_wrapper set M m s x)
      (shown : octets_out r.answer (over r.written (lent c).out) ≡ Some (take (length (own_wrapper set M m s x)) (over r.written (lent c).out))) where
    back : reading (own_wrapper set M m s x) ≡ Ok (a_wrapper m s.own (own_serial set) 0 (lead m x) (nonce s.own (own_serial set) 0) (cipher M s.key m s.own (own_serial set) 0 x) (code M s.key m s.own (own_serial set) 0 x))
    back = wrapper_back M s.key m s.own (own_serial set) 0 x good.keyed good.numbered (omega (arith, good.countable)) serial_below (omega arith) low high

    abbrev opens_to : M.opened s.key (nonce s.own (own_serial set) 0) (lead m x) (cipher M s.key m s.own (own_serial set) 0 x) (code M s.key m s.own (own_serial set) 0 x) ≡ Some x
    opens_to = M.complete s.key (nonce s.own (own_serial set) 0) (lead m x) x

    pub out_here : count_of (leaving m (noted g c r)) ≡ Some s.own
    out_here = ap count_of (step.out_here set M g c m s x (own_wrapper set M m s x) s.own (own_serial set) 0 _ _ _ _ good.nonzero back refl opens_to r is_written shown)

    pub out_else : (n : ℕ) → eqb n m ≡ false → leaving n (noted g c r) ≡ None
    out_else n ne = step.out_else set M g c m s x (own_wrapper set M m s x) s.own (own_serial set) 0 _ _ _ _ good.nonzero back refl opens_to r is_written shown n ne

    pub out_kind : kind_held set M (secrets s) (leaving m (noted g c r)) ≡ Some (telegram_kind x)
    out_kind = step.out_kind set M g c m s x (own_wrapper set M m s x) s.own (own_serial set) 0 _ _ _ _ good.nonzero back refl opens_to r is_written shown

    pub out_seals : (k : ℕ) → count_of (leaving m (noted g c r)) ≡ Some k → k ≡ s.own
    out_seals k p = step.out_seals set M g c m s x (own_wrapper set M m s x) s.own (own_serial set) 0 _ _ _ _ good.nonzero back refl opens_to r is_written shown k p

    pub out_time : time_out (noted g c r) ≡ None
    out_time = step.out_time set M g c m s x (own_wrapper set M m s x) s.own (own_serial set) 0 _ _ _ _ good.nonzero back refl opens_to r is_written shown

  -- a wrapper of session m came in and opened to t
  module _ (g : Model) (frame offer : List ℕ) (lot : ℕ) (b : Buffers) (m count serial tag : ℕ) (associated nc ct mc : List ℕ)
      (rd : reading frame ≡ Ok (a_wrapper m count serial tag associated nc ct mc)) (s : Session) (t : List ℕ)
      (f : Fit g) (at : g.sessions m ≡ Some s) (ab : above s.last count ≡ true) (un : M.opened s.key nc associated ct mc ≡ Some t) where
    abbrev c : Call
    c = arrive frame offer lot b

    abbrev good : GoodSession m s
    good = f.sessions m s at

    -- a status goes out and the session ends
    ending_fine : (code' : ℕ) → eqb code' 0 ≡ false → Fine set M g c (end set M g m s code')
    ending_fine code' nz =
        step.wrapper_stops set M g frame offer lot b m count serial tag associated nc ct mc rd s t f at good.nonzero ab un (end set M g m s code') _ refl (Some (Status code'))
        (out_else g c m s (status code') good (omega arith) (omega arith) (end set M g m s code') refl refl)
        (out_kind g c m s (status code') good (omega arith) (omega arith) (end set M g m s code') refl refl ∙ ap Some (status_back code'))
        (out_seals g c m s (status code') good (omega arith) (omega arith) (end set M g m s code') refl refl)
        (out_time g c m s (status code') good (omega arith) (omega arith) (end set M g m s code') refl refl)
        (λ n k user size q. absurd (no_delivery _ refl n k user size (ap Ok q)))
        refl (rw nz refl)

    -- a close is taken and the session ends
    close_fine : closing (telegram_kind t) ≡ true → Fine set M g c (quietly (put g m None) Taken)
    close_fine cl =
        step.wrapper_stops set M g frame offer lot b m count serial tag associated nc ct mc rd s t f at good.nonzero ab un (quietly (put g m None) Taken) Taken refl None
        (λ n ne. refl) refl (λ k p. absurd (none-some k p)) refl (λ n k user size q. absurd (no_delivery (Ok Taken) refl n k user size (ap Ok q)))
        refl cl

    -- what is taken otherwise
    taken_fine : closing (telegram_kind t) ≡ false → Fine set M g c (quietly (on set M g m s count) Taken)
    taken_fine cl =
        step.wrapper_goes set M g frame offer lot b m count serial tag associated nc ct mc rd s t f at good.nonzero ab un (quietly (on set M g m s count) Taken) Taken refl None
        (λ n ne. refl) refl (λ k p. absurd (none-some k p)) refl (λ n k user size q. absurd (no_delivery (Ok Taken) refl n k user size (ap Ok q)))
        s.own s.user refl cl (omega arith) good.countable good.fresh (λ k p. absurd (none-some k p)) (λ v p. inl p)

    -- a delivery
    deliver_fine : (user : ℕ) → s.user ≡ Some user → Fine set M g c (deliver set M (on set M g m s count) m count user t)
    deliver_fine user us =
        step.wrapper_goes set M g frame offer lot b m count serial tag associated nc ct mc rd s t f at good.nonzero ab un (deliver set M (on set M g m s count) m count user t) _ refl None
        (λ n ne. refl) refl (λ k p. absurd (none-some k p)) refl
        (λ n k u size q.
        let ls : length t ≡ size = cc in
        let eu : user ≡ u = cc in
        let en : n ≡ m = cc in
        let ek : k ≡ count = cc in
        (en, ek, us ∙ ap Some eu, ap (λ j. take j (over t b.out)) (sym ls) ∙ take_over t b.out))
        s.own s.user refl refl (omega arith) good.countable good.fresh (λ k p. absurd (none-some k p)) (λ v p. inl p)

    -- a sign-in
    grant_fine : (user : ℕ) → s.user ≡ None → telegram_kind t ≡ Authenticate → signs_in set M s t ≡ Some user
        → Fine set M g c (tell set M g m s 0 (Some (opened_by s count (s.own + 1) (Some user))))
    grant_fine user us kd si =
        let r = tell set M g m s 0 (Some (opened_by s count (s.own + 1) (Some user))) in
        let zero_own : s.own ≡ 0 = good.fresh us in
        let p = signed_parts set M s (sign_in t) user si in
        let full : t ≡ authenticate user (authenticate_mac M.mac p.3.0 user s.x s.y) =
        signed_frame t p.0.0 p.0.1 kd p.1 ∙ ap (λ v. authenticate v p.0.1) p.2 ∙ ap (authenticate user) p.3.2 in
        let else = out_else g c m s (status 0) good (omega arith) (omega arith) r refl refl in
        let kinds = out_kind g c m s (status 0) good (omega arith) (omega arith) r refl refl ∙ ap Some (status_back 0) in
        let seals = out_seals g c m s (status 0) good (omega arith) (omega arith) r refl refl in
        let times = out_time g c m s (status 0) good (omega arith) (omega arith) r refl refl in
        step.wrapper_goes set M g frame offer lot b m count serial tag associated nc ct mc rd s t f at good.nonzero ab un r _ refl (Some (Status 0))
        else kinds seals times (λ n k u size q. absurd (no_delivery _ refl n k u size (ap Ok q)))
        (s.own + 1) (Some user) refl refl (omega arith) (omega arith) (λ q. absurd (none-some user (sym q)))
        (λ k q. omega (arith, seals k q))
        (λ v q. inr (subst (λ w. SignsIn set M (secrets s) m w (noted g c r)) (some_some user v q) (record {
          granted = ap (has granting) kinds;
          hash = p.3.0;
          known = p.3.1;
          frame =
              step.in_held set M g frame offer lot b m count serial tag associated nc ct mc rd s t f at good.nonzero ab un r _ refl (Some (Status 0))
              else kinds seals times (λ n k u size q. absurd (no_delivery _ refl n k u size (ap Ok q)))
              ∙ ap Some full;
        })))

    sign_fine : (o : Option ℕ) → s.user ≡ None → telegram_kind t ≡ Authenticate → signs_in set M s t ≡ o → Fine set M g c (sign set M g m s count o)
    sign_fine None us kd si = ending_fine 1 refl
    sign_fine (Some user) us kd si = grant_fine user us kd si

    act_fine : (u : Option ℕ) (q : Telegram) → s.user ≡ u → telegram_kind t ≡ q → Fine set M g c (act set M g m s count t u q)
    act_fine None Authenticate us kd = sign_fine (signs_in set M s t) us kd refl
    act_fine None (Status code') us kd = cond_both (eqb code' 5) _ _ (Fine set M g c)
        (λ e. close_fine (ap closing kd ∙ e)) (λ e. taken_fine (ap closing kd ∙ e))
    act_fine None (Good family) us kd = ending_fine 2 refl
    act_fine None Other us kd = ending_fine 2 refl
    act_fine (Some user) Authenticate us kd = taken_fine (ap closing kd)
    act_fine (Some user) (Status code') us kd = cond_both (eqb code' 5) _ _ (Fine set M g c)
        (λ e. close_fine (ap closing kd ∙ e)) (λ e. taken_fine (ap closing kd ∙ e))
    act_fine (Some user) (Good family) us kd = cond_both (may_deliver user family) _ _ (Fine set M g c)
        (λ _. deliver_fine user us) (λ _. taken_fine (ap closing kd))
    act_fine (Some user) Other us kd = taken_fine (ap closing kd)

  -- a wrapper of a session, question by question
  module _ (g : Model) (frame offer : List ℕ) (lot : ℕ) (b : Buffers) (m count serial tag : ℕ) (associated nc ct mc : List ℕ)
      (rd : reading frame ≡ Ok (a_wrapper m count serial tag associated nc ct mc)) (f : Fit g) where
    opened_fine : (s : Session) (o : Option (List ℕ)) → g.sessions m ≡ Some s → above s.last count ≡ true → M.opened s.key nc associated ct mc ≡ o
        → Fine set M g (arrive frame offer lot b) (opened_session set M g m s count o)
    opened_fine s None at ab un = refused set M g (arrive frame offer lot b) no.Opening refl f
    opened_fine s (Some t) at ab un = act_fine g frame offer lot b m count serial tag associated nc ct mc rd s t f at ab un s.user (telegram_kind t) refl refl

    pub wrapper_fine : (o : Option Session) → g.sessions m ≡ o
        → Fine set M g (arrive frame offer lot b) (wrapper_of set M g m count serial (λ s. M.opened s.key nc associated ct mc) o)
    wrapper_fine None at = refused set M g (arrive frame offer lot b) no.Session refl f
    wrapper_fine (Some s) at = cond_both (lapsed s) _ _ (Fine set M g (arrive frame offer lot b))
        (λ _. refused set M g (arrive frame offer lot b) no.Session refl f)
        (λ _. cond_both (eqb serial (own_serial set)) _ _ (Fine set M g (arrive frame offer lot b))
        (λ _. refused set M g (arrive frame offer lot b) no.OwnSerial refl f)
        (λ _. cond_both (above s.last count) _ _ (Fine set M g (arrive frame offer lot b))
        (λ ab. opened_fine s (M.opened s.key nc associated ct mc) at ab refl)
        (λ _. refused set M g (arrive frame offer lot b) no.Number refl f)))
