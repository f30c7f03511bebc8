-- Session request, pass, due, send, announce and hang up, rule by rule. Assumes nothing.
use Rattle.std.proofs.Common.{◌≡◌, ℕ, ◌^◌, ◌<◌, ◌≤◌, Bool, true, false, not, ◌&&◌, ◌||◌, eqb, ltb, leb, ◌≢◌, List, length, take, drop, is_some, Some, None, Ok, Option, sym, refl, ap, ◌∙◌, subst, inl, arith}
use Rattle.std.proofs.lemmas.Option.{none-some}
use Rattle.std.proofs.lemmas.List.{length-drop, length-take-le}
use Rattle.std.proofs.lemmas.Bool.{and_parts, both_ways, cond_both, eq-eqb, eqb-false, eqb-true, leb-true, ltb-true, ne_eqb, not-true}
use Rattle.octets.proofs.Laws.{number_below}
use Rattle.octets.specs.Laws.{Octets}
use Rattle.octets.specs.Runs.{number, over}
use Rattle.frames.proofs.ReadBack.{good_is_apart}
use Rattle.frames.specs.Headers.{headed}
use Rattle.frames.specs.Reading.{Shape, a_request, reading}
use Rattle.frames.specs.Sealing.{sealed_notice, wrapper}
use Rattle.frames.specs.Telegrams.{is_good, telegram_kind}
use Rattle.frames.specs.Writing.{no_session, status}
use Rattle.rules.specs.declared.answers.Answer.TheVariants.{Nothing, Delivered, Sealed}
use Rattle.rules.specs.declared.answers.Refusal.TheVariants as no
use Rattle.rules.specs.declared.settings.Settings.{Settings}
use Rattle.rules.specs.Calls.{Buffers, Call, Step, announce, arrive, due, hang_up, pass, quietly, send}
use Rattle.rules.specs.Fit.{Fit, GoodSession}
use Rattle.rules.specs.GroupTime.{next_time, notice_serial, notice_tag, sent_at, tag_of}
use Rattle.rules.specs.Law.{ProperSettings, arriving, came_in, count_of, ending, ends, given, group_time, is_response, milliseconds, octets_out, of_session, opens, opens_by, opens_with, readable, time_out, went_out}
use Rattle.rules.specs.Limits.{last_time, numbers, session_numbers, slots}
use Rattle.rules.specs.Making.{own_serial}
use Rattle.rules.specs.Meaning.{Meaning}
use Rattle.rules.specs.Model.{Model, Session, put}
use Rattle.rules.specs.Rules.{announce_at, announced, due_notice, due_now, end, end_lapsed, good_offer, hung_up, no_slot, notify, offer_key, offer_y, open_session, own_wrapper, passed, requested, response_to, send_in, send_signed}
use Rattle.rules.specs.Runs.{lent, noted}
use Rattle.rules.specs.Sessions.{all_waited, begun, lapsed, sent_one, waited}
use Rattle.rules.proofs.Acts.{out_else, out_kind, out_seals, out_time, serial_below}
use Rattle.rules.proofs.Counting.{Counted, count_same, counted_put, counted_same}
use Rattle.rules.proofs.Facts.{Reached, no_delivery, some_some, take_over}
use Rattle.rules.proofs.Frames.{notice_back, response_long, response_unread, status_back, wrapper_back}
use Rattle.rules.proofs.Moves.{Moves, Says, Still, about, absent, aside, goes, secrets, starts, stops}
use Rattle.rules.proofs.Steps.{Clocks, Fine, fit_put, idle, opens_none, refused}

time_later : (t : ℕ) (o : Option ℕ) → t ≤ next_time t o
time_later t None = omega arith
time_later t (Some x) = omega arith

time_above : (t : ℕ) (o : Option ℕ) (j : ℕ) → Reached o j → j < next_time t o
time_above t None j r = absurd r
time_above t (Some x) j r = omega arith

pub is_none : (o : Option Session) → not (is_some o) ≡ true → o ≡ None
is_none None e = refl
is_none (Some s) e = absurd (both_ways false refl e)

module _ (set : Settings) (M : Meaning) (proper : ProperSettings set) where
  -- SESSION REQUEST

  module _ (g : Model) (frame offer : List ℕ) (lot : ℕ) (b : Buffers) (octets : Octets offer) (f : Fit g) (x : List ℕ) (rd : reading frame ≡ Ok (a_request x)) where
    abbrev c : Call
    c = arrive frame offer lot b

    abbrev m : ℕ
    m = number 2 0 offer

    no_slot_fine : Fine set M g c (no_slot set M g)
    no_slot_fine =
        let r = no_slot set M g in
        let i : came_in (noted g c r) ≡ Some (a_request x) = ap readable rd in
        let o : went_out (noted g c r) ≡ None = ap (λ (w : List ℕ). readable (reading w)) (take_over no_session b.out) in
        record {
          moved = λ n nz. aside set M g c n r refl
              (record { no_in = ap (given (of_session n)) i; no_out = ap (given (of_session n)) o; no_delivery = λ count user size q. no_delivery _ refl n count user size q }) refl;
          fit = f;
          clocks = idle set M g c r f refl refl refl (ap (given group_time) i) (ap (given group_time) o) (ap (given (of_session 0)) i) (λ count user size q. no_delivery _ refl 0 count user size q);
          counted = λ k. k;
        }

    open_fine : length offer ≡ 50 → m ≢ 0 → g.sessions m ≡ None → g.held < slots → Fine set M g c (open_session set M g x offer)
    open_fine lo mz at room =
        let r = open_session set M g x offer in
        let mb : m < 2 ^ 16 = number_below 2 0 offer octets in
        let ly : length (offer_y set M offer) ≡ 32 = length-take-le 32 (drop 2 offer) (simp length-drop (omega arith)) in
        let lk : length (offer_key set M offer) ≡ 16 = length-take-le 16 (drop 34 offer) (simp length-drop (omega arith)) in
        let i : came_in (noted g c r) ≡ Some (a_request x) = ap readable rd in
        let o : went_out (noted g c r) ≡ None =
        ap (λ (w : List ℕ). readable (reading w)) (take_over (response_to set M x offer) b.out) ∙ response_unread M set.device m x (offer_y set M offer) proper.device_length mb ly in
        let long : eqb (length (response_to set M x offer)) 56 ≡ true = eq-eqb _ 56 (response_long M set.device m x (offer_y set M offer) proper.device_length mb ly) in
        let still : (n : ℕ) → Still n (noted g c r) = λ n. record
        { no_in = ap (given (of_session n)) i; no_out = ap (given (of_session n)) o; no_delivery = λ count user size q. no_delivery _ refl n count user size q } in
        let new = begun (offer_key set M offer) x (offer_y set M offer) in
        record {
          moved = about set M g c m (Some new) r refl (λ n ne nz. still n)
              (λ n ne nz. opens_none (is_response r.answer) (opens_by n c) (ap (opens_with n offer) rd ∙ rw ne refl))
              (subst (λ v. Moves set M m (noted g c r) v (Some new)) (sym at)
              (starts (offer_key set M offer) x (offer_y set M offer) (still m)
              (let same = eq-eqb m m refl in rw (long, rd, same) refl)));
          fit = fit_put g m (Some new) f (λ s q. subst (GoodSession m) (some_some new s q) (record { nonzero = mz; numbered = mb; keyed = lk; countable = omega arith; fresh = λ _. refl }));
          clocks = idle set M g c r f refl refl refl (ap (given group_time) i) (ap (given group_time) o) (ap (given (of_session 0)) i) (λ count user size q. no_delivery _ refl 0 count user size q);
          counted = counted_put g m (Some new) mb (λ _. room);
        }

    pub request_fine : Fine set M g c (requested set M g x offer)
    request_fine = cond_both (good_offer set M g offer) _ _ (Fine set M g c)
        (λ good.
        let p = and_parts (eqb (length offer) 50 && not (eqb m 0)) (not (is_some (g.sessions m))) good in
        let q = and_parts (eqb (length offer) 50) (not (eqb m 0)) p.0 in
        cond_both (ltb g.held slots) _ _ (Fine set M g c)
        (λ lt. open_fine (eqb-true (length offer) 50 q.0) (eqb-false m 0 (not-true (eqb m 0) q.1)) (is_none (g.sessions m) p.1) (ltb-true g.held slots lt))
        (λ _. no_slot_fine))
        (λ _. refused set M g c no.Offer refl f)

  -- PASS

  module _ (g : Model) (ms : ℕ) (f : Fit g) where
    abbrev r : Step
    r = passed set M g ms

    still : (n : ℕ) → Still n (noted g (pass ms) r)
    still n = record { no_in = refl; no_out = refl; no_delivery = λ count user size q. no_delivery _ refl n count user size q }

    waits : (n : ℕ) (o : Option Session) → Moves set M n (noted g (pass ms) r) o (all_waited ms o)
    waits n None = absent (still n) refl
    waits n (Some s) = goes s (waited ms s) refl refl
        (record { hears = λ k p. absurd (none-some k p); seals = λ k p. absurd (none-some k p); delivers = λ count user size q. absurd (no_delivery _ refl n count user size q) })
        (record { secrets_kept = refl; last_kept = λ j h. h; last_new = λ k p. absurd (none-some k p); own_kept = omega arith; own_new = λ k p. absurd (none-some k p); user_new = λ u p. inl p })

    waited_fit : (n : ℕ) (o : Option Session) → g.sessions n ≡ o → (s : Session) → all_waited ms o ≡ Some s → GoodSession n s
    waited_fit n None at s q = absurd (none-some s q)
    waited_fit n (Some t) at s q =
        let good = f.sessions n t at in
        subst (GoodSession n) (some_some (waited ms t) s q) (record { nonzero = good.nonzero; numbered = good.numbered; keyed = good.keyed; countable = good.countable; fresh = good.fresh })

    still_there : (o : Option Session) → is_some (all_waited ms o) ≡ is_some o
    still_there None = refl
    still_there (Some s) = refl

    pub pass_fine : Fine set M g (pass ms) r
    pass_fine = record {
      moved = λ n nz. waits n (g.sessions n);
      fit = record { timer = omega arith; sessions = λ n s q. waited_fit n (g.sessions n) refl s q; wanted = f.wanted; sent = f.sent };
      clocks = record {
        ticks = refl;
        later = λ x q. absurd (none-some x q);
        kept = λ j h. h;
        reached = λ x q. absurd (none-some x q);
        window = λ w q. absurd (none-some w q);
        genuine = λ count user size q. absurd (no_delivery _ refl 0 count user size q);
      };
      counted = λ k. record { is = count_same session_numbers 0 _ _ (λ n l. still_there (g.sessions n)) ∙ k.is; few = k.few };
    }

  -- AN OWN WRAPPER GOES OUT, AND NOTHING CAME IN

  module _ (g : Model) (c : Call) (m : ℕ) (s : Session) (x : List ℕ) (f : Fit g) (at : g.sessions m ≡ Some s) (low : 6 ≤ length x) (high : length x ≤ 474) (still_time : milliseconds set M c ≡ 0)
      (r : Step) (is_written : r.written ≡ own_wrapper set M m s x)
      (shown : octets_out r.answer (over r.written (lent c).out) ≡ Some (take (length (own_wrapper set M m s x)) (over r.written (lent c).out)))
      (no_in : came_in (noted g c r) ≡ None) (unopened : (n : ℕ) → opens_by n c ≡ None)
      (no_delivery : (n k user size : ℕ) → r.answer ≡ Ok (Delivered n k user size) → ⊥) where
    abbrev good : GoodSession m s
    good = f.sessions m s at

    no_arriving : (n : ℕ) → arriving n (noted g c r) ≡ None
    no_arriving n = ap (given (of_session n)) no_in

    no_opening : (n : ℕ) → opens n (noted g c r) ≡ None
    no_opening n = opens_none (is_response r.answer) (opens_by n c) (unopened n)

    others : (n : ℕ) → eqb n m ≡ false → n ≢ 0 → Still n (noted g c r)
    others n ne nz = record { no_in = no_arriving n; no_out = out_else set M proper g c m s x good low high r is_written shown n ne; no_delivery = λ k user size q. no_delivery n k user size q }

    says : Says set M m (noted g c r) s
    says = record {
      hears = λ k p. absurd (none-some k (sym (ap count_of (no_arriving m)) ∙ p));
      seals = out_seals set M proper g c m s x good low high r is_written shown;
      delivers = λ k user size q. absurd (no_delivery m k user size q);
    }

    or_false : (b d : Bool) → b || (d && false) ≡ b
    or_false true d = refl
    or_false false true = refl
    or_false false false = refl

    ends_is : ends set M (secrets s) m (noted g c r) ≡ ending (telegram_kind x)
    ends_is =
        let i = no_arriving m in
        let k = out_kind set M proper g c m s x good low high r is_written shown in
        rw (i, k) (or_false (ending (telegram_kind x)) _)

    clocks_of : r.to.timer ≡ g.timer → r.to.sent ≡ g.sent → Clocks set M g c r
    clocks_of t' s' = idle set M g c r f still_time t' s' (ap (given group_time) no_in) (out_time set M proper g c m s x good low high r is_written shown) (no_arriving 0)
        (λ k user size q. no_delivery 0 k user size q)

    out_stops : r.to ≡ put g m None → ending (telegram_kind x) ≡ true → Fine set M g c r
    out_stops to e = record {
      moved = about set M g c m None r to others (λ n ne nz. no_opening n) (subst (λ o. Moves set M m (noted g c r) o None) (sym at) (stops s (no_opening m) (ends_is ∙ e) says));
      fit = subst Fit (sym to) (fit_put g m None f (λ v q. absurd (none-some v q)));
      clocks = clocks_of (ap (λ h. h.timer) to) (ap (λ h. h.sent) to);
      counted = λ k. subst Counted (sym to) (counted_put g m None good.numbered (λ q. absurd (none-some s (sym q ∙ at))) k);
    }

    out_goes : r.to ≡ put g m (Some (sent_one s)) → ending (telegram_kind x) ≡ false → s.own < last_time → (user : ℕ) → s.user ≡ Some user → Fine set M g c r
    out_goes to e below user us = record {
      moved = about set M g c m (Some (sent_one s)) r to others (λ n ne nz. no_opening n)
          (subst (λ o. Moves set M m (noted g c r) o (Some (sent_one s))) (sym at) (goes s (sent_one s) (no_opening m) (ends_is ∙ e) says (record {
            secrets_kept = refl;
            last_kept = λ j h. h;
            last_new = λ k p. absurd (none-some k (sym (ap count_of (no_arriving m)) ∙ p));
            own_kept = omega arith;
            own_new = λ k p. omega (arith, out_seals set M proper g c m s x good low high r is_written shown k p);
            user_new = λ u p. inl p;
          })));
      fit = subst Fit (sym to) (fit_put g m (Some (sent_one s)) f (λ v q. subst (GoodSession m) (some_some (sent_one s) v q) (record
          { nonzero = good.nonzero; numbered = good.numbered; keyed = good.keyed; countable = omega arith; fresh = λ z. absurd (none-some user (sym z ∙ us)) })));
      clocks = clocks_of (ap (λ h. h.timer) to) (ap (λ h. h.sent) to);
      counted = λ k. subst Counted (sym to) (counted_put g m (Some (sent_one s)) good.numbered (λ q. absurd (none-some s (sym q ∙ at))) k);
    }

  -- HANG UP

  module _ (g : Model) (n : ℕ) (b : Buffers) (f : Fit g) where
    pub hang_up_fine : (o : Option Session) → g.sessions n ≡ o → Fine set M g (hang_up n b) (hung_up set M g n o)
    hang_up_fine None at = refused set M g (hang_up n b) no.Session refl f
    hang_up_fine (Some s) at = cond_both (lapsed s) _ _ (Fine set M g (hang_up n b))
        (λ _. refused set M g (hang_up n b) no.Session refl f)
        (λ _. out_stops g (hang_up n b) n s (status 5) f at (omega arith) (omega arith) refl (end set M g n s 5) refl refl refl (λ k. refl) (λ k j u z q. no_delivery _ refl k j u z q) refl (ap ending (status_back 5)))

  -- SEND

  good_length : (t : List ℕ) → is_good t ≡ true → (6 ≤ length t) × (length t ≤ 474)
  good_length t e =
      let p = and_parts (headed t && leb (length t) 474) _ e in
      let q = and_parts (headed t) (leb (length t) 474) p.0 in
      let h = and_parts _ _ (and_parts _ _ (and_parts _ _ q.0).0).0 in
      (leb-true 6 (length t) h.0, leb-true (length t) 474 q.1)

  module _ (g : Model) (n : ℕ) (t : List ℕ) (b : Buffers) (f : Fit g) where
    signed_fine : (s : Session) (o : Option ℕ) → g.sessions n ≡ Some s → s.user ≡ o → is_good t ≡ true → Fine set M g (send n t b) (send_signed set M g n s t o)
    signed_fine s None at us good = refused set M g (send n t b) no.SignIn refl f
    signed_fine s (Some user) at us good =
        let l = good_length t good in
        cond_both (ltb s.own last_time) _ _ (Fine set M g (send n t b))
        (λ lt. out_goes g (send n t b) n s t f at l.0 l.1 refl
        (record { to = put g n (Some (sent_one s)); answer = Ok (Sealed (length (own_wrapper set M n s t)) s.own); written = own_wrapper set M n s t })
        refl refl refl (λ k. refl) (λ k j u z q. no_delivery _ refl k j u z q) refl (ap ending (good_is_apart t good)) (ltb-true s.own last_time lt) user us)
        (λ _. refused set M g (send n t b) no.NumbersSpent refl f)

    pub send_fine : (o : Option Session) → g.sessions n ≡ o → Fine set M g (send n t b) (send_in set M g n t o)
    send_fine None at = refused set M g (send n t b) no.Session refl f
    send_fine (Some s) at = cond_both (lapsed s) _ _ (Fine set M g (send n t b))
        (λ _. refused set M g (send n t b) no.Session refl f)
        (λ _. cond_both (is_good t) _ _ (Fine set M g (send n t b))
        (λ good. signed_fine s s.user at refl good)
        (λ _. refused set M g (send n t b) no.Telegram refl f))

  -- A FRAME GOES TO THE GROUP, AND NOTHING CAME IN

  module _ (g : Model) (c : Call) (time : ℕ) (f : Fit g) (is : time ≡ next_time g.timer g.sent) (below : time < numbers) (still_time : milliseconds set M c ≡ 0)
      (r : Step) (shape : Shape) (shown : went_out (noted g c r) ≡ Some shape) (timed : group_time shape ≡ Some time) (aside_from : (n : ℕ) → n ≢ 0 → of_session n shape ≡ None)
      (no_in : came_in (noted g c r) ≡ None) (unopened : (n : ℕ) → opens_by n c ≡ None)
      (no_delivery : (n k user size : ℕ) → r.answer ≡ Ok (Delivered n k user size) → ⊥)
      (sessions_are : r.to.sessions ≡ g.sessions) (held_is : r.to.held ≡ g.held) (timer_is : r.to.timer ≡ time) (sent_is : r.to.sent ≡ Some time)
      (wanted_fit : (w : ℕ × ℕ) → r.to.wanted ≡ Some w → (w.0 < 2 ^ 48) × (w.1 < 2 ^ 16)) where
    out_is : time_out (noted g c r) ≡ Some time
    out_is = ap (given group_time) shown ∙ timed

    group_sent_fine : Fine set M g c r
    group_sent_fine = record {
      moved = λ n nz. aside set M g c n r sessions_are
          (record { no_in = ap (given (of_session n)) no_in; no_out = ap (given (of_session n)) shown ∙ aside_from n nz; no_delivery = λ k user size q. no_delivery n k user size q })
          (opens_none (is_response r.answer) (opens_by n c) (unopened n));
      fit = record { timer = omega arith; sessions = λ n s q. f.sessions n s (sym (ap (λ h. h n) sessions_are) ∙ q); wanted = wanted_fit; sent = λ x q. let same = some_some time x (sym sent_is ∙ q) in omega arith };
      clocks = record {
        ticks = rw (ap (given group_time) no_in, out_is, still_time) (timer_is ∙ omega (arith, f.timer, time_later g.timer g.sent));
        later = λ x q j h. let same = some_some time x (sym out_is ∙ q) in omega (arith, time_above g.timer g.sent j h);
        kept = λ j h. rw sent_is (omega (arith, time_above g.timer g.sent j h));
        reached = λ x q. let same = some_some time x (sym out_is ∙ q) in rw sent_is (omega arith);
        window = λ w q. absurd (none-some w (sym (ap (given (of_session 0)) no_in) ∙ q));
        genuine = λ k user size q. absurd (no_delivery 0 k user size q);
      };
      counted = counted_same g r.to sessions_are held_is;
    }

  -- ANNOUNCE

  module _ (g : Model) (t : List ℕ) (lot : ℕ) (b : Buffers) (f : Fit g) where
    abbrev at_time : ℕ
    at_time = next_time g.timer g.sent

    abbrev announced_octets : List ℕ
    announced_octets = wrapper M.ciphertext M.mac set.group 0 at_time (own_serial set) (tag_of lot) t

    announce_at_fine : is_good t ≡ true → Fine set M g (announce t lot b) (announce_at set M g t lot at_time)
    announce_at_fine good =
        let l = good_length t good in
        cond_both (ltb at_time numbers) _ _ (Fine set M g (announce t lot b))
        (λ lt.
        let below = ltb-true at_time numbers lt in
        let r : Step = record { to = sent_at g at_time; answer = Ok (Sealed (length announced_octets) at_time); written = announced_octets } in
        group_sent_fine g (announce t lot b) at_time f refl below refl r _
        (ap (λ (w : List ℕ). readable (reading w)) (take_over announced_octets b.out)
        ∙ ap readable (wrapper_back M set.group 0 at_time (own_serial set) (tag_of lot) t proper.group_length (omega arith) below (serial_below set M proper) (omega arith) l.0 l.1))
        refl (λ n nz. let z = ne_eqb n 0 nz in rw z refl)
        refl (λ k. refl) (λ k j u z q. no_delivery _ refl k j u z q) refl refl refl refl f.wanted)
        (λ _. refused set M g (announce t lot b) no.TimesSpent refl f)

    pub announce_fine : Fine set M g (announce t lot b) (announced set M g t lot)
    announce_fine = cond_both (is_good t) _ _ (Fine set M g (announce t lot b)) announce_at_fine (λ _. refused set M g (announce t lot b) no.Telegram refl f)

  -- DUE

  module _ (g : Model) (lot : ℕ) (b : Buffers) (f : Fit g) where
    nothing_fine : Fine set M g (due lot b) (quietly g Nothing)
    nothing_fine = record {
      moved = λ n nz. aside set M g (due lot b) n (quietly g Nothing) refl (record { no_in = refl; no_out = refl; no_delivery = λ k user size q. no_delivery _ refl n k user size q }) refl;
      fit = f;
      clocks = idle set M g (due lot b) (quietly g Nothing) f refl refl refl refl refl refl (λ k user size q. no_delivery _ refl 0 k user size q);
      counted = λ k. k;
    }

    serial_fits : (o : Option (ℕ × ℕ)) → ((w : ℕ × ℕ) → o ≡ Some w → (w.0 < 2 ^ 48) × (w.1 < 2 ^ 16)) → notice_serial o (own_serial set) < 2 ^ 48
    serial_fits None h = serial_below set M proper
    serial_fits (Some w) h = (h w refl).0

    tag_fits : (o : Option (ℕ × ℕ)) → ((w : ℕ × ℕ) → o ≡ Some w → (w.0 < 2 ^ 48) × (w.1 < 2 ^ 16)) → notice_tag o lot < 2 ^ 16
    tag_fits None h = omega arith
    tag_fits (Some w) h = (h w refl).1

    abbrev due_time : ℕ
    due_time = next_time g.timer g.sent

    abbrev notice_octets : List ℕ
    notice_octets = sealed_notice M.mac set.group due_time (notice_serial g.wanted (own_serial set)) (notice_tag g.wanted lot)

    notice_fine : Fine set M g (due lot b) (due_notice set M g lot)
    notice_fine = cond_both (eqb g.countdown 0 && ltb due_time numbers) _ _ (Fine set M g (due lot b))
        (λ y.
        let below = ltb-true due_time numbers (and_parts (eqb g.countdown 0) (ltb due_time numbers) y).1 in
        group_sent_fine g (due lot b) due_time f refl below refl (notify set M g due_time lot) _
        (ap (λ (w : List ℕ). readable (reading w)) (take_over notice_octets b.out)
        ∙ ap readable (notice_back M set.group due_time (notice_serial g.wanted (own_serial set)) (notice_tag g.wanted lot) proper.group_length below (serial_fits g.wanted f.wanted) (tag_fits g.wanted f.wanted)))
        refl (λ n nz. refl)
        refl (λ k. refl) (λ k j u z q. no_delivery _ refl k j u z q) refl refl refl refl (λ w q. absurd (none-some w q)))
        (λ _. nothing_fine)

    lapsed_fine : (n : ℕ) (o : Option Session) → g.sessions n ≡ o → Fine set M g (due lot b) (end_lapsed set M g n o)
    lapsed_fine n None at = nothing_fine
    lapsed_fine n (Some s) at = out_stops g (due lot b) n s (status 3) f at (omega arith) (omega arith) refl (end set M g n s 3) refl refl refl (λ k. refl) (λ k j u z q. no_delivery _ refl k j u z q) refl (ap ending (status_back 3))

    pub due_fine : (o : Option ℕ) → Fine set M g (due lot b) (due_now set M g lot o)
    due_fine None = notice_fine
    due_fine (Some n) = lapsed_fine n (g.sessions n) refl
