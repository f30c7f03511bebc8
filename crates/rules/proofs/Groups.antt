-- Frames of the group that arrive, rule by rule. Assumes nothing.
use Rattle.std.proofs.Common.{◌≡◌, ℕ, ◌+◌, ◌^◌, ◌<◌, max, true, eqb, ltb, ◌≢◌, ◌↔◌, List, length, take, Some, None, Ok, Option, sym, refl, ap, ◌∙◌, subst, arith}
use Rattle.std.proofs.lemmas.Option.{none-some}
use Rattle.std.proofs.lemmas.Bool.{cond_both, lt-ltb, ltb-false, ltb-true, ne_eqb}
use Rattle.octets.proofs.Laws.{number_below}
use Rattle.octets.specs.Laws.{Octets}
use Rattle.octets.specs.Runs.{over}
use Rattle.frames.specs.Reading.{a_notice, a_wrapper, reading}
use Rattle.frames.specs.Telegrams.{is_good}
use Rattle.rules.specs.declared.answers.Answer.{Answer}
use Rattle.rules.specs.declared.answers.Answer.TheVariants.{Delivered, Taken}
use Rattle.rules.specs.declared.answers.Refusal.{Refusal}
use Rattle.rules.specs.declared.answers.Refusal.TheVariants as no
use Rattle.rules.specs.declared.settings.Settings.{Settings}
use Rattle.rules.specs.Calls.{Buffers, Call, Step, arrive, quietly}
use Rattle.rules.specs.GroupTime.{follow, heard, want_reply, wanting, within}
use Rattle.rules.specs.Law.{Genuine, Wrapped, accepted, arriving, came_in, delivered, given, group_time, is_response, leaving, of_session, opens, opens_by, opens_with, readable, time_in, time_out}
use Rattle.rules.specs.Making.{latency, own_serial, sync}
use Rattle.rules.specs.Meaning.{Meaning}
use Rattle.rules.specs.Model.{Model}
use Rattle.rules.specs.Rules.{deliver, group_good, group_opened, group_wrapper, noticed}
use Rattle.rules.specs.Runs.{noted}
use Rattle.rules.specs.Fit.{Fit}
use Rattle.rules.proofs.Counting.{counted_same}
use Rattle.rules.proofs.Facts.{no_delivery, ok_ok, some_some, take_over}
use Rattle.rules.proofs.Frames.{notice_read, wrapper_read}
use Rattle.rules.proofs.Moves.{Still, aside}
use Rattle.rules.proofs.Steps.{Fine, opens_none, refused}

-- the gateway after a frame of the group: the timer is the larger of the two times
record Heard (g : Model) (time : ℕ) (h : Model) : Type 0 where
  timer_is : h.timer ≡ max g.timer time
  sent_is : h.sent ≡ g.sent
  sessions_are : h.sessions ≡ g.sessions
  held_is : h.held ≡ g.held
  fit : Fit h

wanting_fit : (w : Option (ℕ × ℕ)) (serial tag : ℕ) → serial < 2 ^ 48 → tag < 2 ^ 16 → ((v : ℕ × ℕ) → w ≡ Some v → (v.0 < 2 ^ 48) × (v.1 < 2 ^ 16))
    → (v : ℕ × ℕ) → wanting w serial tag ≡ Some v → (v.0 < 2 ^ 48) × (v.1 < 2 ^ 16)
wanting_fit None serial tag s t f v e = let is = some_some (serial, tag) v e in subst (λ (p : ℕ × ℕ). (p.0 < 2 ^ 48) × (p.1 < 2 ^ 16)) is (s, t)
wanting_fit (Some w) serial tag s t f v e = f v e

module _ (set : Settings) (g : Model) (time serial tag lot : ℕ) (f : Fit g) (tb : time < 2 ^ 48) (sb : serial < 2 ^ 48) (gb : tag < 2 ^ 16) where
  heard_is : Heard g time (heard set g time serial tag lot)
  heard_is = cond_both (ltb g.timer time) (follow set g time lot) _ (Heard g time)
      (λ e. record { timer_is = omega (arith, ltb-true g.timer time e); sent_is = refl; sessions_are = refl; held_is = refl; fit = record { timer = omega arith; sessions = f.sessions; wanted = λ w q. absurd (none-some w q); sent = f.sent } })
      (λ late. let le = ltb-false g.timer time late in
      cond_both (within g.timer (sync set) time) (follow set g g.timer lot) _ (Heard g time)
      (λ _. record { timer_is = omega arith; sent_is = refl; sessions_are = refl; held_is = refl; fit = record { timer = f.timer; sessions = f.sessions; wanted = λ w q. absurd (none-some w q); sent = f.sent } })
      (λ _. cond_both (within g.timer (latency set) time) g (want_reply set g serial tag lot) (Heard g time)
      (λ _. record { timer_is = omega arith; sent_is = refl; sessions_are = refl; held_is = refl; fit = f })
      (λ _. record { timer_is = omega arith; sent_is = refl; sessions_are = refl; held_is = refl; fit = record { timer = f.timer; sessions = f.sessions; wanted = wanting_fit g.wanted serial tag sb gb f.wanted; sent = f.sent } })))

module _ (set : Settings) (M : Meaning) (g : Model) (frame offer : List ℕ) (lot : ℕ) (b : Buffers) (octets : Octets frame) (f : Fit g) where
  abbrev c : Call
  c = arrive frame offer lot b

  -- a wrapper of the group that opened
  module _ (time serial tag : ℕ) (associated nc ct mc : List ℕ) (rd : reading frame ≡ Ok (a_wrapper 0 time serial tag associated nc ct mc)) (t : List ℕ)
      (un : M.opened set.group nc associated ct mc ≡ Some t) where
    time_below : time < 2 ^ 48
    time_below = subst (λ n. n < 2 ^ 48) (wrapper_read frame 0 time serial tag associated nc ct mc rd).numbered (number_below 6 8 frame octets)

    serial_fits : serial < 2 ^ 48
    serial_fits = subst (λ n. n < 2 ^ 48) (wrapper_read frame 0 time serial tag associated nc ct mc rd).serial_is (number_below 6 14 frame octets)

    tag_fits : tag < 2 ^ 16
    tag_fits = subst (λ n. n < 2 ^ 16) (wrapper_read frame 0 time serial tag associated nc ct mc rd).tag_is (number_below 2 20 frame octets)

    h : Heard g time (heard set g time serial tag lot)
    h = heard_is set g time serial tag lot f time_below serial_fits tag_fits

    abbrev blade : Wrapped
    blade = record { count = time; associated = associated; nonce = nc; ciphertext = ct; mac = mc }

    -- a step that answers a and goes on as the frame has it
    module _ (r : Step) (a : Answer) (ok : r.answer ≡ Ok a) (to : r.to ≡ heard set g time serial tag lot)
        (no_out : (n : ℕ) → leaving n (noted g c r) ≡ None) (no_time : time_out (noted g c r) ≡ None)
        (yes : delivered (Ok a) ≡ within g.timer (latency set) time)
        (delivers : (n k user size : ℕ) → a ≡ Delivered n k user size → (n ≡ 0) × (k ≡ time) × (user ≡ 0) × (take size (over r.written b.out) ≡ t)) where
      in_shape : came_in (noted g c r) ≡ Some (a_wrapper 0 time serial tag associated nc ct mc)
      in_shape = ap (accepted c) ok ∙ ap readable rd

      no_opening : (n : ℕ) → opens n (noted g c r) ≡ None
      no_opening n = opens_none (is_response r.answer) (opens_by n c) (ap (opens_with n offer) rd)

      delivery : (n k user size : ℕ) → r.answer ≡ Ok (Delivered n k user size) → (n ≡ 0) × (k ≡ time) × (user ≡ 0) × (take size (over r.written b.out) ≡ t)
      delivery n k user size q = delivers n k user size (ok_ok {E = Refusal} a (Delivered n k user size) (sym ok ∙ q))

      time_is : time_in (noted g c r) ≡ Some time
      time_is = ap (given group_time) in_shape

      still : (n : ℕ) → n ≢ 0 → Still n (noted g c r)
      still n nz = record {
        no_in = let z = ne_eqb n 0 nz in ap (given (of_session n)) in_shape ∙ rw z refl;
        no_out = no_out n;
        no_delivery = λ k user size q. nz (delivery n k user size q).0;
      }

      genuine : (k user size : ℕ) → r.answer ≡ Ok (Delivered 0 k user size) → (user ≡ 0) × Genuine set M set.group 0 k size (noted g c r)
      genuine k user size q =
          let d = delivery 0 k user size q in
          let p = wrapper_read frame 0 time serial tag associated nc ct mc rd in
          let back = M.sound set.group nc associated ct mc t un in (
            d.2,
            record {
              session = p.session;
              numbered = p.numbered ∙ sym d.1;
              sealed = rw (p.data_is, p.nonce_is, d.3, back.0, back.1) (sym p.whole_is);
            },
          )

      windowed : (w : Wrapped) → arriving 0 (noted g c r) ≡ Some w → (delivered r.answer ≡ true) ↔ (g.timer < w.count + latency set)
      windowed w q =
          let same : blade ≡ w = some_some blade w (sym (ap (given (of_session 0)) in_shape) ∙ q) in
          let ct' : time ≡ w.count = ap (λ v. v.count) same in
          let dl : delivered r.answer ≡ within g.timer (latency set) time = ap delivered ok ∙ yes in (
            λ d. subst (λ n. g.timer < n + latency set) ct' (ltb-true g.timer (time + latency set) (sym dl ∙ d)),
            λ lt. dl ∙ lt-ltb g.timer (time + latency set) (subst (λ n. g.timer < n + latency set) (sym ct') lt),
          )

      pub group_fine : Fine set M g c r
      group_fine = record {
        moved = λ n nz. aside set M g c n r (ap (λ k. k.sessions) to ∙ h.sessions_are) (still n nz) (no_opening n);
        fit = subst Fit (sym to) h.fit;
        clocks = record {
          ticks = rw (time_is, no_time) (ap (λ k. k.timer) to ∙ h.timer_is ∙ omega (arith, f.timer, time_below));
          later = λ x q. absurd (none-some x (sym no_time ∙ q));
          kept = λ j q. rw (ap (λ k. k.sent) to ∙ h.sent_is) q;
          reached = λ x q. absurd (none-some x (sym no_time ∙ q));
          window = windowed;
          genuine = genuine;
        };
        counted = counted_same g r.to (ap (λ k. k.sessions) to ∙ h.sessions_are) (ap (λ k. k.held) to ∙ h.held_is);
      }

    good_fine : Fine set M g c (group_good set M g time serial tag lot t)
    good_fine = cond_both (within g.timer (latency set) time) _ _ (Fine set M g c)
        (λ w. group_fine (deliver set M (heard set g time serial tag lot) 0 time 0 t) _ refl refl (λ n. refl) refl (sym w)
        (λ n k user size q.
        let ls : length t ≡ size = cc in
        let en : n ≡ 0 = cc in
        let ek : k ≡ time = cc in
        let eu : user ≡ 0 = cc in
        (en, ek, eu, ap (λ j. take j (over t b.out)) (sym ls) ∙ take_over t b.out)))
        (λ w. group_fine (quietly (heard set g time serial tag lot) Taken) Taken refl refl (λ n. refl) refl (sym w) (λ n k user size q. absurd (no_delivery (Ok Taken) refl n k user size (ap Ok q))))

  module _ (time serial tag : ℕ) (associated nc ct mc : List ℕ) (rd : reading frame ≡ Ok (a_wrapper 0 time serial tag associated nc ct mc)) where
    opened_fine : (o : Option (List ℕ)) → M.opened set.group nc associated ct mc ≡ o → Fine set M g c (group_opened set M g time serial tag lot o)
    opened_fine None un = refused set M g c no.Opening refl f
    opened_fine (Some t) un = cond_both (is_good t) _ _ (Fine set M g c) (λ _. good_fine time serial tag associated nc ct mc rd t un) (λ _. refused set M g c no.Telegram refl f)

    pub group_wrapper_fine : Fine set M g c (group_wrapper set M g time serial tag lot (M.opened set.group nc associated ct mc))
    group_wrapper_fine = cond_both (eqb serial (own_serial set)) _ _ (Fine set M g c)
        (λ _. refused set M g c no.OwnSerial refl f)
        (λ _. opened_fine (M.opened set.group nc associated ct mc) refl)

  -- a timer notify
  module _ (time serial tag : ℕ) (associated nc mc : List ℕ) (rd : reading frame ≡ Ok (a_notice time serial tag associated nc mc)) where
    abbrev r : Step
    r = quietly (heard set g time serial tag lot) Taken

    in_notice : came_in (noted g c r) ≡ Some (a_notice time serial tag associated nc mc)
    in_notice = ap readable rd

    time_fits : time < 2 ^ 48
    time_fits = subst (λ n. n < 2 ^ 48) (notice_read frame time serial tag associated nc mc rd).time_is (number_below 6 6 frame octets)

    k : Heard g time (heard set g time serial tag lot)
    k = heard_is set g time serial tag lot f time_fits
        (subst (λ n. n < 2 ^ 48) (notice_read frame time serial tag associated nc mc rd).serial_is (number_below 6 12 frame octets))
        (subst (λ n. n < 2 ^ 16) (notice_read frame time serial tag associated nc mc rd).tag_is (number_below 2 18 frame octets))

    none_in : (n : ℕ) → arriving n (noted g c r) ≡ None
    none_in n = ap (given (of_session n)) in_notice

    taken_notice : Fine set M g c r
    taken_notice = record {
      moved = λ n nz. aside set M g c n r k.sessions_are (record { no_in = none_in n; no_out = refl; no_delivery = λ count user size q. no_delivery (Ok Taken) refl n count user size q }) refl;
      fit = k.fit;
      clocks = record {
        ticks = let i : time_in (noted g c r) ≡ Some time = ap (given group_time) in_notice in rw i (k.timer_is ∙ omega (arith, f.timer, time_fits));
        later = λ x q. absurd (none-some x q);
        kept = λ j q. rw k.sent_is q;
        reached = λ x q. absurd (none-some x q);
        window = λ w q. absurd (none-some w (sym (none_in 0) ∙ q));
        genuine = λ count user size q. absurd (no_delivery (Ok Taken) refl 0 count user size q);
      };
      counted = counted_same g r.to k.sessions_are k.held_is;
    }

    pub notice_fine : (o : Option (List ℕ)) → Fine set M g c (noticed set M g time serial tag lot o)
    notice_fine None = refused set M g c no.Opening refl f
    notice_fine (Some t) = taken_notice
