-- What every step of the rules keeps: sessions move as the law has it, the gateway stays fit, and the timer is accounted for.
-- Assumes nothing.
use Rattle.std.proofs.Common.{◌≡◌, ℕ, ◌+◌, ◌<◌, ◌≤◌, min, Bool, true, false, cond, ◌&&◌, ◌||◌, eqb, ◌≢◌, ◌⊎◌, List, length, take, Some, None, Ok, Err, Option, Result, sym, refl, ap, ◌∙◌, subst, arith}
use Rattle.std.proofs.lemmas.Option.{none-some}
use Rattle.std.proofs.lemmas.Bool.{both_ways, eq-eqb, eqb-true, ne_eqb}
use Rattle.octets.specs.Runs.{over}
use Rattle.frames.specs.Reading.{a_wrapper, reading}
use Rattle.frames.specs.Telegrams.{telegram_kind}
use Rattle.frames.specs.declared.telegrams.Telegram.{Telegram}
use Rattle.rules.specs.declared.answers.Answer.{Answer}
use Rattle.rules.specs.declared.answers.Answer.TheVariants.{Delivered}
use Rattle.rules.specs.declared.answers.Refusal.{Refusal}
use Rattle.rules.specs.declared.settings.Settings.{Settings}
use Rattle.rules.specs.Calls.{Buffers, Call, Step, arrive, refuse}
use Rattle.rules.specs.Fit.{Fit, GoodSession}
use Rattle.rules.specs.Law.{Genuine, GenuineInGroup, Secrets, SignsIn, Window, Wrapped, accepted, arriving, came_in, closing, count_of, ending, ends, given, group_time, has, held, is_response, kind_held, larger, leaving, milliseconds, octets_out, of_session, opens, opens_by, opens_with, readable, taken, time_in, time_out, went_out}
use Rattle.rules.specs.Limits.{last_time}
use Rattle.rules.specs.Meaning.{Meaning}
use Rattle.rules.specs.Model.{Model, Session, put}
use Rattle.rules.specs.Runs.{Event, lent, noted}
use Rattle.rules.specs.Sessions.{above, opened_by}
use Rattle.rules.proofs.Counting.{Counted, counted_put}
use Rattle.rules.proofs.Facts.{Reached, no_delivery, ok_ok, some_some, take_over}
use Rattle.rules.proofs.Frames.{wrapper_read}
use Rattle.rules.proofs.Moves.{Moved, Moves, Says, Still, about, above_reached, aside, goes, secrets, stops}

pub fit_put : (g : Model) (n : ℕ) (o : Option Session) → Fit g → ((s : Session) → o ≡ Some s → GoodSession n s) → Fit (put g n o)
fit_put g n o f h = record { timer = f.timer; sessions = go; wanted = f.wanted; sent = f.sent } where
  go : (m : ℕ) (s : Session) → cond (eqb m n) o (g.sessions m) ≡ Some s → GoodSession m s
  go m s = at (eqb m n) refl where
    at : (b : Bool) → eqb m n ≡ b → cond b o (g.sessions m) ≡ Some s → GoodSession m s
    at true e p = subst (λ k. GoodSession k s) (sym (eqb-true m n e)) (h s p)
    at false e p = f.sessions m s p

pub opens_none : (b : Bool) (o : Option Secrets) → o ≡ None → cond b o None ≡ None
opens_none true o e = e
opens_none false o e = refl

module _ (set : Settings) (M : Meaning) where
  pub record Clocks (g : Model) (c : Call) (r : Step) : Type 0 where
    pub ticks : r.to.timer ≡ min last_time (larger set M (time_in (noted g c r)) 0 (larger set M (time_out (noted g c r)) 0 (g.timer + milliseconds set M c)))
    pub later : (x : ℕ) → time_out (noted g c r) ≡ Some x → (j : ℕ) → Reached g.sent j → j < x
    pub kept : (j : ℕ) → Reached g.sent j → Reached r.to.sent j
    pub reached : (x : ℕ) → time_out (noted g c r) ≡ Some x → Reached r.to.sent x
    pub window : Window set M (noted g c r)
    pub genuine : GenuineInGroup set M (noted g c r)

  pub record Fine (g : Model) (c : Call) (r : Step) : Type 0 where
    pub moved : (n : ℕ) → n ≢ 0 → Moved set M g c n r
    pub fit : Fit r.to
    pub clocks : Clocks g c r
    pub counted : Counted g → Counted r.to

  -- a step that is not of the group
  pub idle : (g : Model) (c : Call) (r : Step) → Fit g → milliseconds set M c ≡ 0 → r.to.timer ≡ g.timer → r.to.sent ≡ g.sent
      → time_in (noted g c r) ≡ None → time_out (noted g c r) ≡ None → arriving 0 (noted g c r) ≡ None
      → ((count user size : ℕ) → r.answer ≡ Ok (Delivered 0 count user size) → ⊥) → Clocks g c r
  idle g c r f p t se i o w d = record {
    ticks = rw (i, o, p, t) (omega (arith, f.timer));
    later = λ x q. absurd (none-some x (sym o ∙ q));
    kept = λ j h. rw se h;
    reached = λ x q. absurd (none-some x (sym o ∙ q));
    window = λ v q. absurd (none-some v (sym w ∙ q));
    genuine = λ count user size q. absurd (d count user size q);
  }

  pub refused : (g : Model) (c : Call) (why : Refusal) → milliseconds set M c ≡ 0 → Fit g → Fine g c (refuse g why)
  refused g c why p f = record {
    moved = λ n nz. aside set M g c n (refuse g why) refl (record { no_in = refl; no_out = refl; no_delivery = λ count user size q. no_delivery (Err why) refl _ count user size q }) refl;
    fit = f;
    clocks = idle g c (refuse g why) f p refl refl refl refl refl (λ count user size q. no_delivery (Err why) refl _ count user size q);
    counted = λ k. k;
  }

  -- A WRAPPER OF A SESSION GOES OUT

  module _ (g : Model) (c : Call) (m : ℕ) (s : Session) (t w : List ℕ) (own serial tag : ℕ) (lead about' cipher code : List ℕ)
      (nz : m ≢ 0) (back : reading w ≡ Ok (a_wrapper m own serial tag lead about' cipher code)) (mine : own ≡ s.own)
      (opens_to : M.opened s.key about' lead cipher code ≡ Some t)
      (r : Step) (is_written : r.written ≡ w) (shown : octets_out r.answer (over r.written (lent c).out) ≡ Some (take (length w) (over r.written (lent c).out))) where
    abbrev leaf : Wrapped
    leaf = record { count = own; associated = lead; nonce = about'; ciphertext = cipher; mac = code }

    out_shape : went_out (noted g c r) ≡ Some (a_wrapper m own serial tag lead about' cipher code)
    out_shape =
        ap (given (λ f. readable (reading f))) shown
        ∙ ap (λ (x : List ℕ). readable (reading (take (length w) (over x (lent c).out)))) is_written
        ∙ ap (λ (x : List ℕ). readable (reading x)) (take_over w (lent c).out)
        ∙ ap readable back

    pub out_here : leaving m (noted g c r) ≡ Some leaf
    out_here = let same = eq-eqb m m refl in ap (given (of_session m)) out_shape ∙ rw same refl

    pub out_else : (n : ℕ) → eqb n m ≡ false → leaving n (noted g c r) ≡ None
    out_else n ne = ap (given (of_session n)) out_shape ∙ rw ne refl

    pub out_kind : kind_held set M (secrets s) (leaving m (noted g c r)) ≡ Some (telegram_kind t)
    out_kind = ap (kind_held set M (secrets s)) out_here ∙ ap (given (λ (x : List ℕ). Some (telegram_kind x))) opens_to

    pub out_seals : (k : ℕ) → count_of (leaving m (noted g c r)) ≡ Some k → k ≡ s.own
    out_seals k p = let q : Some own ≡ Some k = sym (ap count_of out_here) ∙ p in sym (some_some own k q) ∙ mine

    pub out_time : time_out (noted g c r) ≡ None
    out_time = let z = ne_eqb m 0 nz in ap (given group_time) out_shape ∙ rw z refl

  -- A WRAPPER OF A SESSION CAME IN AND OPENED

  module _ (g : Model) (frame offer : List ℕ) (lot : ℕ) (b : Buffers) (m count serial tag : ℕ) (associated nc ct mc : List ℕ)
      (rd : reading frame ≡ Ok (a_wrapper m count serial tag associated nc ct mc)) (s : Session) (t : List ℕ)
      (f : Fit g) (at : g.sessions m ≡ Some s) (nz : m ≢ 0) (ab : above s.last count ≡ true) (un : M.opened s.key nc associated ct mc ≡ Some t)
      (r : Step) (a : Answer) (ok : r.answer ≡ Ok a) (ko : Option Telegram)
      (else : (n : ℕ) → eqb n m ≡ false → leaving n (noted g (arrive frame offer lot b) r) ≡ None)
      (here : kind_held set M (secrets s) (leaving m (noted g (arrive frame offer lot b) r)) ≡ ko)
      (seals : (k : ℕ) → count_of (leaving m (noted g (arrive frame offer lot b) r)) ≡ Some k → k ≡ s.own)
      (no_time : time_out (noted g (arrive frame offer lot b) r) ≡ None)
      (delivers : (n k user size : ℕ) → a ≡ Delivered n k user size → (n ≡ m) × (k ≡ count) × (s.user ≡ Some user) × (take size (over r.written b.out) ≡ t)) where
    abbrev e : Event
    e = noted g (arrive frame offer lot b) r

    abbrev blade : Wrapped
    blade = record { count = count; associated = associated; nonce = nc; ciphertext = ct; mac = mc }

    in_shape : came_in e ≡ Some (a_wrapper m count serial tag associated nc ct mc)
    in_shape = ap (accepted (arrive frame offer lot b)) ok ∙ ap readable rd

    in_here : arriving m e ≡ Some blade
    in_here = let same = eq-eqb m m refl in ap (given (of_session m)) in_shape ∙ rw same refl

    in_else : (n : ℕ) → eqb n m ≡ false → arriving n e ≡ None
    in_else n ne = ap (given (of_session n)) in_shape ∙ rw ne refl

    pub in_held : held set M (secrets s) (arriving m e) ≡ Some t
    in_held = ap (held set M (secrets s)) in_here ∙ un

    in_kind : kind_held set M (secrets s) (arriving m e) ≡ Some (telegram_kind t)
    in_kind = ap (given (λ (x : List ℕ). Some (telegram_kind x))) in_held

    in_time : time_in e ≡ None
    in_time = let z = ne_eqb m 0 nz in ap (given group_time) in_shape ∙ rw z refl

    no_opening : (n : ℕ) → opens n e ≡ None
    no_opening n = opens_none (is_response r.answer) (opens_by n (arrive frame offer lot b)) (ap (opens_with n offer) rd)

    ends_is : ends set M (secrets s) m e ≡ has ending ko || (taken (Ok a) && closing (telegram_kind t))
    ends_is =
        ap (λ (o : Option Telegram). has ending o || (taken r.answer && has closing (kind_held set M (secrets s) (arriving m e)))) here
        ∙ ap (λ (o : Option Telegram). has ending ko || (taken r.answer && has closing o)) in_kind
        ∙ ap (λ (x : Result Answer Refusal). has ending ko || (taken x && closing (telegram_kind t))) ok

    delivery : (n k user size : ℕ) → r.answer ≡ Ok (Delivered n k user size) → (n ≡ m) × (k ≡ count) × (s.user ≡ Some user) × (take size (over r.written b.out) ≡ t)
    delivery n k user size q = delivers n k user size (ok_ok {E = Refusal} a (Delivered n k user size) (sym ok ∙ q))

    others : (n : ℕ) → eqb n m ≡ false → n ≢ 0 → Still n e
    others n ne z = record {
      no_in = in_else n ne;
      no_out = else n ne;
      no_delivery = λ k user size q. both_ways (eqb n m) ne (eq-eqb n m (delivery n k user size q).0);
    }

    genuine : (k user size : ℕ) → r.answer ≡ Ok (Delivered m k user size) → Genuine set M s.key m k size e
    genuine k user size q =
        let d = delivery m k user size q in
        let p = wrapper_read frame m count serial tag associated nc ct mc rd in
        let back = M.sound s.key nc associated ct mc t un in
        record {
          session = p.session;
          numbered = p.numbered ∙ sym d.1;
          sealed = rw (p.data_is, p.nonce_is, d.3, back.0, back.1) (sym p.whole_is);
        }

    says : Says set M m e s
    says = record {
      hears = λ k q j h. let same : count ≡ k = some_some count k (sym (ap count_of in_here) ∙ q) in omega (arith, above_reached s.last count ab j h);
      seals = seals;
      delivers = λ k user size q. ((delivery m k user size q).2, genuine k user size q);
    }

    clocks_of : r.to.timer ≡ g.timer → r.to.sent ≡ g.sent → Clocks g (arrive frame offer lot b) r
    clocks_of t' s' =
        idle g (arrive frame offer lot b) r f refl t' s' in_time no_time
        (in_else 0 (ne_eqb 0 m (λ z. nz (sym z)))) (λ k user size q. nz (sym (delivery 0 k user size q).0))

    pub wrapper_stops : r.to ≡ put g m None → has ending ko || (taken (Ok a) && closing (telegram_kind t)) ≡ true → Fine g (arrive frame offer lot b) r
    wrapper_stops to e' = record {
      moved = about set M g (arrive frame offer lot b) m None r to others (λ n ne z. no_opening n)
          (subst (λ o. Moves set M m e o None) (sym at) (stops s (no_opening m) (ends_is ∙ e') says));
      fit = subst Fit (sym to) (fit_put g m None f (λ x q. absurd (none-some x q)));
      clocks = clocks_of (ap (λ h. h.timer) to) (ap (λ h. h.sent) to);
      counted = λ k. subst Counted (sym to) (counted_put g m None (f.sessions m s at).numbered (λ q. absurd (none-some s (sym q ∙ at))) k);
    }

    pub wrapper_goes : (own : ℕ) (u : Option ℕ) → r.to ≡ put g m (Some (opened_by s count own u))
        → has ending ko || (taken (Ok a) && closing (telegram_kind t)) ≡ false → s.own ≤ own → own ≤ last_time → (u ≡ None → own ≡ 0)
        → ((k : ℕ) → count_of (leaving m e) ≡ Some k → k < own)
        → ((v : ℕ) → u ≡ Some v → (s.user ≡ Some v) ⊎ SignsIn set M (secrets s) m v e) → Fine g (arrive frame offer lot b) r
    wrapper_goes own u to e' le small none new user = record {
      moved = about set M g (arrive frame offer lot b) m (Some (opened_by s count own u)) r to others (λ n ne z. no_opening n)
          (subst (λ o. Moves set M m e o (Some (opened_by s count own u))) (sym at) (goes s (opened_by s count own u) (no_opening m) (ends_is ∙ e') says
          (record {
            secrets_kept = refl;
            last_kept = λ j h. omega (arith, above_reached s.last count ab j h);
            last_new = λ k q. let same : count ≡ k = some_some count k (sym (ap count_of in_here) ∙ q) in omega arith;
            own_kept = le;
            own_new = new;
            user_new = user;
          })));
      fit = subst Fit (sym to) (fit_put g m (Some (opened_by s count own u)) f (λ x q.
          let same : opened_by s count own u ≡ x = some_some _ x q in
          let good = f.sessions m s at in
          subst (GoodSession m) same (record { nonzero = nz; numbered = good.numbered; keyed = good.keyed; countable = small; fresh = none })));
      clocks = clocks_of (ap (λ h. h.timer) to) (ap (λ h. h.sent) to);
      counted = λ k. subst Counted (sym to) (counted_put g m (Some (opened_by s count own u)) (f.sessions m s at).numbered (λ q. absurd (none-some s (sym q ∙ at))) k);
    }
