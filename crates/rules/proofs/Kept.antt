-- Every run keeps the law. Assumes nothing.
use Rattle.std.proofs.Common.{◌≡◌, ℕ, zero, suc, ◌+◌, ◌<◌, min, true, false, ◌&&◌, eqb, ltb, leb, ◌≢◌, ◌⊎◌, List, [], ◌∷◌, map, Some, None, Ok, Err, Option, Result, sym, refl, ap, ◌∙◌, subst, ⊎_elim, zero-le, arith}
use Rattle.std.proofs.lemmas.Option.{none-some}
use Rattle.std.proofs.lemmas.Bool.{and_parts, cond_both, eqb-true, ltb-true}
use Rattle.std.specs.List.{AllByRecursion}
use Rattle.octets.specs.Laws.{Octets}
use Rattle.frames.specs.Reading.{Shape, a_notice, a_request, a_wrapper, reading}
use Rattle.frames.specs.declared.reading.Unreadable.{Unreadable}
use Rattle.rules.specs.declared.answers.Refusal.TheVariants as no
use Rattle.rules.specs.declared.settings.Settings.{Settings}
use Rattle.rules.specs.Calls.{Buffers, Call, Step, announce, arrive, due, hang_up, pass, refuse, send}
use Rattle.rules.specs.Law as law
use Rattle.rules.specs.Law.{Law, ProperCall, ProperCalls, ProperSettings, RunsKeepTheLaw, Throughout, clock, count_of, larger, latest, life, milliseconds, time_in, time_out}
use Rattle.rules.specs.Limits.{last_time, numbers, session_numbers}
use Rattle.rules.specs.Making.{acceptable, latency, sync}
use Rattle.rules.specs.Meaning.{Meaning}
use Rattle.rules.specs.Model.{Model, new}
use Rattle.rules.specs.Answers.{unread}
use Rattle.rules.specs.Rules.{arrived, next, roomy, with_room}
use Rattle.rules.specs.Runs.{Event, event, history, state}
use Rattle.rules.specs.Sessions.{first_lapsed}
use Rattle.rules.specs.Fit.{Fit}
use Rattle.rules.proofs.Acts.{wrapper_fine}
use Rattle.rules.proofs.Counting.{Counted, count}
use Rattle.rules.proofs.Facts.{Reached, every_map}
use Rattle.rules.proofs.Groups.{group_wrapper_fine, notice_fine}
use Rattle.rules.proofs.Moves.{Lives, Still, Tied, spoken, tied_kept}
use Rattle.rules.proofs.Others.{announce_fine, due_fine, hang_up_fine, pass_fine, request_fine, send_fine}
use Rattle.rules.proofs.Steps.{Fine, refused}

starts : (set : Settings) → acceptable set ≡ true → set.start < numbers
starts set ok = ltb-true set.start numbers (and_parts (leb (sync set) (latency set) && leb (latency set) 10000) (ltb set.start numbers) ok).1

pub fit_new : (set : Settings) → acceptable set ≡ true → Fit (new set)
fit_new set ok = record
    { timer = omega (arith, starts set ok); sessions = λ n s q. absurd (none-some s q); wanted = λ w q. absurd (none-some w q); sent = λ x q. absurd (none-some x q) }

module _ (set : Settings) (M : Meaning) (proper : ProperSettings set) where
  -- EVERY CALL

  roomy_fine : (g : Model) (c : Call) (b : Buffers) (r : Step) → milliseconds set M c ≡ 0 → Fit g → Fine set M g c r → Fine set M g c (with_room set M g b r)
  roomy_fine g c b r p f x = cond_both (roomy set M b) r (refuse g no.Buffers) (Fine set M g c) (λ _. x) (λ _. refused set M g c no.Buffers p f)

  arrived_fine : (g : Model) (frame offer : List ℕ) (lot : ℕ) (b : Buffers) → Octets frame → Octets offer → Fit g → (o : Result Shape Unreadable) → reading frame ≡ o
      → Fine set M g (arrive frame offer lot b) (arrived set M g offer lot o)
  arrived_fine g frame offer lot b fo oo f (Err why) rd = refused set M g (arrive frame offer lot b) (unread why) refl f
  arrived_fine g frame offer lot b fo oo f (Ok (a_request x)) rd = request_fine set M proper g frame offer lot b oo f x rd
  arrived_fine g frame offer lot b fo oo f (Ok (a_notice time serial tag associated nc mc)) rd =
      notice_fine set M g frame offer lot b fo f time serial tag associated nc mc rd (M.opened set.group nc associated [] mc)
  arrived_fine g frame offer lot b fo oo f (Ok (a_wrapper n count serial tag associated nc ct mc)) rd =
      cond_both (eqb n 0) _ _ (Fine set M g (arrive frame offer lot b))
      (λ z.
      let none = eqb-true n 0 z in
      group_wrapper_fine set M g frame offer lot b fo f count serial tag associated nc ct mc (rd ∙ ap (λ k. Ok (a_wrapper k count serial tag associated nc ct mc)) none))
      (λ _. wrapper_fine set M proper g frame offer lot b n count serial tag associated nc ct mc rd f (g.sessions n) refl)

  fine : (g : Model) (c : Call) → Fit g → ProperCall c → Fine set M g c (next set M g c)
  fine g (arrive frame offer lot b) f p = roomy_fine g (arrive frame offer lot b) b _ refl f (arrived_fine g frame offer lot b p.0 p.1 f (reading frame) refl)
  fine g (pass ms) f p = pass_fine set M proper g ms f
  fine g (due lot b) f p = roomy_fine g (due lot b) b _ refl f (due_fine set M proper g lot b f (first_lapsed g))
  fine g (send n t b) f p = roomy_fine g (send n t b) b _ refl f (send_fine set M proper g n t b f (g.sessions n) refl)
  fine g (announce t lot b) f p = roomy_fine g (announce t lot b) b _ refl f (announce_fine set M proper g t lot b f)
  fine g (hang_up n b) f p = roomy_fine g (hang_up n b) b _ refl f (hang_up_fine set M proper g n b f (g.sessions n) refl)

  -- THE TIMER

  larger_shift : (o : Option ℕ) (a b x y : ℕ) → y ≡ x + b → larger set M o (a + b) y ≡ larger set M o a x + b
  larger_shift None a b x y e = e
  larger_shift (Some w) a b x y e = omega arith

  latest_shift : (a b : ℕ) (h : List Event) → latest set M (a + b) h ≡ latest set M a h + b
  latest_shift a b [] = omega arith
  latest_shift a b (e ∷ h) =
      let p = milliseconds set M e.call in
      let q : a + b + p ≡ a + p + b = omega arith in
      larger_shift (time_in e) a b _ _ (larger_shift (time_out e) a b _ _ (ap (λ z. latest set M z h) q ∙ latest_shift (a + p) b h))

  capped : (i o : Option ℕ) (w p : ℕ) → min last_time (larger set M i 0 (larger set M o 0 (min last_time w + p))) ≡ min last_time (larger set M i 0 (larger set M o 0 (w + p)))
  capped None None w p = omega arith
  capped None (Some y) w p = omega arith
  capped (Some x) None w p = omega arith
  capped (Some x) (Some y) w p = omega arith

  clock_next : (e : Event) (h : List Event) (t : ℕ) → t ≡ clock set M h
      → min last_time (larger set M (time_in e) 0 (larger set M (time_out e) 0 (t + milliseconds set M e.call))) ≡ clock set M (e ∷ h)
  clock_next e h t is =
      ap (λ z. min last_time (larger set M (time_in e) 0 (larger set M (time_out e) 0 (z + milliseconds set M e.call)))) is
      ∙ capped (time_in e) (time_out e) (latest set M 0 h) (milliseconds set M e.call)
      ∙ ap (λ z. min last_time (larger set M (time_in e) 0 (larger set M (time_out e) 0 z))) (sym (latest_shift 0 (milliseconds set M e.call) h))

  -- THE LAW, READ OFF

  abbrev All : Event → List Event → Type 0
  All e h = (n : ℕ) → n ≢ 0 → Still n e ⊎ Lives set M n e (life set M n h)

  numbers_rise : (e : Event) (h : List Event) → All e h → law.NumbersRise set M e h
  numbers_rise e h all n count nz p = ⊎_elim
      (λ q. absurd (none-some count (sym (ap count_of q.no_in) ∙ p)))
      (λ v. (v.l, v.is, every_map v.l.since (λ d a j r. v.says.hears count p j (a j r)) v.sound.last))
      (all n nz)

  signed_for : (e : Event) (h : List Event) → All e h → law.SignedFor set M e h
  signed_for e h all n count user size nz p = ⊎_elim
      (λ q. absurd (q.no_delivery count user size p))
      (λ v. (v.l, v.is, v.sound.user user (v.says.delivers count user size p).0))
      (all n nz)

  genuine_in_session : (e : Event) (h : List Event) → All e h → law.GenuineInSession set M e h
  genuine_in_session e h all n count user size nz p = ⊎_elim
      (λ q. absurd (q.no_delivery count user size p))
      (λ v. (v.l, v.is, subst (λ k. law.Genuine set M k n count size e) (sym (ap (λ k. k.key) v.sound.secrets_is)) (v.says.delivers count user size p).1))
      (all n nz)

  no_number_twice : (e : Event) (h : List Event) → All e h → law.NoNumberTwice set M e h
  no_number_twice e h all n count nz p = ⊎_elim
      (λ q. absurd (none-some count (sym (ap count_of q.no_out) ∙ p)))
      (λ v. (v.l, v.is, every_map v.l.since (λ d a r. omega (arith, a count r, v.says.seals count p)) v.sound.own))
      (all n nz)

  pub fit_next : (g : Model) (c : Call) → Fit g → ProperCall c → Fit (next set M g c).to
  fit_next g c f p = (fine g c f p).fit

  -- WHAT EVERY CALL KEEPS

  pub record Inv (g : Model) (h : List Event) : Type 0 where
    pub state_is : g ≡ state set M (map (λ d. d.call) h)
    pub timer_is : g.timer ≡ clock set M h
    pub sent_is : AllByRecursion (λ d. (x : ℕ) → time_out d ≡ Some x → Reached g.sent x) h
    pub tied : (n : ℕ) → n ≢ 0 → Tied set M n (life set M n h) (g.sessions n)
    pub fit : Fit g
    pub counted : Counted g
    pub laws : Throughout (Law set M) h

  none_counted : (n i : ℕ) → count n i (λ k. false) ≡ 0
  none_counted zero i = refl
  none_counted (suc n) i = let r = none_counted n (i + 1) in rw r

  pub inv_new : acceptable set ≡ true → Inv (new set) []
  inv_new ok =
      let start = starts set ok in
      record {
        state_is = refl;
        timer_is = omega arith;
        sent_is = tt;
        tied = λ n nz. tt;
        fit = fit_new set ok;
        counted = record { is = none_counted session_numbers 0; few = zero-le };
        laws = tt;
      }

  pub inv_next : (g : Model) (c : Call) (h : List Event) → ProperCall c → Inv g h → Inv (next set M g c).to (event set M g c ∷ h)
  inv_next g c h p i =
      let x = fine g c i.fit p in
      let k = x.clocks in
      let e = event set M g c in
      let after = k.ticks ∙ clock_next e h g.timer i.timer_is in
      let all : All e h = λ n nz. spoken set M n e (life set M n h) (g.sessions n) _ (i.tied n nz) (x.moved n nz) in
      record {
        state_is = ap (λ m. (next set M m c).to) i.state_is;
        timer_is = after;
        sent_is = (k.reached, every_map h (λ d a y q. k.kept y (a y q)) i.sent_is);
        tied = λ n nz. tied_kept set M n e (life set M n h) (g.sessions n) _ (i.tied n nz) (x.moved n nz);
        fit = x.fit;
        counted = x.counted i.counted;
        laws = (
          record {
            numbers_rise = numbers_rise e h all;
            signed_for = signed_for e h all;
            genuine_in_session = genuine_in_session e h all;
            genuine_in_group = k.genuine;
            no_number_twice = no_number_twice e h all;
            no_time_twice = λ y q. every_map h (λ d a z. omega (arith, k.later y q y (a y z))) i.sent_is;
            timer_before = i.timer_is;
            timer_after = after;
            window = k.window;
            ruled = ap (λ m. event set M m c) i.state_is;
          },
          i.laws,
        );
      }

  pub inv_all : acceptable set ≡ true → (calls : List Call) → ProperCalls calls → Inv (state set M calls) (history set M calls)
  inv_all ok [] p = inv_new ok
  inv_all ok (c ∷ calls) p = inv_next (state set M calls) c (history set M calls) p.0 (inv_all ok calls p.1)

pub runs_keep_the_law : (M : Meaning) → RunsKeepTheLaw M
runs_keep_the_law M set proper ok calls p = (inv_all set M proper ok calls p).laws
