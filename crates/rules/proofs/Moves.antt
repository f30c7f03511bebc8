-- How one call moves one session, and what the law sees of it. Assumes nothing.
use Rattle.std.proofs.Common.{◌≡◌, ℕ, ◌<◌, ◌≤◌, Bool, true, false, cond, ◌&&◌, eqb, ◌≢◌, ◌⊎◌, List, Some, None, Ok, Option, sym, refl, ap, ◌∙◌, subst, inl, inr, ⊎_elim, arith}
use Rattle.std.proofs.lemmas.Option.{none-some}
use Rattle.std.proofs.lemmas.Bool.{eqb-true, ltb-true}
use Rattle.std.specs.List.{AllByRecursion}
use Rattle.rules.specs.declared.answers.Answer.TheVariants.{Delivered}
use Rattle.rules.specs.declared.settings.Settings.{Settings}
use Rattle.rules.specs.Calls.{Call, Step}
use Rattle.rules.specs.Law.{Genuine, Life, Once, Secrets, SignsIn, arriving, begins, count_of, ends, leaving, lives_on, opens}
use Rattle.rules.specs.Meaning.{Meaning}
use Rattle.rules.specs.Model.{Model, Session, put}
use Rattle.rules.specs.Runs.{Event, noted}
use Rattle.rules.specs.Sessions.{above, begun}
use Rattle.rules.proofs.Facts.{Reached, every_map}

pub above_reached : (o : Option ℕ) (k : ℕ) → above o k ≡ true → (j : ℕ) → Reached o j → j < k
above_reached None k e j r = absurd r
above_reached (Some x) k e j r = omega (arith, ltb-true x k e)

abbrev pub secrets : Session → Secrets
secrets s = record { key = s.key; x = s.x; y = s.y }

-- nothing of session n
pub record Still (n : ℕ) (e : Event) : Type 0 where
  pub no_in : arriving n e ≡ None
  pub no_out : leaving n e ≡ None
  pub no_delivery : (count user size : ℕ) → e.answer ≡ Ok (Delivered n count user size) → ⊥

module _ (set : Settings) (M : Meaning) where
  -- what an event shows of session n, which is s before it
  pub record Says (n : ℕ) (e : Event) (s : Session) : Type 0 where
    pub hears : (k : ℕ) → count_of (arriving n e) ≡ Some k → (j : ℕ) → Reached s.last j → j < k
    pub seals : (k : ℕ) → count_of (leaving n e) ≡ Some k → k ≡ s.own
    pub delivers : (count user size : ℕ) → e.answer ≡ Ok (Delivered n count user size) → (s.user ≡ Some user) × Genuine set M s.key n count size e

  -- session n goes on from s to t
  pub record Goes (n : ℕ) (e : Event) (s t : Session) : Type 0 where
    pub secrets_kept : secrets s ≡ secrets t
    pub last_kept : (j : ℕ) → Reached s.last j → Reached t.last j
    pub last_new : (k : ℕ) → count_of (arriving n e) ≡ Some k → Reached t.last k
    pub own_kept : s.own ≤ t.own
    pub own_new : (k : ℕ) → count_of (leaving n e) ≡ Some k → k < t.own
    pub user_new : (u : ℕ) → t.user ≡ Some u → (s.user ≡ Some u) ⊎ SignsIn set M (secrets s) n u e

  pub data Moves (n : ℕ) (e : Event) : Option Session → Option Session → Type 0 where
    absent : Still n e → opens n e ≡ None → Moves n e None None
    starts : (key x y : List ℕ) → Still n e → opens n e ≡ Some (record { key = key; x = x; y = y }) → Moves n e None (Some (begun key x y))
    goes : (s t : Session) → opens n e ≡ None → ends set M (secrets s) n e ≡ false → Says n e s → Goes n e s t → Moves n e (Some s) (Some t)
    stops : (s : Session) → opens n e ≡ None → ends set M (secrets s) n e ≡ true → Says n e s → Moves n e (Some s) None

  -- a life as the law sees it, beside the session as the rules have it
  pub record Sound (n : ℕ) (l : Life) (s : Session) : Type 0 where
    pub secrets_is : l.secrets ≡ secrets s
    pub last : AllByRecursion (λ d. (j : ℕ) → count_of (arriving n d) ≡ Some j → Reached s.last j) l.since
    pub own : AllByRecursion (λ d. (j : ℕ) → count_of (leaving n d) ≡ Some j → j < s.own) l.since
    pub user : (u : ℕ) → s.user ≡ Some u → Once (SignsIn set M l.secrets n u) l.since

  abbrev pub Tied : ℕ → Option Life → Option Session → Type 0
  Tied n None None = Unit {0}
  Tied n None (Some s) = ⊥
  Tied n (Some l) None = ⊥
  Tied n (Some l) (Some s) = Sound n l s

  pub tied_kept : (n : ℕ) (e : Event) (l : Option Life) (o p : Option Session) → Tied n l o → Moves n e o p → Tied n (begins set M (opens n e) (lives_on set M n e l)) p
  tied_kept n e None None _ t (absent q f) = rw f tt
  tied_kept n e None None _ t (starts key x y q f) = rw f (record { secrets_is = refl; last = tt; own = tt; user = λ u p. absurd (none-some u p) })
  tied_kept n e None (Some s) p t mv = absurd t
  tied_kept n e (Some l) None p t mv = absurd t
  tied_kept n e (Some l) (Some s) _ t (goes _ r f g says x) =
      let same = t.secrets_is in
      let g' : ends set M l.secrets n e ≡ false = ap (λ k. ends set M k n e) same ∙ g in
      rw (f, g') (record {
        secrets_is = same ∙ x.secrets_kept;
        last = (x.last_new, every_map l.since (λ d a j p. x.last_kept j (a j p)) t.last);
        own = (x.own_new, every_map l.since (λ d a j p. omega (arith, a j p, x.own_kept)) t.own);
        user = λ u p. ⊎_elim (λ q. inr (t.user u q)) (λ q. inl (subst (λ k. SignsIn set M k n u e) (sym same) q)) (x.user_new u p);
      })
  tied_kept n e (Some l) (Some s) _ t (stops _ f g says) =
      let g' : ends set M l.secrets n e ≡ true = ap (λ k. ends set M k n e) t.secrets_is ∙ g in
      rw (f, g') tt

  pub record Lives (n : ℕ) (e : Event) (o : Option Life) : Type 0 where
    pub l : Life
    pub s : Session
    pub is : o ≡ Some l
    pub sound : Sound n l s
    pub says : Says n e s

  -- session n is alive, or the event shows nothing of it
  pub spoken : (n : ℕ) (e : Event) (l : Option Life) (o p : Option Session) → Tied n l o → Moves n e o p → Still n e ⊎ Lives n e l
  spoken n e None None _ t (absent q f) = inl q
  spoken n e None None _ t (starts key x y q f) = inl q
  spoken n e None (Some s) p t mv = absurd t
  spoken n e (Some l) None p t mv = absurd t
  spoken n e (Some l) (Some s) _ t (goes _ r f g says x) = inr (record { l = l; s = s; is = refl; sound = t; says = says })
  spoken n e (Some l) (Some s) _ t (stops _ f g says) = inr (record { l = l; s = s; is = refl; sound = t; says = says })

  -- a session that an event does not touch
  pub quiet : (n : ℕ) (e : Event) (o : Option Session) → Still n e → opens n e ≡ None → Moves n e o o
  quiet n e None q f = absent q f
  quiet n e (Some s) q f =
      let i = q.no_in in
      let x = q.no_out in
      goes s s f (rw (i, x) (and_false _))
      (record {
        hears = λ k p. absurd (none-some k (rw i at p));
        seals = λ k p. absurd (none-some k (rw x at p));
        delivers = λ count user size p. absurd (q.no_delivery count user size p);
      })
      (record {
        secrets_kept = refl;
        last_kept = λ j r. r;
        last_new = λ k p. absurd (none-some k (rw i at p));
        own_kept = omega arith;
        own_new = λ k p. absurd (none-some k (rw x at p));
        user_new = λ u p. inl p;
      })
    where
      and_false : (b : Bool) → (b && false) ≡ false
      and_false true = refl
      and_false false = refl

  abbrev pub Moved : Model → Call → ℕ → Step → Type 0
  Moved g c n r = Moves n (noted g c r) (g.sessions n) (r.to.sessions n)

  -- a step that leaves the sessions alone
  pub aside : (g : Model) (c : Call) (n : ℕ) (r : Step) → r.to.sessions ≡ g.sessions → Still n (noted g c r) → opens n (noted g c r) ≡ None → Moved g c n r
  aside g c n r e q f = subst (Moves n (noted g c r) (g.sessions n)) (sym (ap (λ h. h n) e)) (quiet n (noted g c r) (g.sessions n) q f)

  -- a step that puts session m to o
  pub about : (g : Model) (c : Call) (m : ℕ) (o : Option Session) (r : Step) → r.to ≡ put g m o
      → ((n : ℕ) → eqb n m ≡ false → n ≢ 0 → Still n (noted g c r)) → ((n : ℕ) → eqb n m ≡ false → n ≢ 0 → opens n (noted g c r) ≡ None)
      → Moves m (noted g c r) (g.sessions m) o → (n : ℕ) → n ≢ 0 → Moved g c n r
  about g c m o r e others none here n nz = go (eqb n m) refl
    where
      after : r.to.sessions n ≡ cond (eqb n m) o (g.sessions n)
      after = ap (λ h. h.sessions n) e

      go : (b : Bool) → eqb n m ≡ b → Moved g c n r
      go true h =
          let same = eqb-true n m h in
          rw (after, h) (subst (λ x. Moves x (noted g c r) (g.sessions x) o) (sym same) here)
      go false h = rw (after, h) (quiet n (noted g c r) (g.sessions n) (others n h nz) (none n h nz))
