-- Calls in a run, with the buffers that the run lends them. Assumes nothing.
use Rattle.std.proofs.Common.{◌≡◌, ℕ, ◌+◌, ◌<◌, ◌≤◌, true, List, [], ◌∷◌, ◌++◌, map, length, get_or, take, replicate, Result, sym, refl, ap, ◌∙◌, subst}
use Rattle.std.proofs.lemmas.List.{length-replicate, map_push, take_all, take_more}
use Rattle.frames.specs.Limits.{largest_frame}
use Rattle.rules.proofs.Kept.{runs_keep_the_law}
use Rattle.rules.specs.Calls as rule
use Rattle.rules.specs.Law.{Law, ProperCalls, ProperSettings, Throughout}
use Rattle.rules.specs.Making.{acceptable}
use Rattle.rules.specs.Runs as runs
use Rattle.rules.specs.Runs.{history, lent, state}
use Rattle.rules.specs.declared.answers.Answer.{Answer}
use Rattle.rules.specs.declared.answers.Refusal.{Refusal}
use Rattle.rules.specs.declared.settings.Settings.{Settings}
use Rattle.rules.specs.Meaning.{Meaning}
use Rattle.steps.specs.Buffers.{wiped}
use Rattle.steps.specs.Cores.{Ready, model}
use Rattle.steps.specs.declared.state.Core.{Core}
use Rattle.gateway.specs.Made.{Made}
use Rattle.gateway.specs.Obeyed.{Promise, event_of}
use Rattle.gateway.specs.Ran.{Follows, Ran, call_in_run, call_of, called, fresh, out_of, seen, seen_all}
use Rattle.gateway.specs.declared.runs.Call.{Call}
use Rattle.gateway.specs.declared.runs.Call.TheVariants.{Arrive, Pass, Due, Send, Announce, HangUp}
use Rattle.gateway.specs.declared.runs.Event.{Event}

zeros_again : (n : ℕ) → wiped (replicate n 0) ≡ replicate n 0
zeros_again n = ap (λ k. replicate k 0) (length-replicate n 0)

-- the work area of a call in a run is zeros before and after
work_again : (n : ℕ) (c : Call) (out : List ℕ) → wiped (lent (call_of c out (replicate n 0))).work ≡ out_of c (replicate n 0)
work_again n (Arrive frame offer lot) out = zeros_again n
work_again n (Pass ms) out = refl
work_again n (Due lot) out = zeros_again n
work_again n (Send session telegram) out = zeros_again n
work_again n (Announce telegram lot) out = zeros_again n
work_again n (HangUp session) out = zeros_again n

pub follows : (M : Meaning) (call : Call) (before after : Core) (answer : Result Answer Refusal) (out work : List ℕ) (b a : ℕ)
    → Promise M (call_in_run call) before after answer (out_of call out) (out_of call work)
    → b ≡ before.group.timer → a ≡ after.group.timer
    → Follows M call before after (record { call = call; answer = answer; out = out; before = b; after = a })
follows M call before after answer out work b a kept bs ends =
    let is : event_of M (call_in_run call) before after answer (out_of call out) (out_of call work) ≡ seen (record { call = call; answer = answer; out = out; before = b; after = a }) =
    λ i. record { call = call_in_run call; answer = answer; out = out_of call out; work = (kept.rule.clears ∙ work_again largest_frame call fresh) i; before = sym bs i; after = sym ends i } in
    record {
      call_is = refl;
      settings_stay = kept.rule.settings_stay;
      proper = λ calls pc led. (kept.law calls pc led).proper;
      leads = λ calls pc led. (kept.law calls pc led).leads;
      newest = λ calls pc led. (kept.law calls pc led).newest ∙ ap (λ (e : runs.Event). e ∷ history before.settings M calls) is;
    }

-- what holds of a run after its first calls
pub record SoFar (M : Meaning) (set : Settings) (core : Core) (calls : List Call) (i : ℕ) (events : List Event) : Type 0 where
  pub accepted : acceptable set ≡ true
  pub settings_stay : core.settings ≡ set
  pub same : map (λ e. e.call) events ≡ take i calls
  pub proper : ProperCalls (called events [])
  pub leads : state set M (called events []) ≡ model core
  pub ruled : seen_all events [] ≡ history set M (called events [])

called_more : (es : List Event) (e : Event) (cs : List rule.Call) → called (es ++ e ∷ []) cs ≡ call_in_run e.call ∷ called es cs
called_more [] e cs = refl
called_more (d ∷ es) e cs = called_more es e (call_in_run d.call ∷ cs)

seen_more : (es : List Event) (e : Event) (h : List runs.Event) → seen_all (es ++ e ∷ []) h ≡ seen e ∷ seen_all es h
seen_more [] e h = refl
seen_more (d ∷ es) e h = seen_more es e (seen d ∷ h)

same_more : (calls : List Call) (i : ℕ) (d : Call) (es : List Event) (e : Event) → i < length calls → e.call ≡ get_or calls i d → map (λ d. d.call) es ≡ take i calls
    → map (λ d. d.call) (es ++ e ∷ []) ≡ take (i + 1) calls
same_more calls i d es e lt p so = map_push (λ d. d.call) es e ∙ (λ j. so j ++ p j ∷ []) ∙ sym (take_more calls i d lt)

module _ (M : Meaning) (core core' : Core) (calls : List Call) (i : ℕ) (d : Call) (es : List Event) (e : Event) (follows : Follows M (get_or calls i d) core core' e) where
  -- with the settings that the gateway has
  more : SoFar M core.settings core calls i es → i < length calls → SoFar M core.settings core' calls (i + 1) (es ++ e ∷ [])
  more far lt =
      let cs = called es [] in
      let is : called (es ++ e ∷ []) [] ≡ call_in_run (get_or calls i d) ∷ cs = called_more es e [] ∙ ap (λ c. call_in_run c ∷ cs) follows.call_is in
      record {
        accepted = far.accepted;
        settings_stay = follows.settings_stay;
        same = same_more calls i d es e lt follows.call_is far.same;
        proper = subst ProperCalls (sym is) (follows.proper cs far.proper far.leads);
        leads = ap (state core.settings M) is ∙ follows.leads cs far.proper far.leads;
        ruled = seen_more es e [] ∙ ap (λ h. seen e ∷ h) far.ruled ∙ sym (follows.newest cs far.proper far.leads) ∙ ap (history core.settings M) (sym is);
      }

  pub one_more : (set : Settings) (es' : List Event) → SoFar M set core calls i es → i < length calls → es' ≡ es ++ e ∷ [] → SoFar M set core' calls (i + 1) es'
  one_more set es' far lt items =
      let stays = far.settings_stay in
      subst (λ (xs : List Event). SoFar M set core' calls (i + 1) xs) (sym items)
      (subst (λ (s : Settings). SoFar M s core' calls (i + 1) (es ++ e ∷ [])) stays (more (subst (λ (s : Settings). SoFar M s core calls i es) (sym stays) far) lt))

pub ran : (M : Meaning) (set : Settings) (core made : Core) (calls : List Call) (i : ℕ) (es : List Event) → Ready made → Made M set made
    → SoFar M made.settings core calls i es → length calls ≤ i → Ran M set calls es
ran M set core made calls i es r m far all =
    let so = subst (λ (s : Settings). SoFar M s core calls i es) m.kept far in
    record {
      accepted = m.accepted;
      same = so.same ∙ take_all i calls all;
      ruled = so.ruled;
      lawful = subst (Throughout (Law set M)) (sym so.ruled) (runs_keep_the_law M set (subst ProperSettings m.kept r.proper) m.accepted (called es []) so.proper);
    }
