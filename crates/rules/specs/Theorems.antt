-- Theorems about the rules beside the law. Assumes nothing.
use Rattle.std.specs.Prelude.{◌≡◌, ℕ, Bool, true, false, ◌&&◌, ◌≢◌, List, [], ◌∷◌, length, Some, None, Ok, Err, Option, Result, nat_le}
use Rattle.octets.specs.Runs.{number}
use Rattle.frames.specs.Limits.{largest_frame}
use Rattle.frames.specs.Reading.{Shape, a_notice, a_request, a_wrapper, reading}
use Rattle.frames.specs.declared.reading.Unreadable.{Unreadable}
use Rattle.rules.specs.declared.answers.Answer.TheVariants.{Nothing}
use Rattle.rules.specs.declared.answers.Refusal.{Refusal}
use Rattle.rules.specs.declared.settings.Settings.{Settings}
use Rattle.rules.specs.Calls.{Buffers, Call, announce, arrive, due, hang_up, pass, send}
use Rattle.rules.specs.Law.{ProperCalls, ProperSettings}
use Rattle.rules.specs.Making.{acceptable}
use Rattle.rules.specs.Meaning.{Meaning}
use Rattle.rules.specs.Model.{Model}
use Rattle.rules.specs.Rules.{next}
use Rattle.rules.specs.Runs.{state}

-- the session that a call names: a wrapper's own, the offer's of a session request, the session of send and hang up
abbrev pub named_in : List ℕ → Result Shape Unreadable → Option ℕ
named_in offer (Err why) = None
named_in offer (Ok (a_wrapper n count serial tag associated nonce c mac)) = Some n
named_in offer (Ok (a_request x)) = Some (number 2 0 offer)
named_in offer (Ok (a_notice time serial tag associated nonce mac)) = None

abbrev pub named : Call → Option ℕ
named (arrive frame offer lot b) = named_in offer (reading frame)
named (pass ms) = None
named (due lot b) = None
named (send n t b) = Some n
named (announce t lot b) = None
named (hang_up n b) = Some n

-- pass changes every session, and due ends one that it does not name
abbrev pub one_session : Call → Bool
one_session (arrive frame offer lot b) = true
one_session (pass ms) = false
one_session (due lot b) = false
one_session (send n t b) = true
one_session (announce t lot b) = true
one_session (hang_up n b) = true

-- a call, but for pass and due, changes the session that it names and no other
abbrev pub ChangesOneSession : Type 0
ChangesOneSession =
    (set : Settings) (M : Meaning) (g : Model) (c : Call) → one_session c ≡ true
    → (n : ℕ) → named c ≢ Some n → (next set M g c).to.sessions n ≡ g.sessions n

-- a call that is refused changes nothing and writes nothing
abbrev pub RefusalsChangeNothing : Type 0
RefusalsChangeNothing =
    (set : Settings) (M : Meaning) (g : Model) (c : Call) (why : Refusal) → (next set M g c).answer ≡ Err why
    → ((next set M g c).to ≡ g) × ((next set M g c).written ≡ [])

-- lots and buffers for calls of due with no other call between, the buffers large enough; newest first
abbrev pub AllRoomy : List (ℕ × Buffers) → Type 0
AllRoomy [] = Unit {0}
AllRoomy (d ∷ ds) = (nat_le largest_frame (length d.1.out) && nat_le largest_frame (length d.1.work) ≡ true) × AllRoomy ds

abbrev pub after : Settings → Meaning → Model → List (ℕ × Buffers) → Model
after set M g [] = g
after set M g (d ∷ ds) = (next set M (after set M g ds) (due d.0 d.1)).to

-- after nine calls of due there is nothing due, whatever run led there
abbrev pub NothingDueAfterNine : Type 0
NothingDueAfterNine =
    (set : Settings) (M : Meaning) → ProperSettings set → acceptable set ≡ true → (calls : List Call) → ProperCalls calls
    → (ds : List (ℕ × Buffers)) → length ds ≡ 9 → AllRoomy ds → (lot : ℕ) (b : Buffers) → nat_le largest_frame (length b.out) && nat_le largest_frame (length b.work) ≡ true
    → (next set M (after set M (state set M calls) ds) (due lot b)).answer ≡ Ok Nothing
