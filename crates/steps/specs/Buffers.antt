-- The buffers that a call is lent, before it and after it, and a step on their fronts. Assumes nothing.
use Rattle.std.specs.Borrow.{MutBor}
use Rattle.std.specs.Prelude.{ℕ, Bool, cond, ◌&&◌, List, length, nat_le, replicate, Result}
use Rattle.frames.specs.Limits.{largest_frame}
use Rattle.rules.specs.Calls.{Buffers, Step, refuse}
use Rattle.rules.specs.declared.answers.Answer.{Answer}
use Rattle.rules.specs.declared.answers.Refusal.{Refusal}
use Rattle.rules.specs.declared.answers.Refusal.TheVariants as no
use Rattle.steps.specs.Cores.{Does, model}
use Rattle.steps.specs.declared.state.Core.{Core}

abbrev pub lending : List ℕ → List ℕ → Buffers
lending out work = record { out = out; work = work }

-- the work area after a call: zeros, as many as there were octets
abbrev pub wiped : List ℕ → List ℕ
wiped work = replicate (length work) 0

-- whether there is room in both for every frame and telegram; the rules' `roomy` is the same question, under settings and sealer
abbrev pub has_room : List ℕ → List ℕ → Bool
has_room out work = nat_le largest_frame (length out) && nat_le largest_frame (length work)

-- a step that is taken where both buffers have room, and refused elsewhere
abbrev pub lent : List ℕ → List ℕ → (Core → Step) → Core → Step
lent out work step c = cond (has_room out work) (step c) (refuse (model c) no.Buffers)

-- whatever a call of a closure may leave, by its post, is what the step does
abbrev pub Carries : (MutBor Core → MutBor (List ℕ) → MutBor (List ℕ) → Result Answer Refusal → MutBor Core → MutBor (List ℕ) → MutBor (List ℕ) → Type 0) → (Core → Step) → Type 0
Carries post step =
    (core : MutBor Core) (out work : MutBor (List ℕ)) (answer : Result Answer Refusal) (core' : MutBor Core) (out' work' : MutBor (List ℕ))
    → post core out work answer core' out' work' → Does step core.now core'.now answer out.now out'.now
