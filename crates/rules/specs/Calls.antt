-- Calls, and what comes of one. Assumes nothing.
use Rattle.std.specs.Prelude.{ℕ, List, [], Ok, Err, Result}
use Rattle.rules.specs.declared.answers.Answer.{Answer}
use Rattle.rules.specs.declared.answers.Refusal.{Refusal}
use Rattle.rules.specs.Model.{Model}

-- the buffers that a call is lent, as they were
pub record Buffers : Type 0 where
  pub out : List ℕ
  pub work : List ℕ

pub data Call : Type 0 where
  arrive : (frame offer : List ℕ) (lot : ℕ) (lent : Buffers) → Call
  pass : (milliseconds : ℕ) → Call
  due : (lot : ℕ) (lent : Buffers) → Call
  send : (session : ℕ) (telegram : List ℕ) (lent : Buffers) → Call
  announce : (telegram : List ℕ) (lot : ℕ) (lent : Buffers) → Call
  hang_up : (session : ℕ) (lent : Buffers) → Call

-- what a call does: the gateway after it, the answer, and the octets that stand in front of the output then
pub record Step : Type 0 where
  pub to : Model
  pub answer : Result Answer Refusal
  pub written : List ℕ

-- a refusal changes nothing and writes nothing
abbrev pub refuse : Model → Refusal → Step
refuse g r = record { to = g; answer = Err r; written = [] }

-- an answer that writes nothing
abbrev pub quietly : Model → Answer → Step
quietly g a = record { to = g; answer = Ok a; written = [] }
