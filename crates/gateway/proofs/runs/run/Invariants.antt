use Rattle.rules.specs.Meaning.{meaning}
use Rattle.std.proofs.Common.{vec_items}
use Rattle.gateway.proofs.Following.{SoFar}
use Rattle.gateway.proofs.runs.run.Given as goal

abbrev pub invariant-loop-call : goal.invariant-loop-call
invariant-loop-call g l = SoFar (meaning g.S.Sealer) l.initial.gateway.core.settings l.gateway.core l.calls l.call-index (vec_items l.events)
