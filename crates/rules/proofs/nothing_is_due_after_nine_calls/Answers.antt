use Rattle.rules.proofs.Resting.{nothing_due_after_nine}
use Rattle.rules.proofs.nothing_is_due_after_nine_calls.Goals as goal

pub returns : goal.returns
returns c = nothing_due_after_nine
