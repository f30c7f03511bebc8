use Rattle.rules.proofs.Refusing.{refusals_change_nothing}
use Rattle.rules.proofs.a_refusal_changes_nothing.Goals as goal

pub returns : goal.returns
returns c = refusals_change_nothing
