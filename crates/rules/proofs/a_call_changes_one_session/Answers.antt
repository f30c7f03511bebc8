use Rattle.rules.proofs.Naming.{changes_one_session}
use Rattle.rules.proofs.a_call_changes_one_session.Goals as goal

pub returns : goal.returns
returns c = changes_one_session
