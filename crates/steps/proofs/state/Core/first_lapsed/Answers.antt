use Rattle.steps.proofs.Fields.{first_lapsed_at}
use Rattle.steps.proofs.state.Core.first_lapsed.Goals as goal

pub returns : goal.returns
returns c = first_lapsed_at c.args.self.now _ c.first_lapsed.ensures
