use Rattle.std.proofs.Common.{rules}
use Rattle.rules.specs.Meaning.{meaning}
use Rattle.steps.specs.Steps.{announcing}
use Rattle.steps.proofs.state.Core.announce.Goals as goal

pub returns-clause-rule : goal.returns-clause-rule
returns-clause-rule g c = c.lent.ensures.rule (announcing (meaning g.S.Sealer) c.args.telegram.now c.args.lot) (λ _ _ _ _ _ _ _ did. search rules)
