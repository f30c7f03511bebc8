use Rattle.std.proofs.Common.{rules}
use Rattle.rules.specs.Meaning.{meaning}
use Rattle.steps.specs.Steps.{arriving}
use Rattle.steps.proofs.state.Core.arrive.Goals as goal

pub returns-clause-rule : goal.returns-clause-rule
returns-clause-rule g c = c.lent.ensures.rule (arriving (meaning g.S.Sealer) c.args.frame.now c.args.offer.now c.args.lot) (λ _ _ _ _ _ _ _ did. search rules)
