use Rattle.std.proofs.Common.{rules}
use Rattle.rules.specs.Meaning.{meaning}
use Rattle.steps.specs.Steps.{sending}
use Rattle.steps.proofs.state.Core.send.Goals as goal

pub returns-clause-rule : goal.returns-clause-rule
returns-clause-rule g c = c.lent.ensures.rule (sending (meaning g.S.Sealer) c.args.session c.args.telegram.now) (λ _ _ _ _ _ _ _ did. search rules)
