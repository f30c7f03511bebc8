use Rattle.std.proofs.Common.{rules}
use Rattle.rules.specs.Meaning.{meaning}
use Rattle.steps.specs.Steps.{hanging_up}
use Rattle.steps.proofs.state.Core.hang_up.Goals as goal

pub returns-clause-rule : goal.returns-clause-rule
returns-clause-rule g c = c.lent.ensures.rule (hanging_up (meaning g.S.Sealer) c.args.session) (λ _ _ _ _ _ _ _ did. search rules)
