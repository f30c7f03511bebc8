use Rattle.std.proofs.Common.{rules}
use Rattle.steps.proofs.Fronts.{declined, roomed}
use Rattle.steps.proofs.state.Core.lent.Goals as goal

pub returns-clause-rule : goal.returns-clause-rule
returns-clause-rule g c = λ rule does. roomed rule c.args.self.now _ _ c.args.out.now c.args.work.now _ _ (search rules) (search rules) (search rules) (search rules) (does _ _ _ _ _ _ _ c.step.ensures)

pub returns-in_err-out-clause-rule : goal.returns-in_err-out-clause-rule
returns-in_err-out-clause-rule g c = λ rule does. declined rule c.args.self.now _ c.args.out.now c.args.work.now c.requires.ready.apart (search rules) (search rules)
