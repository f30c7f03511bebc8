use Rattle.std.proofs.Common.{rules}
use Rattle.rules.specs.Calls.{due}
use Rattle.rules.specs.Meaning.{meaning}
use Rattle.steps.specs.Buffers.{lending, lent}
use Rattle.steps.specs.Steps.{carrying, falling_due}
use Rattle.steps.proofs.Fields.{does_same, due_is}
use Rattle.steps.proofs.state.Core.due.Goals as goal

pub returns-clause-rule : goal.returns-clause-rule
returns-clause-rule g c =
    let M = meaning g.S.Sealer in
    let out = c.args.out.now in
    let work = c.args.work.now in
    does_same (lent out work (falling_due M c.args.lot)) (carrying M (due c.args.lot (lending out work))) c.args.self.now _ _ out _ (due_is M c.args.self.now c.args.lot out work)
    (c.lent.ensures.rule (falling_due M c.args.lot) (λ _ _ _ _ _ _ _ did. search rules))
