use Rattle.rules.specs.Meaning.{meaning}
use Rattle.gateway.proofs.Following.{follows}
use Rattle.gateway.proofs.runs.step.Goals as goal

pub returns : goal.returns
returns g c = follows (meaning g.S.Sealer) c.args.call _ _ _ _ c.carry_out-answer.new.work _ _ c.carry_out-answer.ensures c.timer-before.ensures c.timer-after.ensures
