use Rattle.rules.specs.Meaning.{meaning}
use Rattle.gateway.proofs.Following.{one_more, ran}
use Rattle.gateway.proofs.Single.{ready}
use Rattle.gateway.proofs.runs.run.Goals as goal

pub loop-call-preserved : goal.loop-call-preserved
loop-call-preserved g c =
    one_more (meaning g.S.Sealer) c.loop-call.gateway.core c.step.new.gateway.core c.args.calls.now c.loop-call.call-index _ _ c.step.result c.step.ensures
    c.in_ok-gateway.gateway.core.settings _ c.loop-call.invariant c.loop-call-test.true c.in_ok-push.ensures.items

pub returns : goal.returns
returns g c =
    ran (meaning g.S.Sealer) c.args.settings c.loop-call.gateway.core c.in_ok-gateway.gateway.core c.args.calls.now c.loop-call.call-index _
    (ready c.in_ok-gateway.gateway.core c.in_ok-gateway.gateway.ready) c.in_ok-gateway.ensures c.loop-call.invariant c.loop-call-test.false
