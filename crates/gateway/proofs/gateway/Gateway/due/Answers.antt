use Rattle.gateway.proofs.Single.{ready}
use Rattle.gateway.proofs.gateway.Gateway.due.Goals as goal

pub due-requires : goal.due-requires
due-requires g c = ready c.args.self.now.core c.args.self.now.ready

pub invariant_of-self : goal.invariant_of-self
invariant_of-self g c = record { ready = ∣ c.due.ensures.ready ∣₁ }
