use Rattle.gateway.proofs.Single.{ready}
use Rattle.gateway.proofs.gateway.Gateway.arrive.Goals as goal

pub arrive-requires : goal.arrive-requires
arrive-requires g c = ready c.args.self.now.core c.args.self.now.ready
