use Rattle.gateway.proofs.Single.{ready}
use Rattle.gateway.proofs.gateway.Gateway.hang_up.Goals as goal

pub hang_up-requires : goal.hang_up-requires
hang_up-requires g c = ready c.args.self.now.core c.args.self.now.ready
