use Rattle.gateway.proofs.Single.{ready}
use Rattle.gateway.proofs.gateway.Gateway.pass.Goals as goal

pub pass-requires : goal.pass-requires
pass-requires g c = ready c.args.self.now.core c.args.self.now.ready
