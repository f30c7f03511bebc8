use Rattle.gateway.proofs.Single.{ready}
use Rattle.gateway.proofs.gateway.Gateway.announce.Goals as goal

pub announce-requires : goal.announce-requires
announce-requires g c = ready c.args.self.now.core c.args.self.now.ready
