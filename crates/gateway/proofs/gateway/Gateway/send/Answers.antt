use Rattle.gateway.proofs.Single.{ready}
use Rattle.gateway.proofs.gateway.Gateway.send.Goals as goal

pub send-requires : goal.send-requires
send-requires g c = ready c.args.self.now.core c.args.self.now.ready
