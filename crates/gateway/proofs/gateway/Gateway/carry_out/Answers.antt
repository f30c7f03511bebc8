use Rattle.std.proofs.Common.{subst, sym}
use Rattle.rules.specs.Meaning.{meaning}
use Rattle.gateway.specs.Obeyed.{Promise}
use Rattle.gateway.specs.Ran.{call_of, out_of}
use Rattle.gateway.specs.declared.runs.Call.{Call}
use Rattle.gateway.proofs.gateway.Gateway.carry_out.Goals as goal

-- the rule of due looks through all session numbers, so the promise is carried over and not computed
pub returns-in-Due : goal.returns-in-Due
returns-in-Due g c =
    subst
    (λ (k : Call). Promise (meaning g.S.Sealer) (call_of k c.args.out.now c.args.work.now) c.args.self.now.core c.due.new.self.core c.due.result (out_of k c.due.new.out) (out_of k c.due.new.work))
    (sym c.in-Due.is) c.due.ensures
