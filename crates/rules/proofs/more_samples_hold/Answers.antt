use Rattle.rules.proofs.SampleRuns.{more_samples}
use Rattle.rules.proofs.more_samples_hold.Goals as goal

pub returns : goal.returns
returns c = more_samples
