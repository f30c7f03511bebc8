use Rattle.rules.proofs.SampleRuns.{all_samples}
use Rattle.rules.proofs.samples_hold.Goals as goal

pub returns : goal.returns
returns c = all_samples
