use Rattle.std.proofs.Common.{◌≡◌}
use Rattle.cipher.proofs.Rounds.{keyed}
use Rattle.cipher.proofs.aes.key_schedule.Given as goal

abbrev pub invariant-loop-n : goal.invariant-loop-n
invariant-loop-n l = l.keys ≡ keyed l.key l.n
