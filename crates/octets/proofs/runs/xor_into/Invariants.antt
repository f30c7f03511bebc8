use Rattle.std.proofs.Common.{◌≡◌, take}
use Rattle.octets.specs.Runs.{xor}
use Rattle.octets.proofs.runs.xor_into.Given as goal

abbrev pub invariant-loop-i : goal.invariant-loop-i
invariant-loop-i l = l.into ≡ xor l.initial.into (take l.i l.with)
