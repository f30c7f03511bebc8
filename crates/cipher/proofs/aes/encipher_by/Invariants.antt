use Rattle.std.proofs.Common.{◌≡◌}
use Rattle.cipher.specs.Aes.{after}
use Rattle.cipher.proofs.aes.encipher_by.Given as goal

abbrev pub invariant-loop-key : goal.invariant-loop-key
invariant-loop-key l = l.s ≡ after l.key-index l.fn.keys l.initial.s
