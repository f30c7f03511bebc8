use Rattle.std.proofs.Common.{◌≡◌, ◌++◌, map, take, drop}
use Rattle.cipher.specs.Sbox.{sub}
use Rattle.cipher.proofs.aes.sub_bytes.Given as goal

abbrev pub invariant-loop-x : goal.invariant-loop-x
invariant-loop-x l = l.s ≡ map sub (take l.x-index l.initial.s) ++ drop l.x-index l.initial.s
