use Rattle.std.proofs.Common.{◌≡◌, ◌*◌, length}
use Rattle.octets.specs.Runs.{xor}
use Rattle.sealer.specs.Counter.{stream}
use Rattle.sealer.proofs.counter.mask.Given as goal

abbrev pub invariant-loop-part : goal.invariant-loop-part
invariant-loop-part g l =
    let made = stream (g.C.BlockCipher.does l.prepared) l.nonce 1 l.part in
    record {
      masked : l.text ≡ xor l.initial.text made;
      wide : length made ≡ 16 * l.part;
    }
