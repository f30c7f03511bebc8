use Rattle.rules.specs.Meaning.{meant}
use Rattle.rules.proofs.Kept.{runs_keep_the_law}
use Rattle.rules.proofs.every_run_keeps_the_law.Goals as goal

pub returns : goal.returns
returns g c =
    let s = g.S.Sealer in
    runs_keep_the_law (meant s.ciphertext s.mac s.opened s.apart s.long s.sound s.complete s.wide)
