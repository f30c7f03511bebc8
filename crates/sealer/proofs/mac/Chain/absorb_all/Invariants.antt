use Rattle.std.proofs.Common.{◌≡◌, ℕ, List, ◌++◌, drop}
use Rattle.sealer.specs.Absorbing.{finish}
use Rattle.sealer.proofs.mac.Chain.absorb_all.Given as goal

abbrev pub invariant-loop-x : goal.invariant-loop-x
invariant-loop-x g l = let f = g.C.BlockCipher.does l.prepared in
    (rest : List ℕ) → finish f l.self.state l.self.at (drop l.x-index l.xs ++ rest) ≡ finish f l.initial.self.state l.initial.self.at (l.xs ++ rest)
