use Rattle.std.proofs.Common.{◌≡◌, ℕ, List, [], ◌++◌, length, replicate, ap, ◌∙◌}
use Rattle.octets.specs.Numbers.{octets_of}
use Rattle.std.proofs.lemmas.List.{append-nil}
use Rattle.sealer.specs.Absorbing.{finish}
use Rattle.sealer.specs.Mac.{covered}
use Rattle.sealer.proofs.Absorbed.{raw_is}
use Rattle.sealer.proofs.mac.raw.Goals as goal

-- the five parts, one after the other, with the lengths that were written
parts : (n a b d t x y : List ℕ) → a ≡ x → b ≡ y → n ++ (a ++ (b ++ (d ++ (t ++ [])))) ≡ n ++ (x ++ (y ++ (d ++ t)))
parts n a b d t x y p q = rw (p, q, append-nil)

pub returns : goal.returns
unfolding covered
returns g c =
    let f = g.C.BlockCipher.does c.args.prepared.now in
    let n = c.args.nonce.now in
    let d = c.args.associated.now in
    let t = c.args.telegram.now in
    let a = c.length_octets.result in
    let b = c.length_octets-2.result in
    c.finish.ensures
    ∙ c.absorb_all-5.ensures []
    ∙ c.absorb_all-4.ensures (t ++ [])
    ∙ c.absorb_all-3.ensures (d ++ (t ++ []))
    ∙ c.absorb_all-2.ensures (b ++ (d ++ (t ++ [])))
    ∙ c.absorb_all.ensures (a ++ (b ++ (d ++ (t ++ []))))
    ∙ ap (finish f (replicate 16 0) 0) (parts n a b d t _ _ c.length_octets.ensures c.length_octets-2.ensures)
    ∙ raw_is f (n ++ (octets_of 2 (length t) ++ (octets_of 2 (length d) ++ (d ++ t))))
