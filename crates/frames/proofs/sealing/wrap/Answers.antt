use Rattle.std.proofs.Common.{◌≡◌, ℕ, ◌+◌, List, length, ap, ◌∙◌, rules}
use Rattle.octets.specs.Runs.{over}
use Rattle.frames.proofs.Placed.{four, wrapping}
use Rattle.frames.proofs.sealing.wrap.Goals as goal

pub returns : goal.returns
returns g c =
    let t = c.args.telegram.now in
    let l = c.args.lead.now in
    let n = c.args.nonce.now in
    let out = c.args.out.now in
    let a = c.copy_from_slice.new.self in
    let b = c.copy_from_slice-2.new.self in
    let x = c.seal-mac.new.text in
    let d = c.copy_from_slice-4.new.self in
    let la : length a ≡ 8 = search rules in
    let lb : 8 + length b ≡ 22 = search rules in
    let lx : 22 + length x ≡ 22 + length t = search rules in
    let ld : 22 + length t + length d ≡ length t + 38 = search rules in
    let hide = g.S.Sealer.ciphertext c.args.key.now n l in
    let mac = g.S.Sealer.mac c.args.key.now n l in
    let put = four a b x d out 8 22 (22 + length t) (length t + 38) la lb lx ld in
    let parts = wrapping hide mac a b x d l n c.seal-mac.result t c.copy_from_slice-3.new.self
    c.copy_from_slice.ensures.after c.copy_from_slice-2.ensures.after c.copy_from_slice-3.ensures.after
    c.seal-mac.ensures.ciphertext c.seal-mac.ensures.mac c.copy_from_slice-4.ensures.after in
    record { length = search rules; out = put ∙ ap (λ (f : List ℕ). over f out) parts }
