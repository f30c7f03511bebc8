-- The MAC of a block cipher has sixteen octets. Assumes nothing.
use Rattle.std.specs.Prelude.{◌≡◌, ℕ, ◌/◌, List, [], ◌∷◌, length, replicate}
use Rattle.std.proofs.Math.Path.{refl}
use Rattle.std.proofs.Common.{◌∙◌}
use Rattle.octets.proofs.Laws.{xor_keeps_length}
use Rattle.octets.specs.Runs.{xor}
use Rattle.sealer.specs.Counter.{counter}
use Rattle.sealer.specs.Mac.{blocks, chained, covered, mac_of, padded, raw_mac}

module _ (f : List ℕ → List ℕ) (wide : (b : List ℕ) → length b ≡ 16 → length (f b) ≡ 16) where
  chained_wide : (s : List ℕ) (bs : List (List ℕ)) → length s ≡ 16 → length (chained f s bs) ≡ 16
  chained_wide s [] e = e
  chained_wide s (b ∷ bs) e = chained_wide (f (xor s b)) bs (wide (xor s b) (xor_keeps_length s b ∙ e))

  pub mac_wide : (n a t : List ℕ) → length (mac_of f n a t) ≡ 16
  unfolding mac_of raw_mac
  mac_wide n a t =
      let xs = covered n a t in
      xor_keeps_length (raw_mac f xs) (f (counter n 0)) ∙ chained_wide (replicate 16 0) (blocks (length (padded xs) / 16) (padded xs)) refl
