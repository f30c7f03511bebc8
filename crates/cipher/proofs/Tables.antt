-- A table against its rule, and two rules of octets against each other, by one test that antt computes. Assumes nothing.
use Rattle.std.proofs.Common.{◌≡◌, ℕ, ◌<◌, List, map, get_or, sym, ap, ◌∙◌, refl, arith}
use Rattle.std.proofs.lemmas.List.FromFn.{get_or-map-range_with_len}
use Rattle.std.specs.List.{range_with_len}
use Rattle.cipher.specs.declared.aes.TheConstants.{ROUND_CONSTANTS}
use Rattle.cipher.specs.Aes.{round_constant}

-- an entry of a table in one row, whose entries were all computed
pub entry : (f : ℕ → ℕ) (row : List ℕ) (n : ℕ) → row ≡ map f (range_with_len 0 n) → (x : ℕ) → x < n → get_or row x 0 ≡ f x
entry f row n e x h = ap (λ (t : List ℕ). get_or t x 0) e ∙ get_or-map-range_with_len f 0 n x x 0 h (omega arith)

-- two functions that agree wherever they were computed
pub agree : (f g : ℕ → ℕ) (n : ℕ) → map f (range_with_len 0 n) ≡ map g (range_with_len 0 n) → (x : ℕ) → x < n → f x ≡ g x
agree f g n e x h = sym (get_or-map-range_with_len f 0 n x x 0 h (omega arith)) ∙ entry g (map f (range_with_len 0 n)) n e x h

pub constant_at : (n : ℕ) → n < 10 → get_or ROUND_CONSTANTS n 0 ≡ round_constant n
constant_at = entry round_constant ROUND_CONSTANTS 10 refl
