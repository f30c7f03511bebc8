-- The sealed frames, by the two functions that a sealer means. Assumes nothing.
use Rattle.std.specs.Prelude.{ℕ, ◌+◌, cond, List, [], ◌++◌, length, replicate, None, Option, nat_le}
use Rattle.octets.specs.Runs.{xor}
use Rattle.sealer.specs.Limits.{largest_telegram}
use Rattle.sealer.specs.Sealing.{Sealed}
use Rattle.frames.specs.Limits.{wrapper_overhead}
use Rattle.frames.specs.Writing.{nonce, wrapper_lead, response_lead, authenticate_lead, notice_lead, room}

-- the nonce of a session response and of a session authenticate
abbrev pub zero_nonce : List ℕ
zero_nonce = replicate 14 0

-- the associated data of those: the octets 0 to 7, then X XOR Y
abbrev pub exchange_data : List ℕ → List ℕ → List ℕ → List ℕ
exchange_data lead x y = lead ++ xor x y

module _ (ciphertext mac : Sealed) where
  -- a secure wrapper by its octets 0 to 7, its nonce and its telegram
  abbrev pub wrapped : List ℕ → List ℕ → List ℕ → List ℕ → List ℕ
  wrapped key lead n t = lead ++ n ++ ciphertext key n lead t ++ mac key n lead t

  abbrev pub wrapper : List ℕ → ℕ → ℕ → ℕ → ℕ → List ℕ → List ℕ
  wrapper key session count serial tag t = wrapped key (wrapper_lead (length t + wrapper_overhead) session) (nonce count serial tag) t

module _ (mac : Sealed) where
  -- a timer notify by its octets 0 to 5 and its nonce
  abbrev pub notified : List ℕ → List ℕ → List ℕ → List ℕ
  notified key lead n = lead ++ n ++ mac key n lead []

  abbrev pub sealed_notice : List ℕ → ℕ → ℕ → ℕ → List ℕ
  sealed_notice key time serial tag = notified key notice_lead (nonce time serial tag)

  -- the MAC over a key exchange
  abbrev pub exchange_mac : List ℕ → List ℕ → List ℕ → List ℕ → List ℕ
  exchange_mac key lead x y = mac key zero_nonce (exchange_data lead x y) []

  -- a session response by its octets 0 to 7
  abbrev pub responded : List ℕ → List ℕ → List ℕ → List ℕ → List ℕ
  responded key lead x y = lead ++ y ++ exchange_mac key lead x y

  -- the key is the device code
  abbrev pub sealed_response : List ℕ → ℕ → List ℕ → List ℕ → List ℕ
  sealed_response key session x y = responded key (response_lead session) x y

  -- the MAC of a session authenticate; the key is the hash of the user's password
  abbrev pub authenticate_mac : List ℕ → ℕ → List ℕ → List ℕ → List ℕ
  authenticate_mac key user x y = exchange_mac key (authenticate_lead user) x y

-- the length of a secure wrapper around n octets, where both limits allow it
abbrev pub wrapper_room : ℕ → List ℕ → Option ℕ
wrapper_room n out = cond (nat_le n largest_telegram) (room (n + wrapper_overhead) out) None
