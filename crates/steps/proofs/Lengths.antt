-- Frames fit into an output that has the room for the largest. Assumes nothing.
use Rattle.std.proofs.Common.{◌≡◌, ℕ, ◌+◌, ◌≤◌, List, [], ◌++◌, length, Some, Ok, Option, Result, refl, ap, ◌∙◌, arith}
use Rattle.std.proofs.lemmas.List.{length-append}
use Rattle.std.proofs.lemmas.Bool.{le-leb}
use Rattle.std.specs.Option.{ok_or}
use Rattle.octets.specs.Runs.{over}
use Rattle.frames.specs.Limits.{wrapper_overhead}
use Rattle.frames.specs.Sealing.{exchange_data, sealed_notice, sealed_response, wrapper, wrapper_room, zero_nonce}
use Rattle.frames.specs.Writing.{left, nonce, notice_lead, response_lead, room, wrapper_lead}
use Rattle.rules.specs.declared.answers.Refusal.{Refusal}
use Rattle.sealer.specs.Limits.{largest_telegram}
use Rattle.rules.specs.Meaning.{Meaning}

nonce_length : (count serial tag : ℕ) → length (nonce count serial tag) ≡ 14
unfolding nonce
nonce_length count serial tag = refl

wrapper_lead_length : (size session : ℕ) → length (wrapper_lead size session) ≡ 8
unfolding wrapper_lead
wrapper_lead_length size session = refl

notice_lead_length : length notice_lead ≡ 6
unfolding notice_lead
notice_lead_length = refl

response_lead_length : (session : ℕ) → length (response_lead session) ≡ 8
unfolding response_lead
response_lead_length session = refl

-- three runs
three : (a b c : List ℕ) → length (a ++ b ++ c) ≡ length a + length b + length c
three a b c = length-append (a ++ b) c ∙ ap (λ n. n + length c) (length-append a b)

module _ (M : Meaning) (key : List ℕ) (wide : length key ≡ 16) where
  pub wrapper_length : (session count serial tag : ℕ) (t : List ℕ) → length (wrapper M.ciphertext M.mac key session count serial tag t) ≡ length t + 38
  wrapper_length session count serial tag t =
      let l = wrapper_lead (length t + 38) session in
      let n = nonce count serial tag in
      length-append (l ++ n ++ M.ciphertext key n l t) (M.mac key n l t)
      ∙ omega (arith, wrapper_lead_length (length t + 38) session, nonce_length count serial tag, M.long key n l t, M.wide key n l t wide, three l n (M.ciphertext key n l t))

  pub notice_length : (time serial tag : ℕ) → length (sealed_notice M.mac key time serial tag) ≡ 36
  notice_length time serial tag =
      let n = nonce time serial tag in
      three notice_lead n (M.mac key n notice_lead []) ∙ omega (arith, notice_lead_length, nonce_length time serial tag, M.wide key n notice_lead [] wide)

  pub response_length : (session : ℕ) (x y : List ℕ) → length y ≡ 32 → length (sealed_response M.mac key session x y) ≡ 56
  response_length session x y ly =
      let l = response_lead session in
      three l y (M.mac key zero_nonce (exchange_data l x y) []) ∙ omega (arith, response_lead_length session, M.wide key zero_nonce (exchange_data l x y) [] wide)

-- a frame that fits has been put to the front
module _ (n : ℕ) (frame out : List ℕ) (long : length frame ≡ n) (fits : n ≤ length out) (o : Option ℕ) (is : o ≡ room n out) where
  is_some : o ≡ Some n
  is_some = let t = le-leb n (length out) fits in is ∙ rw t

  pub put_length : (e : Refusal) (r : Result ℕ Refusal) → r ≡ ok_or o e → r ≡ Ok (length frame)
  put_length e r q = q ∙ rw (is_some, long)

  pub put_front : (out' : List ℕ) → out' ≡ left o frame out → out' ≡ over frame out
  put_front out' q = q ∙ rw is_some

pub small_room : (n : ℕ) (out : List ℕ) → n ≤ largest_telegram → wrapper_room n out ≡ room (n + wrapper_overhead) out
small_room n out h = let t = le-leb n largest_telegram h in rw t refl
