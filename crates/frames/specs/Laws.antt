-- What reading and writing owe each other. Assumes nothing.
use Rattle.std.specs.Prelude.{◌≡◌, ℕ, ◌+◌, ◌^◌, ◌<◌, ◌≤◌, true, ◌≢◌, List, [], ◌++◌, length, Some, Ok, slice_index}
use Rattle.octets.specs.Laws.{Octets}
use Rattle.octets.specs.Runs.{number}
use Rattle.sealer.specs.Limits.{largest_telegram}
use Rattle.sealer.specs.Sealing.{Sealed, Openings}
use Rattle.frames.specs.Limits.{response_kind, status_kind, wrapper_overhead, response_length, no_session_length}
use Rattle.frames.specs.Headers.{part, stated_kind}
use Rattle.frames.specs.Reading.{reading, a_wrapper, a_notice}
use Rattle.frames.specs.Sealing.{wrapper, sealed_notice, sealed_response, exchange_mac}
use Rattle.frames.specs.Telegrams.{is_good, telegram_kind, sign_in}
use Rattle.frames.specs.Writing.{nonce, wrapper_lead, notice_lead, notice, response_lead, response, no_session, status, authenticate_lead, authenticate}
use Rattle.frames.specs.declared.telegrams.Telegram.TheVariants.{Authenticate, Status, Good}

-- a secure wrapper that is read back has the parts that it was written with
abbrev pub WrapperReadBack : Type 0
WrapperReadBack =
    (session count serial tag : ℕ) (c m : List ℕ)
    → session < 2 ^ 16 → count < 2 ^ 48 → serial < 2 ^ 48 → tag < 2 ^ 16
    → 6 ≤ length c → length c ≤ largest_telegram → length m ≡ 16
    → reading (wrapper_lead (length c + wrapper_overhead) session ++ nonce count serial tag ++ c ++ m)
    ≡ Ok (a_wrapper session count serial tag (wrapper_lead (length c + wrapper_overhead) session) (nonce count serial tag) c m)

abbrev pub NoticeReadBack : Type 0
NoticeReadBack =
    (time serial tag : ℕ) (m : List ℕ)
    → time < 2 ^ 48 → serial < 2 ^ 48 → tag < 2 ^ 16 → length m ≡ 16
    → reading (notice time serial tag m) ≡ Ok (a_notice time serial tag notice_lead (nonce time serial tag) m)

-- a secure wrapper that is read is its parts, one after the other, and each has its length
abbrev pub WrapperIsItsParts : Type 0
WrapperIsItsParts =
    (f : List ℕ) (session count serial tag : ℕ) (a n c m : List ℕ)
    → reading f ≡ Ok (a_wrapper session count serial tag a n c m)
    → (f ≡ a ++ n ++ c ++ m) × (length a ≡ 8) × (length n ≡ 14) × (6 ≤ length c) × (length c ≤ largest_telegram) × (length m ≡ 16)

abbrev pub NoticeIsItsParts : Type 0
NoticeIsItsParts =
    (f : List ℕ) (time serial tag : ℕ) (a n m : List ℕ)
    → reading f ≡ Ok (a_notice time serial tag a n m)
    → (f ≡ a ++ n ++ m) × (length a ≡ 6) × (length n ≡ 14) × (length m ≡ 16)

-- octets that state the kind and the length of a session response, and hold these parts
abbrev pub IsResponse : List ℕ → ℕ → List ℕ → List ℕ → Type 0
IsResponse f session y m =
    (stated_kind f ≡ Some response_kind)
    × (length f ≡ response_length)
    × (number 2 6 f ≡ session)
    × (part 32 8 f ≡ y)
    × (part 16 40 f ≡ m)

abbrev pub ResponseReadBack : Type 0
ResponseReadBack =
    (session : ℕ) (y m : List ℕ) → session < 2 ^ 16 → length y ≡ 32 → length m ≡ 16 → IsResponse (response session y m) session y m

abbrev pub NoSessionReadBack : Type 0
NoSessionReadBack = (stated_kind no_session ≡ Some response_kind) × (length no_session ≡ no_session_length) × (number 2 6 no_session ≡ 0)

abbrev pub StatusReadBack : Type 0
StatusReadBack = (code : ℕ) → (stated_kind (status code) ≡ Some status_kind) × (telegram_kind (status code) ≡ Status code)

abbrev pub AuthenticateReadBack : Type 0
AuthenticateReadBack =
    (user : ℕ) (m : List ℕ) → length m ≡ 16
    → (telegram_kind (authenticate user m) ≡ Authenticate) × (sign_in (authenticate user m) ≡ Some (user, m))

-- a well formed session authenticate is its parts, so that what its MAC covers are its own octets 0 to 7
abbrev pub AuthenticateIsItsParts : Type 0
AuthenticateIsItsParts =
    (t : List ℕ) (user : ℕ) (m : List ℕ) → Octets t → sign_in t ≡ Some (user, m)
    → (t ≡ authenticate user m) × (part 8 0 t ≡ authenticate_lead user) × (length m ≡ 16)

-- a good telegram is never a session authenticate or a session status
abbrev pub GoodIsApart : Type 0
GoodIsApart = (t : List ℕ) → is_good t ≡ true → telegram_kind t ≡ Good (slice_index t 2)

-- and what counts as good is
abbrev pub GoodIsGood : Type 0
GoodIsGood = (t : List ℕ) (family : ℕ) → telegram_kind t ≡ Good family → (is_good t ≡ true) × (family ≡ slice_index t 2) × (family ≢ 0x09)

-- what a sealer sealed into a wrapper is read back with the parts that the sealer made, and these open to the telegram
abbrev pub SealedWrapperReadBack : Sealed → Sealed → Openings → Type 0
SealedWrapperReadBack ciphertext mac opened =
    (key : List ℕ) (session count serial tag : ℕ) (t l n : List ℕ)
    → length key ≡ 16 → session < 2 ^ 16 → count < 2 ^ 48 → serial < 2 ^ 48 → tag < 2 ^ 16
    → 6 ≤ length t → length t ≤ largest_telegram
    → l ≡ wrapper_lead (length t + wrapper_overhead) session → n ≡ nonce count serial tag
    → (reading (wrapper ciphertext mac key session count serial tag t) ≡ Ok (a_wrapper session count serial tag l n (ciphertext key n l t) (mac key n l t)))
    × (opened key n l (ciphertext key n l t) (mac key n l t) ≡ Some t)

abbrev pub SealedNoticeReadBack : Sealed → Type 0
SealedNoticeReadBack mac =
    (key : List ℕ) (time serial tag : ℕ)
    → length key ≡ 16 → time < 2 ^ 48 → serial < 2 ^ 48 → tag < 2 ^ 16
    → reading (sealed_notice mac key time serial tag)
    ≡ Ok (a_notice time serial tag notice_lead (nonce time serial tag) (mac key (nonce time serial tag) notice_lead []))

abbrev pub SealedResponseReadBack : Sealed → Type 0
SealedResponseReadBack mac =
    (key : List ℕ) (session : ℕ) (x y : List ℕ)
    → length key ≡ 16 → session < 2 ^ 16 → length y ≡ 32
    → IsResponse (sealed_response mac key session x y) session y (exchange_mac mac key (response_lead session) x y)
