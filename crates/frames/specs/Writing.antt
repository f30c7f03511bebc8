-- The octets of the frames that go out. Assumes nothing.
use Rattle.std.specs.Prelude.{ℕ, cond, List, [], ◌∷◌, ◌++◌, length, Some, None, Option, nat_le}
use Rattle.octets.specs.Numbers.{octets_of}
use Rattle.octets.specs.Runs.{over}
use Rattle.frames.specs.Limits.{wrapper_kind, response_kind, authenticate_kind, status_kind, notice_kind, notice_length, response_length, no_session_length, authenticate_length, status_length}

-- the six octets that every frame begins with
abbrev pub header : ℕ → ℕ → List ℕ
header kind size = 0x06 ∷ 0x10 ∷ (octets_of 2 kind ++ octets_of 2 size)

-- number or time, serial and tag: the nonce of a secure wrapper and of a timer notify
unfoldable pub nonce : ℕ → ℕ → ℕ → List ℕ
nonce count serial tag = octets_of 6 count ++ octets_of 6 serial ++ octets_of 2 tag

-- what stands before the nonce of a secure wrapper, its associated data
unfoldable pub wrapper_lead : ℕ → ℕ → List ℕ
wrapper_lead size session = header wrapper_kind size ++ octets_of 2 session

-- what stands before the nonce of a timer notify, its associated data
unfoldable pub notice_lead : List ℕ
notice_lead = header notice_kind notice_length

abbrev pub notice : ℕ → ℕ → ℕ → List ℕ → List ℕ
notice time serial tag mac = notice_lead ++ nonce time serial tag ++ mac

unfoldable pub response_lead : ℕ → List ℕ
response_lead session = header response_kind response_length ++ octets_of 2 session

abbrev pub response : ℕ → List ℕ → List ℕ → List ℕ
response session y mac = response_lead session ++ y ++ mac

-- the session response where no slot is free
abbrev pub no_session : List ℕ
no_session = header response_kind no_session_length ++ octets_of 2 0

unfoldable pub authenticate_lead : ℕ → List ℕ
authenticate_lead user = header authenticate_kind authenticate_length ++ (0 ∷ user ∷ [])

abbrev pub authenticate : ℕ → List ℕ → List ℕ
authenticate user mac = authenticate_lead user ++ mac

abbrev pub status : ℕ → List ℕ
status code = header status_kind status_length ++ (code ∷ 0 ∷ [])

-- the length of a frame of n octets, if the output has the room
abbrev pub room : ℕ → List ℕ → Option ℕ
room n out = cond (nat_le n (length out)) (Some n) None

-- the output after an answer: the frame stands in front, or nothing has changed
abbrev pub left : Option ℕ → List ℕ → List ℕ → List ℕ
left (Some n) frame out = over frame out
left None frame out = out
