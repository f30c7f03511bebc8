-- Short runs of the rules worked by hand, over the KNX sealer and the bench cipher. Calls and answers newest first. Assumes nothing.
use Rattle.std.specs.Prelude.{◌≡◌, ℕ, ◌-◌, ◌^◌, true, false, List, [], ◌∷◌, ◌++◌, map, replicate, Ok, Err, Result}
use Rattle.octets.specs.Runs.{xor}
use Rattle.frames.specs.Sealing.{authenticate_mac, wrapper}
use Rattle.frames.specs.Writing.{authenticate, status}
use Rattle.cipher.specs.Width.{bench_wide}
use Rattle.sealer.specs.Counter.{masked}
use Rattle.sealer.specs.Mac.{mac_of}
use Rattle.sealer.specs.Reversing.{masked_apart, masked_complete, masked_long, masked_sound}
use Rattle.sealer.specs.Samples.{NoticeSample, WrapperSample}
use Rattle.sealer.specs.Sealing.{confirmed}
use Rattle.sealer.specs.Widths.{mac_wide}
use Rattle.rules.specs.declared.answers.Answer.{Answer}
use Rattle.rules.specs.declared.answers.Answer.TheVariants.{Delivered, Frame, Sealed, Taken}
use Rattle.rules.specs.declared.answers.Refusal.{Refusal}
use Rattle.rules.specs.declared.answers.Refusal.TheVariants as no
use Rattle.rules.specs.declared.settings.Settings.{Settings}
use Rattle.rules.specs.declared.settings.User.{User}
use Rattle.rules.specs.Calls.{Buffers, Call, announce, arrive, due, hang_up, pass}
use Rattle.rules.specs.Making.{acceptable, sync}
use Rattle.rules.specs.Meaning.{Meaning}
use Rattle.rules.specs.Rules.{next}
use Rattle.rules.specs.Runs.{history, state}

-- the KNX sealer over the bench cipher
abbrev pub bench : Meaning
bench = record {
  ciphertext = λ k n a t. masked (λ b. xor b k) n t;
  mac = λ k n a t. mac_of (λ b. xor b k) n a t;
  opened = λ k n a c m. confirmed (mac_of (λ b. xor b k) n a (masked (λ b. xor b k) n c)) m (masked (λ b. xor b k) n c);
  apart = λ k n a s t _ _ e. masked_apart (λ b. xor b k) n s t e;
  long = λ k n a t. masked_long (λ b. xor b k) n t;
  sound = λ k n a c m t e. masked_sound (λ b. xor b k) n (mac_of (λ b. xor b k) n a) c m t e;
  complete = λ k n a t. masked_complete (λ b. xor b k) n (mac_of (λ b. xor b k) n a) t;
  wide = λ k n a t e. mac_wide (λ b. xor b k) (λ b l. bench_wide k b e l) n a t;
}

-- a gateway with one user, by its start and its tolerances
abbrev pub user_one : User
user_one = record { present = true; hash = replicate 16 0x44 }

abbrev pub nobody : User
nobody = record { present = false; hash = replicate 16 0 }

abbrev pub site : ℕ → ℕ → ℕ → Settings
site start latency sync = record {
  serial = 0x00 ∷ 0xfa ∷ 0x00 ∷ 0x00 ∷ 0x00 ∷ 0x01 ∷ [];
  device = replicate 16 0x22;
  group = replicate 16 0x33;
  users = user_one ∷ nobody ∷ nobody ∷ nobody ∷ nobody ∷ nobody ∷ nobody ∷ nobody ∷ [];
  start = start;
  latency = latency;
  sync = sync;
}

abbrev pub lent : Buffers
lent = record { out = replicate 512 0; work = replicate 512 0 }

abbrev pub x : List ℕ
x = replicate 32 0x0a

abbrev pub y : List ℕ
y = replicate 32 0x0b

abbrev pub key : List ℕ
key = replicate 16 0x11

-- a session request with the offer of session n
abbrev pub request : ℕ → Call
request n = arrive ((0x06 ∷ 0x10 ∷ 0x09 ∷ 0x51 ∷ 0x00 ∷ 0x2e ∷ 0x08 ∷ 0x01 ∷ []) ++ replicate 6 0 ++ x) ((0 ∷ n ∷ []) ++ y ++ key) 0 lent

-- a wrapper of session 1 from serial 00FA00000002
abbrev pub wrapped_in_1 : ℕ → List ℕ → Call
wrapped_in_1 count telegram = arrive (wrapper bench.ciphertext bench.mac key 1 count 0x00fa00000002 0 telegram) [] 0 lent

-- a wrapper of the group from that serial
abbrev in_group : ℕ → Call
in_group time = arrive (wrapper bench.ciphertext bench.mac (replicate 16 0x33) 0 time 0x00fa00000002 0 (0x06 ∷ 0x10 ∷ 0x05 ∷ 0x30 ∷ 0x00 ∷ 0x06 ∷ [])) [] 0 lent

abbrev pub reading_of_litres : List ℕ
reading_of_litres = 0x06 ∷ 0x10 ∷ 0x05 ∷ 0x30 ∷ 0x00 ∷ 0x06 ∷ []

abbrev pub sign_in_of_user_one : List ℕ
sign_in_of_user_one = authenticate 1 (authenticate_mac bench.mac (replicate 16 0x44) 1 x y)

abbrev pub answers : Settings → List Call → List (Result Answer Refusal)
answers set calls = map (λ e. e.answer) (history set bench calls)

-- opening wrappers 0, which signs in, 0 and 1: the second is refused
abbrev pub ZeroTwice : Type 0
ZeroTwice =
    answers (site 0 0 0) (wrapped_in_1 1 reading_of_litres ∷ wrapped_in_1 0 reading_of_litres ∷ wrapped_in_1 0 sign_in_of_user_one ∷ request 1 ∷ [])
    ≡ Ok (Delivered 1 1 1 6) ∷ Err no.Number ∷ Ok (Frame 46) ∷ Ok (Frame 56) ∷ []

-- timer 500, tolerance 1,000: time 0 is delivered
abbrev pub SmallTimer : Type 0
SmallTimer = answers (site 500 1000 0) (in_group 0 ∷ []) ≡ Ok (Delivered 0 0 0 6) ∷ []

-- timer 5,000, tolerance 1,000: time 4,000 is taken, time 4,001 delivered, and the timer stays
abbrev pub EdgeOfTolerance : Type 0
EdgeOfTolerance =
    (answers (site 5000 1000 0) (in_group 4001 ∷ in_group 4000 ∷ []) ≡ Ok (Delivered 0 4001 0 6) ∷ Ok Taken ∷ [])
    × ((state (site 5000 1000 0) bench (in_group 4001 ∷ in_group 4000 ∷ [])).timer ≡ 5000)

-- timer 700 and nothing sent: two announces use 700 and 701
abbrev pub TwoAnnounces : Type 0
TwoAnnounces = answers (site 700 0 0) (announce reading_of_litres 0 lent ∷ announce reading_of_litres 0 lent ∷ []) ≡ Ok (Sealed 44 701) ∷ Ok (Sealed 44 700) ∷ []

-- from the last time on one announce goes, and the next is refused
abbrev pub LastTime : Type 0
LastTime =
    answers (site (2 ^ 48 - 1) 0 0) (announce reading_of_litres 0 lent ∷ announce reading_of_litres 0 lent ∷ []) ≡ Err no.TimesSpent ∷ Ok (Sealed 44 (2 ^ 48 - 1)) ∷ []

-- a session that is not signed in is alive at 9,999 ms; at 10,000 it is refused, and due sends status 03
abbrev pub TenSeconds : Type 0
TenSeconds =
    (answers (site 0 0 0) (hang_up 1 lent ∷ pass 9999 ∷ request 1 ∷ []) ≡ Ok (Frame 46) ∷ Ok Taken ∷ Ok (Frame 56) ∷ [])
    × (answers (site 0 0 0) (due 0 lent ∷ hang_up 1 lent ∷ pass 10000 ∷ request 1 ∷ []) ≡ Ok (Frame 46) ∷ Err no.Session ∷ Ok Taken ∷ Ok (Frame 56) ∷ [])
    × ((next (site 0 0 0) bench (state (site 0 0 0) bench (pass 10000 ∷ request 1 ∷ [])) (due 0 lent)).written ≡ wrapper bench.ciphertext bench.mac key 1 0 0x00fa00000001 0 (status 3))

-- the ninth session request with a good offer finds no slot
abbrev eight : List Call
eight = request 8 ∷ request 7 ∷ request 6 ∷ request 5 ∷ request 4 ∷ request 3 ∷ request 2 ∷ request 1 ∷ []

abbrev pub NinthRequest : Type 0
NinthRequest =
    (next (site 0 0 0) bench (state (site 0 0 0) bench eight) (request 9)).written ≡ 0x06 ∷ 0x10 ∷ 0x09 ∷ 0x52 ∷ 0x00 ∷ 0x08 ∷ 0x00 ∷ 0x00 ∷ []

-- latency tolerance 5 makes sync tolerance 1; 10,001 is refused
abbrev pub Tolerances : Type 0
Tolerances = (sync (site 0 5 0) ≡ 1) × (acceptable (site 0 5 0) ≡ true) × (acceptable (site 0 10001 0) ≡ false)

-- all of them, with the two frames that are worked by hand
pub record AllSamples : Type 0 where
  pub notice : NoticeSample
  pub wrapper : WrapperSample
  pub zero_twice : ZeroTwice
  pub small_timer : SmallTimer
  pub edge_of_tolerance : EdgeOfTolerance
  pub two_announces : TwoAnnounces
  pub last_time : LastTime
  pub ten_seconds : TenSeconds
  pub ninth_request : NinthRequest
  pub tolerances : Tolerances
