-- More short runs worked by hand, over the same sealer: statuses, management, closing, lapses, our own serial, timer notifies and
-- lots. Calls and answers newest first. Assumes nothing.
use Rattle.std.specs.Prelude.{◌≡◌, ℕ, ◌^◌, true, false, List, [], ◌∷◌, replicate, Ok, Err, slice_set}
use Rattle.frames.specs.Sealing.{authenticate_mac, sealed_notice, wrapper}
use Rattle.frames.specs.Writing.{authenticate, status}
use Rattle.rules.specs.declared.answers.Answer.TheVariants.{Nothing, Delivered, Frame, Taken}
use Rattle.rules.specs.declared.answers.Refusal.TheVariants as no
use Rattle.rules.specs.declared.settings.Settings.{Settings}
use Rattle.rules.specs.declared.settings.User.{User}
use Rattle.rules.specs.Calls.{Call, arrive, due, hang_up, pass}
use Rattle.rules.specs.Making.{acceptable, latency, sync}
use Rattle.rules.specs.Rules.{next}
use Rattle.rules.specs.Runs.{state}
use Rattle.rules.specs.Samples.{answers, bench, key, lent, nobody, reading_of_litres, request, sign_in_of_user_one, user_one, wrapped_in_1, x, y}

-- a gateway with users 1 and 2, by its start and its tolerances
abbrev user_two : User
user_two = record { present = true; hash = replicate 16 0x55 }

abbrev two_users : ℕ → ℕ → ℕ → Settings
two_users start latency sync = record {
  serial = 0x00 ∷ 0xfa ∷ 0x00 ∷ 0x00 ∷ 0x00 ∷ 0x01 ∷ [];
  device = replicate 16 0x22;
  group = replicate 16 0x33;
  users = user_one ∷ user_two ∷ nobody ∷ nobody ∷ nobody ∷ nobody ∷ nobody ∷ nobody ∷ [];
  start = start;
  latency = latency;
  sync = sync;
}

-- a wrapper of the group with a tag, from serial 00FA00000002
abbrev in_group_with : ℕ → ℕ → Call
in_group_with lot time = arrive (wrapper bench.ciphertext bench.mac (replicate 16 0x33) 0 time 0x00fa00000002 0x0009 reading_of_litres) [] lot lent

abbrev in_group : ℕ → Call
in_group time = in_group_with 0 time

abbrev sign_in_of_user_two : List ℕ
sign_in_of_user_two = authenticate 2 (authenticate_mac bench.mac (replicate 16 0x55) 2 x y)

-- a telegram that manages
abbrev managing : List ℕ
managing = 0x06 ∷ 0x10 ∷ 0x03 ∷ 0x10 ∷ 0x00 ∷ 0x06 ∷ []

-- what the last of some calls writes
abbrev writes : Settings → Call → List Call → List ℕ
writes set call calls = (next set bench (state set bench calls) call).written

-- an own wrapper of session 1 with a number and a status
abbrev told_in_1 : ℕ → ℕ → List ℕ
told_in_1 count code = wrapper bench.ciphertext bench.mac key 1 count 0x00fa00000001 0 (status code)

-- tolerances that are not given stand for 1,000 and 100; a sync tolerance above the latency tolerance is refused, and a start above
-- the last time
abbrev pub Defaults : Type 0
Defaults =
    (latency (two_users 0 0 0) ≡ 1000) × (sync (two_users 0 0 0) ≡ 100) × (acceptable (two_users 0 100 101) ≡ false) × (acceptable (two_users (2 ^ 48) 0 0) ≡ false)

-- a sign-in is told 00; one with the hash of another user is told 01, and so is one whose octet 6 is not 00; who talks before
-- signing in is told 02; hang up tells 05. After 01, 02 and 05 the session is gone
abbrev pub Statuses : Type 0
Statuses =
    (writes (two_users 0 0 0) (wrapped_in_1 0 sign_in_of_user_one) (request 1 ∷ []) ≡ told_in_1 0 0)
    × (writes (two_users 0 0 0) (wrapped_in_1 0 (authenticate 2 (authenticate_mac bench.mac (replicate 16 0x44) 2 x y))) (request 1 ∷ []) ≡ told_in_1 0 1)
    × (writes (two_users 0 0 0) (wrapped_in_1 0 (slice_set sign_in_of_user_one 6 1)) (request 1 ∷ []) ≡ told_in_1 0 1)
    × (writes (two_users 0 0 0) (wrapped_in_1 0 reading_of_litres) (request 1 ∷ []) ≡ told_in_1 0 2)
    × (writes (two_users 0 0 0) (hang_up 1 lent) (wrapped_in_1 0 sign_in_of_user_one ∷ request 1 ∷ []) ≡ told_in_1 1 5)
    × (answers (two_users 0 0 0) (wrapped_in_1 1 reading_of_litres ∷ wrapped_in_1 0 reading_of_litres ∷ request 1 ∷ []) ≡ Err no.Session ∷ Ok (Frame 46) ∷ Ok (Frame 56) ∷ [])

-- family 03 is delivered to user 1, and taken from user 2, whose other telegrams are delivered
abbrev pub Management : Type 0
Management =
    (answers (two_users 0 0 0) (wrapped_in_1 1 managing ∷ wrapped_in_1 0 sign_in_of_user_one ∷ request 1 ∷ []) ≡ Ok (Delivered 1 1 1 6) ∷ Ok (Frame 46) ∷ Ok (Frame 56) ∷ [])
    × (answers (two_users 0 0 0) (wrapped_in_1 2 reading_of_litres ∷ wrapped_in_1 1 managing ∷ wrapped_in_1 0 sign_in_of_user_two ∷ request 1 ∷ [])
    ≡ Ok (Delivered 1 2 2 6) ∷ Ok Taken ∷ Ok (Frame 46) ∷ Ok (Frame 56) ∷ [])

-- a status 04 keeps a session, a status 05 closes it, whatever octet 7 is
abbrev pub Closing : Type 0
Closing =
    answers (two_users 0 0 0) (hang_up 1 lent ∷ wrapped_in_1 2 (slice_set (status 5) 7 0xff) ∷ wrapped_in_1 1 (status 4) ∷ wrapped_in_1 0 sign_in_of_user_one ∷ request 1 ∷ [])
    ≡ Err no.Session ∷ Ok Taken ∷ Ok Taken ∷ Ok (Frame 46) ∷ Ok (Frame 56) ∷ []

-- a session that is signed in is alive at 59,999 ms and has lapsed at 60,000
abbrev pub OneMinute : Type 0
OneMinute =
    (answers (two_users 0 0 0) (hang_up 1 lent ∷ pass 59999 ∷ wrapped_in_1 0 sign_in_of_user_one ∷ request 1 ∷ []) ≡ Ok (Frame 46) ∷ Ok Taken ∷ Ok (Frame 46) ∷ Ok (Frame 56) ∷ [])
    × (answers (two_users 0 0 0) (hang_up 1 lent ∷ pass 60000 ∷ wrapped_in_1 0 sign_in_of_user_one ∷ request 1 ∷ []) ≡ Err no.Session ∷ Ok Taken ∷ Ok (Frame 46) ∷ Ok (Frame 56) ∷ [])

-- our own serial does not come back to us
abbrev pub OwnSerial : Type 0
OwnSerial =
    answers (two_users 0 0 0) (arrive (wrapper bench.ciphertext bench.mac (replicate 16 0x33) 0 5 0x00fa00000001 0 reading_of_litres) [] 0 lent ∷ []) ≡ Err no.OwnSerial ∷ []

-- L 1,000 and S 100: the first timer notify is due after 10,400 ms, and the next, as keeper, 10,000 after it with lot 0
abbrev pub FirstNotify : Type 0
FirstNotify =
    answers (two_users 0 1000 100) (due 0 lent ∷ pass 1 ∷ due 0 lent ∷ pass 9999 ∷ due 0 lent ∷ pass 1 ∷ due 0 lent ∷ pass 10399 ∷ [])
    ≡ Ok (Frame 36) ∷ Ok Taken ∷ Ok Nothing ∷ Ok Taken ∷ Ok (Frame 36) ∷ Ok Taken ∷ Ok Nothing ∷ Ok Taken ∷ []

-- timer 5,000, L 1,000 and S 100: a wrapper of time 4,000 wants a reply, which a follower sends after 300 ms with the wrapper's
-- serial and tag, at its own time
abbrev pub WantedReply : Type 0
WantedReply =
    (answers (two_users 5000 1000 100) (due 0 lent ∷ pass 1 ∷ due 0 lent ∷ pass 299 ∷ in_group 4000 ∷ []) ≡ Ok (Frame 36) ∷ Ok Taken ∷ Ok Nothing ∷ Ok Taken ∷ Ok Taken ∷ [])
    × (writes (two_users 5000 1000 100) (due 0 lent) (pass 300 ∷ in_group 4000 ∷ []) ≡ sealed_notice bench.mac (replicate 16 0x33) 5300 0x00fa00000002 0x0009)

-- S 100: what lots add. A keeper notifies again after 10,000 + lot mod 301, a follower after 10,400 + lot mod 1,001; a keeper
-- replies after 100 + lot mod 101, a follower after 300 + lot mod 1,001
abbrev counts_down : ℕ → List Call → ℕ
counts_down start calls = (state (two_users start 1000 100) bench calls).countdown

abbrev pub Lots : Type 0
Lots =
    (counts_down 0 (due 300 lent ∷ pass 10400 ∷ []) ≡ 10300)
    × (counts_down 0 (due 301 lent ∷ pass 10400 ∷ []) ≡ 10000)
    × (counts_down 0 (in_group_with 1000 7 ∷ []) ≡ 11400)
    × (counts_down 0 (in_group_with 1001 7 ∷ []) ≡ 10400)
    × (counts_down 5000 (in_group_with 100 4000 ∷ due 0 lent ∷ pass 10400 ∷ []) ≡ 200)
    × (counts_down 5000 (in_group_with 101 4000 ∷ due 0 lent ∷ pass 10400 ∷ []) ≡ 100)
    × (counts_down 5000 (in_group_with 1000 4000 ∷ []) ≡ 1300)
    × (counts_down 5000 (in_group_with 1001 4000 ∷ []) ≡ 300)

-- all of them
pub record MoreSamples : Type 0 where
  pub defaults : Defaults
  pub statuses : Statuses
  pub management : Management
  pub closing : Closing
  pub one_minute : OneMinute
  pub own_serial : OwnSerial
  pub first_notify : FirstNotify
  pub wanted_reply : WantedReply
  pub lots : Lots
