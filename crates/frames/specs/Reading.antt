-- What an octet string that arrived is: a frame with its parts, or why it is none that is read. Assumes nothing.
use Rattle.std.specs.Prelude.{ℕ, ◌-◌, ◌^◌, ◌<◌, ◌≤◌, Bool, cond, ◌&&◌, ◌||◌, List, length, Some, None, Ok, Err, Option, Result, ◌==◌, nat_le, slice_index}
use Rattle.octets.specs.Runs.{number}
use Rattle.frames.specs.Limits.{wrapper_kind, request_kind, notice_kind, largest_frame, smallest_wrapper, wrapper_overhead, request_length, notice_length}
use Rattle.sealer.specs.Limits.{largest_telegram}
use Rattle.frames.specs.Headers.{part, stated_kind}
use Rattle.frames.specs.declared.reading.Frame.{Frame}
use Rattle.frames.specs.declared.reading.Frame.TheVariants.{Wrapper, Request, Notice}
use Rattle.frames.specs.declared.reading.Unreadable.{Unreadable}
use Rattle.frames.specs.declared.reading.Unreadable.TheVariants.{Header, Kind, Length}

-- a frame by its parts
pub data Shape : Type 0 where
  a_wrapper : (session number serial tag : ℕ) (associated nonce ciphertext mac : List ℕ) → Shape
  a_request : (x : List ℕ) → Shape
  a_notice : (time serial tag : ℕ) (associated nonce mac : List ℕ) → Shape

-- the parts of each kind of frame
abbrev pub wrapper_shape : List ℕ → Shape
wrapper_shape f =
    a_wrapper (number 2 6 f) (number 6 8 f) (number 6 14 f) (number 2 20 f)
    (part 8 0 f) (part 14 8 f) (part (length f - wrapper_overhead) 22 f) (part 16 (length f - 16) f)

abbrev pub request_shape : List ℕ → Shape
request_shape f = a_request (part 32 14 f)

abbrev pub notice_shape : List ℕ → Shape
notice_shape f = a_notice (number 6 6 f) (number 6 12 f) (number 2 18 f) (part 6 0 f) (part 14 6 f) (part 16 20 f)

-- whether the length fits the kind; of a session request two octets count too
abbrev pub wrapper_fits : List ℕ → Bool
wrapper_fits f = nat_le smallest_wrapper (length f)

abbrev pub request_fits : List ℕ → Bool
request_fits f = length f == request_length && slice_index f 6 == 8 && (slice_index f 7 == 1 || slice_index f 7 == 2)

abbrev pub notice_fits : List ℕ → Bool
notice_fits f = length f == notice_length

abbrev pub if_fits : Bool → Shape → Result Shape Unreadable
if_fits fits parts = cond fits (Ok parts) (Err Length)

-- a frame whose header is good, by its kind
abbrev pub by_kind : ℕ → List ℕ → Result Shape Unreadable
by_kind k f =
    cond (k == wrapper_kind) (if_fits (wrapper_fits f) (wrapper_shape f))
    (cond (k == request_kind) (if_fits (request_fits f) (request_shape f))
    (cond (k == notice_kind) (if_fits (notice_fits f) (notice_shape f))
    (Err Kind)))

-- the same with the kind that the header states, if the header is good
abbrev pub by_header : Option ℕ → List ℕ → Result Shape Unreadable
by_header None f = Err Header
by_header (Some k) f = cond (nat_le (length f) largest_frame) (by_kind k f) (Err Header)

-- what an octet string is
abbrev pub reading : List ℕ → Result Shape Unreadable
reading f = by_header (stated_kind f) f

-- what the code answers, with lists for the parts of the frame that it lends
abbrev pub shape : Frame → Shape
shape (Wrapper w) =
    a_wrapper w.session w.stamp.number w.stamp.serial w.stamp.tag w.associated.now w.nonce.now w.ciphertext.now w.mac.now
shape (Request x) = a_request x.now
shape (Notice n) = a_notice n.stamp.number n.stamp.serial n.stamp.tag n.associated.now n.nonce.now n.mac.now

abbrev pub shown : Result Frame Unreadable → Result Shape Unreadable
shown (Ok f) = Ok (shape f)
shown (Err e) = Err e

-- the bounds on what is read
abbrev pub Bounded : Frame → Type 0
Bounded (Wrapper w) = (w.stamp.number < 2 ^ 48) × (w.stamp.serial < 2 ^ 48) × (length w.ciphertext.now ≤ largest_telegram)
Bounded (Request x) = Unit {0}
Bounded (Notice n) = (n.stamp.number < 2 ^ 48) × (n.stamp.serial < 2 ^ 48)

abbrev pub Sound : Result Frame Unreadable → Type 0
Sound (Ok f) = Bounded f
Sound (Err e) = Unit {0}

-- the number of a refusal
abbrev pub refusal_number : Unreadable → ℕ
refusal_number Header = 2
refusal_number Kind = 3
refusal_number Length = 4
