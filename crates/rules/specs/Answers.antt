-- The number and the values of each answer and refusal. Assumes nothing.
use Rattle.std.specs.Prelude.{ℕ, List, [], ◌∷◌, Ok, Err, Result}
use Rattle.frames.specs.declared.reading.Unreadable.{Unreadable}
use Rattle.frames.specs.declared.reading.Unreadable.TheVariants as frame
use Rattle.rules.specs.declared.answers.Answer.{Answer}
use Rattle.rules.specs.declared.answers.Answer.TheVariants.{Nothing, Delivered, Frame, Sealed, Taken}
use Rattle.rules.specs.declared.answers.Refusal.{Refusal}
use Rattle.rules.specs.declared.answers.Refusal.TheVariants.{Buffers, Header, Kind, Length, Offer, Session, OwnSerial, Number, Opening, Telegram, SignIn, NumbersSpent, TimesSpent, Settings}

abbrev pub answer_number : Answer → ℕ
answer_number Nothing = 0
answer_number (Delivered session number user size) = 1
answer_number (Frame size) = 2
answer_number (Sealed size number) = 2
answer_number Taken = 3

-- the values that stand beside the number
abbrev pub answer_values : Answer → List ℕ
answer_values Nothing = []
answer_values (Delivered session number user size) = session ∷ number ∷ user ∷ size ∷ []
answer_values (Frame size) = size ∷ []
answer_values (Sealed size number) = size ∷ number ∷ []
answer_values Taken = []

-- the number of the question that was answered no
abbrev pub refusal_number : Refusal → ℕ
refusal_number Buffers = 1
refusal_number Header = 2
refusal_number Kind = 3
refusal_number Length = 4
refusal_number Offer = 5
refusal_number Session = 6
refusal_number OwnSerial = 7
refusal_number Number = 8
refusal_number Opening = 9
refusal_number Telegram = 10
refusal_number SignIn = 11
refusal_number NumbersSpent = 12
refusal_number TimesSpent = 13
refusal_number Settings = 14

-- why a frame that is not read is refused
abbrev pub unread : Unreadable → Refusal
unread frame.Header = Header
unread frame.Kind = Kind
unread frame.Length = Length

-- what the host is told: the number and the values of an answer, or the number of a refusal
pub data Told : Type 0 where
  answered : (number : ℕ) (values : List ℕ) → Told
  refused : (number : ℕ) → Told

abbrev pub told : Result Answer Refusal → Told
told (Ok a) = answered (answer_number a) (answer_values a)
told (Err why) = refused (refusal_number why)
