-- The kinds of frames, and the sixteen bits that state each. Assumes nothing.
use Rattle.std.specs.Prelude.{ℕ, cond, Ok, Err, Result, ◌==◌}
use Rattle.frames.specs.Limits.{wrapper_kind, request_kind, response_kind, authenticate_kind, status_kind, notice_kind}
use Rattle.frames.specs.declared.kinds.Kind.{Kind}
use Rattle.frames.specs.declared.kinds.Kind.TheVariants.{Wrapper, Request, Response, Authenticate, Status, Notice}
use Rattle.frames.specs.declared.reading.Unreadable.{Unreadable}
use Rattle.frames.specs.declared.reading.Unreadable.TheVariants as no

abbrev pub kind_number : Kind → ℕ
kind_number Wrapper = wrapper_kind
kind_number Request = request_kind
kind_number Response = response_kind
kind_number Authenticate = authenticate_kind
kind_number Status = status_kind
kind_number Notice = notice_kind

-- the kind that is stated, or why there is none
abbrev pub kind_of : ℕ → Result Kind Unreadable
kind_of k =
    cond (k == wrapper_kind) (Ok Wrapper)
    (cond (k == request_kind) (Ok Request)
    (cond (k == response_kind) (Ok Response)
    (cond (k == authenticate_kind) (Ok Authenticate)
    (cond (k == status_kind) (Ok Status)
    (cond (k == notice_kind) (Ok Notice)
    (Err no.Kind))))))
