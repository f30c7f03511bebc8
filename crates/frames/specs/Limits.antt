-- The kinds of frames, and the limits on lengths in octets; the largest telegram is the sealer's. Assumes nothing.
use Rattle.std.specs.Prelude.{ℕ}

abbrev pub wrapper_kind : ℕ
wrapper_kind = 0x0950

abbrev pub request_kind : ℕ
request_kind = 0x0951

abbrev pub response_kind : ℕ
response_kind = 0x0952

abbrev pub authenticate_kind : ℕ
authenticate_kind = 0x0953

abbrev pub status_kind : ℕ
status_kind = 0x0954

abbrev pub notice_kind : ℕ
notice_kind = 0x0955

abbrev pub largest_frame : ℕ
largest_frame = 512

-- what a secure wrapper adds to its telegram
abbrev pub wrapper_overhead : ℕ
wrapper_overhead = 38

abbrev pub smallest_wrapper : ℕ
smallest_wrapper = 44

abbrev pub request_length : ℕ
request_length = 46

abbrev pub notice_length : ℕ
notice_length = 36

abbrev pub authenticate_length : ℕ
authenticate_length = 24

abbrev pub status_length : ℕ
status_length = 8

abbrev pub response_length : ℕ
response_length = 56

-- of the session response where no slot is free
abbrev pub no_session_length : ℕ
no_session_length = 8
