-- The frame by which a client asks what a statement would answer: kind 8, the session, and the statement's text.
use Rattle.std.specs.Prelude.{◌+◌, ◌-◌, ◌==◌, ℕ, Bool, true, false, nat_lt, if◌then◌else◌, List, length, take, drop, slice_index}
use Rattle.std.specs.Int.{w32, from_be_bytes}
use Rattle.std.specs.Str.{is_utf8}
use Rattle.wire.specs.Frame.{frame, is_length}

-- how a client spells it
abbrev pub heading_frame : ℕ → List ℕ → List ℕ
heading_frame session text = frame 8 session text

-- what stands at the front of a stream: too little to tell, or a part of such a frame; the whole frame, of so many bytes; or no such frame
pub data NextHeading : Type 0 where
  part : NextHeading
  asks : ℕ → List ℕ → ℕ → NextHeading
  other : NextHeading

-- one that is there to its end asks something, if its text is UTF-8
abbrev pub asked_if : Bool → ℕ → List ℕ → ℕ → NextHeading
asked_if true session text size = asks session text size
asked_if false session text size = other

-- a frame of this kind, of so many bytes behind its length
abbrev pub heading_of_length : ℕ → List ℕ → NextHeading
heading_of_length n bytes =
    if nat_lt (length bytes) (4 + n) then part
    else asked_if (is_utf8 (take (n - 5) (drop 9 bytes))) (from_be_bytes w32 (drop 5 bytes)) (take (n - 5) (drop 9 bytes)) (4 + n)

-- by the kind, once it is there
abbrev pub heading_of_kind : ℕ → List ℕ → NextHeading
heading_of_kind n bytes =
    if nat_lt (length bytes) 5 then part
    else (if slice_index bytes 4 == 8 then heading_of_length n bytes else other)

unfoldable pub next_heading : List ℕ → NextHeading
next_heading bytes =
    if nat_lt (length bytes) 4 then part
    else (if is_length (from_be_bytes w32 bytes) then heading_of_kind (from_be_bytes w32 bytes) bytes else other)

-- the same where a client may ask, or may not: then none is such a frame
abbrev pub taken_if : Bool → NextHeading → NextHeading
taken_if true h = h
taken_if false h = other
