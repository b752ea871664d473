-- A frame that a client sends: its length, its kind, its session and what it carries. All numbers are big-endian.
use Rattle.std.specs.Prelude.{◌≡◌, ◌<◌, ◌≤◌, ◌+◌, ◌-◌, ◌^◌, ◌==◌, ◌&&◌, ℕ, Bool, true, false, nat_le, nat_lt, if◌then◌else◌, List, [], ◌∷◌, ◌++◌, length, take, drop, slice_index}
use Rattle.std.specs.Int.{w32, to_be_bytes, from_be_bytes}
use Rattle.std.specs.Str.{is_utf8}
use Rattle.sql_types.specs.declared.event.Event.{Event}
use Rattle.sql_types.specs.declared.event.Event.TheVariants.{Open, Statement, Close}

-- ---- from events to bytes

-- the bytes of a frame: its length counts what follows the length
abbrev pub frame : ℕ → ℕ → List ℕ → List ℕ
frame kind session payload = to_be_bytes w32 (5 + length payload) ++ (kind ∷ (to_be_bytes w32 session ++ payload))

abbrev pub event_frame : Event → List ℕ
event_frame (Open session login) = frame 1 session login
event_frame (Statement session text) = frame 2 session text
event_frame (Close session) = frame 3 session []

-- an event that a frame can carry
abbrev pub HasFrame : Event → Type 0
HasFrame (Open session login) = (session < 2 ^ 32) × (length login ≤ 131067) × (is_utf8 login ≡ true)
HasFrame (Statement session text) = (session < 2 ^ 32) × (length text ≤ 131067) × (is_utf8 text ≡ true)
HasFrame (Close session) = session < 2 ^ 32

-- ---- from bytes to events

-- what stands at the front of a stream: less than a frame, a bad frame, or the whole frame of an event, of so many bytes
pub data NextFrame : Type 0 where
  incomplete : NextFrame
  bad : NextFrame
  whole : Event → ℕ → NextFrame

-- the lengths that a frame may name
abbrev pub is_length : ℕ → Bool
is_length n = nat_le 5 n && nat_le n 131072

-- the frame of an event, unless its payload is not what its kind asks for
abbrev pub whole_if : Bool → Event → ℕ → NextFrame
whole_if true event size = whole event size
whole_if false event size = bad

-- a frame that is there to its end, by its kind
abbrev pub frame_of_kind : ℕ → ℕ → List ℕ → ℕ → NextFrame
frame_of_kind kind session payload size =
    if kind == 1 then whole_if (is_utf8 payload) (Open session payload) size
    else (if kind == 2 then whole_if (is_utf8 payload) (Statement session payload) size
    else (if kind == 3 then whole_if (nat_le (length payload) 0) (Close session) size
    else bad))

-- a frame behind its length: a length out of range is bad at once, the rest is read when all of it is there
abbrev pub frame_of_length : ℕ → List ℕ → NextFrame
frame_of_length n bytes =
    if is_length n then
    (if nat_lt (length bytes) (4 + n) then incomplete
    else frame_of_kind (slice_index bytes 4) (from_be_bytes w32 (drop 5 bytes)) (take (n - 5) (drop 9 bytes)) (4 + n))
    else bad

unfoldable pub next_frame : List ℕ → NextFrame
next_frame bytes = if nat_lt (length bytes) 4 then incomplete else frame_of_length (from_be_bytes w32 bytes) bytes
