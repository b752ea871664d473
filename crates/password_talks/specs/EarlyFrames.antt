-- What a client may send before it is admitted: frames of kind 5 and 7, of at most 1,104 bytes. All numbers are big-endian.
use Rattle.std.specs.Prelude.{◌≡◌, ◌+◌, ◌==◌, ◌&&◌, ℕ, Bool, nat_le, nat_lt, if◌then◌else◌, List, [], ◌∷◌, ◌++◌, length, take, drop, slice_index}
use Rattle.std.specs.Int.{w32, from_be_bytes}
use Rattle.std.specs.Str.{is_utf8}
use Rattle.talks.specs.declared.talk.MessageFront.{MessageFront}
use Rattle.talks.specs.declared.talk.MessageFront.TheVariants.{Nothing, Whole, Bad}
use Rattle.wire.specs.Frame.{frame}

-- ---- from bytes to frames

-- what a message is: the beginning of an exchange under a label, with a role, by a first message; its end, by a last one; an event of a
-- session, which is not taken yet; or none of these
pub data TheFrame : Type 0 where
  begins : ℕ → List ℕ → List ℕ → TheFrame
  ends : ℕ → List ℕ → TheFrame
  event : ℕ → TheFrame
  bad : TheFrame

-- the lengths that a frame may name
abbrev pub is_early_length : ℕ → Bool
is_early_length n = nat_le 5 n && nat_le n 1100

-- a frame is a message as soon as it is there to its end, and bad as soon as it names a length out of range
abbrev pub front_of_length : ℕ → ℕ → MessageFront
front_of_length n there =
    if is_early_length n then (if nat_lt there (4 + n) then Nothing else Whole (4 + n))
    else Bad

unfoldable pub early_front : List ℕ → MessageFront
early_front bytes = if nat_lt (length bytes) 4 then Nothing else front_of_length (from_be_bytes w32 bytes) (length bytes)

-- the name of a role, up to the first zero byte, and the first message, behind that
pub data Beginning : Type 0 where
  named : List ℕ → List ℕ → Beginning
  unnamed : Beginning

abbrev pub longer : ℕ → Beginning → Beginning
longer byte (named role first) = named (byte ∷ role) first
longer byte unnamed = unnamed

abbrev pub cut_at_zero : List ℕ → Beginning
cut_at_zero [] = unnamed
cut_at_zero (byte ∷ bytes) = if byte == 0 then named [] bytes else longer byte (cut_at_zero bytes)

abbrev pub frame_of_parts : ℕ → Beginning → TheFrame
frame_of_parts label (named role first) = if is_utf8 role then begins label role first else bad
frame_of_parts label unnamed = bad

abbrev pub frame_of_beginning : ℕ → List ℕ → TheFrame
frame_of_beginning label payload = frame_of_parts label (cut_at_zero payload)

-- a frame, by its kind
abbrev pub frame_of_kind : ℕ → ℕ → List ℕ → TheFrame
frame_of_kind kind label payload =
    if kind == 5 then frame_of_beginning label payload
    else (if kind == 7 then ends label payload
    else (if kind == 1 then event label
    else (if kind == 2 then event label
    else (if kind == 3 then event label
    else bad))))

-- the frame that a message is: its length, its kind, its label and what it carries
unfoldable pub early_frame : List ℕ → TheFrame
early_frame message =
    if nat_lt (length message) 9 then bad
    else frame_of_kind (slice_index message 4) (from_be_bytes w32 (drop 5 message)) (drop 9 message)

-- some bytes begin with this frame, and this is the rest
pub record Sends (bytes : List ℕ) (f : TheFrame) (rest : List ℕ) : Type 0 where
  pub size : ℕ
  pub front : early_front bytes ≡ Whole size
  pub is_frame : early_frame (take size bytes) ≡ f
  pub rest_is : rest ≡ drop size bytes

-- ---- from frames to bytes

-- how a client spells the two messages of an exchange
abbrev pub beginning_frame : ℕ → List ℕ → List ℕ → List ℕ
beginning_frame label role first = frame 5 label (role ++ 0 ∷ first)

abbrev pub ending_frame : ℕ → List ℕ → List ℕ
ending_frame label last = frame 7 label last

-- how a message of the server is said
abbrev pub message_frame : ℕ → List ℕ → List ℕ
message_frame label message = frame 6 label message
