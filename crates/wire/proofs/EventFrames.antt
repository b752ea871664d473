-- The frame of an event, read again.
use Rattle.std.proofs.Common.{◌≡◌, ◌<◌, ◌≤◌, ◌+◌, ◌-◌, ◌^◌, ℕ, List, [], ◌∷◌, ◌++◌, length, take, drop, sym, ap, ◌∙◌, arith}
use Rattle.std.proofs.lemmas.List.{take_at, length-append}
use Rattle.std.specs.Int.{w32, to_be_bytes, from_be_bytes}
use Rattle.wire.proofs.FrameNumbers.{number_read}
use Rattle.sql_types.specs.declared.event.Event.{Event}
use Rattle.sql_types.specs.declared.event.Event.TheVariants.{Open, Statement, Close}
use Rattle.wire.specs.Frame.{whole, is_length, next_frame, frame_of_kind, frame, event_frame, HasFrame}
use Rattle.wire.proofs.NextFrames.{named, carried, carried_there, length_to}

-- a frame is read by its kind, whatever follows it
frame_read : (kind session : ℕ) (payload rest : List ℕ) → session < 2 ^ 32 → length payload ≤ 131067
    → next_frame (frame kind session payload ++ rest) ≡ frame_of_kind kind session payload (9 + length payload)
frame_read kind session payload rest fits most =
    let n : ℕ = 5 + length payload in
    let bytes : List ℕ = frame kind session payload ++ rest in
    let size : length bytes ≡ 9 + length payload + length rest = omega (arith, length-append payload rest) in
    let name : named bytes ≡ n = number_read n (kind ∷ (to_be_bytes w32 session ++ (payload ++ rest))) (omega (arith, most)) in
    let whose : from_be_bytes w32 (drop 5 bytes) ≡ session = number_read session (payload ++ rest) fits in
    let carries : take (n - 5) (drop 9 bytes) ≡ payload = take_at payload rest (n - 5) (omega arith) in
    carried_there bytes (omega arith) (ap is_length name ∙ length_to n (omega arith) (omega arith)) (omega arith)
    ∙ ap (carried bytes) name
    ∙ ap (λ (s : ℕ). frame_of_kind kind s (take (n - 5) (drop 9 bytes)) (4 + n)) whose
    ∙ ap (λ (p : List ℕ). frame_of_kind kind session p (4 + n)) carries
    ∙ ap (frame_of_kind kind session payload) (omega arith)

frame_size : (kind session : ℕ) (payload : List ℕ) → length (frame kind session payload) ≡ 9 + length payload
frame_size kind session payload = omega arith

pub event_read : (e : Event) (rest : List ℕ) → HasFrame e → next_frame (event_frame e ++ rest) ≡ whole e (length (event_frame e))
event_read (Open session login) rest has = frame_read 1 session login rest has.0 has.1 ∙ rw has.2 (ap (whole (Open session login)) (sym (frame_size 1 session login)))
event_read (Statement session text) rest has = frame_read 2 session text rest has.0 has.1 ∙ rw has.2 (ap (whole (Statement session text)) (sym (frame_size 2 session text)))
event_read (Close session) rest has = frame_read 3 session [] rest has (omega arith) ∙ ap (whole (Close session)) (sym (frame_size 3 session []))
