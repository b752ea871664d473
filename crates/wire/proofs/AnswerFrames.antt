-- Frames that are written one after the other.
use Rattle.std.proofs.Common.{◌≡◌, ◌<◌, ◌≤◌, ◌-◌, ◌/◌, ℕ, suc, List, ◌++◌, length, take, drop, refl, arith, Result, Ok, Err, OnOk}
use Rattle.std.proofs.lemmas.List.{length-drop}
use Rattle.wire.specs.Frame.{frame}
use Rattle.wire.specs.AnswerFrames.{answer_frames}

pub frames_end : (session : ℕ) (text : List ℕ) → length text ≤ 131067 → answer_frames session text ≡ frame 4 session text
unfolding answer_frames
frames_end session text small = let none : (length text - 1) / 131067 ≡ 0 = omega arith in rw none refl

pub frames_more : (session : ℕ) (text : List ℕ) → 131067 < length text
    → answer_frames session text ≡ frame 4 session (take 131067 text) ++ answer_frames session (drop 131067 text)
unfolding answer_frames
frames_more session text large =
    let less = length-drop 131067 text in
    let count : (length text - 1) / 131067 ≡ suc ((length (drop 131067 text) - 1) / 131067) = omega arith in
    rw count refl

pub on_ok : {T E : Type 0} (r : Result T E) (P Q : Type 0) → (P → Q) → OnOk r P → OnOk r Q
on_ok (Ok x) P Q f p = f p
on_ok (Err e) P Q f p = tt
