-- The frames of an answer: kind 4, the session of the event, and the answer's text, in as few frames as hold it.
use Rattle.std.specs.Prelude.{◌-◌, ◌/◌, ℕ, zero, suc, List, ◌++◌, length, take, drop}
use Rattle.wire.specs.Frame.{frame}

-- a text in so many full frames, and one more
abbrev pub cut_frames : ℕ → ℕ → List ℕ → List ℕ
cut_frames zero session text = frame 4 session text
cut_frames (suc n) session text = frame 4 session (take 131067 text) ++ cut_frames n session (drop 131067 text)

-- all frames but the last are full, and only the frame of an empty text is empty
unfoldable pub answer_frames : ℕ → List ℕ → List ℕ
answer_frames session text = cut_frames ((length text - 1) / 131067) session text
