-- Fronts of frames.
use Rattle.std.proofs.Common.{◌≡◌, ◌≤◌, ℕ, List, ◌++◌, length, refl, ap}
use Rattle.talks.specs.declared.talk.MessageFront.TheVariants.{Whole, Bad}
use Rattle.wire.specs.Frame.{NextFrame, incomplete, bad, whole, next_frame}
use Rattle.wire.proofs.NextFrames.{more_whole, more_bad, whole_size}
use Rattle.frame_talks.specs.FrameTalks.{front_of}

pub front_more : (bytes more : List ℕ) (n : ℕ) → front_of (next_frame bytes) ≡ Whole n → (n ≤ length bytes) × (front_of (next_frame (bytes ++ more)) ≡ Whole n)
front_more bytes more n is = go (next_frame bytes) refl is
  where
    go : (f : NextFrame) → next_frame bytes ≡ f → front_of f ≡ Whole n → (n ≤ length bytes) × (front_of (next_frame (bytes ++ more)) ≡ Whole n)
    go incomplete at it = cc
    go bad at it = cc
    go (whole e size) at it =
        let same : size ≡ n = cc in
        rw (← same) ((whole_size bytes e size at).1, ap front_of (more_whole bytes more e size at))

pub bad_more : (bytes more : List ℕ) → front_of (next_frame bytes) ≡ Bad → front_of (next_frame (bytes ++ more)) ≡ Bad
bad_more bytes more is = go (next_frame bytes) refl is
  where
    go : (f : NextFrame) → next_frame bytes ≡ f → front_of f ≡ Bad → front_of (next_frame (bytes ++ more)) ≡ Bad
    go incomplete at it = cc
    go bad at it = ap front_of (more_bad bytes more at)
    go (whole e size) at it = cc
