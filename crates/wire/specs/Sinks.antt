-- What a frame buffer does with the pieces of a text, and what known bytes do.
use Rattle.std.specs.Prelude.{◌≡◌, ℕ, List, [], ◌++◌, take, drop, Option, None, Some}
use Rattle.std.proofs.Common.{refl, ap, ◌∙◌, append_assoc, sym, subst}
use Rattle.std.proofs.lemmas.List.{append-nil}
use Rattle.std.specs.Io.KnownBytes.{Appends}
use Rattle.wire.specs.AnswerFrames.{answer_frames}

pub appends_none : (a : Option (List ℕ)) → Appends a a []
appends_none None = tt
appends_none (Some x) = sym (append-nil x)

pub appends_joined : (a b c : Option (List ℕ)) (xs ys : List ℕ) → Appends a b xs → Appends b c ys → Appends a c (xs ++ ys)
appends_joined None b c xs ys p q = tt
appends_joined (Some x) None c xs ys p q = absurd p
appends_joined (Some x) (Some y) None xs ys p q = absurd q
appends_joined (Some x) (Some y) (Some z) xs ys p q = q ∙ ap (λ (w : List ℕ). w ++ ys) p ∙ append_assoc x xs ys

-- the text that waits in a frame that is laid out, behind the nine bytes that come before it
abbrev pub held_text : List ℕ → ℕ → List ℕ
held_text frame used = take used (drop 9 frame)

-- Where one text was held and another came, these bytes were sent and the rest is held: whatever text comes later, the
-- frames of the whole are the bytes sent, and then the frames of the rest with what comes later.
abbrev pub IsCut : ℕ → List ℕ → List ℕ → List ℕ → List ℕ → Type 0
IsCut session held text sent rest =
    (later : List ℕ) → answer_frames session (held ++ (text ++ later)) ≡ sent ++ answer_frames session (rest ++ later)

-- A text was taken into frames of the same session: what was not sent to the writer is held.
abbrev pub HasTaken : ℕ → List ℕ → Option (List ℕ) → List ℕ → ℕ → List ℕ → Option (List ℕ) → Type 0
HasTaken session held before text later_session rest after =
    (later_session ≡ session) × ((sent : List ℕ) × Appends before after sent × IsCut session held text sent rest)

pub taken_none : (n : ℕ) (held : List ℕ) (written : Option (List ℕ)) → HasTaken n held written [] n held written
taken_none n held written = (refl, ([], appends_none written, (λ later. refl)))

pub taken_joined : (i j k : ℕ) (s m t : List ℕ) (before mid after : Option (List ℕ)) (text more : List ℕ)
    → HasTaken i s before text j m mid → HasTaken j m mid more k t after → HasTaken i s before (text ++ more) k t after
taken_joined i j k s m t before mid after text more first second = (
  second.0 ∙ first.0,
  (
    first.1.0 ++ second.1.0,
    appends_joined before mid after first.1.0 second.1.0 first.1.1 second.1.1,
    (λ later.
        ap (λ (x : List ℕ). answer_frames i (s ++ x)) (append_assoc text more later)
        ∙ first.1.2 (more ++ later)
        ∙ ap (λ (x : List ℕ). first.1.0 ++ x) (subst (λ (n : ℕ). answer_frames n (m ++ (more ++ later)) ≡ second.1.0 ++ answer_frames n (t ++ later)) first.0 (second.1.2 later))
        ∙ sym (append_assoc first.1.0 second.1.0 (answer_frames i (t ++ later)))),
  ),
)
