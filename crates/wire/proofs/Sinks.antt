-- A text that a sink takes in pieces, and frames that are cut off it.
use Rattle.std.proofs.Common.{◌≡◌, ◌<◌, ◌≤◌, ◌+◌, ℕ, List, [], ◌∷◌, ◌++◌, Option, length, take, drop, get_or, slice_index, flat_map, sym, ap, ◌∙◌, subst, append_assoc, arith, Result, Ok, Err, OnOk}
use Rattle.std.proofs.lemmas.Grind.{flat_map-append}
use Rattle.std.proofs.Math.Seq.{take-append-add}
use Rattle.std.proofs.lemmas.List.{append-nil, take_more, take_at, drop_at, length-append, length-drop, length-take-le, drop-append-le}
use Rattle.std.proofs.lemmas.Slice.{between_is}
use Rattle.wire.specs.Frame.{frame}
use Rattle.wire.specs.AnswerFrames.{answer_frames}
use Rattle.wire.specs.Sinks.{held_text, IsCut}
use Rattle.wire.proofs.AnswerFrames.{frames_end, frames_more}

-- a piece more
module _ {S : Type 0} (takes : S → Option (List ℕ) → List ℕ → S → Option (List ℕ) → Type 0)
    (joined : (s m t : S) (before mid after : Option (List ℕ)) (text more : List ℕ) → takes s before text m mid → takes m mid more t after → takes s before (text ++ more) t after) where
  pub taken_on : (s m t : S) (before mid after : Option (List ℕ)) (text more whole : List ℕ) → takes s before text m mid → takes m mid more t after → text ++ more ≡ whole → takes s before whole t after
  taken_on s m t before mid after text more whole p q is = subst (λ (w : List ℕ). takes s before w t after) is (joined s m t before mid after text more p q)

-- the texts of one item more
pub texts_more : {X : Type 0} (f : X → List ℕ) (xs : List X) (i : ℕ) (d : X) → i < length xs → flat_map f (take i xs) ++ f (get_or xs i d) ≡ flat_map f (take (i + 1) xs)
texts_more f xs i d lt = sym (
    ap (flat_map f) (take_more xs i d lt)
    ∙ flat_map-append f (take i xs) (get_or xs i d ∷ [])
    ∙ ap (λ (w : List ℕ). flat_map f (take i xs) ++ w) (append-nil (f (get_or xs i d))))

-- the text of one byte more, which is the byte alone
pub plain_more : (f : ℕ → List ℕ) (xs : List ℕ) (i d : ℕ) → i < length xs → flat_map f (take i xs) ≡ take i xs → f (get_or xs i d) ≡ get_or xs i d ∷ [] → flat_map f (take (i + 1) xs) ≡ take (i + 1) xs
plain_more f xs i d lt before plain =
    sym (texts_more f xs i d lt)
    ∙ ap (λ (w : List ℕ). w ++ f (get_or xs i d)) before
    ∙ ap (λ (w : List ℕ). take i xs ++ w) plain
    ∙ sym (take_more xs i d lt)

-- the text of an item that was read there
pub texts_read : {X : Type 0} (f : X → List ℕ) (xs : List X) (i : ℕ) (x read : X) → i < length xs → x ≡ get_or xs i x → read ≡ x → flat_map f (take i xs) ++ f read ≡ flat_map f (take (i + 1) xs)
texts_read f xs i x read lt is same = ap (λ y. flat_map f (take i xs) ++ f y) (same ∙ is) ∙ texts_more f xs i x lt

-- a piece more, unless the writer fails
module _ {S T E : Type 0} (takes : S → Option (List ℕ) → List ℕ → S → Option (List ℕ) → Type 0)
    (joined : (s m t : S) (before mid after : Option (List ℕ)) (text more : List ℕ) → takes s before text m mid → takes m mid more t after → takes s before (text ++ more) t after) where
  pub then_taken : (r : Result T E) (s m t : S) (before mid after : Option (List ℕ)) (text more whole : List ℕ)
      → takes s before text m mid → OnOk r (takes m mid more t after) → text ++ more ≡ whole → OnOk r (takes s before whole t after)
  then_taken (Ok x) s m t before mid after text more whole p q is = subst (λ (w : List ℕ). takes s before w t after) is (joined s m t before mid after text more p q)
  then_taken (Err e) s m t before mid after text more whole p q is = tt

-- ---- frames

pub full_frame : (session : ℕ) (full more : List ℕ) → length full ≡ 131067 → 0 < length more → answer_frames session (full ++ more) ≡ frame 4 session full ++ answer_frames session more
full_frame session full more size some =
    let front : take 131067 (full ++ more) ≡ full = take_at full more 131067 size in
    let back : drop 131067 (full ++ more) ≡ more = drop_at full more 131067 size in
    frames_more session (full ++ more) (omega (arith, length-append full more, size, some))
    ∙ ap (λ (x : List ℕ). frame 4 session x ++ answer_frames session (drop 131067 (full ++ more))) front
    ∙ ap (λ (x : List ℕ). frame 4 session full ++ answer_frames session x) back

-- what is held is filled up by the front of a text
pub filled : (session : ℕ) (held text front behind later : List ℕ) → text ≡ front ++ behind → length (held ++ front) ≡ 131067 → 0 < length behind
    → answer_frames session (held ++ (text ++ later)) ≡ frame 4 session (held ++ front) ++ answer_frames session (behind ++ later)
filled session held text front behind later is size some =
    let parts : held ++ (text ++ later) ≡ (held ++ front) ++ (behind ++ later) =
    ap (λ (x : List ℕ). held ++ (x ++ later)) is ∙ ap (λ (x : List ℕ). held ++ x) (append_assoc front behind later) ∙ sym (append_assoc held front (behind ++ later)) in
    ap (answer_frames session) parts ∙ full_frame session (held ++ front) (behind ++ later) size (omega (arith, length-append behind later, some))

-- ---- a frame that is laid out

pub held_length : (bytes : List ℕ) (used : ℕ) → length bytes ≡ 131076 → used ≤ 131067 → length (held_text bytes used) ≡ used
held_length bytes used sized fits = length-take-le used (drop 9 bytes) (omega (arith, length-drop 9 bytes, sized, fits))

held_before : (bytes : List ℕ) (used : ℕ) → held_text bytes used ≡ drop 9 (take (9 + used) bytes)
held_before bytes used = ap (λ (n : ℕ). take n (drop 9 bytes)) (omega arith) ∙ between_is bytes 9 (9 + used)

-- a piece was put behind what is held
pub held_more : (bytes piece new : List ℕ) (used : ℕ) → length bytes ≡ 131076 → used + length piece ≤ 131067
    → new ≡ take (9 + used) bytes ++ (piece ++ drop (9 + used + length piece) bytes) → held_text new (used + length piece) ≡ held_text bytes used ++ piece
held_more bytes piece new used sized fits is =
    let rest = drop (9 + used + length piece) bytes in
    let before : length (take (9 + used) bytes) ≡ 9 + used = length-take-le (9 + used) bytes (omega (arith, sized, fits)) in
    held_before new (used + length piece)
    ∙ ap (λ (x : List ℕ). drop 9 (take (9 + (used + length piece)) x)) (is ∙ sym (append_assoc (take (9 + used) bytes) piece rest))
    ∙ ap (drop 9) (take_at (take (9 + used) bytes ++ piece) rest (9 + (used + length piece)) (omega (arith, length-append (take (9 + used) bytes) piece, before)))
    ∙ drop-append-le 9 (take (9 + used) bytes) piece (omega (arith, before))
    ∙ ap (λ (x : List ℕ). x ++ piece) (sym (held_before bytes used))

-- the nine bytes before a text, from the four of its length and the four of its session
abbrev pub nine : List ℕ → List ℕ → List ℕ
nine n s = slice_index n 0 ∷ slice_index n 1 ∷ slice_index n 2 ∷ slice_index n 3 ∷ 4 ∷ slice_index s 0 ∷ slice_index s 1 ∷ slice_index s 2 ∷ slice_index s 3 ∷ []

-- nine bytes were put before what is held
pub laid_out : (bytes head new : List ℕ) (used : ℕ) → length head ≡ 9 → new ≡ head ++ drop 9 bytes → take (9 + used) new ≡ head ++ held_text bytes used
laid_out bytes head new used size is =
    let more : 9 + used ≡ length head + used = omega (arith, size) in
    ap (take (9 + used)) is ∙ ap (λ (n : ℕ). take n (head ++ drop 9 bytes)) more ∙ take-append-add head (drop 9 bytes) used

-- ---- frames that were cut so far

pub cut_on : (n m : ℕ) (first piece held rest front behind full sent left : List ℕ) → m ≡ n → rest ≡ front ++ behind → full ≡ held ++ front → length full ≡ 131067 → 0 < length behind → left ≡ []
    → ((later : List ℕ) → answer_frames n (first ++ (piece ++ later)) ≡ sent ++ answer_frames n (held ++ (rest ++ later)))
    → (later : List ℕ) → answer_frames n (first ++ (piece ++ later)) ≡ (sent ++ frame 4 m full) ++ answer_frames n (left ++ (behind ++ later))
cut_on n m first piece held rest front behind full sent left same is whole size some none so_far later =
    so_far later
    ∙ ap (λ (x : List ℕ). sent ++ x) (filled n held rest front behind later is (ap length (sym whole) ∙ size) some)
    ∙ sym (append_assoc sent (frame 4 n (held ++ front)) (answer_frames n (behind ++ later)))
    ∙ ap (λ (x : List ℕ). (sent ++ frame 4 n x) ++ answer_frames n (behind ++ later)) (sym whole)
    ∙ ap (λ (k : ℕ). (sent ++ frame 4 k full) ++ answer_frames n (behind ++ later)) (sym same)
    ∙ ap (λ (x : List ℕ). (sent ++ frame 4 m full) ++ answer_frames n (x ++ (behind ++ later))) (sym none)

-- what is held is the last frame
pub finished : (n m k : ℕ) (first text sent held : List ℕ) → m ≡ n → k ≡ n → first ≡ [] → length held ≤ 131067 → IsCut m first text sent held
    → sent ++ frame 4 k held ≡ answer_frames n text
finished n m k first text sent held same still none small cut = sym (
    ap (answer_frames n) (sym (append-nil text))
    ∙ ap (λ (x : List ℕ). answer_frames n (x ++ (text ++ []))) (sym none)
    ∙ ap (λ (x : ℕ). answer_frames x (first ++ (text ++ []))) (sym same)
    ∙ cut []
    ∙ ap (λ (x : List ℕ). sent ++ answer_frames m x) (append-nil held)
    ∙ ap (λ (x : ℕ). sent ++ answer_frames x held) same
    ∙ ap (λ (x : List ℕ). sent ++ x) (frames_end n held small)
    ∙ ap (λ (x : ℕ). sent ++ frame 4 x held) (sym still))
