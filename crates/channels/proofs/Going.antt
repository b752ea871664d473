-- What goes out of what was said.
use Rattle.std.proofs.Common.{◌≡◌, ◌∙◌, ◌+◌, ℕ, List, ◌++◌, take, drop, Option, ap, sym}
use Rattle.std.proofs.KnownBytes.{append_known-moved}
use Rattle.std.proofs.lemmas.List.{append_assoc, drop-drop, take-append-drop}
use Rattle.std.specs.Io.KnownBytes.{Appends, Keeps, append_known}
use Rattle.channels.specs.Channels.{left}

-- the first bytes of what was left went out
pub gone : (before after : Option (List ℕ)) (going said : List ℕ) (sent count : ℕ) → Appends before after (take count (drop sent going))
    → Keeps (append_known before (left going sent said)) (append_known after (left going (sent + count) said))
gone before after going said sent count went =
    let cut : left going sent said ≡ take count (drop sent going) ++ left going (sent + count) said =
    ap (λ (l : List ℕ). l ++ said) (sym (take-append-drop count (drop sent going)) ∙ ap (λ (l : List ℕ). take count (drop sent going) ++ l) (drop-drop count sent going))
    ∙ append_assoc (take count (drop sent going)) (drop (sent + count) going) said in
    append_known-moved before after (take count (drop sent going)) (left going (sent + count) said) (left going sent said) went cut

-- the first bytes that were still to come have come
pub came : (bytes : List ℕ) (read count : ℕ) (buffer : List ℕ) → take count buffer ≡ take count (drop read bytes) → drop read bytes ≡ take count buffer ++ drop (read + count) bytes
came bytes read count buffer copied =
    sym (take-append-drop count (drop read bytes)) ∙ ap (λ (l : List ℕ). take count (drop read bytes) ++ l) (drop-drop count read bytes)
    ∙ ap (λ (l : List ℕ). l ++ drop (read + count) bytes) (sym copied)
