-- Characters are counted one after the other.
use Rattle.std.proofs.Common.{◌≡◌, ◌∙◌, ℕ, ◌+◌, ◌<◌, ◌≤◌, Bool, true, false, if◌then◌else◌, List, [], ◌∷◌, length, take, get_or, sym, ap, arith}
use Rattle.std.proofs.lemmas.List.{take_more}
use Rattle.std.proofs.lemmas.List.Sums.{fold-append}
use Rattle.postgres_talks.specs.Pieces.{begins_character, character_after, character_count}

pub counts_on : (bytes : List ℕ) (i count next : ℕ) (d : ℕ) → count ≡ character_count (take i bytes) → i < length bytes → next ≡ character_after count (get_or bytes i d) → next ≡ character_count (take (i + 1) bytes)
counts_on bytes i count next d so lt is =
    let more : character_count (take (i + 1) bytes) ≡ character_after (character_count (take i bytes)) (get_or bytes i d) =
    ap character_count (take_more bytes i d lt) ∙ fold-append character_after 0 (take i bytes) (get_or bytes i d ∷ [])
    in is ∙ ap (λ n. character_after n (get_or bytes i d)) so ∙ sym more

at_most_if : (b : Bool) (n : ℕ) → (if b then n + 1 else n) ≤ n + 1
at_most_if true n = omega arith
at_most_if false n = omega arith

pub next_at_most : (bytes : List ℕ) (i n next d : ℕ) → n ≤ i → next ≡ character_after n (get_or bytes i d) → next ≤ i + 1
next_at_most bytes i n next d le e = omega (arith, le, e, at_most_if (begins_character (get_or bytes i d)) n)
