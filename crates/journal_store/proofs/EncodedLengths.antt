-- How many bytes changes take in a record, one after the other, and how many parts.
use Rattle.std.proofs.Common.{◌≡◌, ◌<◌, ◌≤◌, ◌+◌, ◌*◌, ◌/◌, ◌++◌, ◌∷◌, [], ℕ, true, List, Option, Some, None, length, drop, get_or, replicate, sym, ap, ◌∙◌, arith}
use Rattle.std.specs.Prelude.{MatchOption, is_some}
use Rattle.std.proofs.lemmas.List.{length-append, drop_more, length-replicate}
use Rattle.store.specs.Records.{Changes}
use Rattle.store.specs.Batch.{all_changes}
use Rattle.journal.specs.Changes.{change_then, changes_then, Spells}
use Rattle.journal_store.specs.Encoded.{encoded_length}

-- a put, and then other bytes
pub put_length : (key value rest : List ℕ) → length (change_then key (Some value) rest) ≡ 5 + length key + length value + length rest
put_length key value rest =
    let keyed : length (key ++ (value ++ rest)) ≡ length key + length (value ++ rest) = length-append key (value ++ rest) in
    omega (arith, keyed, length-append value rest)

-- a removal, and then other bytes
pub removal_length : (key rest : List ℕ) → length (change_then key None rest) ≡ 3 + length key + length rest
removal_length key rest = omega (arith, length-append key rest)

change_length : (key : List ℕ) (value : Option (List ℕ)) (rest : List ℕ) → length (change_then key value rest) ≡ length (change_then key value []) + length rest
change_length key (Some value) rest = omega (arith, put_length key value rest, put_length key value [])
change_length key None rest = omega (arith, removal_length key rest, removal_length key [])

-- all changes, and then other bytes
pub changes_length : (cs : Changes) (rest : List ℕ) → length (changes_then cs rest) ≡ encoded_length cs + length rest
changes_length [] rest = let none : length rest ≡ 0 + length rest = omega arith in none
changes_length (c ∷ cs) rest =
    let all = change_length c.0 c.1 (changes_then cs rest) in
    let alone = change_length c.0 c.1 (changes_then cs []) in
    omega (arith, all, alone, changes_length cs rest)

-- one change more in front
pub one_in_front : (c : List ℕ × Option (List ℕ)) (cs : Changes) → encoded_length (c ∷ cs) ≡ encoded_length (c ∷ []) + encoded_length cs
one_in_front c cs = change_length c.0 c.1 (changes_then cs [])

-- changes in front of others
pub all_in_front : (cs ds : Changes) → encoded_length (cs ++ ds) ≡ encoded_length cs + encoded_length ds
all_in_front [] ds = let none : encoded_length ds ≡ 0 + encoded_length ds = omega arith in none
all_in_front (c ∷ cs) ds = omega (arith, one_in_front c (cs ++ ds), one_in_front c cs, all_in_front cs ds)

-- what is left of changes, one change on
pub one_change_on : (cs : Changes) (i : ℕ) (c : List ℕ × Option (List ℕ)) → i < length cs → c ≡ get_or cs i c → encoded_length (drop i cs) ≡ encoded_length (c ∷ []) + encoded_length (drop (i + 1) cs)
one_change_on cs i c inside is =
    ap encoded_length (drop_more cs i c inside ∙ ap (λ (x : List ℕ × Option (List ℕ)). x ∷ drop (i + 1) cs) (sym is)) ∙ one_in_front c (drop (i + 1) cs)

-- what is left of pieces, one piece on
pub one_piece_on : (ps : List Changes) (i : ℕ) (p : Changes) → i < length ps → p ≡ get_or ps i p → encoded_length (all_changes (drop i ps)) ≡ encoded_length p + encoded_length (all_changes (drop (i + 1) ps))
one_piece_on ps i p inside is =
    ap (λ (qs : List Changes). encoded_length (all_changes qs)) (drop_more ps i p inside ∙ ap (λ (q : Changes). q ∷ drop (i + 1) ps) (sym is)) ∙ all_in_front p (all_changes (drop (i + 1) ps))

-- changes behind which something is left of so many bytes take no more than these
pub fits_in : (left : Option ℕ) (most taken : ℕ) → is_some left ≡ true → MatchOption left (most < taken) (λ n. n + taken ≡ most) → taken ≤ most
fits_in None most taken some is = absurd (cc)
fits_in (Some n) most taken some is = omega (arith, is)

-- changes that take no more bytes than so many parts have are spelled in no more parts
pub few_parts : (cs : Changes) (bytes : List ℕ) (parts : ℕ) → encoded_length cs ≤ parts * 488 → Spells bytes cs → length bytes / 488 ≤ parts
few_parts cs bytes parts le spells =
    let count : length bytes ≡ encoded_length cs + spells.zeros
    = ap (λ (xs : List ℕ). length xs) spells.is ∙ changes_length cs (replicate spells.zeros 0) ∙ ap (λ (n : ℕ). encoded_length cs + n) (length-replicate spells.zeros 0) in
    omega (arith, count, le, spells.few)
