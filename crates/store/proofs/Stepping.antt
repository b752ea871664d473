-- Steps over changes in pieces.
use Rattle.std.proofs.lemmas.Option.{slice_get_read}
use Rattle.std.proofs.Common.{◌≡◌, ◌<◌, ◌+◌, ◌-◌, ℕ, zero, suc, List, [], ◌∷◌, Option, Some, None, refl, ap, sym, ◌∙◌, subst, arith, length, get_or, slice_get}
use Rattle.store.specs.Records.{Changes, IsOrdered, applied, entries_where, is_from, with_front}
use Rattle.store.specs.Pieces.{puts}
use Rattle.store.proofs.Changes.{entries_where-applied, ordered_entries_where}
use Rattle.store.proofs.Scans.{change_first}

-- changes in order make of no records those that they put
pub puts_applied : (cs : Changes) → IsOrdered cs → applied cs [] ≡ puts cs
puts_applied [] o = refl
puts_applied (c ∷ cs) o = change_first c.0 c.1 cs [] o.0 tt ∙ ap (with_front c.0 c.1) (puts_applied cs o.1)

-- the records from a key on are what the changes from it on put
pub puts_from : (key : List ℕ) (cs from : Changes) → IsOrdered cs → from ≡ entries_where (is_from key) cs → puts from ≡ entries_where (is_from key) (applied cs [])
puts_from key cs from o is = ap puts is ∙ sym (puts_applied (entries_where (is_from key) cs) (ordered_entries_where (is_from key) cs o)) ∙ sym (entries_where-applied (is_from key) cs [] tt)

-- a removal is passed over
pub puts_passed : (c : List ℕ × Option (List ℕ)) (all later : Changes) → all ≡ c ∷ later → c.1 ≡ None → puts all ≡ puts later
puts_passed c all later is none = ap puts is ∙ ap (λ (v : Option (List ℕ)). with_front c.0 v (puts later)) none

-- a value that is put is found
pub puts_read : (c : List ℕ × Option (List ℕ)) (value : List ℕ) (all later : Changes) → all ≡ c ∷ later → c.1 ≡ Some value → puts all ≡ (c.0, value) ∷ puts later
puts_read c value all later is some = ap puts is ∙ ap (λ (v : Option (List ℕ)). with_front c.0 v (puts later)) some

-- an index that is inside needs no other value
get_inside : (ps : List Changes) (at : ℕ) (a b : Changes) → at < length ps → get_or ps at a ≡ get_or ps at b
get_inside [] at a b inside = absurd (omega arith)
get_inside (p ∷ ps) zero a b inside = refl
get_inside (p ∷ ps) (suc at) a b inside = get_inside ps at a b (omega arith)

-- the change that was read stands before the place behind it
pub read_before : (piece at : ℕ) (ps : List Changes) (seen changes : Changes) (c : List ℕ × Option (List ℕ)) (value : List ℕ) → piece < length ps → seen ≡ get_or ps piece seen → changes ≡ seen → at < length changes → c ≡ get_or changes at c → c.1 ≡ Some value
    → slice_get (get_or ps piece []) (at + 1 - 1) ≡ Some (c.0, Some value)
read_before piece at ps seen changes c value inside is same within read some =
    let there : slice_get changes at ≡ Some c = slice_get_read changes (length changes) at c refl within read in
    let e : at + 1 - 1 ≡ at = omega arith in
    rw e (subst (λ (p : Changes). slice_get p at ≡ Some c) (same ∙ is ∙ get_inside ps piece seen [] inside) there ∙ ap (λ (v : Option (List ℕ)). Some (c.0, v)) some)
