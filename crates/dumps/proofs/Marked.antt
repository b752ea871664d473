-- Changes of a list, which say nothing of the key that marks a copy that is not whole, over records that begin with it.
use Rattle.std.proofs.Common.{◌≡◌, ◌≤◌, ℕ, zero, suc, List, [], ◌∷◌, Option, Some, None, length, refl, ap, ◌∙◌, arith}
use Rattle.std.proofs.lemmas.Bool.Decides.{nat_tests}
use Rattle.std.specs.List.{AllByRecursion}
use Rattle.std.specs.Ordering.{nat_cmp, ordering_then}
use Rattle.std.specs.declared.cmp.Ordering.{Ordering}
use Rattle.std.specs.declared.cmp.Ordering.TheVariants.{Less, Equal, Greater}
use Rattle.dumps.specs.Form.{IsBlock}
use Rattle.store.specs.Records.{Record, Records, Changes, IsChangeSize, applied, changed, changed_by, entry_of, found_by, key_cmp, lookup}

greater : (n : ℕ) → nat_cmp (suc n) 0 ≡ Greater
greater n = grind (arith, nat_tests)

-- a key that is not that of the mark comes behind it
behind : (key : List ℕ) → 1 ≤ length key → (key_cmp (0 ∷ []) key ≡ Equal → ⊥) → key_cmp key (0 ∷ []) ≡ Greater
behind [] some other = absurd (omega (arith, some))
behind (zero ∷ []) some other = absurd (other refl)
behind (zero ∷ x ∷ xs) some other = refl
behind (suc n ∷ xs) some other = ap (λ (o : Ordering). ordering_then o (key_cmp xs [])) (greater n)

-- a list that does not name the mark
none_here : {X : Type 0} (o : Ordering) (here : X) (later : Option X) → found_by o here later ≡ None → (o ≡ Equal → ⊥) × (later ≡ None)
none_here Equal here later is = absurd (let wrong : Some here ≡ None = is in cc)
none_here Less here later is = (λ same. cc, is)
none_here Greater here later is = (λ same. cc, is)

none_of : (found : Option (Option (List ℕ))) → entry_of (0 ∷ []) found ≡ None → found ≡ None
none_of None is = refl
none_of (Some value) is = absurd (let wrong : Some (0 ∷ [], value) ≡ None = is in cc)

-- the record of the mark, with some value
abbrev mark_with : List ℕ → Record
mark_with value = (0 ∷ [], value)

other_key : (o : Ordering) (key : List ℕ) (value : Option (List ℕ)) (first : Record) (es later : Records) → o ≡ Greater → changed_by o key value first es later ≡ first ∷ later
other_key Greater key value first es later is = refl
other_key Less key value first es later is = absurd cc
other_key Equal key value first es later is = absurd cc

stays : (value : List ℕ) (cs : Changes) (es : Records) → AllByRecursion IsChangeSize cs → lookup (0 ∷ []) cs ≡ None → applied cs (mark_with value ∷ es) ≡ mark_with value ∷ applied cs es
stays value [] es sizes none = refl
stays value (c ∷ cs) es sizes none =
    let here = none_here (key_cmp (0 ∷ []) c.0) c.1 (lookup (0 ∷ []) cs) none in
    ap (λ (xs : Records). changed c.0 c.1 xs) (stays value cs es sizes.1 here.1)
    ∙ other_key (key_cmp c.0 (0 ∷ [])) c.0 c.1 (mark_with value) (applied cs es) (changed c.0 c.1 (applied cs es)) (behind c.0 sizes.0.0.0 here.0)

-- the mark stays before what they make of the others
pub mark_stays : (block : List ℕ) (cs : Changes) (value : List ℕ) (es : Records) → IsBlock block cs → applied cs ((0 ∷ [], value) ∷ es) ≡ (0 ∷ [], value) ∷ applied cs es
mark_stays block cs value es is = stays value cs es is.spells.batch.sizes (none_of (lookup (0 ∷ []) cs) is.unmarked)
