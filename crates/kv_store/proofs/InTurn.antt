-- Changes made one after another, and changes made at once.
use Rattle.std.proofs.Common.{◌≡◌, ◌<◌, ◌+◌, ◌++◌, ◌∷◌, [], zero, suc, ℕ, List, Option, Some, None, Ok, Err, Result, ◌≤◌, length, take, drop, get_or, refl, ap, sym, ◌∙◌, subst, append_assoc, length-drop, ◌-◌, arith}
use Rattle.std.proofs.lemmas.List.{take_more, append-nil, take-append-drop, length-take-le}
use Rattle.std.proofs.Math.Seq.{take-append-add, take-length}
use Rattle.std.specs.List.{AllByRecursion}
use Rattle.sector_device.specs.declared.device.Device.{Ghosts}
use Rattle.pages.specs.declared.array.PageFault.{PageFault}
use Rattle.cow_pages.specs.declared.cow.CowPages.{CowPages}
use Rattle.cow_pages.specs.Cow.{device_below, working_array}
use Rattle.cow_pages.specs.Preserved.{IsPreserved}
use Rattle.cow_pages.specs.PreservedLaws.{failed_with_later}
use Rattle.page_nodes.specs.Map.{edited}
use Rattle.page_tree.specs.Changed.{edited_in_turn}
use Rattle.page_tree.specs.Forest.{Represents}
use Rattle.page_tree.proofs.Faults.{caused_later}
use Rattle.store.specs.Records.{Records, Changes, IsOrdered, changed, applied}
use Rattle.store.specs.Batch.{all_changes}
use Rattle.store.proofs.Changes.{ordered_changed}
use Rattle.store.proofs.Turns.{first_change_first}
use Rattle.kv_store.specs.Batches.{applied_in_turn, MakesChanges}
use Rattle.kv_store.proofs.Records.{put_is, remove_is}

-- changes, one list after the other
pub in_turn_append : (cs ds : Changes) (es : Records) → applied_in_turn (cs ++ ds) es ≡ applied_in_turn ds (applied_in_turn cs es)
in_turn_append [] ds es = refl
in_turn_append (c ∷ cs) ds es = in_turn_append cs ds (changed c.0 c.1 es)

-- changes whose keys rise may be made in turn
pub in_turn_is : (cs : Changes) (es : Records) → IsOrdered cs → IsOrdered es → applied_in_turn cs es ≡ applied cs es
in_turn_is [] es rise ordered = refl
in_turn_is (c ∷ cs) es rise ordered =
    in_turn_is cs (changed c.0 c.1 es) rise.1 (ordered_changed c.0 c.1 es ordered) ∙ sym (first_change_first c cs es rise ordered)

-- what changes make of an array that got others
pub makes_more : {D : Type 0} {g : Ghosts D} (cs ds : Changes) (old mid new : CowPages D g) (r : Result (Unit {0}) PageFault) → IsPreserved old mid
    → MakesChanges cs (Ok tt) old mid → MakesChanges ds r mid new → MakesChanges (cs ++ ds) r old new
makes_more {D} {g} cs ds old mid new (Ok x) preserved first second faithful records represents =
    let was = first faithful records represents in
    let is = second was.0 (applied_in_turn cs records) was.1 in
    (is.0, subst (λ (es : Records). Represents es (working_array new)) (sym (in_turn_append cs ds records)) is.1)
makes_more {D} {g} cs ds old mid new (Err fault) preserved first second faithful records represents =
    let was = first faithful records represents in
    caused_later _ _ (λ f with. failed_with_later old mid new f preserved with) fault (second was.0 (applied_in_turn cs records) was.1)

-- the changes of a tree are those of records
pub edited_is : (cs : Changes) (es : Records) → edited_in_turn cs es ≡ applied_in_turn cs es
edited_is [] es = refl
edited_is (c ∷ cs) es = ap (λ (xs : Records). edited_in_turn cs xs) (one_is c.0 c.1 es) ∙ edited_is cs (changed c.0 c.1 es)
  where
    one_is : (key : List ℕ) (value : Option (List ℕ)) (es : Records) → edited key value es ≡ changed key value es
    one_is key (Some value) es = put_is key value es
    one_is key None es = remove_is key es

-- the first of some changes, and so many after them
pub take_on : (changes : Changes) (made more : ℕ) → made ≤ length changes → take (made + more) changes ≡ take made changes ++ take more (drop made changes)
take_on changes made more inside =
    let long : length (take made changes) ≡ made = length-take-le made changes inside in
    ap (λ (n : ℕ). take (n + more) changes) (sym long) ∙ (ap (λ (cs : Changes). take (length (take made changes) + more) cs) (sym (take-append-drop made changes)) ∙ take-append-add (take made changes) (drop made changes) more)

-- what a tree makes of changes
pub tree_makes : {D : Type 0} {g : Ghosts D} (changes : Changes) (made : ℕ) (old new : CowPages D g)
    → ((device_below old).faithful → (records : Records) → Represents records (working_array old) → (device_below new).faithful × Represents (edited_in_turn (take made changes) records) (working_array new))
    → MakesChanges (take made changes) (Ok tt) old new
tree_makes {D} {g} changes made old new is faithful records represents =
    let now = is faithful records represents in
    (now.0, subst (λ (es : Records). Represents es (working_array new)) (edited_is (take made changes) records) now.1)

-- the changes of the first pieces and of one more
all_changes_append : (ps : List Changes) (p : Changes) → all_changes (ps ++ (p ∷ [])) ≡ all_changes ps ++ p
all_changes_append [] p = append-nil p
all_changes_append (q ∷ ps) p = ap (λ (cs : Changes). q ++ cs) (all_changes_append ps p) ∙ sym (append_assoc q (all_changes ps) p)

-- one piece more
pub one_more_piece : {D : Type 0} {g : Ghosts D} (pieces : List Changes) (index : ℕ) (p : Changes) (old mid new : CowPages D g) → index < length pieces → p ≡ get_or pieces index p → IsPreserved old mid
    → MakesChanges (all_changes (take index pieces)) (Ok tt) old mid → MakesChanges p (Ok tt) mid new → MakesChanges (all_changes (take (index + 1) pieces)) (Ok tt) old new
one_more_piece {D} {g} pieces index p old mid new inside is preserved first second =
    let next : take (index + 1) pieces ≡ take index pieces ++ (p ∷ []) = take_more pieces index p inside ∙ ap (λ (q : Changes). take index pieces ++ (q ∷ [])) (sym is) in
    let all : all_changes (take (index + 1) pieces) ≡ all_changes (take index pieces) ++ p = ap all_changes next ∙ all_changes_append (take index pieces) p in
    subst (λ (ds : Changes). MakesChanges ds (Ok tt) old new) (sym all) (makes_more (all_changes (take index pieces)) p old mid new (Ok tt) preserved first second)

-- what holds of each of two lists joined
pub both_hold : (P : List ℕ × Option (List ℕ) → Type 0) (xs ys : Changes) → AllByRecursion P (xs ++ ys) → AllByRecursion P xs × AllByRecursion P ys
both_hold P [] ys all = (tt, all)
both_hold P (x ∷ xs) ys all = let rest = both_hold P xs ys all.1 in ((all.0, rest.0), rest.1)

-- what holds of each change of the pieces holds of each change of one
pub holds_in_piece : (P : List ℕ × Option (List ℕ) → Type 0) (pieces : List Changes) (index : ℕ) (p : Changes) → index < length pieces → p ≡ get_or pieces index p → AllByRecursion P (all_changes pieces) → AllByRecursion P p
holds_in_piece P [] index p inside is all = absurd (omega (arith, inside))
holds_in_piece P (q ∷ pieces) zero p inside is all = subst (λ (cs : Changes). AllByRecursion P cs) (sym is) (both_hold P q (all_changes pieces) all).0
holds_in_piece P (q ∷ pieces) (suc index) p inside is all = holds_in_piece P pieces index p (omega (arith, inside)) is (both_hold P q (all_changes pieces) all).1

-- the changes from an index on
pub from_index : (at : ℕ) (cs : Changes) → take (length cs - at) (drop at cs) ≡ drop at cs
from_index at cs = take_all (length cs - at) (drop at cs) (sym (length-drop at cs))
  where
    take_all : (n : ℕ) (ds : Changes) → n ≡ length ds → take n ds ≡ ds
    take_all n ds is = ap (λ (m : ℕ). take m ds) is ∙ take-length ds
