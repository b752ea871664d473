-- What a view finds from a key on, of what the map finds and the least change there.
use Rattle.std.proofs.Common.{◌≡◌, ℕ, Bool, true, false, ◌&&◌, List, [], ◌∷◌, ◌++◌, Option, Some, None, refl, ◌∙◌}
use Rattle.std.specs.Ordering.{is_lt}
use Rattle.std.specs.declared.cmp.Ordering.TheVariants.{Less}
use Rattle.store.specs.Records.{Record, Records, Changes, IsOrdered, IsFound, key_cmp, is_from, lookup, first_from}
use Rattle.store.proofs.Changes.{key_trans}
use Rattle.transactions.specs.Views.{applied_all, latest, ordered_view, SayNothingFrom, IsLeast}
use Rattle.transactions.proofs.Latest.{lookup-applied_all}
use Rattle.transactions.proofs.Least.{is_less}
use Rattle.transactions.proofs.Scanning.{nothing_from, nothing_between, found_value, found_is, found_same, found_later, from_on, from_less, before_next, next_is_from}
use Rattle.store.proofs.Scans.{found_from}

-- a key of which the changes say nothing has the map's value
as_before : (key : List ℕ) (lists : List Changes) (es : Records) → IsOrdered es → latest key lists ≡ None → lookup key (applied_all lists es) ≡ lookup key es
as_before key lists es rise none = lookup-applied_all key lists es rise ∙ rw none refl

-- no change from the key on
pub unchanged_from : (from : List ℕ) (lists : List Changes) (es : Records) → IsOrdered es → SayNothingFrom from lists → first_from from (applied_all lists es) ≡ first_from from es
unchanged_from from lists es rise none = found_same from es (applied_all lists es) rise (ordered_view lists es rise) (λ key late. as_before key lists es rise (none key late))

-- before the least change the map finds an entry
pub entry_is_first : (from : List ℕ) (lists : List Changes) (es : Records) (out : Record) (change : List ℕ × Option (List ℕ)) (found : Bool) → IsOrdered es → IsFound found out (first_from from es)
    → IsLeast from change lists → (found && is_lt (key_cmp out.0 change.0)) ≡ true → first_from from (applied_all lists es) ≡ Some out
entry_is_first from lists es out change true rise seen least first =
    let less = is_less (key_cmp out.0 change.0) first in
    let late = found_from from es out seen in
    found_is from out.0 out.1 (applied_all lists es) (ordered_view lists es rise) late
    (as_before out.0 lists es rise (least.before out.0 late less) ∙ found_value from es out rise seen)
    (λ key on early. as_before key lists es rise (least.before key on (key_trans key out.0 change.0 early less)) ∙ nothing_between from es out rise seen key on early)
entry_is_first from lists es out change false rise seen least first = cc

-- it finds none before the least change
none_before : (from : List ℕ) (es : Records) (out : Record) (found : Bool) (key : List ℕ) → IsOrdered es → IsFound found out (first_from from es) → (found && is_lt (key_cmp out.0 key)) ≡ false
    → (other : List ℕ) → is_from from other ≡ true → key_cmp other key ≡ Less → lookup other es ≡ None
none_before from es out true key rise seen not_less other on early = nothing_between from es out rise seen other on (from_less other key out.0 early not_less)
none_before from es out false key rise seen not_less other on early = nothing_from from es seen other on

-- the least change puts a value
pub change_is_first : (from : List ℕ) (lists : List Changes) (es : Records) (out : Record) (change : List ℕ × Option (List ℕ)) (value : List ℕ) (found : Bool) → IsOrdered es → IsFound found out (first_from from es)
    → IsLeast from change lists → (found && is_lt (key_cmp out.0 change.0)) ≡ false → change.1 ≡ Some value → first_from from (applied_all lists es) ≡ Some (change.0, value)
change_is_first from lists es out change value found rise seen least not_less is =
    found_is from change.0 value (applied_all lists es) (ordered_view lists es rise) least.from_on
    (lookup-applied_all change.0 lists es rise ∙ rw least.latest_is (rw is refl))
    (λ key on early. as_before key lists es rise (least.before key on early) ∙ none_before from es out found change.0 rise seen not_less key on early)

-- it removes an entry
pub removal_is_first : (from : List ℕ) (lists : List Changes) (es : Records) (out : Record) (change : List ℕ × Option (List ℕ)) (found : Bool) → IsOrdered es → IsFound found out (first_from from es)
    → IsLeast from change lists → (found && is_lt (key_cmp out.0 change.0)) ≡ false → change.1 ≡ None
    → first_from (change.0 ++ 0 ∷ []) (applied_all lists es) ≡ first_from from (applied_all lists es)
removal_is_first from lists es out change found rise seen least not_less is =
    found_later from (change.0 ++ 0 ∷ []) (applied_all lists es) (ordered_view lists es rise) (from_on from change.0 (change.0 ++ 0 ∷ []) least.from_on (next_is_from change.0))
    (λ key on early. before_next {P = λ (k : List ℕ). is_from from k ≡ true → lookup k (applied_all lists es) ≡ None} change.0
    (λ at. lookup-applied_all change.0 lists es rise ∙ rw least.latest_is (rw is refl))
    (λ k less at. as_before k lists es rise (least.before k at less) ∙ none_before from es out found change.0 rise seen not_less k at less)
    key early on)
