-- Descriptors that are granted: what is found of one afterwards, and that order and doubles of what is granted do not matter.
use Rattle.std.proofs.Common.{◌≡◌, ◌++◌, ◌||◌, ◌<◌, ℕ, length, take, drop, arith, Bool, true, false, cond, List, [], ◌∷◌, Option, Some, None, is_some, refl, sym, ap, ◌∙◌, Ordering, Less, Equal, Greater, is_eq}
use Rattle.std.proofs.lemmas.List.{take-append-drop}
use Rattle.std.specs.Ordering.{ordering_reverse}
use Rattle.sql_ast.specs.declared.privilege.Descriptor.{Descriptor}
use Rattle.abstract_database.specs.Lists.{Rising}
use Rattle.abstract_database.specs.Database.{descriptor_cmp}
use Rattle.abstract_database.specs.Privileges.{granted, with_option_of, with_descriptors, is_named_in}
use Rattle.abstract_database.proofs.DescriptorOrder.{descriptors_ordered}
use Rattle.abstract_database.proofs.RisingPuts.{put_rises}
use Rattle.role_membership.proofs.Puts.{at, at_put, only_one, joined_to, is_equal}
use Rattle.grant_graph.proofs.Merges.{none_left}

-- the first of a list that equals k in order
abbrev pub found : Descriptor → List Descriptor → Option Descriptor
found = at descriptor_cmp descriptors_ordered

alike : (x y z : Descriptor) → descriptor_cmp x y ≡ Equal → descriptor_cmp (with_option_of y x) z ≡ descriptor_cmp y z
alike x y z e = refl

rises : (d : Descriptor) (set : List Descriptor) → Rising descriptor_cmp set → Rising descriptor_cmp (granted d set)
rises = put_rises descriptor_cmp descriptors_ordered with_option_of alike

pub all_rise : (ds set : List Descriptor) → Rising descriptor_cmp set → Rising descriptor_cmp (with_descriptors ds set)
all_rise [] set r = r
all_rise (d ∷ ds) set r = all_rise ds (granted d set) (rises d set r)

pub with_append : (xs ys set : List Descriptor) → with_descriptors (xs ++ ys) set ≡ with_descriptors ys (with_descriptors xs set)
with_append [] ys set = refl
with_append (x ∷ xs) ys set = with_append xs ys (granted x set)

-- ---- what is found

-- of two that are granted one after the other
abbrev pub joined : Option Descriptor → Option Descriptor → Option Descriptor
joined None second = second
joined (Some y) None = Some y
joined (Some y) (Some x) = Some (with_option_of y x)

or_or : (a b c : Bool) → ((a || b) || c) ≡ (a || (b || c))
or_or true b c = refl
or_or false b c = refl

or_same : (b : Bool) → (b || b) ≡ b
or_same true = refl
or_same false = refl

pub joined_none : (o : Option Descriptor) → joined o None ≡ o
joined_none None = refl
joined_none (Some y) = refl

pub joined_same : (o : Option Descriptor) → joined o o ≡ o
joined_same None = refl
joined_same (Some y) = ap (λ (b : Bool). Some (record y { grantable = b })) (or_same y.grantable)

pub joined_joined : (a b c : Option Descriptor) → joined (joined a b) c ≡ joined a (joined b c)
joined_joined None b c = refl
joined_joined (Some y) None c = refl
joined_joined (Some y) (Some x) None = refl
joined_joined (Some y) (Some x) (Some w) = ap (λ (b : Bool). Some (record y { grantable = b })) (or_or y.grantable x.grantable w.grantable)

-- the descriptor, if it equals k in order
abbrev pub matching : Descriptor → Descriptor → Option Descriptor
matching k d = cond (is_eq (descriptor_cmp k d)) (Some d) None

-- all that equal k in order, granted one after the other
abbrev pub all_found : Descriptor → List Descriptor → Option Descriptor
all_found k [] = None
all_found k (d ∷ ds) = joined (matching k d) (all_found k ds)

found_same : (k d : Descriptor) (set : List Descriptor) → descriptor_cmp k d ≡ Equal → found d set ≡ found k set
found_same k d [] e = refl
found_same k d (y ∷ ys) e =
    ap (λ (o : Ordering). cond (is_eq o) (Some y) (found d ys)) (sym (descriptors_ordered.congr k d y e))
    ∙ ap (λ (f : Option Descriptor). cond (is_eq (descriptor_cmp k y)) (Some y) f) (found_same k d ys e)

to_found : Option Descriptor → Descriptor → Descriptor
to_found None d = d
to_found (Some y) d = with_option_of y d

joined_some : (o : Option Descriptor) (d : Descriptor) → Some (to_found o d) ≡ joined o (Some d)
unfolding to_found
joined_some None d = refl
joined_some (Some y) d = refl

found_granted_at : (k d : Descriptor) (set : List Descriptor) (b : Bool) → is_eq (descriptor_cmp k d) ≡ b →
    cond b (Some (to_found (found d set) d)) (found k set) ≡ joined (found k set) (cond b (Some d) None)
found_granted_at k d set false e = sym (joined_none (found k set))
found_granted_at k d set true e =
    ap (λ (o : Option Descriptor). Some (to_found o d)) (found_same k d set (is_equal (descriptor_cmp k d) e)) ∙ joined_some (found k set) d

by_put : (o : Option Descriptor) (d : Descriptor) → joined_to descriptor_cmp descriptors_ordered with_option_of alike o d ≡ to_found o d
unfolding to_found
by_put None d = refl
by_put (Some y) d = refl

found_granted : (k d : Descriptor) (set : List Descriptor) → Rising descriptor_cmp set → found k (granted d set) ≡ joined (found k set) (matching k d)
found_granted k d set r =
    at_put descriptor_cmp descriptors_ordered with_option_of alike k d set r
    ∙ ap (λ (x : Descriptor). cond (is_eq (descriptor_cmp k d)) (Some x) (found k set)) (by_put (found d set) d)
    ∙ found_granted_at k d set (is_eq (descriptor_cmp k d)) refl

pub found_with : (k : Descriptor) (ds set : List Descriptor) → Rising descriptor_cmp set → found k (with_descriptors ds set) ≡ joined (found k set) (all_found k ds)
found_with k [] set r = sym (joined_none (found k set))
found_with k (d ∷ ds) set r =
    found_with k ds (granted d set) (rises d set r)
    ∙ ap (λ (o : Option Descriptor). joined o (all_found k ds)) (found_granted k d set r)
    ∙ joined_joined (found k set) (matching k d) (all_found k ds)

pub all_found_append : (k : Descriptor) (xs ys : List Descriptor) → all_found k (xs ++ ys) ≡ joined (all_found k xs) (all_found k ys)
all_found_append k [] ys = refl
all_found_append k (x ∷ xs) ys = ap (joined (matching k x)) (all_found_append k xs ys) ∙ sym (joined_joined (matching k x) (all_found k xs) (all_found k ys))

-- lists of which the same is found grant the same
pub same_granted : (xs ys set : List Descriptor) → Rising descriptor_cmp set → ((k : Descriptor) → all_found k xs ≡ all_found k ys) → with_descriptors xs set ≡ with_descriptors ys set
same_granted xs ys set r same =
    only_one descriptor_cmp descriptors_ordered _ _ (all_rise xs set r) (all_rise ys set r)
    (λ k. found_with k xs set r ∙ ap (joined (found k set)) (same k) ∙ sym (found_with k ys set r))

-- ---- in order

with_nothing : (ds : List Descriptor) → Rising descriptor_cmp ds → with_descriptors ds [] ≡ ds
with_nothing [] r = refl
with_nothing (d ∷ ds) r = none_left d ds r ∙ ap (λ (l : List Descriptor). d ∷ l) (with_nothing ds r.1)

-- of the descriptors in order the same is found
pub found_in_order : (k : Descriptor) (ds : List Descriptor) → all_found k (with_descriptors ds []) ≡ all_found k ds
found_in_order k ds =
    let up = all_rise ds [] tt in
    sym (found_with k (with_descriptors ds []) [] tt)
    ∙ ap (found k) (with_nothing (with_descriptors ds []) up)
    ∙ found_with k ds [] tt

pub granted_in_order : (ds set : List Descriptor) → Rising descriptor_cmp set → with_descriptors (with_descriptors ds []) set ≡ with_descriptors ds set
granted_in_order ds set r = same_granted (with_descriptors ds []) ds set r (λ k. found_in_order k ds)

pub halves_in_order : (xs ys : List Descriptor) → with_descriptors (with_descriptors ys []) (with_descriptors xs []) ≡ with_descriptors (xs ++ ys) []
halves_in_order xs ys = granted_in_order ys (with_descriptors xs []) (all_rise xs [] tt) ∙ sym (with_append xs ys [])

-- ---- named

is_some_joined : (a b : Option Descriptor) → is_some (joined a b) ≡ (is_some a || is_some b)
is_some_joined None b = refl
is_some_joined (Some y) None = refl
is_some_joined (Some y) (Some x) = refl

eq_turned : (o : Ordering) → is_eq (ordering_reverse o) ≡ is_eq o
eq_turned Less = refl
eq_turned Equal = refl
eq_turned Greater = refl

is_some_where : (b : Bool) (d : Descriptor) → is_some (cond b (Some d) None) ≡ b
is_some_where true d = refl
is_some_where false d = refl

pub named_found : (d : Descriptor) (ns : List Descriptor) → is_named_in ns d ≡ is_some (all_found d ns)
named_found d [] = refl
named_found d (n ∷ ns) =
    ap (λ (b : Bool). b || is_named_in ns d) (sym (eq_turned (descriptor_cmp n d)) ∙ ap is_eq (sym (descriptors_ordered.antisymm d n)) ∙ sym (is_some_where (is_eq (descriptor_cmp d n)) n))
    ∙ ap (λ (b : Bool). is_some (matching d n) || b) (named_found d ns)
    ∙ sym (is_some_joined (matching d n) (all_found d ns))

pub same_named : (xs ys : List Descriptor) → ((k : Descriptor) → all_found k xs ≡ all_found k ys) → (d : Descriptor) → is_named_in xs d ≡ is_named_in ys d
same_named xs ys same d = named_found d xs ∙ ap is_some (same d) ∙ sym (named_found d ys)

-- ---- halves of a list

pub few_in_order : (ds : List Descriptor) → length ds < 2 → with_descriptors ds [] ≡ ds
few_in_order [] few = refl
few_in_order (d ∷ []) few = refl
few_in_order (d ∷ e ∷ ds) few = absurd (omega (arith, few))

pub list_in_order : (first second ds : List Descriptor) (i : ℕ) → first ≡ take i ds → second ≡ drop i ds → with_descriptors (with_descriptors second []) (with_descriptors first []) ≡ with_descriptors ds []
list_in_order first second ds i front back =
    halves_in_order first second
    ∙ ap (λ (l : List Descriptor). with_descriptors (l ++ second) []) front
    ∙ ap (λ (l : List Descriptor). with_descriptors (take i ds ++ l) []) back
    ∙ ap (λ (l : List Descriptor). with_descriptors l []) (take-append-drop i ds)
