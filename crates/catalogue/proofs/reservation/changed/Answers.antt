use Rattle.std.proofs.Common.{◌≡◌, ◌++◌, ◌∙◌, List, [], length, map, sym, ap, subst, arith}
use Rattle.std.proofs.lemmas.List.{length-map}
use Rattle.sql_ast.specs.declared.privilege.Descriptor.{Descriptor}
use Rattle.abstract_database.specs.Lists.{Rising, the_new, drop_where}
use Rattle.abstract_database.specs.Database.{descriptor_cmp}
use Rattle.abstract_database.specs.Privileges.{is_named_in}
use Rattle.catalogue.specs.declared.grants.Granted.{Granted}
use Rattle.catalogue.specs.Descriptors.{DescriptorsChanged, put_each, descriptors_after}
use Rattle.catalogue.specs.Grants.{IsIndexOf, granted_cmp, entry_of, joined, left_of}
use Rattle.catalogue.proofs.DescriptorEdits.{no_more_entries}
use Rattle.catalogue.proofs.PartsAfter.{kept_of, entries_left, entries_after, still_rise, entries_still_rise, index_after}
use Rattle.catalogue.proofs.reservation.changed.Goals as goal

kept_is : (c : DescriptorsChanged) (ds out first removed held : List Descriptor) → out ≡ first ++ drop_where (is_named_in removed) held → first ≡ [] → removed ≡ c.removed → held ≡ ds → out ≡ kept_of c ds
kept_is c ds out first removed held moved none is same =
    moved ∙ ap (λ (before : List Descriptor). before ++ drop_where (is_named_in removed) held) none
    ∙ ap (λ (named : List Descriptor). drop_where (is_named_in named) held) is ∙ ap (kept_of c) same

left_is : (c : DescriptorsChanged) (ds : List Descriptor) (xs out first held : List Granted) (removed left : List Descriptor) → out ≡ first ++ left_of removed left held → first ≡ [] → removed ≡ c.removed → left ≡ kept_of c ds → held ≡ xs
    → out ≡ entries_left c ds xs
left_is c ds xs out first held removed left moved none is kept same =
    moved ∙ ap (λ (before : List Granted). before ++ left_of removed left held) none
    ∙ ap (λ (named : List Descriptor). left_of named left held) is ∙ ap (λ (rest : List Descriptor). left_of c.removed rest held) kept ∙ ap (entries_left c ds) same

all_are : (c : DescriptorsChanged) (ds out added kept : List Descriptor) → out ≡ put_each descriptor_cmp the_new added kept → added ≡ c.added → kept ≡ kept_of c ds → out ≡ descriptors_after c ds
all_are c ds out added kept made is same =
    made ∙ ap (λ (coming : List Descriptor). put_each descriptor_cmp the_new coming kept) is ∙ ap (put_each descriptor_cmp the_new c.added) same

entries_are : (c : DescriptorsChanged) (ds : List Descriptor) (xs out added left : List Granted) → out ≡ put_each granted_cmp joined added left → added ≡ map entry_of c.added → left ≡ entries_left c ds xs → out ≡ entries_after c ds xs
entries_are c ds xs out added left made is same =
    made ∙ ap (λ (adding : List Granted). put_each granted_cmp joined adding left) is ∙ ap (put_each granted_cmp joined (map entry_of c.added)) same

pub move_left-requires : goal.move_left-requires
move_left-requires c =
    let index = c.into_vec-2.ensures.entries in
    let few = no_more_entries c.args.descriptors c.args.index (subst (Rising granted_cmp) index c.into_vec-2.ensures.order) c.requires.index in
    let none = ap (λ (l : List Granted). length l) c.requires.reservation.no_entries in
    let same = ap (λ (l : List Granted). length l) index in
    omega (arith, few, none, same, c.args.reservation.granted.ok.0, c.into_vec-2.result.ok.0, c.requires.reservation.granted)

pub put_each-requires-clause-order : goal.put_each-requires-clause-order
put_each-requires-clause-order c =
    let kept = kept_is c.args.change c.args.descriptors c.move_kept.new.out.items c.args.reservation.descriptors.items c.as_slice.result.now c.into_vec.result.items
    c.move_kept.ensures.items c.requires.reservation.no_descriptors (c.as_slice.ensures ∙ c.into_lists-removed.ensures.removed) c.into_vec.ensures in
    subst (Rising descriptor_cmp) (sym kept) (still_rise c.args.change c.args.descriptors c.requires.order)

pub put_each-requires-clause-reservation : goal.put_each-requires-clause-reservation
put_each-requires-clause-reservation c =
    let none = ap (λ (l : List Descriptor). length l) c.requires.reservation.no_descriptors in
    let held = ap (λ (l : List Descriptor). length l) c.into_vec.ensures in
    let added = ap (λ (l : List Descriptor). length l) (c.into_vec-3.ensures ∙ c.into_lists-removed.ensures.added) in
    omega (arith, none, held, added, c.args.reservation.descriptors.ok.0, c.into_vec.result.ok.0, c.into_vec-3.result.ok.0, c.move_kept.ensures.count, c.move_kept.ensures.capacity, c.requires.reservation.descriptors)

pub add_each-requires-clause-order : goal.add_each-requires-clause-order
add_each-requires-clause-order c =
    let removed = c.into_lists-removed.ensures.removed in
    let kept = kept_is c.args.change c.args.descriptors c.move_kept.new.out.items c.args.reservation.descriptors.items c.as_slice.result.now c.into_vec.result.items
    c.move_kept.ensures.items c.requires.reservation.no_descriptors (c.as_slice.ensures ∙ removed) c.into_vec.ensures in
    let left = left_is c.args.change c.args.descriptors c.args.index c.move_left.new.out.items c.args.reservation.granted.items c.into_vec-2.result.items c.as_slice-2.result.now c.as_slice-3.result.now
    c.move_left.ensures.items c.requires.reservation.no_entries (c.as_slice-2.ensures ∙ removed) (c.as_slice-3.ensures.value ∙ kept) c.into_vec-2.ensures.entries in
    let rises = subst (Rising granted_cmp) c.into_vec-2.ensures.entries c.into_vec-2.ensures.order in
    subst (Rising granted_cmp) (sym left) (entries_still_rise c.args.change c.args.descriptors c.args.index rises)

pub add_each-requires-clause-reservation : goal.add_each-requires-clause-reservation
add_each-requires-clause-reservation c =
    let index = c.into_vec-2.ensures.entries in
    let few = no_more_entries c.args.descriptors c.args.index (subst (Rising granted_cmp) index c.into_vec-2.ensures.order) c.requires.index in
    let none = ap (λ (l : List Granted). length l) c.requires.reservation.no_entries in
    let same = ap (λ (l : List Granted). length l) index in
    let added = ap (λ (l : List Granted). length l) c.requires.reservation.entries ∙ length-map c.args.change.added entry_of in
    omega (arith, few, none, same, added, c.args.reservation.granted.ok.0, c.args.reservation.entries.ok.0, c.into_vec-2.result.ok.0, c.move_left.ensures.count, c.move_left.ensures.capacity, c.requires.reservation.granted)

pub returns-clause-index : goal.returns-clause-index
returns-clause-index c =
    let removed = c.into_lists-removed.ensures.removed in
    let kept = kept_is c.args.change c.args.descriptors c.move_kept.new.out.items c.args.reservation.descriptors.items c.as_slice.result.now c.into_vec.result.items
    c.move_kept.ensures.items c.requires.reservation.no_descriptors (c.as_slice.ensures ∙ removed) c.into_vec.ensures in
    let left = left_is c.args.change c.args.descriptors c.args.index c.move_left.new.out.items c.args.reservation.granted.items c.into_vec-2.result.items c.as_slice-2.result.now c.as_slice-3.result.now
    c.move_left.ensures.items c.requires.reservation.no_entries (c.as_slice-2.ensures ∙ removed) (c.as_slice-3.ensures.value ∙ kept) c.into_vec-2.ensures.entries in
    let all = all_are c.args.change c.args.descriptors c.from_vec.result c.into_vec-3.result.items c.move_kept.new.out.items
    (c.from_vec.ensures ∙ c.put_each.ensures.descriptors) (c.into_vec-3.ensures ∙ c.into_lists-removed.ensures.added) kept in
    let entries = entries_are c.args.change c.args.descriptors c.args.index c.from_vec-2.result c.args.reservation.entries.items c.move_left.new.out.items
    (c.from_vec-2.ensures ∙ c.add_each.ensures.entries) c.requires.reservation.entries left in
    subst (λ (xs : List Granted). IsIndexOf c.from_vec.result xs) (sym entries)
    (subst (λ (ds : List Descriptor). IsIndexOf ds (entries_after c.args.change c.args.descriptors c.args.index)) (sym all)
    (index_after c.args.change c.args.descriptors c.args.index c.requires.index c.requires.reservation.named))
