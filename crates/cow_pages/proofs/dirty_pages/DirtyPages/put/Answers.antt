use Rattle.std.proofs.Common.{sym, refl, [], ap, ◌∙◌, subst, true, get_or, IsSome}
use Rattle.std.proofs.lemmas.List.{get_or-set_other}
use Rattle.std.specs.Prelude.{nat_eq}
use Rattle.indexmap.specs.IndexMap.{get}
use Rattle.cow_pages.specs.DirtyPages.{index_of}
use Rattle.cow_pages.proofs.Indexes.{held_same, found_index, indexes_apart}
use Rattle.cow_pages.proofs.dirty_pages.DirtyPages.put.Goals as goal

pub returns-in-Some-clause-others : goal.returns-in-Some-clause-others
returns-in-Some-clause-others c other apart =
    let old = c.args.self.now in
    let marked = c.mark_dirty.new.self in
    let page = c.args.page in
    let entries = marked.pages.entries in
    let preserved = c.mark_dirty.ensures.others other apart in
    held_same (get nat_eq marked.pages other) (get nat_eq old.pages other) _ _ preserved (λ waits is.
    let index = found_index entries page c.in-Some.index c.in-Some.ensures.index in
    let same_place = c.mark_dirty.ensures.pages other (subst (λ entry. IsSome entry) (sym is) refl) in
    get_or-set_other marked.bytes.items c.in-Some.index (index_of marked other) c.args.bytes.now []
    (λ same. indexes_apart entries page other true waits c.mark_dirty.ensures.here (preserved ∙ is) apart (same ∙ index))
    ∙ ap (λ items. get_or items (index_of marked other) []) c.mark_dirty.ensures.bytes ∙ ap (λ index. get_or old.bytes.items index []) same_place)
