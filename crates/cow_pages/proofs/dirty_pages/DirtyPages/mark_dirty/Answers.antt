use Rattle.std.proofs.Common.{◌≡◌, ap, subst, ◌∙◌, true, OnOk}
use Rattle.std.specs.Prelude.{nat_eq}
use Rattle.indexmap.specs.IndexMap.{insert_entry}
use Rattle.cow_pages.proofs.Indexes.{index_in, index_preserved}
use Rattle.cow_pages.proofs.dirty_pages.DirtyPages.mark_dirty.Goals as goal

pub returns-clause-pages : goal.returns-clause-pages
returns-clause-pages c other some =
    let page = c.args.page in
    let old = c.args.self.now.pages in
    let now = c.insert.new.self.entries in
    let before = c.get_mut.follows.lender-at-none in
    let inserted : now ≡ insert_entry nat_eq before.entries page true =
    subst (λ r. OnOk r (now ≡ insert_entry nat_eq before.entries page true)) c.unwrap.ensures c.insert.ensures.entries in
    ap (λ es. index_in es other) inserted ∙ ap (λ m. index_in (insert_entry nat_eq m.entries page true) other) c.get_mut.follows.holds-at-none
    ∙ index_preserved old.entries page other true some
