use Rattle.std.proofs.Common.{true, sym, ap, ◌∙◌}
use Rattle.cow_pages.specs.DirtyPages.{dirty_bytes}
use Rattle.cow_pages.proofs.Indexes.{entry_dirty, if_none, one_page, none_there}
use Rattle.cow_pages.proofs.Overlaid.{none_dirty}
use Rattle.cow_pages.proofs.dirty_pages.DirtyPages.page_at.Goals as goal

pub returns-clause-alone : goal.returns-clause-alone
returns-clause-alone c page waits same =
    one_page c.args.self.now.pages.entries c.args.index c.in_ok-page.page.now c.in_ok-page.field-0-1.now (sym c.in_ok-page.ensures.entry) page true (entry_dirty _ _ waits) same

pub returns-in_err-page-clause-none : goal.returns-in_err-page-clause-none
returns-in_err-page-clause-none c = if_none c.from_residual.result _ (λ page waits same. none_there c.args.self.now.pages.entries c.args.index (sym c.in_err-page.ensures.entry) page true (entry_dirty _ _ waits) same)

pub returns-in_err-bytes-clause-none : goal.returns-in_err-bytes-clause-none
returns-in_err-bytes-clause-none c = if_none c.from_residual-in_err-bytes.result _ (λ page waits same.
    let other = one_page c.args.self.now.pages.entries c.args.index c.in_ok-page.page.now c.in_ok-page.field-0-1.now (sym c.in_ok-page.ensures.entry) page true (entry_dirty _ _ waits) same in
    none_dirty (dirty_bytes c.args.self.now page) (ap (dirty_bytes c.args.self.now) other ∙ c.in_err-bytes.ensures.none) waits)
