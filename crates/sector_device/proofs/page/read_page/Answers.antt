use Rattle.std.proofs.Common.{sym}
use Rattle.sector_device.proofs.Pages.{on_ok, page_from_parts}
use Rattle.sector_device.proofs.page.read_page.Goals as goal

pub returns-clause-page : goal.returns-clause-page
returns-clause-page g c first =
    on_ok _ _ _ (λ holds. sym (page_from_parts (g.D.Device.state c.args.device.now).content c.args.first c.read_page.new.bytes c.read_page.array_long holds)) (c.read_page.ensures.bytes first)
