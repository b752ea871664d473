use Rattle.sector_device.proofs.Pages.{on_ok, page_from_parts}
use Rattle.sector_device.proofs.page.write_page.Goals as goal

pub returns-clause-page : goal.returns-clause-page
returns-clause-page g c first =
    on_ok _ _ _ (λ holds. page_from_parts (g.D.Device.state c.write_page.new.self).content c.args.first c.args.bytes.now c.told-bytes holds) (c.write_page.ensures.written first)
