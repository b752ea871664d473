use Rattle.std.proofs.Common.{◌≡◌, ◌≢◌, ◌/◌, ◌*◌, ◌+◌, ℕ, ap, ◌∙◌, arith}
use Rattle.page_roots.specs.declared.sector.RootSector.TheVariants.{Found}
use Rattle.page_roots.specs.Root.{root_bytes}
use Rattle.sector_device.specs.Device.{history_joined}
use Rattle.cow_pages.specs.PreservedLaws.{failed_later}
use Rattle.cow_pages.proofs.Answered.{on_ok_both, on_ok_also, on_err_also}
use Rattle.cow_pages.proofs.Bytes.{same_page}
use Rattle.cow_pages.specs.Formatting.{first_root}
use Rattle.cow_pages.proofs.Formatted.{formatted, size_is, even_empty}
use Rattle.cow_pages.proofs.Making.{alone_joined, leaves_none, leaves_first}
use Rattle.cow_pages.proofs.formatting.format.Given.{Over}
use Rattle.cow_pages.proofs.formatting.format.Goals.{After-new}
use Rattle.cow_pages.proofs.formatting.format.Goals as goal

-- the root that is written names the pages of the device
first_made : (g : Over) (c : After-new g) → c.new.result ≡ first_root ((g.D.Device.state c.args.device.now).sectors / 8) c.args.format
first_made g c = c.new.ensures ∙ ap (λ (n : ℕ). first_root (n / 8) c.args.format) c.sectors-pages.ensures

pub returns-clause-means : goal.returns-clause-means
returns-clause-means g c first =
    let state = g.D.Device.state in
    let d = state c.args.device.now in
    let mid = state c.lay_out.new.device in
    let e = state c.finish.new.device in
    let second = c.lay_out.ensures.history.faithful first in
    let made = first_made g (goal.at.returns-clause-means g c).After-new in
    let size = size_is d.sectors c.requires.size in
    let laid = c.in_ok-lay_out.ensures.written first in
    on_ok_both c.finish.result (c.finish.ensures.synced second) (c.finish.ensures.written second)
    (λ synced written. formatted e mid.content (d.sectors / 8) c.args.format 1023 c.args.first.now
    (c.finish.ensures.history.sectors ∙ c.lay_out.ensures.history.sectors ∙ size.0) (omega (arith, size.1)) synced
    (λ s other. (c.finish.ensures.alone second s other).content) (written.read ∙ ap Found made)
    (even_empty mid.content laid.even) laid.page laid.entries)

pub returns-clause-bytes : goal.returns-clause-bytes
returns-clause-bytes g c first =
    let state = g.D.Device.state in
    let mid = state c.lay_out.new.device in
    let e = state c.finish.new.device in
    let second = c.lay_out.ensures.history.faithful first in
    let laid = c.in_ok-lay_out.ensures.written first in
    let made = first_made g (goal.at.returns-clause-bytes g c).After-new in
    let alone : (s : ℕ) → s ≢ 1 → e.content s ≡ mid.content s = λ s other. (c.finish.ensures.alone second s other).content in
    on_ok_also c.finish.result (c.finish.ensures.written second)
    (λ written. record {
      even = alone 0 (omega arith) ∙ laid.even;
      odd = written.spelled ∙ ap root_bytes made;
      page = same_page e.content mid.content 1 (λ k lt. alone (8 * 1 + k) (omega arith)) ∙ laid.page;
      map = same_page e.content mid.content 2 (λ k lt. alone (8 * 2 + k) (omega arith)) ∙ laid.map;
    })

pub returns-in_err-lay_out-clause-any_moment : goal.returns-in_err-lay_out-clause-any_moment
returns-in_err-lay_out-clause-any_moment g c first blank =
    leaves_none (g.D.Device.state c.args.device.now).sectors c.args.format c.args.first.now (g.D.Device.state c.args.device.now) (g.D.Device.state c.lay_out.new.device) c.requires.size (c.lay_out.ensures.any_moment first blank)

pub returns-clause-any_moment : goal.returns-clause-any_moment
returns-clause-any_moment g c first blank =
    let state = g.D.Device.state in
    let d = state c.args.device.now in
    let mid = state c.lay_out.new.device in
    let e = state c.finish.new.device in
    let second = c.lay_out.ensures.history.faithful first in
    let made = first_made g (goal.at.returns-clause-any_moment g c).After-new in
    let laid = c.in_ok-lay_out.ensures.written first in
    leaves_first d.sectors c.args.format 1023 c.args.first.now c.new.result mid c.requires.size c.lay_out.ensures.history.sectors made (c.lay_out.ensures.blank first blank)
    (even_empty mid.content laid.even) laid.page laid.entries
    d e (c.lay_out.ensures.any_moment first blank) (c.finish.ensures.any_moment second)

pub returns-in_err-lay_out-clause-others : goal.returns-in_err-lay_out-clause-others
returns-in_err-lay_out-clause-others g c first s two outside =
    c.lay_out.ensures.alone first s (omega (arith, two)) outside

pub returns-clause-others : goal.returns-clause-others
returns-clause-others g c first s two outside =
    let state = g.D.Device.state in
    let d = state c.args.device.now in
    let mid = state c.lay_out.new.device in
    let e = state c.finish.new.device in
    let second = c.lay_out.ensures.history.faithful first in
    alone_joined d mid e s (c.lay_out.ensures.alone first s (omega (arith, two)) outside) (c.finish.ensures.alone second s (omega (arith, two)))

pub lay_out-requires : goal.lay_out-requires
lay_out-requires g c =
    let size = size_is (g.D.Device.state c.args.device.now).sectors c.requires.size in
    record { room = omega (arith, size) }

pub returns-clause-history : goal.returns-clause-history
returns-clause-history g c =
    history_joined _ _ (g.D.Device.state c.finish.new.device) c.lay_out.ensures.history c.finish.ensures.history

pub returns-clause-cause : goal.returns-clause-cause
returns-clause-cause g c =
    on_err_also c.finish.result c.finish.ensures.cause (failed_later _ _ (g.D.Device.state c.finish.new.device) c.lay_out.ensures.history c.finish.ensures.history)

pub returns-clause-synced : goal.returns-clause-synced
returns-clause-synced g c first = c.finish.ensures.synced (c.lay_out.ensures.history.faithful first)
