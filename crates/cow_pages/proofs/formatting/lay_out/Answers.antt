use Rattle.std.proofs.Common.{◌≡◌, ◌≤◌, ◌+◌, ◌*◌, ap, ◌∙◌, arith}
use Rattle.sector_device.specs.Device.{history_joined}
use Rattle.page_roots.specs.MapPage.{entries_in, map_page_bytes}
use Rattle.cow_pages.specs.Image.{bytes_of_page}
use Rattle.cow_pages.specs.PreservedLaws.{failed_later}
use Rattle.cow_pages.proofs.Answered.{on_ok_also, on_err_also}
use Rattle.cow_pages.proofs.Bytes.{page_is, same_page}
use Rattle.cow_pages.proofs.Writing.{other_page}
use Rattle.cow_pages.proofs.Making.{LaysOut, nothing_yet, page_laid, even_laid}
use Rattle.cow_pages.proofs.formatting.lay_out.Given.{Over}
use Rattle.cow_pages.proofs.formatting.lay_out.Goals.{After-write, After-write_page, After-write_page-2}
use Rattle.cow_pages.proofs.formatting.lay_out.Goals as goal

-- the first page is written
one_laid : (g : Over) (c : After-write_page g) → (g.D.Device.state c.args.device.now).faithful → LaysOut (g.D.Device.state c.args.device.now) (g.D.Device.state c.write_page.new.device)
one_laid g c first =
    let old = g.D.Device.state c.args.device.now in
    let room : 2 ≤ old.sectors = omega (arith, c.requires.room) in
    page_laid old old (g.D.Device.state c.write_page.new.device) room (nothing_yet old room (g.met.D.Device.only_now c.args.device.now first)) c.write_page.ensures.history 1 (omega arith) (omega arith)
    (c.write_page.ensures.any_moment first) (c.write_page.ensures.alone first)

-- and its map page
two_laid : (g : Over) (c : After-write_page-2 g) → (g.D.Device.state c.args.device.now).faithful → LaysOut (g.D.Device.state c.args.device.now) (g.D.Device.state c.write_page.new.device)
    → LaysOut (g.D.Device.state c.args.device.now) (g.D.Device.state c.write_page-2.new.device)
two_laid g c first one =
    let old = g.D.Device.state c.args.device.now in
    let second = c.write_page.ensures.history.faithful first in
    page_laid old (g.D.Device.state c.write_page.new.device) (g.D.Device.state c.write_page-2.new.device) (omega (arith, c.requires.room)) one c.write_page-2.ensures.history 2 (omega arith) (omega arith)
    (c.write_page-2.ensures.any_moment second) (c.write_page-2.ensures.alone second)

-- and the even root sector
three_laid : (g : Over) (c : After-write g) → (g.D.Device.state c.args.device.now).faithful → LaysOut (g.D.Device.state c.args.device.now) (g.D.Device.state c.write_page-2.new.device)
    → LaysOut (g.D.Device.state c.args.device.now) (g.D.Device.state c.write.new.self)
three_laid g c first two =
    let old = g.D.Device.state c.args.device.now in
    even_laid old (g.D.Device.state c.write_page-2.new.device) (g.D.Device.state c.write.new.self) (omega (arith, c.requires.room)) two c.write.ensures.history c.empty_sector.result c.empty_sector.ensures.zero
    (c.write.ensures.writes (c.write_page-2.ensures.history.faithful (c.write_page.ensures.history.faithful first)))

pub returns-clause-written : goal.returns-clause-written
returns-clause-written g c first =
    let one = g.D.Device.state c.write_page.new.device in
    let two = g.D.Device.state c.write_page-2.new.device in
    let three = g.D.Device.state c.write.new.self in
    let second = c.write_page.ensures.history.faithful first in
    let third = c.write_page-2.ensures.history.faithful second in
    let map : bytes_of_page three.content 2 ≡ c.write_map_page.result =
    same_page three.content two.content 2 (λ k lt. (c.write.ensures.writes third).others (8 * 2 + k) (omega arith))
    ∙ page_is two.content 2 ∙ c.in_ok-write_page-2.ensures.page second in
    on_ok_also c.write.result (c.write.ensures.written third) (λ written. record {
      even = written ∙ c.empty_sector.ensures.zero;
      page = same_page three.content two.content 1 (λ k lt. (c.write.ensures.writes third).others (8 * 1 + k) (omega arith))
          ∙ same_page two.content one.content 1 (λ k lt. (c.write_page-2.ensures.alone second (8 * 1 + k) (other_page 2 1 k (omega arith) lt)).content)
          ∙ page_is one.content 1 ∙ c.in_ok-write_page.ensures.page first;
      map = map ∙ c.write_map_page.ensures.spelled ∙ ap map_page_bytes c.first_entries.ensures;
      entries = ap entries_in map ∙ c.write_map_page.ensures.read ∙ c.first_entries.ensures;
    })

pub returns-clause-cause : goal.returns-clause-cause
returns-clause-cause g c =
    let two = history_joined _ _ (g.D.Device.state c.write_page-2.new.device) c.write_page.ensures.history c.write_page-2.ensures.history in
    on_err_also c.write.result c.write.ensures.cause (failed_later _ _ (g.D.Device.state c.write.new.self) two c.write.ensures.history)

pub returns-in_err-write_page-clause-any_moment : goal.returns-in_err-write_page-clause-any_moment
returns-in_err-write_page-clause-any_moment g c first = (one_laid g (goal.at.returns-in_err-write_page-clause-any_moment g c).After-write_page first).leaves

pub returns-in_err-write_page-clause-blank : goal.returns-in_err-write_page-clause-blank
returns-in_err-write_page-clause-blank g c first = (one_laid g (goal.at.returns-in_err-write_page-clause-blank g c).After-write_page first).blank

pub returns-in_err-write_page-clause-alone : goal.returns-in_err-write_page-clause-alone
returns-in_err-write_page-clause-alone g c first = (one_laid g (goal.at.returns-in_err-write_page-clause-alone g c).After-write_page first).alone

pub returns-in_err-write_page-2-clause-any_moment : goal.returns-in_err-write_page-2-clause-any_moment
returns-in_err-write_page-2-clause-any_moment g c first =
    let at = goal.at.returns-in_err-write_page-2-clause-any_moment g c in
    (two_laid g at.After-write_page-2 first (one_laid g at.After-write_page first)).leaves

pub returns-in_err-write_page-2-clause-blank : goal.returns-in_err-write_page-2-clause-blank
returns-in_err-write_page-2-clause-blank g c first =
    let at = goal.at.returns-in_err-write_page-2-clause-blank g c in
    (two_laid g at.After-write_page-2 first (one_laid g at.After-write_page first)).blank

pub returns-in_err-write_page-2-clause-alone : goal.returns-in_err-write_page-2-clause-alone
returns-in_err-write_page-2-clause-alone g c first =
    let at = goal.at.returns-in_err-write_page-2-clause-alone g c in
    (two_laid g at.After-write_page-2 first (one_laid g at.After-write_page first)).alone

pub returns-clause-any_moment : goal.returns-clause-any_moment
returns-clause-any_moment g c first =
    let at = goal.at.returns-clause-any_moment g c in
    (three_laid g at.After-write first (two_laid g at.After-write_page-2 first (one_laid g at.After-write_page first))).leaves

pub returns-clause-blank : goal.returns-clause-blank
returns-clause-blank g c first =
    let at = goal.at.returns-clause-blank g c in
    (three_laid g at.After-write first (two_laid g at.After-write_page-2 first (one_laid g at.After-write_page first))).blank

pub returns-clause-alone : goal.returns-clause-alone
returns-clause-alone g c first =
    let at = goal.at.returns-clause-alone g c in
    (three_laid g at.After-write first (two_laid g at.After-write_page-2 first (one_laid g at.After-write_page first))).alone

pub returns-in_err-write_page-2-clause-history : goal.returns-in_err-write_page-2-clause-history
returns-in_err-write_page-2-clause-history g c =
    history_joined _ _ (g.D.Device.state c.write_page-2.new.device) c.write_page.ensures.history c.write_page-2.ensures.history

pub returns-clause-history : goal.returns-clause-history
returns-clause-history g c =
    let two = history_joined _ _ (g.D.Device.state c.write_page-2.new.device) c.write_page.ensures.history c.write_page-2.ensures.history in
    history_joined _ _ (g.D.Device.state c.write.new.self) two c.write.ensures.history

pub write_page-requires-clause-not_beside : goal.write_page-requires-clause-not_beside
write_page-requires-clause-not_beside g c k lt beside =
    let behind = g.met.D.Device.beside_behind c.args.device.now _ beside in
    omega (arith, behind.1)

pub write_page-requires-2-clause-not_beside : goal.write_page-requires-2-clause-not_beside
write_page-requires-2-clause-not_beside g c k lt beside =
    let behind = g.met.D.Device.beside_behind c.write_page.new.device _ beside in
    omega (arith, behind.1)

pub write-requires-clause-not_beside : goal.write-requires-clause-not_beside
write-requires-clause-not_beside g c beside =
    let behind = g.met.D.Device.beside_behind c.write_page-2.new.device _ beside in
    omega (arith, behind.0)
