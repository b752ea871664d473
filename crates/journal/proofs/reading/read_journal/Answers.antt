use Rattle.std.proofs.Common.{◌≡◌, ◌∙◌, [], ℕ, List, length, get_or, sym, ap, subst, arith}
use Rattle.journal.specs.Chain.{Region}
use Rattle.journal.specs.Journal.{IsJournal}
use Rattle.journal.specs.Journals.{region_in}
use Rattle.journal.specs.Reading.{IsReadAs, region_of}
use Rattle.journal.proofs.Opening.{taken_whole, region_same, holds_read, if_ok}
use Rattle.journal.proofs.reading.read_journal.Given.{Over}
use Rattle.journal.proofs.reading.read_journal.Goals.{After-find_journal}
use Rattle.journal.proofs.reading.read_journal.Goals as goal

-- what the sectors that were read say is what the device held
regions_same : (g : Over) (c : After-find_journal g) → (g.D.Device.state c.args.device.now).faithful
    → region_of c.args.room c.deref.result.now ≡ region_in c.args.start c.args.room (g.D.Device.state c.args.device.now).content
regions_same g c faithful =
    let long : length c.deref_mut.result.now ≡ c.args.room = omega (arith, c.deref_mut.ensures.len, c.in_ok-resize.ensures.len) in
    let held : c.deref.result.now ≡ c.read_sectors.new.sectors
    = c.deref.ensures.value ∙ taken_whole _ c.read_sectors.new.sectors _ (omega (arith, c.read_sectors.ensures.count, c.deref_mut.ensures.len)) in
    region_same c.args.start c.args.room (g.D.Device.state c.args.device.now).content c.deref.result.now
    (λ q lt. ap (λ (xs : List (List ℕ)). get_or xs q []) held ∙ c.in-Ok.ensures.read faithful q (omega (arith, lt, long)))

pub returns-clause-read : goal.returns-clause-read
returns-clause-read g c faithful =
    let same = regions_same g (goal.at.returns-clause-read g c).After-find_journal faithful in
    if_ok c.find_journal.result _ _ (λ journal is. subst (λ (region : Region). IsReadAs journal c.args.root c.args.room region) same is) c.find_journal.ensures.read

pub returns-clause-holds : goal.returns-clause-holds
returns-clause-holds g c faithful synced =
    let old = g.D.Device.state c.args.device.now in
    if_ok c.find_journal.result _ _
    (λ journal is. holds_read c.args.start c.args.room c.args.root journal old (g.D.Device.state c.read_sectors.new.device) c.requires
    c.read_sectors.ensures.history.sectors (c.read_sectors.ensures.only_reads faithful) synced is)
    (returns-clause-read g c faithful)

pub returns-clause-damaged : goal.returns-clause-damaged
returns-clause-damaged g c faithful is es journal =
    let same = regions_same g (goal.at.returns-clause-damaged g c).After-find_journal faithful in
    c.find_journal.ensures.damaged is es (subst (λ (region : Region). IsJournal region c.args.root c.args.room es) (sym same) journal)
