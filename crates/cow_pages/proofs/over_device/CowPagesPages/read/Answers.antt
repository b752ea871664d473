use Rattle.std.proofs.lemmas.Result.{MatchResult-at_err}
use Rattle.pages.specs.declared.array.PageFault.{PageFault}
use Rattle.pages.specs.declared.array.PageFault.TheVariants.{Malformed, Device}
use Rattle.cow_pages.specs.Calls.{IsRead, CannotRead}
use Rattle.cow_pages.specs.Preserved.{FailedWith}
use Rattle.cow_pages.proofs.Answering.{on_ok_by, if_err_by}
use Rattle.cow_pages.proofs.Preserving.{read_failed, read_faults}
use Rattle.cow_pages.proofs.Owned.{map_kept}
use Rattle.std.proofs.Common.{◌≡◌, ◌⊎◌}
use Rattle.cow_pages.proofs.over_device.CowPagesPages.read.Goals as goal

pub returns-clause-found : goal.returns-clause-found
returns-clause-found g c first =
    let p = c.args.self.now in
    let q = c.read.new.self in
    on_ok_by (λ (x : Unit {0}). IsRead c.args.page c.read.new.bytes p q) (λ (fault : PageFault). CannotRead c.args.page fault p q) c.read.result c.read.ensures.outcome (λ x is. is.found first)

pub returns-clause-malformed : goal.returns-clause-malformed
returns-clause-malformed g c first is =
    let p = c.args.self.now in
    let q = c.read.new.self in
    (MatchResult-at_err (λ (x : Unit {0}). IsRead c.args.page c.read.new.bytes p q) (λ (fault : PageFault). CannotRead c.args.page fault p q) Malformed is c.read.ensures.outcome).0

pub returns-clause-cause : goal.returns-clause-cause
returns-clause-cause g c first =
    let p = c.args.self.now in
    let q = c.read.new.self in
    if_err_by (λ (x : Unit {0}). IsRead c.args.page c.read.new.bytes p q) (λ (fault : PageFault). CannotRead c.args.page fault p q) (λ fault. FailedWith p q fault) c.read.result c.read.ensures.outcome
    (read_failed p q c.read.ensures.preserved.preserved.history c.args.page)

pub returns-clause-own : goal.returns-clause-own
returns-clause-own g c = map_kept c.args.self.now c.read.new.self c.read.result c.read.ensures.only_reads.map

pub returns-clause-preserved : goal.returns-clause-preserved
returns-clause-preserved g c = c.read.ensures.preserved

pub returns-clause-writes_nothing : goal.returns-clause-writes_nothing
returns-clause-writes_nothing g c = c.read.ensures.only_reads

pub returns-clause-works : goal.returns-clause-works
returns-clause-works g c =
    let p = c.args.self.now in
    let q = c.read.new.self in
    on_ok_by (λ (x : Unit {0}). IsRead c.args.page c.read.new.bytes p q) (λ (fault : PageFault). CannotRead c.args.page fault p q) c.read.result c.read.ensures.outcome (λ x is. is.has_not_failed)

pub returns-clause-only_reads : goal.returns-clause-only_reads
returns-clause-only_reads g c first = record { sound = c.read.ensures.preserved.preserved.history.faithful first; same = c.read.ensures.only_reads.array first }

pub returns-clause-faults : goal.returns-clause-faults
returns-clause-faults g c =
    let p = c.args.self.now in
    let q = c.read.new.self in
    if_err_by (λ (x : Unit {0}). IsRead c.args.page c.read.new.bytes p q) (λ (fault : PageFault). CannotRead c.args.page fault p q) (λ fault. (fault ≡ Malformed) ⊎ (fault ≡ Device)) c.read.result c.read.ensures.outcome
    (read_faults p q c.read.ensures.preserved.preserved.history c.args.page)
