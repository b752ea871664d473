use Rattle.std.proofs.Common.{ℕ}
use Rattle.std.proofs.lemmas.Result.{MatchResult-at_err}
use Rattle.pages.specs.declared.array.PageFault.{PageFault}
use Rattle.pages.specs.declared.array.PageFault.TheVariants.{Malformed}
use Rattle.pages.specs.State.{Takes}
use Rattle.cow_pages.specs.Calls.{IsUnused, IsWritten, CannotTake}
use Rattle.cow_pages.specs.Preserved.{FailedWith, cow_state}
use Rattle.cow_pages.proofs.Answering.{if_ok_by, if_err_by}
use Rattle.cow_pages.proofs.Preserving.{take_failed}
use Rattle.cow_pages.proofs.Owned.{take_full}
use Rattle.cow_pages.proofs.over_device.CowPagesPages.new_page.Goals as goal

pub returns-clause-taken : goal.returns-clause-taken
returns-clause-taken g c first =
    let p = c.args.self.now in
    let q = c.new_page.new.self in
    let bytes = c.args.bytes.now in
    if_ok_by (λ (page : ℕ). IsUnused page p × IsWritten page bytes p q) (λ (fault : PageFault). CannotTake fault p q) (λ (page : ℕ). Takes page bytes (cow_state p) (cow_state q))
    c.new_page.result c.new_page.ensures.outcome (λ page is.
    let changes = is.1.changes first in
    record {
      was_free = is.0.1;
      writes = record { sound = c.new_page.ensures.preserved.preserved.history.faithful first; here = changes.here; others = changes.others };
    })

pub returns-clause-malformed : goal.returns-clause-malformed
returns-clause-malformed g c first is =
    let p = c.args.self.now in
    let q = c.new_page.new.self in
    MatchResult-at_err (λ (page : ℕ). IsUnused page p × IsWritten page c.args.bytes.now p q) (λ (fault : PageFault). CannotTake fault p q) Malformed is c.new_page.ensures.outcome

pub returns-clause-cause : goal.returns-clause-cause
returns-clause-cause g c first =
    let p = c.args.self.now in
    let q = c.new_page.new.self in
    if_err_by (λ (page : ℕ). IsUnused page p × IsWritten page c.args.bytes.now p q) (λ (fault : PageFault). CannotTake fault p q) (λ fault. FailedWith p q fault)
    c.new_page.result c.new_page.ensures.outcome (take_failed p q c.new_page.ensures.preserved.preserved.history)

pub returns-clause-full : goal.returns-clause-full
returns-clause-full g c = take_full c.args.self.now c.new_page.new.self c.args.bytes.now c.new_page.result c.new_page.ensures.outcome
