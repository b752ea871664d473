use Rattle.std.proofs.Common.{IsSome}
use Rattle.std.proofs.lemmas.Result.{MatchResult-at_err}
use Rattle.pages.specs.declared.array.PageFault.{PageFault}
use Rattle.pages.specs.declared.array.PageFault.TheVariants.{Malformed}
use Rattle.cow_pages.specs.Cow.{working_array}
use Rattle.cow_pages.specs.Calls.{IsWritten, CannotWrite}
use Rattle.cow_pages.specs.Preserved.{FailedWith}
use Rattle.cow_pages.proofs.Answering.{on_ok_by, if_err_by}
use Rattle.cow_pages.proofs.Preserving.{write_failed}
use Rattle.cow_pages.proofs.Owned.{write_full}
use Rattle.cow_pages.proofs.over_device.CowPagesPages.write.Goals as goal

pub returns-clause-used : goal.returns-clause-used
returns-clause-used g c first =
    let p = c.args.self.now in
    let q = c.write.new.self in
    on_ok_by (λ (x : Unit {0}). IsSome (working_array p c.args.page) × IsWritten c.args.page c.args.bytes.now p q) (λ (fault : PageFault). CannotWrite c.args.page fault p q)
    c.write.result c.write.ensures.outcome (λ x is. is.0)

pub returns-clause-written : goal.returns-clause-written
returns-clause-written g c first used =
    let p = c.args.self.now in
    let q = c.write.new.self in
    on_ok_by (λ (x : Unit {0}). IsSome (working_array p c.args.page) × IsWritten c.args.page c.args.bytes.now p q) (λ (fault : PageFault). CannotWrite c.args.page fault p q)
    c.write.result c.write.ensures.outcome (λ x is.
    let changes = is.1.changes first in
    record { sound = c.write.ensures.preserved.preserved.history.faithful first; here = changes.here; others = changes.others })

pub returns-clause-malformed : goal.returns-clause-malformed
returns-clause-malformed g c first is =
    let p = c.args.self.now in
    let q = c.write.new.self in
    (MatchResult-at_err (λ (x : Unit {0}). IsSome (working_array p c.args.page) × IsWritten c.args.page c.args.bytes.now p q) (λ (fault : PageFault). CannotWrite c.args.page fault p q)
    Malformed is c.write.ensures.outcome).0

pub returns-clause-cause : goal.returns-clause-cause
returns-clause-cause g c first =
    let p = c.args.self.now in
    let q = c.write.new.self in
    if_err_by (λ (x : Unit {0}). IsSome (working_array p c.args.page) × IsWritten c.args.page c.args.bytes.now p q) (λ (fault : PageFault). CannotWrite c.args.page fault p q)
    (λ fault. FailedWith p q fault) c.write.result c.write.ensures.outcome
    (write_failed p q c.write.ensures.preserved.preserved.history c.args.page)

pub returns-clause-full : goal.returns-clause-full
returns-clause-full g c = write_full c.args.self.now c.write.new.self c.args.page c.args.bytes.now c.write.result c.write.ensures.outcome
