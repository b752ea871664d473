use Rattle.std.proofs.lemmas.Result.{MatchResult-at_err}
use Rattle.pages.specs.declared.array.PageFault.{PageFault}
use Rattle.pages.specs.declared.array.PageFault.TheVariants.{Malformed}
use Rattle.cow_pages.specs.Calls.{IsFreed, CannotFree}
use Rattle.cow_pages.specs.Preserved.{FailedWith}
use Rattle.cow_pages.proofs.Answering.{on_ok_by, if_err_by}
use Rattle.cow_pages.proofs.Preserving.{free_failed}
use Rattle.cow_pages.proofs.over_device.CowPagesPages.free_page.Goals as goal

pub returns-clause-used : goal.returns-clause-used
returns-clause-used g c first =
    let p = c.args.self.now in
    let q = c.free_page.new.self in
    on_ok_by (λ (x : Unit {0}). IsFreed c.args.page p q) (λ (fault : PageFault). CannotFree c.args.page fault p q) c.free_page.result c.free_page.ensures.outcome (λ x is. is.used)

pub returns-clause-freed : goal.returns-clause-freed
returns-clause-freed g c first used =
    let p = c.args.self.now in
    let q = c.free_page.new.self in
    on_ok_by (λ (x : Unit {0}). IsFreed c.args.page p q) (λ (fault : PageFault). CannotFree c.args.page fault p q) c.free_page.result c.free_page.ensures.outcome
    (λ x is. record { sound = c.free_page.ensures.preserved.preserved.history.faithful first; here = is.changes.here; others = is.changes.others })

pub returns-clause-malformed : goal.returns-clause-malformed
returns-clause-malformed g c first is =
    let p = c.args.self.now in
    let q = c.free_page.new.self in
    (MatchResult-at_err (λ (x : Unit {0}). IsFreed c.args.page p q) (λ (fault : PageFault). CannotFree c.args.page fault p q) Malformed is c.free_page.ensures.outcome).0

pub returns-clause-cause : goal.returns-clause-cause
returns-clause-cause g c first =
    let p = c.args.self.now in
    let q = c.free_page.new.self in
    if_err_by (λ (x : Unit {0}). IsFreed c.args.page p q) (λ (fault : PageFault). CannotFree c.args.page fault p q) (λ fault. FailedWith p q fault)
    c.free_page.result c.free_page.ensures.outcome (free_failed p q c.free_page.ensures.preserved.preserved.history c.args.page)
