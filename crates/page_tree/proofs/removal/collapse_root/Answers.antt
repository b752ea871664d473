use Rattle.std.proofs.Common.{Err, ap, ◌∙◌, [], ◌∷◌, arith}
use Rattle.pages.specs.declared.array.PageFault.{PageFault}
use Rattle.pages.specs.State.{OnlyReads, Writes}
use Rattle.page_tree.proofs.Faults.{fails, caused_used, gives_used}
use Rattle.page_tree.proofs.Descent.{numbered_of}
use Rattle.page_tree.proofs.RemovalPages.{some_as}
use Rattle.page_tree.proofs.RemovalBelow.{child_used, child_other, root_lowered}
use Rattle.page_tree.proofs.Taking.{none_taken, one_taken, taken_then, taken_in_all, not_read, freed_last}
use Rattle.page_tree.proofs.removal.collapse_root.Goals as goal

pub returns-in_err-read-clause-collapsed : goal.returns-in_err-read-clause-collapsed
returns-in_err-read-clause-collapsed g c sound d f h =
    let A = (g.P.Pages.state c.args.pages.now).array in
    let used = child_used A (numbered_of g.P.Pages c.args.pages.now sound) d c.args.child f c.ranges.child.fits h in
    fails c.from_residual.result c.in_err-read.field-0.0 _ _ c.from_residual.ensures.1
    (caused_used _ c.in_err-read.field-0.0 (A c.args.child) used (λ bad. c.in_err-read.ensures.malformed sound (ap (λ (x : PageFault). Err x) bad)) (c.in_err-read.ensures.cause sound))

pub returns-clause-preserved : goal.returns-clause-preserved
returns-clause-preserved g c = g.P.Pages.preserved_joined c.args.pages.now c.write.new.self c.free_page.new.self (g.P.Pages.preserved_joined c.args.pages.now c.read.new.self c.write.new.self c.in_ok-read.ensures.preserved c.in_ok-write.ensures.preserved) c.free_page.ensures.preserved

pub returns-clause-collapsed : goal.returns-clause-collapsed
returns-clause-collapsed g c sound d f h =
    let old = g.P.Pages.state c.args.pages.now in
    let one = g.P.Pages.state c.read.new.self in
    let two = g.P.Pages.state c.write.new.self in
    let child = c.args.child in
    let numbered = numbered_of g.P.Pages c.args.pages.now sound in
    let used = child_used old.array numbered d child f c.ranges.child.fits h in
    let other = child_other old.array numbered d child f c.ranges.child.fits h in
    let only_reads : OnlyReads old one = c.in_ok-read.ensures.only_reads sound in
    let w : Writes 0 c.read.new.bytes one two = c.in_ok-write.ensures.written only_reads.sound (some_as old.array one.array 0 (only_reads.same 0) h.there) in
    let there = some_as old.array two.array child (w.others child other ∙ only_reads.same child) used in
    gives_used g.P.Pages c.args.pages.now c.write.new.self c.free_page.new.self c.free_page.result (two.array child) _ _
    (g.P.Pages.preserved_joined c.args.pages.now c.read.new.self c.write.new.self c.in_ok-read.ensures.preserved c.in_ok-write.ensures.preserved)
    there (c.free_page.ensures.malformed w.sound) (c.free_page.ensures.cause w.sound)
    (λ gone only. (gone.sound, root_lowered old one two (g.P.Pages.state c.free_page.new.self) f d child c.read.new.bytes numbered c.ranges.child.fits h only only_reads (only_reads.same child ∙ c.in_ok-read.ensures.found sound) w gone))
    (c.free_page.ensures.freed w.sound there)

pub returns-in_err-read-clause-takes : goal.returns-in_err-read-clause-takes
returns-in_err-read-clause-takes g c =
    fails c.from_residual.result c.in_err-read.field-0.0 _ _ c.from_residual.ensures.1 (λ is. not_read c.in_err-read.field-0.0 c.in_err-read.ensures.faults is)

pub returns-in_err-write-clause-takes : goal.returns-in_err-write-clause-takes
returns-in_err-write-clause-takes g c =
    fails c.from_residual-in_err-write.result c.in_err-write.field-0.0 _ _ c.from_residual-in_err-write.ensures.1
    (λ is. taken_then g.P.Pages c.args.pages.now c.read.new.self c.write.new.self [] [] 0 0 0 (none_taken g.P.Pages c.args.pages.now c.read.new.self 0 c.in_ok-read.ensures.own)
    (none_taken g.P.Pages c.read.new.self c.write.new.self 0 (c.in_err-write.ensures.full is).0) (omega arith))

pub returns-clause-takes : goal.returns-clause-takes
returns-clause-takes g c =
    freed_last g.P.Pages c.args.pages.now c.write.new.self c.free_page.new.self c.free_page.result
    (taken_in_all g.P.Pages c.args.pages.now c.write.new.self (0 ∷ []) 0 1
    (taken_then g.P.Pages c.args.pages.now c.read.new.self c.write.new.self [] (0 ∷ []) 0 0 0 (none_taken g.P.Pages c.args.pages.now c.read.new.self 0 c.in_ok-read.ensures.own)
    (one_taken g.P.Pages c.read.new.self c.write.new.self 0 0 c.in_ok-write.ensures.own) (omega arith)) (omega arith)) c.free_page.ensures.own c.free_page.ensures.faults

pub returns-in_err-write-clause-preserved : goal.returns-in_err-write-clause-preserved
returns-in_err-write-clause-preserved g c =
    g.P.Pages.preserved_joined c.args.pages.now c.read.new.self c.write.new.self c.in_ok-read.ensures.preserved c.in_err-write.ensures.preserved
