use Rattle.std.proofs.Common.{◌<◌, ◌++◌, [], Err, Ok, length, take, drop, ap, sym, ◌∙◌, subst, arith, length-drop}
use Rattle.std.proofs.lemmas.List.{take-append-drop, append-nil}
use Rattle.std.specs.List.{AllByRecursion}
use Rattle.cow_pages.specs.PreservedLaws.{preserved_same, preserved_joined}
use Rattle.page_tree.proofs.Faults.{fails}
use Rattle.store.specs.Records.{Changes, IsChangeSize}
use Rattle.kv_store.specs.Batches.{MakesChanges, applied_in_turn}
use Rattle.kv_store.proofs.InTurn.{makes_more, take_on, tree_makes, both_hold, from_index}
use Rattle.kv_store.proofs.Room.{lacks_later, lacks_first, fewer_free, no_page, err_fails}
use Rattle.kv_store.proofs.commit.make_changes.Goals as goal

pub loop-made-init : goal.loop-made-init
loop-made-init g c = record { inside = omega arith; preserved = preserved_same c.args.pages.now; works = λ worked. worked; made = λ faithful records represents. (faithful, represents) }

pub change_first-requires-clause-some : goal.change_first-requires-clause-some
change_first-requires-clause-some g c = omega (arith, c.loop-made-test.true, ap (λ (cs : Changes). length cs) (from_index c.loop-made.made c.args.changes.now), length-drop c.loop-made.made c.args.changes.now)

pub change_first-requires-clause-sizes : goal.change_first-requires-clause-sizes
change_first-requires-clause-sizes g c =
    let changes = c.args.changes.now in
    subst (λ (cs : Changes). AllByRecursion IsChangeSize cs) (sym (from_index c.loop-made.made changes))
    (both_hold IsChangeSize (take c.loop-made.made changes) (drop c.loop-made.made changes) (subst (λ (cs : Changes). AllByRecursion IsChangeSize cs) (sym (take-append-drop c.loop-made.made changes)) c.requires)).1

pub loop-made-preserved : goal.loop-made-preserved
loop-made-preserved g c =
    let changes = c.args.changes.now in
    let made = c.loop-made.made in
    let more = c.in_ok-more.more in
    let old = c.args.pages.now in
    let now = c.loop-made.pages in
    let new = c.change_first.new.pages in
    let slice = from_index made changes in
    let second = subst (λ (cs : Changes). MakesChanges (take more cs) (Ok tt) now new) slice (tree_makes _ more now new (λ faithful records represents. c.in_ok-more.ensures.changed faithful records represents)) in
    record {
      inside = omega (arith, c.in_ok-more.ensures.made.1, ap (λ (cs : Changes). length cs) slice, length-drop made changes, c.loop-made.invariant.inside);
      preserved = preserved_joined old now new c.loop-made.invariant.preserved c.in_ok-more.ensures.preserved;
      works = λ worked. c.in_ok-more.ensures.works;
      made = subst (λ (cs : Changes). MakesChanges cs (Ok tt) old new) (sym (take_on changes made more c.loop-made.invariant.inside))
          (makes_more (take made changes) (take more (drop made changes)) old now new (Ok tt) c.loop-made.invariant.preserved c.loop-made.invariant.made second);
    }

pub returns-in_err-more-clause-preserved : goal.returns-in_err-more-clause-preserved
returns-in_err-more-clause-preserved g c =
    preserved_joined c.args.pages.now c.loop-made.pages c.change_first.new.pages c.loop-made.invariant.preserved c.in_err-more.ensures.preserved

pub returns-in_err-more-clause-made : goal.returns-in_err-more-clause-made
returns-in_err-more-clause-made g c faithful contents represents =
    let fault = c.in_err-more.field-0.0 in
    fails c.from_residual.result fault _ _ c.from_residual.ensures.1
    (makes_more (take c.loop-made.made c.args.changes.now) (drop c.loop-made.made c.args.changes.now) c.args.pages.now c.loop-made.pages c.change_first.new.pages (Err fault) c.loop-made.invariant.preserved
    c.loop-made.invariant.made (λ there records stand. c.in_err-more.ensures.changed there records stand) faithful contents represents)

pub returns-in_err-more-clause-room : goal.returns-in_err-more-clause-room
returns-in_err-more-clause-room g c faithful records represents =
    let changes = c.args.changes.now in
    let made = c.loop-made.made in
    let old = c.args.pages.now in
    let now = c.loop-made.pages in
    let new = c.change_first.new.pages in
    let stand = c.loop-made.invariant.made faithful records represents in
    let fault = c.in_err-more.field-0.0 in
    let some : 0 < length (drop made changes) = omega (arith, c.loop-made-test.true, length-drop made changes) in
    err_fails c.from_residual.result fault _ c.from_residual.ensures.1
    (λ full.
    let caused = c.in_err-more.ensures.changed stand.0 _ stand.1 in
    let t = c.in_err-more.ensures.takes stand.0 _ stand.1 full in
    lacks_later records old changes (take made changes) (drop made changes) [] now
    (sym (take-append-drop made changes) ∙ ap (λ (cs : Changes). take made changes ++ cs) (sym (append-nil (drop made changes)))) c.loop-made.invariant.preserved
    (lacks_first (applied_in_turn (take made changes) records) now (drop made changes) some stand.1 (fewer_free now new c.in_err-more.ensures.preserved (no_page now new fault full caused) t.others t.only _ t.few)))
