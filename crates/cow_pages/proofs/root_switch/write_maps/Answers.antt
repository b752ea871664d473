use Rattle.std.proofs.Common.{◌≢◌, ◌<◌, ◌+◌, ◌*◌, ℕ, List, get_or, ap, ◌∙◌, arith, below_more}
use Rattle.sector_device.specs.Device.{history_joined}
use Rattle.page_roots.specs.MapPage.{entries_in}
use Rattle.cow_pages.proofs.Bytes.{page_is}
use Rattle.cow_pages.proofs.Cached.{less_agrees, written_agrees}
use Rattle.cow_pages.proofs.Along.{bytes_along}
use Rattle.cow_pages.proofs.Writing.{other_page}
use Rattle.cow_pages.proofs.Committing.{leaves_more, alone_more}
use Rattle.cow_pages.specs.PreservedLaws.{failed_later}
use Rattle.cow_pages.proofs.Answered.{on_err_always}
use Rattle.cow_pages.proofs.root_switch.write_maps.Goals as goal

pub returns-in_err-write_page-clause-any_moment : goal.returns-in_err-write_page-clause-any_moment
returns-in_err-write_page-clause-any_moment g c first =
    let so_far = c.loop-index.invariant in
    let some : 0 < get_or c.args.pages.now c.loop-index.index 0 = omega (arith, c.if-page-ne0.true) in
    leaves_more c.args.pages.now _ _ (g.D.Device.state c.write_page.new.device) so_far.history c.loop-index.index some (so_far.alone first) (so_far.leaves first) (c.write_page.ensures.any_moment (so_far.history.faithful first))

pub returns-in_err-write_page-clause-alone : goal.returns-in_err-write_page-clause-alone
returns-in_err-write_page-clause-alone g c first =
    let so_far = c.loop-index.invariant in
    let some : 0 < get_or c.args.pages.now c.loop-index.index 0 = omega (arith, c.if-page-ne0.true) in
    alone_more c.args.pages.now _ _ (g.D.Device.state c.write_page.new.device) so_far.history c.loop-index.index some (so_far.alone first) (c.write_page.ensures.alone (so_far.history.faithful first))

pub returns-in_err-write_page-clause-cached : goal.returns-in_err-write_page-clause-cached
returns-in_err-write_page-clause-cached g c first agrees =
    let so_far = c.loop-index.invariant in
    let mid = g.D.Device.state c.loop-index.device in
    let left = c.invalidate.new.self in
    written_agrees left mid (g.D.Device.state c.write_page.new.device) (get_or c.args.pages.now c.loop-index.index 0)
    (less_agrees c.loop-index.cache left mid.content (so_far.cached first agrees) c.invalidate.ensures.others) c.invalidate.ensures.here (c.write_page.ensures.alone (so_far.history.faithful first))

pub loop-index-preserved : goal.loop-index-preserved
loop-index-preserved g c =
    let so_far = c.loop-index.invariant in
    let pages = c.args.pages.now in
    let index = c.loop-index.index in
    let mid = g.D.Device.state c.loop-index.device in
    elim c.if-page-ne0.branch [
      | goal.then-page-ne0+in_ok-write_page w ↦
          let new = g.D.Device.state w.write_page.new.device in
          let some : 0 < get_or pages index 0 = omega (arith, w.if-page-ne0.true) in
          let steps = w.write_page.ensures in
          rw (w.device-is, w.cache-is) (record {
            history = history_joined _ _ _ so_far.history steps.history;
            leaves = λ first. leaves_more pages _ _ new so_far.history index some (so_far.alone first) (so_far.leaves first) (steps.any_moment (so_far.history.faithful first));
            alone = λ first. alone_more pages _ _ new so_far.history index some (so_far.alone first) (steps.alone (so_far.history.faithful first));
            written = λ first. below_more _ _
                (λ j lt positive.
                let differs : get_or pages j 0 ≢ get_or pages index 0 = λ same. let is = c.requires.differ j index positive same in omega (arith, is, lt) in
                ap (λ (b : List ℕ). entries_in b) (bytes_along mid new (get_or pages j 0) (λ k below. steps.alone (so_far.history.faithful first) (8 * get_or pages j 0 + k) (other_page (get_or pages index 0) (get_or pages j 0) k differs below)))
                ∙ so_far.written first j lt positive)
                (λ positive. ap (λ (b : List ℕ). entries_in b) (page_is new.content (get_or pages index 0) ∙ w.in_ok-write_page.ensures.page (so_far.history.faithful first)) ∙ w.put_map.ensures);
            cached = λ first agrees.
                let left = w.invalidate.new.self in
                written_agrees left mid new (get_or pages index 0) (less_agrees c.loop-index.cache left mid.content (so_far.cached first agrees) w.invalidate.ensures.others)
                w.invalidate.ensures.here (steps.alone (so_far.history.faithful first));
          })
      | goal.else-page-ne0 w ↦
          rw (w.device-is, w.cache-is) (record {
            history = so_far.history;
            leaves = so_far.leaves;
            alone = so_far.alone;
            written = λ first. below_more _ _ (so_far.written first) (λ positive. absurd (omega (arith, positive, w.if-page-ne0.false)));
            cached = so_far.cached;
          })
    ]

pub write_page-requires-clause-not_beside : goal.write_page-requires-clause-not_beside
write_page-requires-clause-not_beside g c k lt beside =
    let behind = g.met.D.Device.beside_behind c.loop-index.device _ beside in
    omega (arith, c.if-page-ne0.true, behind.1)

pub returns-in_err-write_page-clause-history : goal.returns-in_err-write_page-clause-history
returns-in_err-write_page-clause-history g c =
    history_joined _ (g.D.Device.state c.loop-index.device) (g.D.Device.state c.write_page.new.device) c.loop-index.invariant.history c.write_page.ensures.history

pub returns-in_err-write_page-clause-cause : goal.returns-in_err-write_page-clause-cause
returns-in_err-write_page-clause-cause g c =
    on_err_always c.from_residual.result
    (failed_later _ (g.D.Device.state c.loop-index.device) (g.D.Device.state c.write_page.new.device) c.loop-index.invariant.history c.write_page.ensures.history c.in_err-write_page.ensures.cause)
