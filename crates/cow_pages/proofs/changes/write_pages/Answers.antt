use Rattle.std.proofs.Common.{◌≡◌, ◌<◌, ℕ, refl, ◌∙◌, arith, below_more}
use Rattle.sector_device.specs.Device.{history_joined}
use Rattle.cow_pages.specs.Image.{bytes_of_page}
use Rattle.cow_pages.specs.DirtyPages.{dirty_bytes, index_of}
use Rattle.cow_pages.proofs.Bytes.{page_is}
use Rattle.cow_pages.proofs.Cached.{less_agrees, written_agrees, put_agrees}
use Rattle.cow_pages.proofs.Overlaid.{some_dirty, leaves_more, alone_more, written_now, written_more}
use Rattle.cow_pages.specs.PreservedLaws.{failed_later}
use Rattle.cow_pages.proofs.Answered.{on_err_always}
use Rattle.cow_pages.proofs.changes.write_pages.Goals as goal

pub write_page-requires-clause-inside : goal.write_page-requires-clause-inside
write_page-requires-clause-inside g c =
    let waits = some_dirty (dirty_bytes c.args.dirty.now c.in-Some.page) _ c.in-Some.ensures.dirty in
    omega (arith, (c.requires.inside c.in-Some.page waits).1, c.loop-index.invariant.history.sectors)

pub write_page-requires-clause-not_beside : goal.write_page-requires-clause-not_beside
write_page-requires-clause-not_beside g c k lt beside =
    let waits = some_dirty (dirty_bytes c.args.dirty.now c.in-Some.page) _ c.in-Some.ensures.dirty in
    let behind = g.met.D.Device.beside_behind c.loop-index.device _ beside in
    omega (arith, (c.requires.inside c.in-Some.page waits).0, behind.1)

pub returns-in_err-write_page-clause-any_moment : goal.returns-in_err-write_page-clause-any_moment
returns-in_err-write_page-clause-any_moment g c first =
    let so_far = c.loop-index.invariant in
    let waits = some_dirty (dirty_bytes c.args.dirty.now c.in-Some.page) _ c.in-Some.ensures.dirty in
    leaves_more (dirty_bytes c.args.dirty.now) _ _ (g.D.Device.state c.write_page.new.device) so_far.history c.in-Some.page waits (so_far.alone first) (so_far.leaves first)
    (c.write_page.ensures.any_moment (so_far.history.faithful first))

pub returns-in_err-write_page-clause-alone : goal.returns-in_err-write_page-clause-alone
returns-in_err-write_page-clause-alone g c first =
    let so_far = c.loop-index.invariant in
    let waits = some_dirty (dirty_bytes c.args.dirty.now c.in-Some.page) _ c.in-Some.ensures.dirty in
    alone_more (dirty_bytes c.args.dirty.now) _ _ (g.D.Device.state c.write_page.new.device) so_far.history c.in-Some.page waits (so_far.alone first)
    (c.write_page.ensures.alone (so_far.history.faithful first))

pub returns-in_err-write_page-clause-cached : goal.returns-in_err-write_page-clause-cached
returns-in_err-write_page-clause-cached g c first agrees =
    let so_far = c.loop-index.invariant in
    let mid = g.D.Device.state c.loop-index.device in
    let left = c.invalidate.new.self in
    written_agrees left mid (g.D.Device.state c.write_page.new.device) c.in-Some.page
    (less_agrees c.loop-index.cache left mid.content (so_far.cached first agrees) c.invalidate.ensures.others) c.invalidate.ensures.here (c.write_page.ensures.alone (so_far.history.faithful first))

pub loop-index-preserved : goal.loop-index-preserved
loop-index-preserved g c =
    let so_far = c.loop-index.invariant in
    let waits = dirty_bytes c.args.dirty.now in
    let mid = g.D.Device.state c.loop-index.device in
    elim c.match-page_at.branch [
      | goal.in-Some+in_ok-write_page w ↦
          let new = g.D.Device.state w.write_page.new.device in
          let page = w.in-Some.page in
          let bytes = w.in-Some.bytes.now in
          let some = some_dirty (waits page) bytes w.in-Some.ensures.dirty in
          let steps = w.write_page.ensures in
          rw (w.device-is, w.cache-is) (record {
            history = history_joined _ _ _ so_far.history steps.history;
            leaves = λ first. leaves_more waits _ _ new so_far.history page some (so_far.alone first) (so_far.leaves first) (steps.any_moment (so_far.history.faithful first));
            alone = λ first. alone_more waits _ _ new so_far.history page some (so_far.alone first) (steps.alone (so_far.history.faithful first));
            written = λ first other others also lt.
                let faithful = so_far.history.faithful first in
                let done : bytes_of_page new.content page ≡ bytes = page_is new.content page ∙ w.in_ok-write_page.ensures.page faithful in
                let index = index_of c.args.dirty.now other in
                let written : (k : ℕ) → k < c.loop-index.index → index ≡ k → bytes_of_page new.content other ≡ others = λ k below same.
                written_more waits mid new page bytes w.in-Some.ensures.dirty done (steps.alone faithful) other others also
                (so_far.written first other others also (omega (arith, below, same))) in
                let here : index ≡ c.loop-index.index → bytes_of_page new.content other ≡ others = λ same.
                written_now waits new page bytes w.in-Some.ensures.dirty done other others also (w.in-Some.ensures.alone other (some_dirty (waits other) others also) same) in
                below_more (λ (k : ℕ). index ≡ k → bytes_of_page new.content other ≡ others) c.loop-index.index written here index lt refl;
            cached = λ first agrees.
                let left = w.invalidate.new.self in
                put_agrees left w.put.new.self new.content
                (written_agrees left mid new page (less_agrees c.loop-index.cache left mid.content (so_far.cached first agrees) w.invalidate.ensures.others) w.invalidate.ensures.here (steps.alone (so_far.history.faithful first)))
                page bytes (page_is new.content page ∙ w.in_ok-write_page.ensures.page (so_far.history.faithful first)) w.put.ensures.here w.put.ensures.others;
          })
      | goal.in_default w ↦
          rw (w.device-is, w.cache-is) (record {
            history = so_far.history;
            leaves = so_far.leaves;
            alone = so_far.alone;
            written = λ first other others also lt.
                let index = index_of c.args.dirty.now other in
                below_more (λ (k : ℕ). index ≡ k → bytes_of_page mid.content other ≡ others) c.loop-index.index
                (λ k below same. so_far.written first other others also (omega (arith, below, same)))
                (λ same. absurd (w.in_default.ensures.none other (some_dirty (waits other) others also) same)) index lt refl;
            cached = so_far.cached;
          })
    ]

pub returns-clause-written : goal.returns-clause-written
returns-clause-written g c first page bytes waits =
    let inside = c.len-index-end.ensures.inside page (some_dirty (dirty_bytes c.args.dirty.now page) bytes waits) in
    c.loop-index.invariant.written first page bytes waits (omega (arith, inside, c.loop-index-test.false))

pub returns-in_err-write_page-clause-history : goal.returns-in_err-write_page-clause-history
returns-in_err-write_page-clause-history g c =
    history_joined _ (g.D.Device.state c.loop-index.device) (g.D.Device.state c.write_page.new.device) c.loop-index.invariant.history c.write_page.ensures.history

pub returns-in_err-write_page-clause-cause : goal.returns-in_err-write_page-clause-cause
returns-in_err-write_page-clause-cause g c =
    on_err_always c.from_residual.result
    (failed_later _ (g.D.Device.state c.loop-index.device) (g.D.Device.state c.write_page.new.device) c.loop-index.invariant.history c.write_page.ensures.history c.in_err-write_page.ensures.cause)
