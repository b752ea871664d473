use Rattle.std.proofs.Common.{◌≡◌, ◌*◌, ◌+◌, ℕ, List, length, get_or, ap, sym, ◌∙◌, arith, below_more, length-append}
use Rattle.sector_device.specs.Device.{history_none, history_joined}
use Rattle.page_roots.specs.MapPage.{entries_in}
use Rattle.cow_pages.specs.Held.{part_of}
use Rattle.cow_pages.specs.ReadingLaws.{reads_joined}
use Rattle.std.proofs.lemmas.Result.{err_from_is_err_and}
use Rattle.cow_pages.specs.PreservedLaws.{failed_later}
use Rattle.cow_pages.proofs.Loading.{device_read, memory_read, fault_given}
use Rattle.cow_pages.proofs.Reading.{reads_none, reads_alone}
use Rattle.cow_pages.proofs.Parts.{part_before, part_here}
use Rattle.cow_pages.proofs.Bytes.{page_is, same_page}
use Rattle.cow_pages.proofs.Answered.{never_ok}
use Rattle.cow_pages.proofs.open.read_maps.Goals as goal

pub returns-in_err-read_page-clause-reads : goal.returns-in_err-read_page-clause-reads
returns-in_err-read_page-clause-reads g c first =
    let so_far = c.loop-page.invariant in
    let now = so_far.history.faithful first in
    reads_joined _ _ (g.D.Device.state c.read_page.new.device) so_far.history (so_far.reads first) (reads_alone _ _ (c.read_page.ensures.alone now) (c.read_page.ensures.any_moment now))

pub returns-in_err-extend_from_slice-clause-reads : goal.returns-in_err-extend_from_slice-clause-reads
returns-in_err-extend_from_slice-clause-reads g c first =
    let so_far = c.loop-page.invariant in
    let now = so_far.history.faithful first in
    reads_joined _ _ (g.D.Device.state c.read_page.new.device) so_far.history (so_far.reads first) (reads_alone _ _ (c.read_page.ensures.alone now) (c.read_page.ensures.any_moment now))

pub loop-page-preserved : goal.loop-page-preserved
loop-page-preserved g c =
    let so_far = c.loop-page.invariant in
    let grown = c.in_ok-extend_from_slice.ensures.items in
    let count : length c.read_map_page.new.entries ≡ 1024 = c.read_map_page.auto.entries in
    record {
      history = history_joined _ _ _ so_far.history c.read_page.ensures.history;
      reads = λ first. let now = so_far.history.faithful first in
          reads_joined _ _ (g.D.Device.state c.read_page.new.device) so_far.history (so_far.reads first) (reads_alone _ _ (c.read_page.ensures.alone now) (c.read_page.ensures.any_moment now));
      count = ap (λ (l : List ℕ). length l) grown ∙ (let e = length-append c.loop-page.entries.items c.read_map_page.new.entries in omega (arith, e, count, so_far.count));
      each = λ first. let maps = c.maps-maps.result.now in let i = c.loop-page.page-index in
          let old = g.D.Device.state c.args.device.now in let mid = g.D.Device.state c.loop-page.device in
          below_more _ _
          (λ j lt. so_far.each first j lt ∙ sym (part_before c.loop-page.entries.items c.read_map_page.new.entries i j (omega (arith, so_far.count)) lt) ∙ ap (λ (l : List ℕ). part_of l j) (sym grown))
          (ap (λ (b : List ℕ). entries_in b) (same_page old.content mid.content (get_or maps i 0) (λ k lt. sym ((so_far.reads first).content (8 * get_or maps i 0 + k)))
          ∙ page_is mid.content (get_or maps i 0) ∙ sym (c.in_ok-read_page.ensures.page (so_far.history.faithful first)))
          ∙ sym c.read_map_page.ensures.entries ∙ sym (part_here c.loop-page.entries.items c.read_map_page.new.entries i so_far.count count) ∙ ap (λ (l : List ℕ). part_of l i) (sym grown));
    }

pub returns-in_err-entries-clause-reads : goal.returns-in_err-entries-clause-reads
returns-in_err-entries-clause-reads g c first = reads_none _ (g.met.D.Device.only_now c.args.device.now first)

pub returns-in_err-read_page-clause-history : goal.returns-in_err-read_page-clause-history
returns-in_err-read_page-clause-history g c = history_joined _ _ (g.D.Device.state c.read_page.new.device) c.loop-page.invariant.history c.read_page.ensures.history

pub returns-in_err-extend_from_slice-clause-history : goal.returns-in_err-extend_from_slice-clause-history
returns-in_err-extend_from_slice-clause-history g c = history_joined _ _ (g.D.Device.state c.read_page.new.device) c.loop-page.invariant.history c.read_page.ensures.history

pub returns-in_err-entries-clause-history : goal.returns-in_err-entries-clause-history
returns-in_err-entries-clause-history g c = history_none (g.D.Device.state c.args.device.now)

pub returns-in_err-entries-clause-count : goal.returns-in_err-entries-clause-count
returns-in_err-entries-clause-count g c = never_ok _ _ _ (err_from_is_err_and c.from_residual.result c.from_residual.ensures.1).1

pub returns-in_err-entries-clause-spelled : goal.returns-in_err-entries-clause-spelled
returns-in_err-entries-clause-spelled g c first = never_ok _ _ _ (err_from_is_err_and c.from_residual.result c.from_residual.ensures.1).1

pub returns-in_err-entries-clause-fault : goal.returns-in_err-entries-clause-fault
returns-in_err-entries-clause-fault g c = let back = err_from_is_err_and c.from_residual.result c.from_residual.ensures.1 in fault_given _ _ _ back.1 (memory_read _ _ _ back.2)

pub returns-in_err-read_page-clause-count : goal.returns-in_err-read_page-clause-count
returns-in_err-read_page-clause-count g c = never_ok _ _ _ (err_from_is_err_and c.from_residual-in_err-read_page.result c.from_residual-in_err-read_page.ensures.1).1

pub returns-in_err-read_page-clause-spelled : goal.returns-in_err-read_page-clause-spelled
returns-in_err-read_page-clause-spelled g c first = never_ok _ _ _ (err_from_is_err_and c.from_residual-in_err-read_page.result c.from_residual-in_err-read_page.ensures.1).1

pub returns-in_err-read_page-clause-fault : goal.returns-in_err-read_page-clause-fault
returns-in_err-read_page-clause-fault g c = let back = err_from_is_err_and c.from_residual-in_err-read_page.result c.from_residual-in_err-read_page.ensures.1 in fault_given _ _ _ back.1
    (device_read _ _ _ back.2 (failed_later _ _ (g.D.Device.state c.read_page.new.device) c.loop-page.invariant.history c.read_page.ensures.history c.in_err-read_page.ensures.cause))

pub returns-in_err-extend_from_slice-clause-count : goal.returns-in_err-extend_from_slice-clause-count
returns-in_err-extend_from_slice-clause-count g c = never_ok _ _ _ (err_from_is_err_and c.from_residual-in_err-extend_from_slice.result c.from_residual-in_err-extend_from_slice.ensures.1).1

pub returns-in_err-extend_from_slice-clause-spelled : goal.returns-in_err-extend_from_slice-clause-spelled
returns-in_err-extend_from_slice-clause-spelled g c first = never_ok _ _ _ (err_from_is_err_and c.from_residual-in_err-extend_from_slice.result c.from_residual-in_err-extend_from_slice.ensures.1).1

pub returns-in_err-extend_from_slice-clause-fault : goal.returns-in_err-extend_from_slice-clause-fault
returns-in_err-extend_from_slice-clause-fault g c = let back = err_from_is_err_and c.from_residual-in_err-extend_from_slice.result c.from_residual-in_err-extend_from_slice.ensures.1 in fault_given _ _ _ back.1 (memory_read _ _ _ back.2)

pub returns-clause-fault : goal.returns-clause-fault
returns-clause-fault g c = tt
