use Rattle.std.proofs.Common.{Bool, true, false, ap, sym, ◌∙◌, subst}
use Rattle.store.specs.Records.{entries_where}
use Rattle.store.specs.Walks.{is_within}
use Rattle.store.proofs.Changes.{ordered_entries_where}
use Rattle.store.proofs.Reading.{reads_joined}
use Rattle.transactions.specs.Merging.{AreMerged, IsLent, IsPassed, IsReadBelow}
use Rattle.transactions.specs.Within.{cut_at, cut_below, lists_within}
use Rattle.transactions.specs.WithinLaws.{merged_own}
use Rattle.transactions.specs.declared.merge.Below.{Below}
use Rattle.transactions.specs.declared.merge.Merge.{Merge}
use Rattle.transactions.specs.declared.merge.Passed.{Passed}
use Rattle.transactions.proofs.Merging.{held_lent}
use Rattle.transactions.proofs.Viewing.{view_found}
use Rattle.transactions.proofs.merge.step_merged_within.Goals as goal

pub returns-then-branch-clause-goes : goal.returns-then-branch-clause-goes
returns-then-branch-clause-goes g c =
    let old = c.args.map.now in
    let mid = c.loop.map in
    let new = c.read_within.new.map in
    let lists = c.args.lists.now in
    let stop = c.args.stop.now in
    let es = (g.M.Map.state old).map in
    let place = c.read_within.new.place in
    let inv = c.loop.invariant in
    let is = c.in_ok-read_within.ensures in
    view_found lists _ true (g.M.Map.state old) (g.M.Map.state new) (reads_joined (g.M.Map.state old) (g.M.Map.state mid) (g.M.Map.state new) inv.reads is.only_reads) (is.failed ∙ inv.works)
    (λ sound records ahead.
    let rise = g.met.M.Map.ordered old sound in
    let cut = subst (λ (m : Merge). AreMerged (g.M.Map.ahead_within mid stop) (lists_within stop lists) (entries_where (is_within stop) es) (record c.loop.place { merge = m }) records) (sym c.cut.ensures) (inv.merge sound records ahead) in
    let read = subst (λ (b : Bool). IsReadBelow (IsLent (g.M.Map.found_at new) place) (AreMerged (g.M.Map.ahead_within new stop) (lists_within stop lists) (entries_where (is_within stop) es) place) place.merge.ahead b records) c.if-branch.true
    (is.read (inv.reads.history.sound sound) (lists_within stop lists) (entries_where (is_within stop) es) records (ordered_entries_where (is_within stop) es rise) cut) in
    (read.0, read.1, read.2, read.3, merged_own (g.M.Map.ahead_within new stop) stop lists es place read.1 read.4))

pub returns-in-Entry-clause-goes : goal.returns-in-Entry-clause-goes
returns-in-Entry-clause-goes g c =
    let old = c.args.map.now in
    let mid = c.loop.map in
    let new = c.read_within.new.map in
    let lists = c.args.lists.now in
    let stop = c.args.stop.now in
    let es = (g.M.Map.state old).map in
    let place = c.read_within.new.place in
    let inv = c.loop.invariant in
    let is = c.in_ok-read_within.ensures in
    view_found lists _ true (g.M.Map.state old) (g.M.Map.state new) (reads_joined (g.M.Map.state old) (g.M.Map.state mid) (g.M.Map.state new) inv.reads is.only_reads) (is.failed ∙ inv.works)
    (λ sound records ahead.
    let rise = g.met.M.Map.ordered old sound in
    let cut = subst (λ (m : Merge). AreMerged (g.M.Map.ahead_within mid stop) (lists_within stop lists) (entries_where (is_within stop) es) (record c.loop.place { merge = m }) records) (sym c.cut.ensures) (inv.merge sound records ahead) in
    let read = subst (λ (b : Bool). IsReadBelow (IsLent (g.M.Map.found_at new) place) (AreMerged (g.M.Map.ahead_within new stop) (lists_within stop lists) (entries_where (is_within stop) es) place) place.merge.ahead b records) c.if-branch.false
    (is.read (inv.reads.history.sound sound) (lists_within stop lists) (entries_where (is_within stop) es) records (ordered_entries_where (is_within stop) es rise) cut) in
    let passed = subst (λ (p : Passed). IsPassed read.1.rest (lists_within stop lists) (entries_where (is_within stop) es) p (cut_at stop c.pass.new.self) records) c.in-Entry.is (c.in_ok-pass.ensures.within stop read.1.rest es records rise read.0 read.1.merge) in (
      passed.0,
      passed.1,
      passed.2,
      held_lent (g.M.Map.found_at new) (record place { merge = c.pass.new.self }) passed.0 passed.3,
      record { rest = read.1.rest; at_place = λ not. read.1.at_place (λ ended. not (ap (λ (a : Below). cut_below a (is_within stop c.pass.new.self.read.0)) (c.in_ok-pass.ensures.ended ended))); merge = passed.4 },
    ))

pub returns-in-Nothing-clause-goes : goal.returns-in-Nothing-clause-goes
returns-in-Nothing-clause-goes g c =
    let old = c.args.map.now in
    let mid = c.loop.map in
    let new = c.read_within.new.map in
    let lists = c.args.lists.now in
    let stop = c.args.stop.now in
    let es = (g.M.Map.state old).map in
    let place = c.read_within.new.place in
    let inv = c.loop.invariant in
    let is = c.in_ok-read_within.ensures in
    view_found lists _ false (g.M.Map.state old) (g.M.Map.state new) (reads_joined (g.M.Map.state old) (g.M.Map.state mid) (g.M.Map.state new) inv.reads is.only_reads) (is.failed ∙ inv.works)
    (λ sound records ahead.
    let rise = g.met.M.Map.ordered old sound in
    let cut = subst (λ (m : Merge). AreMerged (g.M.Map.ahead_within mid stop) (lists_within stop lists) (entries_where (is_within stop) es) (record c.loop.place { merge = m }) records) (sym c.cut.ensures) (inv.merge sound records ahead) in
    let read = subst (λ (b : Bool). IsReadBelow (IsLent (g.M.Map.found_at new) place) (AreMerged (g.M.Map.ahead_within new stop) (lists_within stop lists) (entries_where (is_within stop) es) place) place.merge.ahead b records) c.if-branch.false
    (is.read (inv.reads.history.sound sound) (lists_within stop lists) (entries_where (is_within stop) es) records (ordered_entries_where (is_within stop) es rise) cut) in
    let passed = subst (λ (p : Passed). IsPassed read.1.rest (lists_within stop lists) (entries_where (is_within stop) es) p (cut_at stop c.pass.new.self) records) c.in-Nothing.is (c.in_ok-pass.ensures.within stop read.1.rest es records rise read.0 read.1.merge) in
    passed)

pub loop-preserved : goal.loop-preserved
loop-preserved g c =
    let old = c.args.map.now in
    let mid = c.loop.map in
    let new = c.read_within.new.map in
    let lists = c.args.lists.now in
    let stop = c.args.stop.now in
    let es = (g.M.Map.state old).map in
    let place = c.read_within.new.place in
    let inv = c.loop.invariant in
    let is = c.in_ok-read_within.ensures in
    record {
      preserved = g.M.Map.preserved_joined old mid new inv.preserved is.preserved;
      reads = reads_joined (g.M.Map.state old) (g.M.Map.state mid) (g.M.Map.state new) inv.reads is.only_reads;
      works = is.failed ∙ inv.works;
      merge = λ sound records ahead.
          let rise = g.met.M.Map.ordered old sound in
          let cut = subst (λ (m : Merge). AreMerged (g.M.Map.ahead_within mid stop) (lists_within stop lists) (entries_where (is_within stop) es) (record c.loop.place { merge = m }) records) (sym c.cut.ensures) (inv.merge sound records ahead) in
          let read = subst (λ (b : Bool). IsReadBelow (IsLent (g.M.Map.found_at new) place) (AreMerged (g.M.Map.ahead_within new stop) (lists_within stop lists) (entries_where (is_within stop) es) place) place.merge.ahead b records) c.if-branch.false
          (is.read (inv.reads.history.sound sound) (lists_within stop lists) (entries_where (is_within stop) es) records (ordered_entries_where (is_within stop) es rise) cut) in
          let passed = subst (λ (p : Passed). IsPassed read.1.rest (lists_within stop lists) (entries_where (is_within stop) es) p (cut_at stop c.pass.new.self) records) c.in-Removal.is (c.in_ok-pass.ensures.within stop read.1.rest es records rise read.0 read.1.merge) in
          record { rest = read.1.rest; at_place = λ not. read.1.at_place (λ ended. not (ap (λ (a : Below). cut_below a (is_within stop c.pass.new.self.read.0)) (c.in_ok-pass.ensures.ended ended))); merge = passed };
    }
