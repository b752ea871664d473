use Rattle.std.proofs.Common.{Bool, true, false, sym, ◌∙◌, subst}
use Rattle.store.specs.Records.{Records}
use Rattle.store.proofs.Reading.{reads_joined}
use Rattle.transactions.specs.Merging.{AreMerged, IsLent, IsPassed, IsReadBelow}
use Rattle.transactions.specs.declared.merge.Passed.{Passed}
use Rattle.transactions.proofs.Merging.{held_lent}
use Rattle.transactions.proofs.Viewing.{view_found}
use Rattle.transactions.proofs.merge.step_merged.Goals as goal

pub returns-then-branch-clause-goes : goal.returns-then-branch-clause-goes
returns-then-branch-clause-goes g c =
    let old = c.args.map.now in
    let mid = c.loop.map in
    let new = c.read_below.new.map in
    let lists = c.args.lists.now in
    let place = c.read_below.new.place in
    let inv = c.loop.invariant in
    let is = c.in_ok-read_below.ensures in
    view_found lists _ true (g.M.Map.state old) (g.M.Map.state new) (reads_joined (g.M.Map.state old) (g.M.Map.state mid) (g.M.Map.state new) inv.reads is.only_reads) (is.failed ∙ inv.works)
    (λ sound records ahead.
    let same = (inv.reads.unchanged sound).map in
    let read = subst (λ (b : Bool). IsReadBelow (IsLent (g.M.Map.found_at new) place) (AreMerged (g.M.Map.ahead new) lists (g.M.Map.state mid).map place) place.merge.ahead b records) c.if-branch.true
    (is.read (inv.reads.history.sound sound) lists records (subst (λ (rs : Records). AreMerged (g.M.Map.ahead mid) lists rs c.loop.place records) (sym same) (inv.merge sound records ahead))) in
    (read.0, read.1, read.2, read.3, subst (λ (rs : Records). AreMerged (g.M.Map.ahead new) lists rs place read.1) same read.4))

pub returns-in-Entry-clause-goes : goal.returns-in-Entry-clause-goes
returns-in-Entry-clause-goes g c =
    let old = c.args.map.now in
    let mid = c.loop.map in
    let new = c.read_below.new.map in
    let lists = c.args.lists.now in
    let es = (g.M.Map.state old).map in
    let place = c.read_below.new.place in
    let inv = c.loop.invariant in
    let is = c.in_ok-read_below.ensures in
    view_found lists _ true (g.M.Map.state old) (g.M.Map.state new) (reads_joined (g.M.Map.state old) (g.M.Map.state mid) (g.M.Map.state new) inv.reads is.only_reads) (is.failed ∙ inv.works)
    (λ sound records ahead.
    let same = (inv.reads.unchanged sound).map in
    let read = subst (λ (b : Bool). IsReadBelow (IsLent (g.M.Map.found_at new) place) (AreMerged (g.M.Map.ahead new) lists (g.M.Map.state mid).map place) place.merge.ahead b records) c.if-branch.false
    (is.read (inv.reads.history.sound sound) lists records (subst (λ (rs : Records). AreMerged (g.M.Map.ahead mid) lists rs c.loop.place records) (sym same) (inv.merge sound records ahead))) in
    let merged = subst (λ (rs : Records). AreMerged (g.M.Map.ahead new) lists rs place records) same read.1 in
    let passed = subst (λ (p : Passed). IsPassed merged.rest lists es p c.pass.new.self records) c.in-Entry.is (c.in_ok-pass.ensures.passed merged.rest es records (g.met.M.Map.ordered old sound) read.0 merged.merge) in (
      passed.0,
      passed.1,
      passed.2,
      held_lent (g.M.Map.found_at new) (record place { merge = c.pass.new.self }) passed.0 passed.3,
      record { rest = merged.rest; at_place = λ not. merged.at_place (λ ended. not (c.in_ok-pass.ensures.ended ended)); merge = passed.4 },
    ))

pub returns-in-Nothing-clause-goes : goal.returns-in-Nothing-clause-goes
returns-in-Nothing-clause-goes g c =
    let old = c.args.map.now in
    let mid = c.loop.map in
    let new = c.read_below.new.map in
    let lists = c.args.lists.now in
    let es = (g.M.Map.state old).map in
    let place = c.read_below.new.place in
    let inv = c.loop.invariant in
    let is = c.in_ok-read_below.ensures in
    view_found lists _ false (g.M.Map.state old) (g.M.Map.state new) (reads_joined (g.M.Map.state old) (g.M.Map.state mid) (g.M.Map.state new) inv.reads is.only_reads) (is.failed ∙ inv.works)
    (λ sound records ahead.
    let same = (inv.reads.unchanged sound).map in
    let read = subst (λ (b : Bool). IsReadBelow (IsLent (g.M.Map.found_at new) place) (AreMerged (g.M.Map.ahead new) lists (g.M.Map.state mid).map place) place.merge.ahead b records) c.if-branch.false
    (is.read (inv.reads.history.sound sound) lists records (subst (λ (rs : Records). AreMerged (g.M.Map.ahead mid) lists rs c.loop.place records) (sym same) (inv.merge sound records ahead))) in
    let merged = subst (λ (rs : Records). AreMerged (g.M.Map.ahead new) lists rs place records) same read.1 in
    let passed = subst (λ (p : Passed). IsPassed merged.rest lists es p c.pass.new.self records) c.in-Nothing.is (c.in_ok-pass.ensures.passed merged.rest es records (g.met.M.Map.ordered old sound) read.0 merged.merge) in
    passed)
