use Rattle.std.proofs.Common.{◌+◌, Option, Ok, ap, refl, sym, ◌∙◌, take, arith}
use Rattle.std.proofs.lemmas.Bool.{false≢true}
use Rattle.page_nodes.specs.declared.merge.LeafMerge.{LeafMerge}
use Rattle.page_tree.specs.Changed.{edited_in_turn}
use Rattle.page_tree.proofs.Edits.{lent_is}
use Rattle.page_tree.proofs.LeafChanges.{none_exceeds, some_merged, scratch_as, last_as, merging_begins, stopped_between, stopped_full, stopped_last, merging_on, over_as, merged_as, between_as, first_long}
use Rattle.page_tree.proofs.changes.merge_changes.Goals as goal

pub loop-made-init : goal.loop-made-init
loop-made-init c = record { most = omega arith; merging = λ es high first rest whole bound under a. merging_begins c.args.bytes.now c.args.cells.now.items es high first c.args.changes.now c.args.begun a }

pub returns-then-not-comes_between-clause-merged : goal.returns-then-not-comes_between-clause-merged
returns-then-not-comes_between-clause-merged c es high first rest whole bound under a =
    let l = c.loop-made in
    let m = l.invariant.merging es high first rest whole bound under a in
    let item = c.index-changes-made in
    stopped_between c.args.bytes.now l.cells.items es high first item.result rest c.args.changes.now l.made l.merge l.last.now m whole item.is under (first_long first rest c.args.changes.now whole c.requires)
    (λ both. false≢true ((c.if-not-comes_between.ensures high bound).1 (between_as l.last.now item.result.0 c.key.result.now high (sym c.key.ensures) both)))

pub returns-in_default-clause-merged : goal.returns-in_default-clause-merged
returns-in_default-clause-merged c es high first rest whole bound under a =
    let l = c.loop-made in
    let m = l.invariant.merging es high first rest whole bound under a in
    let item = c.index-changes-made in
    let now = edited_in_turn (take l.made c.args.changes.now) es in
    let order = between_as l.last.now c.key.result.now c.key-in-loop-made.result.now high (c.key.ensures ∙ sym c.key-in-loop-made.ensures) ((c.if-not-comes_between.ensures high bound).0 refl) in
    let over = none_exceeds _ _ _ c.in_default.is (c.in_ok-edited.ensures.edited l.last.now now m.merged order.0) in
    scratch_as c.args.bytes.now l.cells.items c.edit.new.scratch.items es high first c.args.changes.now l.made l.merge (c.in_ok-edited.ensures.stays (ap (λ (o : Option LeafMerge). Ok o) c.in_default.is))
    (stopped_full c.args.bytes.now l.cells.items es high first item.result rest c.args.changes.now l.made l.merge l.last.now m whole item.is
    (over_as now c.key-in-loop-made.result.now item.result.0 _ item.result.1 c.key-in-loop-made.ensures (lent_is _ item.result.1 c.value.ensures) over))

pub loop-made-preserved : goal.loop-made-preserved
loop-made-preserved c = record {
  most = omega (arith, c.loop-made-test.true);
  merging = λ es high first rest whole bound under a.
      let l = c.loop-made in
      let m = l.invariant.merging es high first rest whole bound under a in
      let item = c.index-changes-made in
      let now = edited_in_turn (take l.made c.args.changes.now) es in
      let between = (c.if-not-comes_between.ensures high bound).0 refl in
      let order = between_as l.last.now c.key.result.now c.key-in-loop-made.result.now high (c.key.ensures ∙ sym c.key-in-loop-made.ensures) between in
      let here = between_as l.last.now c.key.result.now item.result.0 high c.key.ensures between in
      let edited = some_merged _ _ _ _ c.in-Some.is (c.in_ok-edited.ensures.edited l.last.now now m.merged order.0) in
      last_as c.args.bytes.now c.edit.new.scratch.items es high first c.args.changes.now (l.made + 1) c.in-Some.next item.result.0 c.key-last.result.now c.key-last.ensures
      (merging_on c.args.bytes.now l.cells.items es high first item.result rest c.args.changes.now l.made l.merge l.last.now m whole item.is c.edit.new.scratch.items c.in-Some.next c.loop-made-test.true here.0 here.1
      (merged_as c.args.bytes.now c.edit.new.scratch.items now c.in-Some.next c.key-in-loop-made.result.now item.result.0 _ item.result.1 c.key-in-loop-made.ensures (lent_is _ item.result.1 c.value.ensures) edited));
}

pub returns-clause-merged : goal.returns-clause-merged
returns-clause-merged c es high first rest whole bound under a =
    let l = c.loop-made in
    let m = l.invariant.merging es high first rest whole bound under a in
    stopped_last c.args.bytes.now l.cells.items es high first rest c.args.changes.now l.made l.merge l.last.now m whole (omega (arith, c.loop-made-test.false)) l.invariant.most
