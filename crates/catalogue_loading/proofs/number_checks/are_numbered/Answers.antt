use Rattle.std.proofs.Common.{◌≡◌, ◌∙◌, sym, refl, subst, true, false, arith, rules, take}
use Rattle.std.proofs.lemmas.List.{get_or-replicate}
use Rattle.stored_database.specs.Definitions.{ids_of}
use Rattle.catalogue.specs.Numbers.{is_taken}
use Rattle.catalogue_loading.proofs.Differing.{numbered_more, marks_more, not_numbered, not_own}
use Rattle.catalogue_loading.proofs.number_checks.are_numbered.Goals as goal

pub loop-table-init : goal.loop-table-init
loop-table-init c = record {
  length = refl;
  marks = λ n to. get_or-replicate 1025 n false false (omega (arith, to));
  numbered = record { each = λ t none. absurd none; own = refl };
}

pub returns-then-id-eq0 : goal.returns-then-id-eq0
returns-then-id-eq0 c = not_numbered c.args.tables.now c.loop-table.table-index c.table-item.result c.loop-table-test.true c.table-item.is (λ h. omega (arith, h.least, c.if-id-eq0.true, c.id-id.ensures))

pub returns-then-id-ge-IDS : goal.returns-then-id-ge-IDS
returns-then-id-ge-IDS c = not_numbered c.args.tables.now c.loop-table.table-index c.table-item.result c.loop-table-test.true c.table-item.is (λ h. omega (arith, h.most, c.if-id-ge-IDS.true, c.id-id.ensures))

pub returns-then-marks-id : goal.returns-then-marks-id
returns-then-marks-id c =
    let i = c.loop-table.table-index in
    not_own c.args.tables.now i c.table-item.result c.loop-table-test.true c.table-item.is
    (subst (λ n. is_taken (ids_of (take i c.args.tables.now)) n ≡ true) c.id-id.ensures (sym (c.loop-table.invariant.marks c.id-id.result (omega (arith, c.if-id-ge-IDS.false))) ∙ c.if-marks-id.true))

pub loop-table-preserved : goal.loop-table-preserved
loop-table-preserved c =
    let i = c.loop-table.table-index in
    record {
      length = search rules;
      marks = marks_more c.args.tables.now i c.table-item.result c.loop-table-test.true c.table-item.is c.loop-table.marks c.loop-table.invariant.length c.loop-table.invariant.marks c.id-id.result c.id-id.ensures (omega (arith, c.if-id-ge-IDS.false));
      numbered = numbered_more c.args.tables.now i c.table-item.result c.loop-table-test.true c.table-item.is c.loop-table.invariant.numbered
          (omega (arith, c.if-id-eq0.false, c.id-id.ensures)) (omega (arith, c.if-id-ge-IDS.false, c.id-id.ensures))
          (subst (λ n. is_taken (ids_of (take i c.args.tables.now)) n ≡ false) c.id-id.ensures (sym (c.loop-table.invariant.marks c.id-id.result (omega (arith, c.if-id-ge-IDS.false))) ∙ c.if-marks-id.false));
    }
