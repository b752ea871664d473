use Rattle.std.proofs.Common.{arith, rules, map}
use Rattle.expressions.proofs.Each.{slice_refused, slice_ends}
use Rattle.planner.proofs.Finding.{found, all_found, not_found}
use Rattle.planner.proofs.tables.find_tables.Goals as goal

pub returns-in_err-find_table : goal.returns-in_err-find_table
returns-in_err-find_table c =
    let m = not_found c.args.catalogue.now c.args.references.now c.in_err-find_table.field-0.0
    (slice_refused (found c.args.catalogue.now) c.args.references.now c.loop-reference.reference-index (map (λ t. t.now) c.loop-reference.tables) c.reference-item.result c.in_err-find_table.field-0.0 c.loop-reference.invariant c.reference-item.is (omega arith) c.in_err-find_table.ensures) in
    search rules

pub returns : goal.returns
returns c =
    all_found c.args.catalogue.now c.args.references.now (map (λ t. t.now) c.loop-reference.tables)
    (slice_ends (found c.args.catalogue.now) c.args.references.now c.loop-reference.reference-index (map (λ t. t.now) c.loop-reference.tables) c.loop-reference.invariant c.loop-reference-test.false)
