use Rattle.std.proofs.Common.{◌+◌, drop, arith, refl, subst}
use Rattle.std.proofs.lemmas.List.{drop_all}
use Rattle.expressions.specs.Rows.{names_of}
use Rattle.table_rows.proofs.Loops.{here}
use Rattle.executor.specs.Known.{LetsSpanThrough}
use Rattle.executor.proofs.Known.{all_come, none_come, one_through}
use Rattle.executor.proofs.known_columns.passes_in_spans.Goals as goal

pub loop-span-init : goal.loop-span-init
loop-span-init c = all_come c.args.table.now (names_of c.args.users.now) c.args.conditions.now c.args.spans.now c.args.spans.now refl

pub loop-span-preserved : goal.loop-span-preserved
loop-span-preserved c =
    let table = c.args.table.now in
    let users = names_of c.args.users.now in
    let conditions = c.args.conditions.now in
    let spans = c.args.spans.now in
    let i = c.loop-span.span-index in
    let span = c.span-item.result in
    let through = subst (λ s. LetsSpanThrough table users conditions s span.stop) c.as_slice-start.ensures
    (subst (λ t. LetsSpanThrough table users conditions c.as_slice-start.result.now t) c.as_slice-stop.ensures (c.in_ok-passes_in_span.ensures c.if-not-branch.false)) in
    one_through table users conditions spans (drop i spans) span (drop (i + 1) spans) (here spans i span c.span-item.is (omega arith)) c.loop-span.invariant through

pub returns : goal.returns
returns c = λ is.
    none_come c.args.table.now (names_of c.args.users.now) c.args.conditions.now c.args.spans.now (drop c.loop-span.span-index c.args.spans.now) (drop_all c.loop-span.span-index c.args.spans.now c.loop-span-test.false) c.loop-span.invariant
