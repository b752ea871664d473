use Rattle.std.proofs.Common.{rules, ◌≡◌, Bool}
use Rattle.std.specs.Prelude.{IsTrue}
use Rattle.std.proofs.lemmas.Result.{IfOk-weaker}
use Rattle.key_ranges.specs.declared.range.KeyRange.TheVariants.{Span, Several}
use Rattle.expressions.specs.Rows.{names_of}
use Rattle.executor.specs.Known.{LetsAllThrough, LetsSpanThrough, LetsSpansThrough}
use Rattle.executor.proofs.Known.{all_of_span, all_of_spans}
use Rattle.executor.proofs.known_columns.all_pass.Goals as goal

pub returns-in-Some-Span : goal.returns-in-Some-Span
returns-in-Some-Span c =
    let table = c.args.table.now in
    let users = names_of c.args.users.now in
    let conditions = c.args.conditions.now in
    let range = c.in-Some-Span.field-0 in
    let start = c.as_slice.result.now in
    let stop = c.as_slice-in-Some-Span.result.now in
    let is_span : range.now ≡ Span start stop = search rules in
    IfOk-weaker c.passes_in_span.result (λ all. IsTrue all → LetsSpanThrough table users conditions start stop) (λ all. IsTrue all → LetsAllThrough table users conditions)
    (λ all through is. all_of_span table users conditions range start stop c.in-Some-Span.is is_span (through is)) c.passes_in_span.ensures

pub returns-in-Some-Several : goal.returns-in-Some-Several
returns-in-Some-Several c =
    let table = c.args.table.now in
    let users = names_of c.args.users.now in
    let conditions = c.args.conditions.now in
    let range = c.in-Some-Several.field-0 in
    let spans = c.as_slice-in-Some-Several.result.now in
    let is_several : range.now ≡ Several c.in-Some-Several.spans = search rules in
    IfOk-weaker c.passes_in_spans.result (λ all. IsTrue all → LetsSpansThrough table users conditions spans) (λ all. IsTrue all → LetsAllThrough table users conditions)
    (λ all through is. all_of_spans table users conditions range c.in-Some-Several.spans spans c.in-Some-Several.is is_several c.as_slice-in-Some-Several.ensures.spans (through is)) c.passes_in_spans.ensures
