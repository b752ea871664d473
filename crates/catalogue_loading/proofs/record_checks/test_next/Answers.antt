use Rattle.std.proofs.Common.{◌∙◌, ap}
use Rattle.store.specs.Records.{Record}
use Rattle.store.specs.Walks.{is_within}
use Rattle.store.proofs.Spans.{none_ahead, one_ahead}
use Rattle.catalogue_loading.proofs.Checking.{passed, failed, not_passed, none_within}
use Rattle.catalogue_loading.proofs.record_checks.test_next.Goals as goal

pub returns-in-Ok-false-clause-tested : goal.returns-in-Ok-false-clause-tested
returns-in-Ok-false-clause-tested g c = λ s records ahead.
    none_ahead c.args.prefix.now _ _ _ c.in-Ok-false.field-0 records c.in-Ok-false.field-0-test ahead (c.in-Ok-false.ensures.goes.answer s)

pub returns-then-not-is_within-clause-tested : goal.returns-then-not-is_within-clause-tested
returns-then-not-is_within-clause-tested g c = λ s records ahead.
    let takes = one_ahead c.args.prefix.now _ _ _ c.in-Ok-true.field-0 c.is_within.result records c.in-Ok-true.field-0-test ahead (c.in-Ok-true.ensures.goes.answer s)
    (λ e found. c.is_within.ensures ∙ ap (λ (entry : Record). is_within c.args.prefix.now entry.0) (c.entry.view_is ∙ c.entry-entry.ensures e found)) in
    none_within _ _ c.is_within.result records c.if-not-is_within.true takes

pub returns-then-not-passes-clause-tested : goal.returns-then-not-passes-clause-tested
returns-then-not-passes-clause-tested g c = λ s records ahead.
    let takes = one_ahead c.args.prefix.now _ _ _ c.in-Ok-true.field-0 c.is_within.result records c.in-Ok-true.field-0-test ahead (c.in-Ok-true.ensures.goes.answer s)
    (λ e found. c.is_within.ensures ∙ ap (λ (entry : Record). is_within c.args.prefix.now entry.0) (c.entry.view_is ∙ c.entry-entry.ensures e found)) in
    failed (g.T.RecordTest.Passes c.args.test.now) _ _ c.is_within.result records c.entry-entry.result c.if-not-is_within.false takes c.entry-entry.ensures
    (not_passed _ c.passes.result c.if-not-passes.true c.passes.ensures)

pub returns-clause-tested : goal.returns-clause-tested
returns-clause-tested g c = λ s records ahead.
    let takes = one_ahead c.args.prefix.now _ _ _ c.in-Ok-true.field-0 c.is_within.result records c.in-Ok-true.field-0-test ahead (c.in-Ok-true.ensures.goes.answer s)
    (λ e found. c.is_within.ensures ∙ ap (λ (entry : Record). is_within c.args.prefix.now entry.0) (c.entry.view_is ∙ c.entry-entry.ensures e found)) in
    passed (g.T.RecordTest.Passes c.args.test.now) _ _ c.is_within.result records c.entry-entry.result c.if-not-is_within.false takes c.entry-entry.ensures
    (c.passes.ensures.0 c.if-not-passes.false)
