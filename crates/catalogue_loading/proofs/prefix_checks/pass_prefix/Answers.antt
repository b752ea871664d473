use Rattle.std.proofs.Common.{◌≡◌, ℕ, ◌-◌, List, length, true, false, replicate, ap, sym, ◌∙◌, subst}
use Rattle.store.specs.Records.{Record, Records, entries_where, has_prefix, is_from}
use Rattle.store.proofs.HeldItems.{own_prefix}
use Rattle.catalogue_loading.specs.Orphans.{IsNone, prefix_of}
use Rattle.catalogue_loading.proofs.PrefixChecks.{begins_further, found_one, jumps_on, past_all}
use Rattle.catalogue_loading.proofs.prefix_checks.pass_prefix.Goals as goal

pub returns-then-not-begins_with-clause-jumped : goal.returns-then-not-begins_with-clause-jumped
returns-then-not-begins_with-clause-jumped g c = λ s start ahead begins.
    let records = (g.M.Map.state c.args.map.now).map in
    let prefix = prefix_of c.args.test.now.orphans in
    let took = found_one _ _ _ c.in-Ok-true.field-0 c.in-Ok-true.field-0-test (c.in-Ok-true.ensures.goes.answer s (entries_where (is_from start) records) ahead) in
    let same = c.entry-2.view_is ∙ c.entry.ensures took.0 took.3 in
    let tested = rw c.prefix.ensures at c.begins_with.ensures in
    let out : has_prefix prefix took.0.0 ≡ false = sym (tested ∙ ap (λ (entry : Record). has_prefix prefix entry.0) same) ∙ c.if-not-begins_with.true in
    past_all prefix records start took.0 took.1 (g.met.M.Map.ordered c.args.map.now s) begins took.2 out

pub returns-clause-preserved : goal.returns-clause-preserved
returns-clause-preserved g c =
    g.M.Map.preserved_joined c.args.map.now c.step.new.self c.seek.new.self c.in-Ok-true.ensures.preserved c.in_ok-place.ensures.preserved

pub returns-in_err-place-clause-preserved : goal.returns-in_err-place-clause-preserved
returns-in_err-place-clause-preserved g c =
    g.M.Map.preserved_joined c.args.map.now c.step.new.self c.seek.new.self c.in-Ok-true.ensures.preserved c.in_err-place.ensures.preserved

pub returns-clause-jumped : goal.returns-clause-jumped
returns-clause-jumped g c = λ s start ahead begins.
    let records = (g.M.Map.state c.args.map.now).map in
    let prefix = prefix_of c.args.test.now.orphans in
    let front = c.in-Some.prefix.now in
    let next = c.key_behind-behind.result in
    let reads = c.in-Ok-true.ensures.goes.only_reads in
    let took = found_one _ _ _ c.in-Ok-true.field-0 c.in-Ok-true.field-0-test (c.in-Ok-true.ensures.goes.answer s (entries_where (is_from start) records) ahead) in
    let same = c.entry-2.view_is ∙ c.entry.ensures took.0 took.3 in
    let known = c.in-Some.ensures in
    let first : has_prefix front took.0.0 ≡ true = sym (ap (λ (entry : Record). has_prefix front entry.0) same) ∙ known.begins in
    let rest : List ℕ = replicate (206 - length front) 255 in
    let then : has_prefix front next ≡ true = ap (λ (key : List ℕ). has_prefix front key) c.key_behind-behind.ensures ∙ own_prefix front rest in
    let within : has_prefix prefix next ≡ true = ap (λ (key : List ℕ). has_prefix prefix key) c.key_behind-behind.ensures ∙ begins_further prefix front rest known.within in
    let there = subst (λ (es : Records). g.M.Map.ahead c.seek.new.self c.in_ok-place.field-0 (entries_where (is_from next) es)) (reads.unchanged s).map
    (c.in_ok-place.ensures.goes.answer (reads.history.sound s)) in
    jumps_on (IsNone c.args.test.now.orphans c.args.test.now.ids.now) prefix records start (g.M.Map.ahead c.seek.new.self c.in_ok-place.field-0) took.0 took.1 front next
    (g.met.M.Map.ordered c.args.map.now s) took.2 first then within (λ r is. known.none r.0 is) there
