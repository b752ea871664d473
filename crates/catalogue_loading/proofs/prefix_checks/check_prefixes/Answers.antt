use Rattle.std.proofs.Common.{Ok, Err, sym, ◌∙◌, subst}
use Rattle.store.specs.Records.{Records, entries_where, is_from}
use Rattle.store.proofs.Reading.{reads_joined}
use Rattle.catalogue_loading.specs.Orphans.{IsNone, Jumps, prefix_of}
use Rattle.catalogue_loading.proofs.PrefixChecks.{all_passed, fault_found, goes_on, none_left, one_more_passed}
use Rattle.catalogue_loading.proofs.prefix_checks.check_prefixes.Goals as goal

pub returns-in-Ok-false-clause-preserved : goal.returns-in-Ok-false-clause-preserved
returns-in-Ok-false-clause-preserved g c = g.M.Map.preserved_joined c.args.map.now c.loop.map c.pass_prefix.new.map c.loop.invariant.preserved c.in-Ok-false.ensures.preserved

pub returns-in-Err-clause-preserved : goal.returns-in-Err-clause-preserved
returns-in-Err-clause-preserved g c = g.M.Map.preserved_joined c.args.map.now c.loop.map c.pass_prefix.new.map c.loop.invariant.preserved c.in-Err.ensures.preserved

pub returns-in-Ok-false-clause-checked : goal.returns-in-Ok-false-clause-checked
returns-in-Ok-false-clause-checked g c = λ s.
    let records = (g.M.Map.state c.args.map.now).map in
    let prefix = prefix_of c.args.test.now.orphans in
    let reads = c.loop.invariant.reads in
    let so_far = c.loop.invariant.passed s in
    let jumped = c.in-Ok-false.ensures.jumped (reads.history.sound s) so_far.next
    (subst (λ (es : Records). g.M.Map.ahead c.loop.map c.loop.place (entries_where (is_from so_far.next) es)) (sym (reads.unchanged s).map) so_far.is_ahead) so_far.begins in
    all_passed (IsNone c.args.test.now.orphans c.args.test.now.ids.now) prefix records _ so_far
    (none_left _ prefix (g.M.Map.ahead c.pass_prefix.new.map c.pass_prefix.new.place) records so_far.next c.in-Ok-false.field-0 c.in-Ok-false.field-0-test
    (subst (λ (es : Records). Jumps (IsNone c.args.test.now.orphans c.args.test.now.ids.now) prefix (g.M.Map.ahead c.pass_prefix.new.map c.pass_prefix.new.place) es so_far.next (Ok c.in-Ok-false.field-0))
    (reads.unchanged s).map jumped))

pub returns-in-Err-clause-checked : goal.returns-in-Err-clause-checked
returns-in-Err-clause-checked g c = λ s.
    let records = (g.M.Map.state c.args.map.now).map in
    let prefix = prefix_of c.args.test.now.orphans in
    let reads = c.loop.invariant.reads in
    let so_far = c.loop.invariant.passed s in
    let jumped = c.in-Err.ensures.jumped (reads.history.sound s) so_far.next
    (subst (λ (es : Records). g.M.Map.ahead c.loop.map c.loop.place (entries_where (is_from so_far.next) es)) (sym (reads.unchanged s).map) so_far.is_ahead) so_far.begins in
    fault_found (IsNone c.args.test.now.orphans c.args.test.now.ids.now) prefix records _ (g.M.Map.ahead c.pass_prefix.new.map c.pass_prefix.new.place) c.in-Err.fault so_far
    (subst (λ (es : Records). Jumps (IsNone c.args.test.now.orphans c.args.test.now.ids.now) prefix (g.M.Map.ahead c.pass_prefix.new.map c.pass_prefix.new.place) es so_far.next (Err c.in-Err.fault))
    (reads.unchanged s).map jumped)

pub loop-preserved : goal.loop-preserved
loop-preserved g c =
    let reads = c.loop.invariant.reads in
    record {
      preserved = g.M.Map.preserved_joined c.args.map.now c.loop.map c.pass_prefix.new.map c.loop.invariant.preserved c.in-Ok-true.ensures.preserved;
      reads = reads_joined (g.M.Map.state c.args.map.now) (g.M.Map.state c.loop.map) (g.M.Map.state c.pass_prefix.new.map) reads c.in-Ok-true.ensures.read.only_reads;
      unfailed = c.in-Ok-true.ensures.read.failed ∙ c.loop.invariant.unfailed;
      passed = λ s.
          let records = (g.M.Map.state c.args.map.now).map in
          let prefix = prefix_of c.args.test.now.orphans in
          let so_far = c.loop.invariant.passed s in
          let jumped = c.in-Ok-true.ensures.jumped (reads.history.sound s) so_far.next
          (subst (λ (es : Records). g.M.Map.ahead c.loop.map c.loop.place (entries_where (is_from so_far.next) es)) (sym (reads.unchanged s).map) so_far.is_ahead) so_far.begins in
          one_more_passed (IsNone c.args.test.now.orphans c.args.test.now.ids.now) prefix records _ (g.M.Map.ahead c.pass_prefix.new.map c.pass_prefix.new.place) so_far
          (goes_on _ prefix _ records so_far.next c.in-Ok-true.field-0 c.in-Ok-true.field-0-test
          (subst (λ (es : Records). Jumps (IsNone c.args.test.now.orphans c.args.test.now.ids.now) prefix (g.M.Map.ahead c.pass_prefix.new.map c.pass_prefix.new.place) es so_far.next (Ok c.in-Ok-true.field-0))
          (reads.unchanged s).map jumped));
    }
