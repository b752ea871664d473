use Rattle.std.proofs.Common.{◌≡◌, true, false, List, Ok, Err, refl, sym, ◌∙◌, subst}
use Rattle.store.specs.Records.{Changes, IsFound, first_from}
use Rattle.store.specs.declared.fault.StoreFault.TheVariants.{Memory}
use Rattle.store.specs.Store.{Reads}
use Rattle.store.proofs.Reading.{none_read, reads_joined}
use Rattle.transactions.specs.Views.{applied_all, view_state}
use Rattle.transactions.specs.Calls.{IsStep, keeps_joined}
use Rattle.transactions.specs.declared.view.Step.{Step}
use Rattle.transactions.proofs.Viewing.{records_kept}
use Rattle.transactions.proofs.Going.{GoesOn, begun, goes_further, goes_to_the_end, goes_to_a_fault}
use Rattle.transactions.proofs.view.ViewMap.scan_from.Goals as goal

pub loop-init : goal.loop-init
loop-init g c =
    let map = c.args.self.now.map.now in
    let is = c.in_ok-go_from.ensures in
    record {
      keeps = is.keeps;
      preserved = subst (λ m. g.M.Map.preserved map m) (sym is.map) (g.M.Map.preserved_same map);
      goes = subst (λ m. GoesOn c.args.self.now.lists.now c.args.key.now c.go_from.new.self.from.items (g.M.Map.state map) (g.M.Map.state m)) (sym is.map)
          (begun c.args.self.now.lists.now c.args.key.now c.go_from.new.self.from.items (g.M.Map.state map) (g.met.M.Map.only_now map) is.from);
    }

pub loop-preserved : goal.loop-preserved
loop-preserved g c =
    let lists = c.args.self.now.lists.now in
    let old = g.M.Map.state c.args.self.now.map.now in
    let mid = g.M.Map.state c.loop.self.map.now in
    let new = g.M.Map.state c.step.new.self.map.now in
    let was = c.loop.invariant in
    let is = c.in-Ok-Removed.ensures in
    let start = c.loop.self.from.items in
    let same = was.keeps.lists in
    record {
      keeps = keeps_joined c.args.self.now c.loop.self c.step.new.self was.keeps is.keeps;
      preserved = g.M.Map.preserved_joined c.args.self.now.map.now c.loop.self.map.now c.step.new.self.map.now was.preserved is.preserved;
      goes = goes_further lists c.args.key.now start c.step.new.self.from.items old mid new was.goes is.only_reads is.failed
          (λ sound. subst (λ (ls : List Changes). first_from c.step.new.self.from.items (applied_all ls mid.map) ≡ first_from start (applied_all ls mid.map)) same (subst (λ (s : Step). IsStep start s c.step.new.out c.step.new.self.from.items (applied_all c.loop.self.lists.now mid.map)) c.in-Ok-Removed.field-0-is (is.step sound)));
    }

pub returns-in-Ok-Found-clause-preserved : goal.returns-in-Ok-Found-clause-preserved
returns-in-Ok-Found-clause-preserved g c =
    let old = g.M.Map.state c.args.self.now.map.now in
    let mid = g.M.Map.state c.loop.self.map.now in
    let new = g.M.Map.state c.step.new.self.map.now in
    let was = c.loop.invariant in
    let is = c.in-Ok-Found.ensures in (
      keeps_joined c.args.self.now c.loop.self c.step.new.self was.keeps is.keeps,
      g.M.Map.preserved_joined c.args.self.now.map.now c.loop.self.map.now c.step.new.self.map.now was.preserved is.preserved,
      records_kept old new (reads_joined old mid new was.goes.only_reads is.only_reads),
    )

pub returns-in-Ok-Found-clause-reads : goal.returns-in-Ok-Found-clause-reads
returns-in-Ok-Found-clause-reads g c =
    let lists = c.args.self.now.lists.now in
    let old = g.M.Map.state c.args.self.now.map.now in
    let mid = g.M.Map.state c.loop.self.map.now in
    let new = g.M.Map.state c.step.new.self.map.now in
    let was = c.loop.invariant in
    let is = c.in-Ok-Found.ensures in
    let start = c.loop.self.from.items in
    let same = was.keeps.lists in
    subst (λ (ls : List Changes). Reads (first_from c.args.key.now (applied_all lists old.map)) (Ok true) c.step.new.out (view_state lists old) (view_state ls new)) (sym (is.keeps.lists ∙ same))
    (goes_to_the_end lists c.args.key.now start true c.step.new.out old mid new was.goes is.only_reads is.failed
    (λ sound. subst (λ (ls : List Changes). IsFound true c.step.new.out (first_from start (applied_all ls mid.map))) same (subst (λ (s : Step). IsStep start s c.step.new.out c.step.new.self.from.items (applied_all c.loop.self.lists.now mid.map)) c.in-Ok-Found.field-0-is (is.step sound))))

pub returns-in-Ok-End-clause-preserved : goal.returns-in-Ok-End-clause-preserved
returns-in-Ok-End-clause-preserved g c =
    let old = g.M.Map.state c.args.self.now.map.now in
    let mid = g.M.Map.state c.loop.self.map.now in
    let new = g.M.Map.state c.step.new.self.map.now in
    let was = c.loop.invariant in
    let is = c.in-Ok-End.ensures in (
      keeps_joined c.args.self.now c.loop.self c.step.new.self was.keeps is.keeps,
      g.M.Map.preserved_joined c.args.self.now.map.now c.loop.self.map.now c.step.new.self.map.now was.preserved is.preserved,
      records_kept old new (reads_joined old mid new was.goes.only_reads is.only_reads),
    )

pub returns-in-Ok-End-clause-reads : goal.returns-in-Ok-End-clause-reads
returns-in-Ok-End-clause-reads g c =
    let lists = c.args.self.now.lists.now in
    let old = g.M.Map.state c.args.self.now.map.now in
    let mid = g.M.Map.state c.loop.self.map.now in
    let new = g.M.Map.state c.step.new.self.map.now in
    let was = c.loop.invariant in
    let is = c.in-Ok-End.ensures in
    let start = c.loop.self.from.items in
    let same = was.keeps.lists in
    subst (λ (ls : List Changes). Reads (first_from c.args.key.now (applied_all lists old.map)) (Ok false) c.step.new.out (view_state lists old) (view_state ls new)) (sym (is.keeps.lists ∙ same))
    (goes_to_the_end lists c.args.key.now start false c.step.new.out old mid new was.goes is.only_reads is.failed
    (λ sound. subst (λ (ls : List Changes). IsFound false c.step.new.out (first_from start (applied_all ls mid.map))) same (subst (λ (s : Step). IsStep start s c.step.new.out c.step.new.self.from.items (applied_all c.loop.self.lists.now mid.map)) c.in-Ok-End.field-0-is (is.step sound))))

pub returns-in-Err-clause-preserved : goal.returns-in-Err-clause-preserved
returns-in-Err-clause-preserved g c =
    let old = g.M.Map.state c.args.self.now.map.now in
    let mid = g.M.Map.state c.loop.self.map.now in
    let new = g.M.Map.state c.step.new.self.map.now in
    let was = c.loop.invariant in
    let is = c.in-Err.ensures in (
      keeps_joined c.args.self.now c.loop.self c.step.new.self was.keeps is.keeps,
      g.M.Map.preserved_joined c.args.self.now.map.now c.loop.self.map.now c.step.new.self.map.now was.preserved is.preserved,
      records_kept old new (reads_joined old mid new was.goes.only_reads is.only_reads),
    )

pub returns-in-Err-clause-reads : goal.returns-in-Err-clause-reads
returns-in-Err-clause-reads g c =
    let lists = c.args.self.now.lists.now in
    let old = g.M.Map.state c.args.self.now.map.now in
    let mid = g.M.Map.state c.loop.self.map.now in
    let new = g.M.Map.state c.step.new.self.map.now in
    let was = c.loop.invariant in
    let is = c.in-Err.ensures in
    let start = c.loop.self.from.items in
    let same = was.keeps.lists in
    subst (λ (ls : List Changes). Reads (first_from c.args.key.now (applied_all lists old.map)) (Err c.in-Err.fault) c.step.new.out (view_state lists old) (view_state ls new)) (sym (is.keeps.lists ∙ same))
    (goes_to_a_fault lists c.args.key.now start c.in-Err.fault c.step.new.out old mid new was.goes is.only_reads is.failed is.cause)

pub returns-clause-preserved : goal.returns-clause-preserved
returns-clause-preserved g c =
    let was = c.loop.invariant in
    (was.keeps, was.preserved, records_kept (g.M.Map.state c.args.self.now.map.now) (g.M.Map.state c.loop.self.map.now) was.goes.only_reads)

pub returns-clause-reads : goal.returns-clause-reads
returns-clause-reads g c =
    let lists = c.args.self.now.lists.now in
    let old = g.M.Map.state c.args.self.now.map.now in
    let new = g.M.Map.state c.loop.self.map.now in
    let was = c.loop.invariant in
    subst (λ (ls : List Changes). Reads (first_from c.args.key.now (applied_all lists old.map)) (Err Memory) c.loop.out (view_state lists old) (view_state ls new)) (sym was.keeps.lists)
    (goes_to_a_fault lists c.args.key.now c.loop.self.from.items Memory c.loop.out old new new was.goes (none_read new (g.met.M.Map.only_now c.loop.self.map.now)) refl tt)
