use Rattle.std.proofs.Common.{IfErr, ap, ◌≡◌, refl, sym, subst, ◌∙◌, arith}
use Rattle.sector_device.specs.Device.{history_joined as device_joined, history_none}
use Rattle.cow_pages.specs.ReadingLaws.{reads_joined, reads_none}
use Rattle.store.proofs.Reading.{history_joined}
use Rattle.dumps.specs.declared.fault.DumpFault.{DumpFault}
use Rattle.dumps.proofs.Heads.{answered}
use Rattle.dumps.specs.declared.fault.DumpFault.TheVariants as reading
use Rattle.database_dumps.specs.Restoring.{HasListCause}
use Rattle.database_dumps.specs.declared.fault.RestoreFault.TheVariants.{Dump}
use Rattle.dumps.proofs.ListsRead.{ends_of, inside, none_read, none_refused, one_more_read, reads_of}
use Rattle.database_dumps.proofs.Restored.{all_committed, commit_cause, damaged_given, list_history, list_undamaged, more_committed, none_committed, read_cause}
use Rattle.database_dumps.proofs.restored_lists.commit_lists.Goals as goal

pub loop-init : goal.loop-init
loop-init g c =
    let d = g.D.Device.state c.args.dump.now in
    let s = g.S.Map.state c.args.store.now in
    record {
      dump = history_none d;
      content = λ faithful. reads_none d (g.met.D.Device.only_now c.args.dump.now faithful);
      history = record { sound = λ is. is; fulls = omega arith; failures = omega arith; faults = omega arith };
      works = refl;
      read = λ faithful before hashed within. none_read d.sectors d.content before c.args.place.now within hashed;
      committed = λ faithful sound works map before hashed within. none_committed d.sectors d.content before c.args.place.now s within hashed sound works map;
    }

pub loop-preserved : goal.loop-preserved
loop-preserved g c =
    let old = g.D.Device.state c.args.dump.now in
    let mid = g.D.Device.state c.loop.dump in
    let new = g.D.Device.state c.read_list.new.device in
    let is = c.loop.invariant in
    record {
      dump = device_joined old mid new is.dump c.read_list.ensures.history;
      content = λ faithful. reads_joined old mid new is.dump (is.content faithful) (c.read_list.ensures.content (is.dump.faithful faithful));
      history = history_joined (g.S.Map.state c.args.store.now) (g.S.Map.state c.loop.store) (g.S.Map.state c.commit.new.store) is.history c.in_ok-commit.ensures.history;
      works = c.in_ok-commit.ensures.failed ∙ is.works;
      read = λ faithful before hashed within.
          let there = is.dump.faithful faithful in
          one_more_read old.sectors old.content before c.in-Some.batch c.args.place.now c.loop.place c.read_list.new.place (is.read faithful before hashed within)
          (reads_of old mid c.loop.place c.read_list.new.place c.in-Ok.found c.in-Some.batch is.dump (is.content faithful) c.in-Some.is (λ b holds. c.in-Ok.ensures.next there b holds) (λ b ls holds on. c.in-Ok.ensures.goes_on there b ls holds on));
      committed = λ faithful sound works map before hashed within.
          let there = is.dump.faithful faithful in
          more_committed old.sectors old.content before c.in-Some.batch c.args.place.now c.loop.place c.read_list.new.place (g.S.Map.state c.args.store.now) (g.S.Map.state c.loop.store) (g.S.Map.state c.commit.new.store)
          (is.committed faithful sound works map before hashed within)
          (reads_of old mid c.loop.place c.read_list.new.place c.in-Ok.found c.in-Some.batch is.dump (is.content faithful) c.in-Some.is (λ b holds. c.in-Ok.ensures.next there b holds) (λ b ls holds on. c.in-Ok.ensures.goes_on there b ls holds on))
          c.in_ok-commit.ensures;
    }

pub returns-in_default-clause-dump : goal.returns-in_default-clause-dump
returns-in_default-clause-dump g c = device_joined (g.D.Device.state c.args.dump.now) (g.D.Device.state c.loop.dump) (g.D.Device.state c.read_list.new.device) c.loop.invariant.dump c.read_list.ensures.history

pub returns-in_default-clause-content : goal.returns-in_default-clause-content
returns-in_default-clause-content g c = λ faithful.
    let is = c.loop.invariant in
    reads_joined (g.D.Device.state c.args.dump.now) (g.D.Device.state c.loop.dump) (g.D.Device.state c.read_list.new.device) is.dump (is.content faithful) (c.read_list.ensures.content (is.dump.faithful faithful))

pub returns-in_default-clause-committed : goal.returns-in_default-clause-committed
returns-in_default-clause-committed g c = λ faithful sound works map before hashed within.
    let old = g.D.Device.state c.args.dump.now in
    let mid = g.D.Device.state c.loop.dump in
    let is = c.loop.invariant in
    let there = is.dump.faithful faithful in
    all_committed old.sectors old.content before c.args.place.now c.loop.place (g.S.Map.state c.args.store.now) (g.S.Map.state c.loop.store) (is.committed faithful sound works map before hashed within)
    (ends_of old mid c.loop.place c.read_list.new.place c.in-Ok.found is.dump (is.content faithful) c.in_default.is (λ b holds. c.in-Ok.ensures.next there b holds) (λ b ls holds on. c.in-Ok.ensures.goes_on there b ls holds on))

pub returns-in-Err-clause-dump : goal.returns-in-Err-clause-dump
returns-in-Err-clause-dump g c = device_joined (g.D.Device.state c.args.dump.now) (g.D.Device.state c.loop.dump) (g.D.Device.state c.read_list.new.device) c.loop.invariant.dump c.read_list.ensures.history

pub returns-in-Err-clause-content : goal.returns-in-Err-clause-content
returns-in-Err-clause-content g c = λ faithful.
    let is = c.loop.invariant in
    reads_joined (g.D.Device.state c.args.dump.now) (g.D.Device.state c.loop.dump) (g.D.Device.state c.read_list.new.device) is.dump (is.content faithful) (c.read_list.ensures.content (is.dump.faithful faithful))

pub returns-in-Err-clause-refused : goal.returns-in-Err-clause-refused
returns-in-Err-clause-refused g c = λ faithful before lists hashed on damaged.
    let old = g.D.Device.state c.args.dump.now in
    let mid = g.D.Device.state c.loop.dump in
    let is = c.loop.invariant in
    let there = is.dump.faithful faithful in
    let so_far = is.read faithful before hashed (inside old.sectors old.content c.args.place.now.page before c.args.place.now.lists lists on) in
    none_refused old mid before c.args.place.now c.loop.place lists c.in-Err.fault is.dump (is.content faithful) so_far on (λ b ls holds goes. c.in-Err.ensures.damaged there b ls holds goes)
    (damaged_given c.in-Err.fault (ap (λ (f : DumpFault). Dump f) (sym c.from.ensures) ∙ damaged))

pub returns-in-Err-clause-cause : goal.returns-in-Err-clause-cause
returns-in-Err-clause-cause g c =
    let old = g.D.Device.state c.args.dump.now in
    let mid = g.D.Device.state c.loop.dump in
    let new = g.D.Device.state c.read_list.new.device in
    let s = g.S.Map.state c.args.store.now in
    let t = g.S.Map.state c.loop.store in
    subst (λ f. HasListCause (Dump f) old new s t) (sym c.from.ensures) (read_cause c.in-Err.fault s t old mid new c.loop.invariant.dump c.read_list.ensures.history c.in-Err.ensures.cause)

pub returns-in_err-commit-clause-dump : goal.returns-in_err-commit-clause-dump
returns-in_err-commit-clause-dump g c = device_joined (g.D.Device.state c.args.dump.now) (g.D.Device.state c.loop.dump) (g.D.Device.state c.read_list.new.device) c.loop.invariant.dump c.read_list.ensures.history

pub returns-in_err-commit-clause-content : goal.returns-in_err-commit-clause-content
returns-in_err-commit-clause-content g c = λ faithful.
    let is = c.loop.invariant in
    reads_joined (g.D.Device.state c.args.dump.now) (g.D.Device.state c.loop.dump) (g.D.Device.state c.read_list.new.device) is.dump (is.content faithful) (c.read_list.ensures.content (is.dump.faithful faithful))

pub returns-in_err-commit-clause-history : goal.returns-in_err-commit-clause-history
returns-in_err-commit-clause-history g c =
    history_joined (g.S.Map.state c.args.store.now) (g.S.Map.state c.loop.store) (g.S.Map.state c.commit.new.store) c.loop.invariant.history
    (list_history c.in_err-commit.field-0.0 c.in-Some.batch (g.S.Map.state c.loop.store) (g.S.Map.state c.commit.new.store) c.in_err-commit.ensures)

pub returns-in_err-commit-clause-refused : goal.returns-in_err-commit-clause-refused
returns-in_err-commit-clause-refused g c = λ faithful before lists hashed on.
    answered (λ r. IfErr r (λ fault. fault ≡ Dump reading.Damaged → ⊥)) c.in_err-commit.field-0.0 c.from_residual.result c.from_residual.ensures.1
    (list_undamaged c.in_err-commit.field-0.0 c.in-Some.batch (g.S.Map.state c.loop.store) (g.S.Map.state c.commit.new.store) c.in_err-commit.ensures)

pub returns-in_err-commit-clause-cause : goal.returns-in_err-commit-clause-cause
returns-in_err-commit-clause-cause g c =
    let old = g.D.Device.state c.args.dump.now in
    let new = g.D.Device.state c.read_list.new.device in
    let s = g.S.Map.state c.args.store.now in
    let t = g.S.Map.state c.loop.store in
    let u = g.S.Map.state c.commit.new.store in
    answered (λ r. IfErr r (λ fault. HasListCause fault old new s u)) c.in_err-commit.field-0.0 c.from_residual.result c.from_residual.ensures.1
    (commit_cause c.in_err-commit.field-0.0 c.in-Some.batch old new s t u c.loop.invariant.history c.loop.invariant.works c.in_err-commit.ensures)
