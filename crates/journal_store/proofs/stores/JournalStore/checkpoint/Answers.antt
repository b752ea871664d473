use Rattle.std.proofs.Common.{List, refl, ap, sym, subst}
use Rattle.std.specs.Prelude.{OnOk}
use Rattle.store.specs.Records.{Changes, applied}
use Rattle.transactions.specs.Views.{applied_all}
use Rattle.kv_store.specs.declared.reserve.Reserve.{Reserve}
use Rattle.kv_store.specs.Batches.{HadNoRoom}
use Rattle.kv_store.specs.Reserve.{KeepsReserve}
use Rattle.kv_store.specs.TreeStore.{pages_of}
use Rattle.journal_store.specs.Stores.{base_of}
use Rattle.journal_store.proofs.Records.{refused_memory}
use Rattle.journal_store.proofs.stores.JournalStore.checkpoint.Goals as goal

-- nothing waits
pub returns-then-is_empty-clause-commits : goal.returns-then-is_empty-clause-commits
returns-then-is_empty-clause-commits g c =
    c.commit_joined.ensures.commits c.args.batch.now (λ es in_order. ap (λ (ws : List Changes). applied c.args.batch.now (applied_all ws es)) (sym (c.is_empty.ensures.0 c.if-is_empty.true)))

pub returns-in_default-clause-commits : goal.returns-in_default-clause-commits
returns-in_default-clause-commits g c = refused_memory g.met.D.Device.only_now c.args.self.now _ _ c.requires refl refl refl refl

pub returns-clause-commits : goal.returns-clause-commits
returns-clause-commits g c = c.commit_joined-2.ensures.commits c.args.batch.now c.in-Ok.ensures

pub returns-then-is_empty-clause-room : goal.returns-then-is_empty-clause-room
returns-then-is_empty-clause-room g c sound full = record {
  changes = c.args.batch.now;
  all = λ es in_order. ap (λ (ws : List Changes). applied c.args.batch.now (applied_all ws es)) (sym (c.is_empty.ensures.0 c.if-is_empty.true));
  none = subst (λ (r : Reserve). HadNoRoom r c.args.batch.now (base_of c.args.self.now).records (pages_of c.args.self.now.store)) c.reserve_with-reserve.ensures (c.commit_joined.ensures.room sound full);
}

pub returns-clause-room : goal.returns-clause-room
returns-clause-room g c sound full = record { changes = c.in-Ok.joined; all = c.in-Ok.ensures; none = subst (λ (r : Reserve). HadNoRoom r c.in-Ok.joined (base_of c.args.self.now).records (pages_of c.args.self.now.store)) c.reserve_with-reserve.ensures (c.commit_joined-2.ensures.room sound full) }

pub returns-clause-spares : goal.returns-clause-spares
returns-clause-spares g c sound =
    subst (λ (r : Reserve). OnOk c.commit_joined-2.result (KeepsReserve r (pages_of c.args.self.now.store) (pages_of c.commit_joined-2.new.self.store))) c.reserve_with-reserve.ensures (c.commit_joined-2.ensures.spares sound)
