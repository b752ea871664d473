use Rattle.std.proofs.Common.{◌≡◌, refl, ap, arith}
use Rattle.page_roots.specs.Root.{RootFields}
use Rattle.store.specs.declared.fault.StoreFault.TheVariants.{Full}
use Rattle.journal_store.specs.Stores.{base_of}
use Rattle.journal_store.specs.StoreLaws.{held}
use Rattle.journal_store.proofs.Checkpoints.{checkpointed, not_checkpointed, full_where, full_root}
use Rattle.journal_store.proofs.stores.JournalStore.commit_joined.Goals as goal

pub returns-in-Ok-clause-commits : goal.returns-in-Ok-clause-commits
returns-in-Ok-clause-commits g c batch joins =
    checkpointed g.met.D.Device.only_now g.met.D.JournalDevice.all_beside c.args.self.now _ batch c.args.joined.now c.requires joins refl c.checkpoint.ensures.history
    c.new.ensures refl c.in-Ok.ensures.commits c.in-Ok.ensures.anew (λ contents holds. c.in-Ok.ensures.numbered c.requires contents holds) c.args.reserve (λ contents holds. c.in-Ok.ensures.batch c.requires contents holds)

pub returns-in-Err-clause-commits : goal.returns-in-Err-clause-commits
returns-in-Err-clause-commits g c batch joins =
    not_checkpointed g.met.D.Device.only_now g.met.D.JournalDevice.all_beside c.args.self.now _ batch c.args.joined.now c.requires joins refl c.checkpoint.ensures.history
    refl refl c.args.reserve c.in-Err.fault (omega arith) c.in-Err.ensures.commits (λ contents holds. c.in-Err.ensures.numbered c.requires contents holds) (λ contents holds. c.in-Err.ensures.batch c.requires contents holds)

pub returns-in-Err-clause-room : goal.returns-in-Err-clause-room
returns-in-Err-clause-room g c sound full =
    let s = c.args.self.now in
    let is : c.in-Err.fault ≡ Full = cc in
    full_where c.args.reserve c.in-Err.fault c.args.joined.now (base_of s) _ _ _ is (c.in-Err.ensures.batch c.requires (base_of s) (held s sound c.requires))

pub returns-in-Ok-clause-spares : goal.returns-in-Ok-clause-spares
returns-in-Ok-clause-spares g c sound = (c.in-Ok.ensures.batch c.requires (base_of c.args.self.now) (held c.args.self.now sound c.requires)).outcome.spares

pub returns-in-Err-clause-root : goal.returns-in-Err-clause-root
returns-in-Err-clause-root g c sound full =
    let s = c.args.self.now in
    let is : c.in-Err.fault ≡ Full = cc in
    ap (λ (r : RootFields). r.number) (full_root c.args.reserve c.in-Err.fault c.args.joined.now (base_of s) _ _ _ is (c.in-Err.ensures.batch c.requires (base_of s) (held s sound c.requires)))
