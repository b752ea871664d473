use Rattle.std.proofs.Common.{Result, Ok, Err, arith, inl, inr, subst, sym}
use Rattle.sector_device.specs.Device.{history_none}
use Rattle.systems.specs.Systems.{IsUnnamed, Rose}
use Rattle.cow_pages.specs.ReadingLaws.{reads_none}
use Rattle.database_dumps.specs.Restoring.{IsRestored, RestoresDump}
use Rattle.database_dumps.specs.declared.roles.RestoredRoles.{RestoredRoles}
use Rattle.database_dumps.specs.declared.fault.RestoreFault.{RestoreFault}
use Rattle.cli.specs.declared.copy_fault.CopyRefusal.{CopyRefusal}
use Rattle.cli.specs.Copying.{StandsAgainstCopy}
use Rattle.cli.specs.NewFiles.{IsTried}
use Rattle.cli.specs.Restoring.{IsOfDump, restoring}
use Rattle.cli.proofs.Changes.{but_joined, rose_between}
use Rattle.cli.proofs.Copied.{stands_partial}
use Rattle.cli.proofs.NewFiles.{made_and_named, made_and_unnamed}
use Rattle.cli.proofs.Restored.{of_dump, restore_tried}
use Rattle.cli.proofs.Taken.{done_or_failed}
use Rattle.cli.proofs.file_restores.restore_as.Goals as goal

pub returns-in-Err-clause-makes : goal.returns-in-Err-clause-makes
returns-in-Err-clause-makes g c =
    let device = g.Y.Device.Device in
    let old = g.Y.System.state c.args.system.now in
    let new = g.Y.System.state c.make.new.self in
    inl (record {
      history = history_none (device.state c.args.dump);
      content = λ is. reads_none (device.state c.args.dump) (g.met.Y.Device.Device.only_now c.args.dump is);
      cause = λ is there. inl (subst (λ (f : CopyRefusal). StandsAgainstCopy f old c.args.partial.now c.args.target.now new) (sym c.partial_fault.ensures)
          (stands_partial old new c.args.partial.now c.args.target.now c.in-Err.fault (c.in-Err.ensures.exists is) c.in-Err.ensures.cause));
      same = c.in-Err.ensures.kept;
      counts = c.in-Err.ensures.counts;
    })

pub returns-in-Ok-rename_copy-clause-makes : goal.returns-in-Ok-rename_copy-clause-makes
returns-in-Ok-rename_copy-clause-makes g c =
    let device = g.Y.Device.Device in
    let old = g.Y.System.state c.args.system.now in
    let mid = g.Y.System.state c.make.new.self in
    let new = g.Y.System.state c.rename_copy.new.system in
    let found = c.in-Ok.ensures in
    let blank = c.in-Ok.blank in
    let restored = c.restore_database-left in
    let left = restored.result.0 in
    let made = restored.result.1 in
    let roles = c.in-Ok-restored.roles in
    let tried : IsTried device (restoring device c.args.pages) old c.args.partial.now c.args.target.now c.args.dump c.args.pages (Ok roles) left blank made =
    restore_tried device old c.args.partial.now c.args.target.now c.args.pages c.args.dump left blank made found.new found.made restored.ensures.history restored.ensures.unwritten (Ok roles)
    (λ there faithful. subst (λ (r : Result RestoredRoles RestoreFault). RestoresDump (device.state c.args.dump) (device.state left) r (device.state blank) (device.state made)) c.in-Ok-restored.is (restored.ensures.restores there faithful)) in
    made_and_named device (restoring device c.args.pages) old mid new c.args.partial.now c.args.target.now c.args.pages c.args.dump left blank made roles found.others found.counts found.open c.requires.names tried c.in-Ok-rename_copy.ensures.renames

pub returns-in-Ok-restored-clause-makes : goal.returns-in-Ok-restored-clause-makes
returns-in-Ok-restored-clause-makes g c =
    let device = g.Y.Device.Device in
    let old = g.Y.System.state c.args.system.now in
    let mid = g.Y.System.state c.make.new.self in
    let new = g.Y.System.state c.rename_copy.new.system in
    let found = c.in-Ok.ensures in
    let blank = c.in-Ok.blank in
    let restored = c.restore_database-left in
    let left = restored.result.0 in
    let made = restored.result.1 in
    let roles = c.in-Ok-restored.roles in
    let tried : IsTried device (restoring device c.args.pages) old c.args.partial.now c.args.target.now c.args.dump c.args.pages (Ok roles) left blank made =
    restore_tried device old c.args.partial.now c.args.target.now c.args.pages c.args.dump left blank made found.new found.made restored.ensures.history restored.ensures.unwritten (Ok roles)
    (λ there faithful. subst (λ (r : Result RestoredRoles RestoreFault). RestoresDump (device.state c.args.dump) (device.state left) r (device.state blank) (device.state made)) c.in-Ok-restored.is (restored.ensures.restores there faithful)) in
    made_and_unnamed device (restoring device c.args.pages) old mid new c.args.partial.now c.args.target.now c.args.pages c.args.dump left blank made roles found.others found.counts found.open c.requires.names tried c.in-Err-rename_copy.refusal
    c.in-Err-rename_copy.ensures.renames

pub returns-clause-makes : goal.returns-clause-makes
returns-clause-makes g c =
    let device = g.Y.Device.Device in
    let old = g.Y.System.state c.args.system.now in
    let mid = g.Y.System.state c.make.new.self in
    let new = g.Y.System.state c.remove.new.self in
    let partial = c.args.partial.now in
    let found = c.in-Ok.ensures in
    let blank = c.in-Ok.blank in
    let restored = c.restore_database-left in
    let left = restored.result.0 in
    let made = restored.result.1 in
    inr (inl (record {
      pages = c.args.pages;
      why = c.in-Err-restored.fault;
      is = c.restore_refusal.ensures;
      blank = blank;
      made = made;
      tried = restore_tried device old partial c.args.target.now c.args.pages c.args.dump left blank made found.new found.made restored.ensures.history restored.ensures.unwritten (Err c.in-Err-restored.fault)
          (λ there faithful. subst (λ (r : Result RestoredRoles RestoreFault). RestoresDump (device.state c.args.dump) (device.state left) r (device.state blank) (device.state made)) c.in-Err-restored.is (restored.ensures.restores there faithful));
      taken = record {
        removed = λ is. (
            elim (done_or_failed (IsUnnamed new partial) (Rose mid.failures new.failures) c.remove.result (c.remove.ensures.removed ((found.others is).faithful is) (found.open is)) c.remove.ensures.cause) [
              | inl gone ↦ inl gone
              | inr failed ↦ inr (rose_between old.failures mid.failures new.failures new.failures found.counts c.remove.ensures.counts (omega arith) failed)
            ]
            );
        others = λ is. but_joined partial old mid new (found.others is) (c.remove.ensures.others ((found.others is).faithful is));
        counts = omega (arith, found.counts, c.remove.ensures.counts);
      };
    }))

-- ---- what a stop leaves

pub returns-in-Err-clause-left : goal.returns-in-Err-clause-left
returns-in-Err-clause-left g c = λ is faithful x now. inl (c.make.ensures.left is c.args.target.now c.requires.names x now)

pub returns-in-Ok-rename_copy-clause-left : goal.returns-in-Ok-rename_copy-clause-left
returns-in-Ok-rename_copy-clause-left g c = λ is faithful x now.
    let device = g.Y.Device.Device in
    let found = c.in-Ok.ensures in
    let restored = c.restore_database-left in
    let made = restored.result.1 in
    let is_restored : IsRestored (device.state c.args.dump) c.in-Ok-restored.roles (device.state made) =
    subst (λ (r : Result RestoredRoles RestoreFault). RestoresDump (device.state c.args.dump) (device.state restored.result.0) r (device.state c.in-Ok.blank) (device.state made)) c.in-Ok-restored.is (restored.ensures.restores faithful (found.made is).faithful) in
    elim (c.rename_copy.ensures.left ((found.others is).faithful is) c.requires.names x now) [
      | inl before ↦ inl (c.make.ensures.left is c.args.target.now c.requires.names x before)
      | inr same ↦ inr (subst (λ y. IsOfDump (device.state c.args.dump) (device.state y)) (sym same) (of_dump device c.args.dump made c.in-Ok-restored.roles is_restored))
    ]

pub returns-in-Ok-restored-clause-left : goal.returns-in-Ok-restored-clause-left
returns-in-Ok-restored-clause-left g c = λ is faithful x now.
    let device = g.Y.Device.Device in
    let found = c.in-Ok.ensures in
    let restored = c.restore_database-left in
    let made = restored.result.1 in
    let is_restored : IsRestored (device.state c.args.dump) c.in-Ok-restored.roles (device.state made) =
    subst (λ (r : Result RestoredRoles RestoreFault). RestoresDump (device.state c.args.dump) (device.state restored.result.0) r (device.state c.in-Ok.blank) (device.state made)) c.in-Ok-restored.is (restored.ensures.restores faithful (found.made is).faithful) in
    elim (c.rename_copy.ensures.left ((found.others is).faithful is) c.requires.names x now) [
      | inl before ↦ inl (c.make.ensures.left is c.args.target.now c.requires.names x before)
      | inr same ↦ inr (subst (λ y. IsOfDump (device.state c.args.dump) (device.state y)) (sym same) (of_dump device c.args.dump made c.in-Ok-restored.roles is_restored))
    ]

pub returns-clause-left : goal.returns-clause-left
returns-clause-left g c = λ is faithful x now.
    inl (c.make.ensures.left is c.args.target.now c.requires.names x (c.remove.ensures.left ((c.in-Ok.ensures.others is).faithful is) c.args.target.now c.requires.names x now))
