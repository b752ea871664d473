use Rattle.std.proofs.Common.{Result, Ok, Err, arith, inl, inr, subst, sym}
use Rattle.sector_device.specs.Device.{history_none}
use Rattle.systems.specs.Systems.{IsUnnamed, Rose}
use Rattle.cow_pages.specs.ReadingLaws.{reads_none}
use Rattle.copies.specs.declared.fault.CopyFault.{CopyFault}
use Rattle.database_dumps.specs.Dumping.{DumpsDatabase, IsDumpOf}
use Rattle.cli.specs.declared.copy_fault.CopyRefusal.{CopyRefusal}
use Rattle.cli.specs.Copying.{StandsAgainstCopy}
use Rattle.cli.specs.Dumping.{dumping}
use Rattle.cli.specs.NewFiles.{IsTried}
use Rattle.cli.proofs.Changes.{but_joined, rose_between}
use Rattle.cli.proofs.Copied.{stands_partial}
use Rattle.cli.proofs.Dumped.{dump_named, dump_tried}
use Rattle.cli.proofs.Taken.{done_or_failed}
use Rattle.cli.proofs.file_dumps.dump_as.Goals as goal

pub returns-in-Err-clause-makes : goal.returns-in-Err-clause-makes
returns-in-Err-clause-makes g c =
    let device = g.Y.Device.Device in
    let old = g.Y.System.state c.args.system.now in
    let new = g.Y.System.state c.make.new.self in
    inl (record {
      history = history_none (device.state c.args.device);
      content = λ is. reads_none (device.state c.args.device) (g.met.Y.Device.Device.only_now c.args.device is);
      cause = λ is there. inl (subst (λ (f : CopyRefusal). StandsAgainstCopy f old c.args.partial.now c.args.target.now new) (sym c.partial_fault.ensures)
          (stands_partial old new c.args.partial.now c.args.target.now c.in-Err.fault (c.in-Err.ensures.exists is) c.in-Err.ensures.cause));
      same = c.in-Err.ensures.kept;
      counts = c.in-Err.ensures.counts;
    })

pub returns-in-Ok-dumped-clause-makes : goal.returns-in-Ok-dumped-clause-makes
returns-in-Ok-dumped-clause-makes g c =
    let device = g.Y.Device.Device in
    let old = g.Y.System.state c.args.system.now in
    let mid = g.Y.System.state c.make.new.self in
    let new = g.Y.System.state c.rename_copy.new.system in
    let made = c.in-Ok.ensures in
    let blank = c.in-Ok.blank in
    let dumping_it = c.dump_database-left in
    let left = dumping_it.result.0 in
    let dump = dumping_it.result.1 in
    let tried : IsTried device (dumping device) old c.args.partial.now c.args.target.now c.args.device c.args.pages (Ok tt) left blank dump =
    dump_tried device old c.args.partial.now c.args.target.now c.args.pages c.args.device left blank dump made.new made.made (g.met.Y.Device.Device.content_left blank) dumping_it.ensures.history dumping_it.ensures.unwritten (Ok tt)
    (λ is. subst (λ (r : Result (Unit {0}) CopyFault). DumpsDatabase (device.state c.args.device) (device.state left) r (device.state blank) (device.state dump)) c.in-Ok-dumped.is (dumping_it.ensures.dumps is)) in
    dump_named device old mid new c.args.partial.now c.args.target.now c.args.pages c.args.device left blank dump made.others made.counts made.open c.requires.names tried c.rename_copy.result c.rename_copy.ensures.renames

pub returns-in-Err-dumped-clause-makes : goal.returns-in-Err-dumped-clause-makes
returns-in-Err-dumped-clause-makes g c =
    let device = g.Y.Device.Device in
    let old = g.Y.System.state c.args.system.now in
    let mid = g.Y.System.state c.make.new.self in
    let new = g.Y.System.state c.remove.new.self in
    let partial = c.args.partial.now in
    let made = c.in-Ok.ensures in
    let blank = c.in-Ok.blank in
    let dumping_it = c.dump_database-left in
    let left = dumping_it.result.0 in
    let dump = dumping_it.result.1 in
    inr (inl (record {
      pages = c.args.pages;
      why = c.in-Err-dumped.fault;
      is = c.of.ensures;
      blank = blank;
      made = dump;
      tried = dump_tried device old partial c.args.target.now c.args.pages c.args.device left blank dump made.new made.made (g.met.Y.Device.Device.content_left blank) dumping_it.ensures.history dumping_it.ensures.unwritten (Err c.in-Err-dumped.fault)
          (λ is. subst (λ (r : Result (Unit {0}) CopyFault). DumpsDatabase (device.state c.args.device) (device.state left) r (device.state blank) (device.state dump)) c.in-Err-dumped.is (dumping_it.ensures.dumps is));
      taken = record {
        removed = λ is. (
            elim (done_or_failed (IsUnnamed new partial) (Rose mid.failures new.failures) c.remove.result (c.remove.ensures.removed ((made.others is).faithful is) (made.open is)) c.remove.ensures.cause) [
              | inl gone ↦ inl gone
              | inr failed ↦ inr (rose_between old.failures mid.failures new.failures new.failures made.counts c.remove.ensures.counts (omega arith) failed)
            ]
            );
        others = λ is. but_joined partial old mid new (made.others is) (c.remove.ensures.others ((made.others is).faithful is));
        counts = omega (arith, made.counts, c.remove.ensures.counts);
      };
    }))

-- ---- what a stop leaves

pub returns-in-Err-clause-left : goal.returns-in-Err-clause-left
returns-in-Err-clause-left g c = λ is faithful x now. inl (c.make.ensures.left is c.args.target.now c.requires.names x now)

pub returns-in-Ok-dumped-clause-left : goal.returns-in-Ok-dumped-clause-left
returns-in-Ok-dumped-clause-left g c = λ is faithful x now.
    let device = g.Y.Device.Device in
    let old = g.Y.System.state c.args.system.now in
    let made = c.in-Ok.ensures in
    let blank = c.in-Ok.blank in
    let dumping_it = c.dump_database-left in
    let left = dumping_it.result.0 in
    let dump = dumping_it.result.1 in
    let tried : IsTried device (dumping device) old c.args.partial.now c.args.target.now c.args.device c.args.pages (Ok tt) left blank dump =
    dump_tried device old c.args.partial.now c.args.target.now c.args.pages c.args.device left blank dump made.new made.made (g.met.Y.Device.Device.content_left blank) dumping_it.ensures.history dumping_it.ensures.unwritten (Ok tt)
    (λ there. subst (λ (r : Result (Unit {0}) CopyFault). DumpsDatabase (device.state c.args.device) (device.state left) r (device.state blank) (device.state dump)) c.in-Ok-dumped.is (dumping_it.ensures.dumps there)) in
    let whole : IsDumpOf (device.state c.args.device) (device.state dump) = tried.does is faithful in
    elim (c.rename_copy.ensures.left ((made.others is).faithful is) c.requires.names x now) [
      | inl before ↦ inl (c.make.ensures.left is c.args.target.now c.requires.names x before)
      | inr same ↦ inr (subst (λ y. IsDumpOf (device.state c.args.device) (device.state y)) (sym same) whole)
    ]

pub returns-in-Err-dumped-clause-left : goal.returns-in-Err-dumped-clause-left
returns-in-Err-dumped-clause-left g c = λ is faithful x now.
    inl (c.make.ensures.left is c.args.target.now c.requires.names x (c.remove.ensures.left ((c.in-Ok.ensures.others is).faithful is) c.args.target.now c.requires.names x now))
