use Rattle.std.proofs.Common.{Result, Ok, arith, inl, inr, refl, subst, sym}
use Rattle.systems.specs.Systems.{IsUnnamed, Rose}
use Rattle.copies.specs.declared.fault.CopyFault.{CopyFault}
use Rattle.copies.specs.DatabaseCopies.{CopiesDatabase}
use Rattle.cli.specs.declared.copy_fault.CopyRefusal.{CopyRefusal}
use Rattle.cli.specs.CopyNames.{IsWholeCopy}
use Rattle.cli.specs.Copying.{IsTried, StandsAgainstCopy}
use Rattle.cli.proofs.Blank.{blank_of_zeros}
use Rattle.cli.proofs.Changes.{but_joined, rose_between}
use Rattle.cli.proofs.Copied.{named_then, stands_partial}
use Rattle.cli.proofs.Taken.{done_or_failed}
use Rattle.cli.proofs.file_copies.copy_as.Goals as goal

pub returns-in-Err-clause-copies : goal.returns-in-Err-clause-copies
returns-in-Err-clause-copies g c =
    let old = g.Y.System.state c.args.system.now in
    let new = g.Y.System.state c.make.new.self in
    inl (record {
      unread = refl;
      cause = λ is. subst (λ (f : CopyRefusal). StandsAgainstCopy f old c.args.partial.now c.args.target.now new) (sym c.partial_fault.ensures)
          (stands_partial old new c.args.partial.now c.args.target.now c.in-Err.fault (c.in-Err.ensures.exists is) c.in-Err.ensures.cause);
      same = c.in-Err.ensures.kept;
      counts = c.in-Err.ensures.counts;
    })

pub returns-in-Ok-copied-clause-copies : goal.returns-in-Ok-copied-clause-copies
returns-in-Ok-copied-clause-copies g c =
    let device = g.Y.Device.Device in
    let old = g.Y.System.state c.args.system.now in
    let mid = g.Y.System.state c.make.new.self in
    let new = g.Y.System.state c.rename_copy.new.system in
    let made = c.in-Ok.ensures in
    let blank = c.in-Ok.blank in
    let copying = c.copy_with_progress-left in
    let left = copying.result.0 in
    let copy = copying.result.1 in
    let tried : IsTried device old c.args.partial.now c.args.target.now c.args.pages c.args.device (Ok tt) left blank copy = record {
      is_blank = λ is. record { new = made.new is; zeros = made.made is; blank = blank_of_zeros c.args.pages (device.state blank) (made.made is) };
      copies = λ is. subst (λ (r : Result (Unit {0}) CopyFault). CopiesDatabase (device.state c.args.device) (device.state left) device.state r blank copy) c.in-Ok-copied.is (copying.ensures.copies is);
      history = copying.ensures.history;
      content = copying.ensures.unwritten;
    } in
    named_then device old mid new c.args.partial.now c.args.target.now c.args.pages c.args.device left blank copy made.others made.counts made.open c.requires.names tried c.rename_copy.result c.rename_copy.ensures.renames

pub returns-in-Err-copied-clause-copies : goal.returns-in-Err-copied-clause-copies
returns-in-Err-copied-clause-copies g c =
    let device = g.Y.Device.Device in
    let old = g.Y.System.state c.args.system.now in
    let mid = g.Y.System.state c.make.new.self in
    let new = g.Y.System.state c.remove.new.self in
    let partial = c.args.partial.now in
    let made = c.in-Ok.ensures in
    let blank = c.in-Ok.blank in
    let copying = c.copy_with_progress-left in
    let left = copying.result.0 in
    let copy = copying.result.1 in
    inr (inl (record {
      why = c.in-Err-copied.fault;
      is = c.of.ensures;
      blank = blank;
      copy = copy;
      tried = record {
        is_blank = λ is. record { new = made.new is; zeros = made.made is; blank = blank_of_zeros c.args.pages (device.state blank) (made.made is) };
        copies = λ is. subst (λ (r : Result (Unit {0}) CopyFault). CopiesDatabase (device.state c.args.device) (device.state left) device.state r blank copy) c.in-Err-copied.is (copying.ensures.copies is);
        history = copying.ensures.history;
        content = copying.ensures.unwritten;
      };
      taken = record {
        removed = λ is. (
            elim (done_or_failed (IsUnnamed new partial) (Rose mid.failures new.failures) c.remove.result (c.remove.ensures.removed ((made.others is).faithful is) (made.open is)) c.remove.ensures.cause) [
              | inl gone ↦ inl gone
              | inr failed ↦ inr (rose_between old.failures mid.failures new.failures new.failures made.counts c.remove.ensures.counts (omega arith) failed)
            ]
            );
        others = λ is. but_joined partial old mid new (made.others is) (c.remove.ensures.others ((made.others is).faithful is));
        counts = omega (arith, made.counts, c.remove.ensures.counts);
      };
    }))

-- ---- what a stop leaves

pub returns-in-Err-clause-left : goal.returns-in-Err-clause-left
returns-in-Err-clause-left g c = λ is faithful x now. inl (c.make.ensures.left is c.args.target.now c.requires.names x now)

pub returns-in-Ok-copied-clause-left : goal.returns-in-Ok-copied-clause-left
returns-in-Ok-copied-clause-left g c = λ is faithful x now.
    let device = g.Y.Device.Device in
    let made = c.in-Ok.ensures in
    let blank = c.in-Ok.blank in
    let copying = c.copy_with_progress-left in
    let left = copying.result.0 in
    let copy = copying.result.1 in
    let copied : CopiesDatabase (device.state c.args.device) (device.state left) device.state (Ok tt) blank copy =
    subst (λ (r : Result (Unit {0}) CopyFault). CopiesDatabase (device.state c.args.device) (device.state left) device.state r blank copy) c.in-Ok-copied.is (copying.ensures.copies faithful) in
    let whole : IsWholeCopy device c.args.device copy = record { database = copied.0.database; holds = copied.0.holds; whole = copied.1 (made.made is).faithful } in
    elim (c.rename_copy.ensures.left ((made.others is).faithful is) c.requires.names x now) [
      | inl before ↦ inl (c.make.ensures.left is c.args.target.now c.requires.names x before)
      | inr same ↦ inr (subst (IsWholeCopy device c.args.device) (sym same) whole)
    ]

pub returns-in-Err-copied-clause-left : goal.returns-in-Err-copied-clause-left
returns-in-Err-copied-clause-left g c = λ is faithful x now.
    inl (c.make.ensures.left is c.args.target.now c.requires.names x (c.remove.ensures.left ((c.in-Ok.ensures.others is).faithful is) c.args.target.now c.requires.names x now))
