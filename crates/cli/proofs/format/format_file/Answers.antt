use Rattle.std.proofs.Common.{arith, inl, inr, refl, subst, sym}
use Rattle.systems.specs.Systems.{IsUnnamed, Rose}
use Rattle.cli.specs.declared.fault.CommandFault.{CommandFault}
use Rattle.cli.specs.Formatting.{IsUnformatted}
use Rattle.cli.proofs.Blank.{blank_of_zeros}
use Rattle.cli.proofs.Changes.{but_joined, rose_between}
use Rattle.cli.proofs.Taken.{done_or_failed, unformatted}
use Rattle.cli.proofs.format.format_file.Goals as goal

pub returns-in-Err-make_database : goal.returns-in-Err-make_database
returns-in-Err-make_database g c =
    let old = g.Y.System.state c.args.system.now in
    let mid = g.Y.System.state c.make.new.self in
    let new = g.Y.System.state c.remove.new.self in
    let path = c.args.path.now in
    let made = c.in-Ok.ensures in
    let blank = c.in-Ok.device in
    let left = c.make_database.new.device in
    subst (λ (fault : CommandFault). IsUnformatted g.Y.Device.Device old path c.args.pages c.args.admin.now c.args.journal fault new) (sym c.from-in-Err-make_database.ensures)
    (unformatted g.Y.Device.Device old new path c.args.pages c.args.admin.now c.args.journal blank left c.in-Err-make_database.fault c.in-Some.ensures.some.0 made.sectors c.in-Err-make_database.ensures (record {
      blank = blank;
      left = left;
      why = c.in-Err-make_database.fault;
      is = refl;
      makes = c.in-Err-make_database.ensures;
      is_blank = λ is. record { new = made.new is; zeros = made.made is; blank = blank_of_zeros c.args.pages (g.Y.Device.Device.state blank) (made.made is) };
      removed = λ is. (
          elim (done_or_failed (IsUnnamed new path) (Rose mid.failures new.failures) c.remove.result (c.remove.ensures.removed ((made.others is).faithful is) (made.open is)) c.remove.ensures.cause) [
            | inl gone ↦ inl gone
            | inr failed ↦ inr (rose_between old.failures mid.failures new.failures new.failures made.counts c.remove.ensures.counts (omega arith) failed)
          ]
          );
      others = λ is. but_joined path old mid new (made.others is) (c.remove.ensures.others ((made.others is).faithful is));
    }))
