use Rattle.std.proofs.Common.{◌≡◌, ℕ, true, subst}
use Rattle.cow_pages.specs.Image.{is_size}
use Rattle.sql_types.specs.Name.{IsUtf8Name}
use Rattle.store.specs.Records.{Record}
use Rattle.databases.specs.Making.{FormatsOfKind}
use Rattle.databases.proofs.Made.{makes}
use Rattle.databases.proofs.making.make_database.Goals as goal

pub returns : goal.returns
returns g c =
    let admin = c.args.admin.now in
    let named : IsUtf8Name admin = record { name = c.know_name.ensures.name; utf8 = c.know_name.ensures.utf8 } in
    let stands = c.new_records_stand_for_a_new_database.ensures admin named in
    let old = c.args.device.now in
    let size = subst (λ (n : ℕ). is_size n ≡ true) c.sectors.ensures c.in-Some.ensures.some.0 in
    let result = c.format_store.result in
    let new = c.format_store.new.device in
    makes admin stands g.D.Device old new size c.args.journal result
    (subst (λ (e : Record). FormatsOfKind g.D.Device c.args.journal e result old new) c.in_ok-first.ensures.record c.format_store.ensures)
