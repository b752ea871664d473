use Rattle.std.proofs.Common.{◌≡◌, ◌/◌, IfErr, sym, subst}
use Rattle.store.proofs.Reading.{reads_joined}
use Rattle.copies.specs.RecordCopies.{HasOutsized, behind_mark, whole}
use Rattle.storage_sizes.specs.CurrentRecordFormat.{current}
use Rattle.store.specs.declared.fault.Fault.TheVariants.{Damaged}
use Rattle.copies.specs.declared.fault.CopyFault.TheVariants.{Read}
use Rattle.copies.specs.DeviceCopies.{HasSourceCause}
use Rattle.copies.specs.Wanted.{TellsWanted}
use Rattle.copies.proofs.DeviceCopied.{cannot_begin, copies_to, told_damaged, told_source}
use Rattle.copies.proofs.device_copies.copy_to_device.Goals as goal

pub returns-in-Err-clause-copies : goal.returns-in-Err-clause-copies
returns-in-Err-clause-copies g c = λ sound.
    cannot_begin g.D.Device (whole current (g.M.Map.state c.args.source.now).map) c.in-Err.fault c.args.target c.in-Err.target c.in-Err.ensures

pub returns-clause-preserved : goal.returns-clause-preserved
returns-clause-preserved g c = g.M.Map.preserved_joined c.args.source.now c.copy_records-copied.new.source c.no_room_fault-no_room.new.source c.copy_records-copied.ensures.preserved c.no_room_fault-no_room.ensures.preserved

pub returns-clause-reads : goal.returns-clause-reads
returns-clause-reads g c =
    reads_joined (g.M.Map.state c.args.source.now) (g.M.Map.state c.copy_records-copied.new.source) (g.M.Map.state c.no_room_fault-no_room.new.source) c.copy_records-copied.ensures.reads c.no_room_fault-no_room.ensures.reads

pub returns-clause-copies : goal.returns-clause-copies
returns-clause-copies g c = λ sound.
    let mid = g.M.Map.state c.copy_records-copied.new.source in
    let records = (g.M.Map.state c.args.source.now).map in
    let same = (c.copy_records-copied.ensures.reads.unchanged sound).map in
    let room = c.no_room_fault-no_room.result in
    let told : TellsWanted (c.sectors-pages.result / 8) (behind_mark mid.map) room = c.no_room_fault-no_room.ensures.told (c.copy_records-copied.ensures.reads.history.sound sound) in
    let tells : TellsWanted ((g.D.Device.state c.args.target).sectors / 8) (behind_mark records) room =
    subst (λ n. TellsWanted (n / 8) (behind_mark records) room) c.sectors-pages.ensures (subst (λ es. TellsWanted (c.sectors-pages.result / 8) (behind_mark es) room) same told) in
    copies_to g.D.Device c.args.target c.into_device.result c.in-Ok.store c.copy_records-copied.new.target records
    (g.M.Map.state c.args.source.now) mid c.no_room_fault-no_room.result c.copy_records-copied.result c.told.result tells c.in-Ok.ensures
    c.copy_records-copied.ensures.history c.sound_images.ensures (c.copy_records-copied.ensures.copies sound) c.copy_records-copied.ensures.cause c.told.ensures c.into_device.ensures

pub returns-clause-cause : goal.returns-clause-cause
returns-clause-cause g c =
    let first = g.M.Map.state c.args.source.now in
    let mid = g.M.Map.state c.copy_records-copied.new.source in
    let last = g.M.Map.state c.no_room_fault-no_room.new.source in
    subst (λ r. IfErr r (λ fault. HasSourceCause fault first last)) (sym c.told.ensures)
    (told_source c.no_room_fault-no_room.result c.copy_records-copied.result first mid last _ _ c.copy_records-copied.ensures.reads.history c.no_room_fault-no_room.ensures.reads.history c.copy_records-copied.ensures.works c.no_room_fault-no_room.ensures.cause c.copy_records-copied.ensures.cause)

pub returns-clause-damaged : goal.returns-clause-damaged
returns-clause-damaged g c = λ sound.
    subst (λ r. IfErr r (λ fault. fault ≡ Read Damaged → HasOutsized (behind_mark (g.M.Map.state c.args.source.now).map))) (sym c.told.ensures)
    (told_damaged (HasOutsized (behind_mark (g.M.Map.state c.args.source.now).map)) c.no_room_fault-no_room.result c.no_room_fault-no_room.ensures.undamaged c.copy_records-copied.result (c.copy_records-copied.ensures.damaged sound))
