use Rattle.std.proofs.Common.{refl, sym, ◌∙◌}
use Rattle.journal_store.proofs.Reading.{not_read, read_under}
use Rattle.journal_store.proofs.reads.JournalStoreMap.count_to.Goals as goal

pub returns-then-has_failed : goal.returns-then-has_failed
returns-then-has_failed g c =
    let read = not_read g.met.D.Device.only_now c.args.self.now (sym c.has_failed.ensures ∙ c.if-has_failed.true) in
    record { preserved = read.preserved; goes = read.goes; still = read.still }

pub returns : goal.returns
returns g c =
    let is = c.count_under.ensures in
    let works = sym c.has_failed.ensures ∙ c.if-has_failed.false in
    let read = read_under g.met.D.Device.only_now c.args.self.now _ works refl refl refl is.preserved is.records (rw c.as_slice-lists.ensures at is.goes) in
    record { preserved = read.preserved; goes = read.goes; still = read.still }
