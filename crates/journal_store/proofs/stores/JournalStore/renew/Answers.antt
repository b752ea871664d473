use Rattle.std.proofs.Common.{refl, sym, ◌∙◌}
use Rattle.kv_store.specs.TreeStore.{store_state}
use Rattle.journal_store.proofs.Reading.{not_read, read_under}
use Rattle.journal_store.proofs.Renewing.{keeps_records, under_changes}
use Rattle.journal_store.proofs.stores.JournalStore.renew.Goals as goal

pub returns-then-has_failed : goal.returns-then-has_failed
returns-then-has_failed g c =
    let read = not_read g.met.D.Device.only_now c.args.self.now (sym c.has_failed.ensures ∙ c.if-has_failed.true) in
    record { preserved = read.preserved; goes = read.goes; still = read.still; fault = refl; synced = λ faithful. tt }

pub returns : goal.returns
returns g c =
    let s = c.args.self.now in
    let is = c.renew.ensures in
    let works = sym c.has_failed.ensures ∙ c.if-has_failed.false in
    let old = store_state s.store in
    let new = store_state c.renew.new.self in
    let read = read_under g.met.D.Device.only_now s _ works refl refl refl is.preserved (keeps_records c.renew.result old new is.goes) (under_changes s.waiting c.renew.result old new is.goes) in
    record { preserved = read.preserved; goes = read.goes; still = read.still; fault = is.fault; synced = λ faithful. is.synced faithful }
