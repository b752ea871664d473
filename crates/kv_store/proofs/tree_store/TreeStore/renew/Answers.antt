use Rattle.std.proofs.Common.{refl}
use Rattle.kv_store.specs.declared.tree_store.TreeStore.{TreeStore}
use Rattle.kv_store.proofs.Answering.{has_read, goes, goes_fault}
use Rattle.kv_store.proofs.Renewing.{answers_device, not_full}
use Rattle.kv_store.proofs.tree_store.TreeStore.renew.Goals as goal

pub returns-in-Ok : goal.returns-in-Ok
returns-in-Ok g c =
    let old = c.args.self.now in
    let new : TreeStore g.row.D.Denot g.D.Device = record old { pages = c.renew.new.self } in
    let read = has_read old new c.renew.ensures.preserved (λ faithful l. c.renew.ensures.array faithful l) refl refl (record { fulls = refl; failures = refl }) in
    let it = goes g.met.D.Device.only_now g.met.D.Device.content_left old new c.if-self.false read (λ sound. c.in-Ok.ensures.works) _ tt (λ sound held. tt) in
    record { preserved = it.preserved; goes = it.goes; still = it.still; counts = it.counts; fault = tt; synced = λ faithful. c.in-Ok.ensures.synced faithful }

pub returns-in-Err : goal.returns-in-Err
returns-in-Err g c =
    let old = c.args.self.now in
    let mid : TreeStore g.row.D.Denot g.D.Device = record old { pages = c.renew.new.self } in
    let read = has_read old mid c.renew.ensures.preserved (λ faithful l. c.renew.ensures.array faithful l) refl refl (record { fulls = refl; failures = refl }) in
    let it = goes_fault g.met.D.Device.only_now g.met.D.Device.content_left old mid c.refuse_read-in-Err.new.self c.if-self.false read c.in-Err.fault c.refuse_read-in-Err.result c.refuse_read-in-Err.ensures (not_full c.in-Err.fault c.in-Err.ensures.fault)
    (λ sound held. c.in-Err.ensures.faults) _ in
    record { preserved = it.preserved; goes = it.goes; still = it.still; counts = it.counts; fault = answers_device c.in-Err.fault c.refuse_read-in-Err.result mid c.refuse_read-in-Err.new.self c.in-Err.ensures.fault c.refuse_read-in-Err.ensures.counts; synced = λ faithful. tt }
