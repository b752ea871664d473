use Rattle.std.proofs.Common.{refl}
use Rattle.kv_store.specs.declared.tree_store.TreeStore.{TreeStore}
use Rattle.kv_store.specs.Contents.{contents_of}
use Rattle.kv_store.specs.TreeStore.{pages_of}
use Rattle.kv_store.proofs.Answering.{has_read, goes, goes_fault}
use Rattle.cow_pages.specs.Cow.{working_array}
use Rattle.page_tree.proofs.Represented.{map_rises}
use Rattle.kv_store.proofs.Walking.{span_counted}
use Rattle.kv_store.proofs.tree_store.TreeStoreMap.count_to.Goals as goal

pub returns-in-Ok : goal.returns-in-Ok
returns-in-Ok g c =
    let old = c.args.self.now in
    let new : TreeStore g.row.D.Denot g.D.Device = record old { pages = c.count_to.new.pages } in
    let read = has_read old new c.in-Ok.ensures.preserved (λ faithful l. (c.in-Ok.ensures.only_reads faithful).same l) refl refl (record { fulls = refl; failures = refl }) in
    goes g.met.D.Device.only_now g.met.D.Device.content_left old new c.if-self.false read (λ sound. c.in-Ok.ensures.works (sound.works c.if-self.false).is_open.has_not_failed) _ c.in-Ok.count
    (λ sound held. span_counted c.args.start.now c.args.stop.now c.args.most (contents_of (pages_of old)).records c.in-Ok.count (map_rises (working_array (pages_of old)) (contents_of (pages_of old)).records held) (c.in-Ok.ensures.counted sound.faithful (contents_of (pages_of old)).records held))

pub returns-in-Err : goal.returns-in-Err
returns-in-Err g c =
    let old = c.args.self.now in
    let mid : TreeStore g.row.D.Denot g.D.Device = record old { pages = c.count_to.new.pages } in
    let read = has_read old mid c.in-Err.ensures.preserved (λ faithful l. (c.in-Err.ensures.only_reads faithful).same l) refl refl (record { fulls = refl; failures = refl }) in
    goes_fault g.met.D.Device.only_now g.met.D.Device.content_left old mid c.refuse_read.new.self c.if-self.false read c.in-Err.fault c.refuse_read.result c.refuse_read.ensures c.in-Err.ensures.faults
    (λ sound held. c.in-Err.ensures.counted sound.faithful (contents_of (pages_of old)).records held) _
