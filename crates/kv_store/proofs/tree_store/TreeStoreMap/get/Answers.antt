use Rattle.std.proofs.Common.{ℕ, List, refl, sym, subst}
use Rattle.cow_pages.specs.Cow.{working_array}
use Rattle.store.specs.Records.{entry_at, IsFound}
use Rattle.kv_store.specs.declared.tree_store.TreeStore.{TreeStore}
use Rattle.kv_store.specs.Contents.{contents_of}
use Rattle.kv_store.specs.TreeStore.{pages_of}
use Rattle.kv_store.proofs.Answering.{has_read, copies, finds_none, reads_fault}
use Rattle.kv_store.proofs.Reading.{none_found, some_found, value_found}
use Rattle.kv_store.proofs.tree_store.TreeStoreMap.get.Goals as goal

pub returns-in-Ok-true : goal.returns-in-Ok-true
returns-in-Ok-true g c =
    let old = c.args.self.now in
    let new : TreeStore g.row.D.Denot g.D.Device = record old { pages = c.get.new.pages; value = c.get.new.value } in
    let read = has_read old new c.in-Ok-true.ensures.preserved (λ faithful l. (c.in-Ok-true.ensures.only_reads faithful).same l) refl refl (record { fulls = refl; failures = refl }) in
    copies g.met.D.Device.only_now g.met.D.Device.content_left old new c.if-self.false read (λ sound. c.in-Ok-true.ensures.works) _ c.copy_to.result c.copy_to.new.out _ c.copy_to.ensures.found c.copy_to.ensures.memory
    (λ sound held. some_found _ c.in-Ok-true.field-0 _ c.in-Ok-true.field-0-test
    (subst (λ (v : List ℕ). IsFound c.in-Ok-true.field-0 (c.args.key.now, v) (entry_at c.args.key.now (contents_of (pages_of old)).records)) (sym c.as_slice.ensures.value)
    (value_found (working_array (pages_of old)) c.args.key.now c.get.new.value.items (contents_of (pages_of old)).records c.in-Ok-true.field-0 held (c.in-Ok-true.ensures.found sound.faithful (contents_of (pages_of old)).records held))))

pub returns-in-Ok-false : goal.returns-in-Ok-false
returns-in-Ok-false g c =
    let old = c.args.self.now in
    let new : TreeStore g.row.D.Denot g.D.Device = record old { pages = c.get.new.pages; value = c.get.new.value } in
    let read = has_read old new c.in-Ok-false.ensures.preserved (λ faithful l. (c.in-Ok-false.ensures.only_reads faithful).same l) refl refl (record { fulls = refl; failures = refl }) in
    finds_none g.met.D.Device.only_now g.met.D.Device.content_left old new c.if-self.false read (λ sound. c.in-Ok-false.ensures.works) _ c.args.out.now
    (λ sound held. none_found _ c.in-Ok-false.field-0 _ c.args.out.now c.in-Ok-false.field-0-test
    (value_found (working_array (pages_of old)) c.args.key.now c.get.new.value.items (contents_of (pages_of old)).records c.in-Ok-false.field-0 held (c.in-Ok-false.ensures.found sound.faithful (contents_of (pages_of old)).records held)))

pub returns-in-Err : goal.returns-in-Err
returns-in-Err g c =
    let old = c.args.self.now in
    let mid : TreeStore g.row.D.Denot g.D.Device = record old { pages = c.get.new.pages; value = c.get.new.value } in
    let read = has_read old mid c.in-Err.ensures.preserved (λ faithful l. (c.in-Err.ensures.only_reads faithful).same l) refl refl (record { fulls = refl; failures = refl }) in
    reads_fault g.met.D.Device.only_now g.met.D.Device.content_left old mid c.refuse_read.new.self c.if-self.false read c.in-Err.fault c.refuse_read.result c.refuse_read.ensures c.in-Err.ensures.faults
    (λ sound held. c.in-Err.ensures.found sound.faithful (contents_of (pages_of old)).records held) _ c.args.out.now
