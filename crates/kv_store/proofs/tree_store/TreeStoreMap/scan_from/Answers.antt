use Rattle.std.proofs.Common.{refl, sym, subst}
use Rattle.page_tree.specs.Search.{key_of, value_of}
use Rattle.store.specs.Records.{Record, first_from, IsFound}
use Rattle.kv_store.specs.Contents.{contents_of}
use Rattle.kv_store.specs.TreeStore.{pages_of}
use Rattle.kv_store.proofs.Answering.{HasRead, copies, finds_none, reads_fault}
use Rattle.kv_store.proofs.Batches.{working_holds}
use Rattle.kv_store.proofs.Reading.{none_found, some_found, entry_found, pair_is}
use Rattle.kv_store.proofs.tree_store.TreeStoreMap.scan_from.Given.{Over}
use Rattle.kv_store.proofs.tree_store.TreeStoreMap.scan_from.Goals.{After-first_on}
use Rattle.kv_store.proofs.tree_store.TreeStoreMap.scan_from.Goals as goal

-- what the call leaves of the store
has_read : (g : Over) (c : After-first_on g) → HasRead c.args.self.now (record c.args.self.now { pages = c.first_on.new.pages; cursor = c.first_on.new.cursor })
has_read g c =
    let old = c.args.self.now in
    let is = c.first_on.ensures in
    record { preserved = is.preserved; working = λ faithful l. (is.only_reads faithful).same l; place = λ sound. (is.found sound.faithful (contents_of (pages_of old)).records (working_holds (contents_of (pages_of old)) (pages_of old) (sound.works c.if-self.false)) sound.place).1; has_failed = refl; counts = record { fulls = refl; failures = refl } }

pub returns-in-Ok-true : goal.returns-in-Ok-true
returns-in-Ok-true g c =
    let old = c.args.self.now in
    copies g.met.D.Device.only_now g.met.D.Device.content_left old (record old { pages = c.first_on.new.pages; cursor = c.first_on.new.cursor }) c.if-self.false (has_read g (goal.at.returns-in-Ok-true g c).After-first_on) (λ sound. c.in-Ok-true.ensures.works (sound.works c.if-self.false).is_open.has_not_failed) _ c.copy_to.result c.copy_to.new.out _ c.copy_to.ensures.found c.copy_to.ensures.memory
    (λ sound held. some_found _ c.in-Ok-true.field-0 _ c.in-Ok-true.field-0-test
    (subst (λ (r : Record). IsFound c.in-Ok-true.field-0 r (first_from c.args.key.now (contents_of (pages_of old)).records)) (sym (pair_is _ _ _ _ c.key.ensures c.value.ensures))
    (entry_found c.args.key.now (key_of c.first_on.new.cursor) (value_of c.first_on.new.cursor) (contents_of (pages_of old)).records c.in-Ok-true.field-0 (c.in-Ok-true.ensures.found sound.faithful (contents_of (pages_of old)).records held sound.place).0)))

pub returns-in-Ok-false : goal.returns-in-Ok-false
returns-in-Ok-false g c =
    let old = c.args.self.now in
    finds_none g.met.D.Device.only_now g.met.D.Device.content_left old (record old { pages = c.first_on.new.pages; cursor = c.first_on.new.cursor }) c.if-self.false (has_read g (goal.at.returns-in-Ok-false g c).After-first_on) (λ sound. c.in-Ok-false.ensures.works (sound.works c.if-self.false).is_open.has_not_failed) _ c.args.out.now
    (λ sound held. none_found _ c.in-Ok-false.field-0 _ c.args.out.now c.in-Ok-false.field-0-test
    (entry_found c.args.key.now (key_of c.first_on.new.cursor) (value_of c.first_on.new.cursor) (contents_of (pages_of old)).records c.in-Ok-false.field-0 (c.in-Ok-false.ensures.found sound.faithful (contents_of (pages_of old)).records held sound.place).0))

pub returns-in-Err : goal.returns-in-Err
returns-in-Err g c =
    let old = c.args.self.now in
    let read = has_read g (goal.at.returns-in-Err g c).After-first_on in
    reads_fault g.met.D.Device.only_now g.met.D.Device.content_left old (record old { pages = c.first_on.new.pages; cursor = c.first_on.new.cursor }) c.refuse_read.new.self c.if-self.false read c.in-Err.fault c.refuse_read.result c.refuse_read.ensures c.in-Err.ensures.faults
    (λ sound held. (c.in-Err.ensures.found sound.faithful (contents_of (pages_of old)).records held sound.place).0) _ c.args.out.now
