use Rattle.std.proofs.Common.{◌≡◌, ℕ, Some, Err, refl, ap, sym, subst, ◌∙◌, inl, inr, arith}
use Rattle.std.proofs.Math.Path.{fun_ext}
use Rattle.std.proofs.lemmas.Result.{err_from_is_err_and}
use Rattle.sector_device.specs.Device.{Image, history_none, history_joined}
use Rattle.cow_pages.specs.Held.{IsSettled}
use Rattle.cow_pages.specs.Opening.{IsRootFound}
use Rattle.cow_pages.specs.Image.{first_fault, fault_of_image, fault_of_root}
use Rattle.cow_pages.specs.declared.open.OpenFault.TheVariants.{Device}
use Rattle.cow_pages.specs.ReadingLaws.{reads_joined}
use Rattle.cow_pages.specs.PreservedLaws.{failed_later}
use Rattle.cow_pages.proofs.Reading.{reads_none, synced_along}
use Rattle.cow_pages.proofs.Loading.{device_given, memory_given, none_given, named_device, named_for, named_after, given_back, named_same, first_of_image, first_of_root, spelled_same, settled_found}
use Rattle.cow_pages.proofs.open.load.Given.{Over}
use Rattle.cow_pages.proofs.open.load.Goals.{In-Some, In_ok-root}
use Rattle.cow_pages.proofs.Answered.{never_ok}
use Rattle.cow_pages.proofs.open.load.Goals as goal

-- where the size is one that a database may have, the first fault is one of the root sectors
of_sectors : (g : Over) (c : In-Some g) → first_fault (g.D.Device.state c.args.device.now).sectors (g.D.Device.state c.args.device.now).content ≡ fault_of_image c.in-Some.pages (g.D.Device.state c.args.device.now).content
of_sectors g c =
    let d = g.D.Device.state c.args.device.now in
    let size = c.in-Some.ensures.some in
    let sectors : c.sectors.result ≡ d.sectors = c.sectors.ensures in
    subst (λ (n : ℕ). first_fault n d.content ≡ fault_of_image c.in-Some.pages d.content) sectors (first_of_image c.sectors.result c.in-Some.pages d.content size.0 size.1)

-- and where these give a root, one of its map, which is read after them
of_root : (g : Over) (c : In_ok-root g) → first_fault (g.D.Device.state c.args.device.now).sectors (g.D.Device.state c.args.device.now).content ≡ fault_of_image c.in-Some.pages (g.D.Device.state c.args.device.now).content
    → (g.D.Device.state c.args.device.now).faithful
    → first_fault (g.D.Device.state c.args.device.now).sectors (g.D.Device.state c.args.device.now).content ≡ fault_of_root c.in_ok-root.root.pages (g.D.Device.state c.read_roots.new.device).content (Some c.in_ok-root.root)
of_root g c whole first =
    let d = g.D.Device.state c.args.device.now in
    let mid = g.D.Device.state c.read_roots.new.device in
    let root = c.in_ok-root.root in
    let same : mid.content ≡ d.content = fun_ext (c.read_roots.ensures.reads first).content in
    let part = first_of_root c.in-Some.pages d.content c.read_roots.new.even c.read_roots.new.odd root (sym (c.in_ok-read_roots.ensures.even first)) (sym (c.in_ok-read_roots.ensures.odd first)) c.in_ok-root.ensures.found in
    whole ∙ part ∙ sym (ap (λ (image : Image). fault_of_root root.pages image (Some root)) same)

pub returns-in_err-root-clause-fault : goal.returns-in_err-root-clause-fault
returns-in_err-root-clause-fault g c first =
    let d = g.D.Device.state c.args.device.now in
    let is = c.in_err-root.ensures.found d.content (sym (c.in_ok-read_roots.ensures.even first)) (sym (c.in_ok-read_roots.ensures.odd first)) in
    given_back c.from_residual-in_err-root.result c.in_err-root.field-0.0 (first_fault d.sectors d.content)
    (err_from_is_err_and c.from_residual-in_err-root.result c.from_residual-in_err-root.ensures.1) (named_for c.in_err-root.field-0.0 (first_fault d.sectors d.content) (λ memory. c.in_err-root.ensures.memory (ap Err memory)) (of_sectors g (goal.at.returns-in_err-root-clause-fault g c).In-Some ∙ is))

pub returns-in_err-root-clause-cause : goal.returns-in_err-root-clause-cause
returns-in_err-root-clause-cause g c is =
    let device : c.in_err-root.field-0.0 ≡ Device = device_given c.from_residual-in_err-root.result c.in_err-root.field-0.0 (err_from_is_err_and c.from_residual-in_err-root.result c.from_residual-in_err-root.ensures.1) is in
    absurd (c.in_err-root.ensures.content (ap Err device))

pub returns-in_err-durable-clause-reads : goal.returns-in_err-durable-clause-reads
returns-in_err-durable-clause-reads g c first =
    reads_joined _ _ (g.D.Device.state c.read_map.new.device) c.read_roots.ensures.history (c.read_roots.ensures.reads first) (c.read_map.ensures.reads (c.read_roots.ensures.history.faithful first))

pub returns-in_err-durable-clause-fault : goal.returns-in_err-durable-clause-fault
returns-in_err-durable-clause-fault g c first =
    let d = g.D.Device.state c.args.device.now in
    let mid = g.D.Device.state c.read_roots.new.device in
    let root = c.in_ok-root.root in
    let named = c.in_err-durable.ensures.fault (c.read_roots.ensures.history.faithful first) in
    let at = goal.at.returns-in_err-durable-clause-fault g c in
    given_back c.from_residual-in_err-durable.result c.in_err-durable.field-0.0 (first_fault d.sectors d.content)
    (err_from_is_err_and c.from_residual-in_err-durable.result c.from_residual-in_err-durable.ensures.1)
    (named_same c.in_err-durable.field-0.0 (first_fault d.sectors d.content) (fault_of_root root.pages mid.content (Some root))
    (of_root g at.In_ok-root (of_sectors g at.In-Some) first) named)

pub returns-in_err-arrange-clause-fault : goal.returns-in_err-arrange-clause-fault
returns-in_err-arrange-clause-fault g c first =
    let d = g.D.Device.state c.args.device.now in
    let at = goal.at.returns-in_err-arrange-clause-fault g c in
    let none = of_root g at.In_ok-root (of_sectors g at.In-Some) first ∙ c.in_ok-durable.ensures.fault (c.read_roots.ensures.history.faithful first) in
    let r = c.from_residual-in_err-arrange.result in
    let p = err_from_is_err_and r c.from_residual-in_err-arrange.ensures.1 in
    given_back r p.0 (first_fault d.sectors d.content) (p.0, p.1, refl) (named_after p.0 (first_fault d.sectors d.content) (inr p.2) (inl none))

pub returns-in_err-arrange-clause-reads : goal.returns-in_err-arrange-clause-reads
returns-in_err-arrange-clause-reads g c first =
    reads_joined _ _ (g.D.Device.state c.read_map.new.device) c.read_roots.ensures.history (c.read_roots.ensures.reads first) (c.read_map.ensures.reads (c.read_roots.ensures.history.faithful first))

pub returns-clause-reads : goal.returns-clause-reads
returns-clause-reads g c first =
    reads_joined _ _ (g.D.Device.state c.read_map.new.device) c.read_roots.ensures.history (c.read_roots.ensures.reads first) (c.read_map.ensures.reads (c.read_roots.ensures.history.faithful first))

pub returns-clause-settled : goal.returns-clause-settled
returns-clause-settled g c first =
    let e = g.D.Device.state c.read_map.new.device in
    let mid = g.D.Device.state c.read_roots.new.device in
    let root = c.in_ok-root.root in
    let size = c.in-Some.ensures.some in
    let made = c.in_ok-arrange.ensures in
    let reads = c.read_map.ensures.reads (c.read_roots.ensures.history.faithful first) in
    let before = c.read_roots.ensures.reads first in
    let synced = synced_along mid e c.read_map.ensures.history reads (c.in_ok-read_roots.ensures.synced first) in
    let even : e.content 0 ≡ c.read_roots.new.even = reads.content 0 ∙ before.content 0 ∙ sym (c.in_ok-read_roots.ensures.even first) in
    let odd : e.content 1 ≡ c.read_roots.new.odd = reads.content 1 ∙ before.content 1 ∙ sym (c.in_ok-read_roots.ensures.odd first) in
    let found : IsRootFound c.in-Some.pages (e.content 0) (e.content 1) root = rw (even, odd) c.in_ok-root.ensures.found in
    let spelled = spelled_same e.content mid.content root.maps c.in_ok-durable.durable.items reads.content (c.in_ok-durable.ensures.spelled (c.read_roots.ensures.history.faithful first)) in
    let settled : IsSettled e root c.in_ok-durable.durable.items = settled_found e c.in-Some.pages root c.in_ok-durable.durable.items
    (c.read_map.ensures.history.sectors ∙ c.read_roots.ensures.history.sectors ∙ sym c.sectors.ensures ∙ size.1) (omega (arith, size.2)) synced found spelled c.in_ok-durable.ensures.map.sound in
    rw (made.root, made.durable) settled

pub returns-clause-fault : goal.returns-clause-fault
returns-clause-fault g c first =
    let at = goal.at.returns-clause-fault g c in
    of_root g at.In_ok-root (of_sectors g at.In-Some) first ∙ c.in_ok-durable.ensures.fault (c.read_roots.ensures.history.faithful first)

pub returns-in_default-clause-reads : goal.returns-in_default-clause-reads
returns-in_default-clause-reads g c first = reads_none _ (g.met.D.Device.only_now c.args.device.now first)

pub returns-in_err-read_roots-clause-fault : goal.returns-in_err-read_roots-clause-fault
returns-in_err-read_roots-clause-fault g c first =
    let r = c.from_residual.result in
    let p = err_from_is_err_and r c.from_residual.ensures.1 in
    given_back r p.0 _ (p.0, p.1, refl) (named_device p.0 _ p.2)

pub returns-in_err-read_roots-clause-cause : goal.returns-in_err-read_roots-clause-cause
returns-in_err-read_roots-clause-cause g c is = c.in_err-read_roots.ensures.cause

pub returns-in_err-durable-clause-history : goal.returns-in_err-durable-clause-history
returns-in_err-durable-clause-history g c =
    history_joined _ _ (g.D.Device.state c.read_map.new.device) c.read_roots.ensures.history c.read_map.ensures.history

pub returns-in_err-durable-clause-cause : goal.returns-in_err-durable-clause-cause
returns-in_err-durable-clause-cause g c is =
    let r = c.from_residual-in_err-durable.result in
    let device = device_given r c.in_err-durable.field-0.0 (err_from_is_err_and r c.from_residual-in_err-durable.ensures.1) is in
    failed_later _ _ (g.D.Device.state c.read_map.new.device) c.read_roots.ensures.history c.read_map.ensures.history (c.in_err-durable.ensures.cause (ap Err device))

pub returns-in_err-arrange-clause-history : goal.returns-in_err-arrange-clause-history
returns-in_err-arrange-clause-history g c =
    history_joined _ _ (g.D.Device.state c.read_map.new.device) c.read_roots.ensures.history c.read_map.ensures.history

pub returns-in_err-arrange-clause-cause : goal.returns-in_err-arrange-clause-cause
returns-in_err-arrange-clause-cause g c is =
    let r = c.from_residual-in_err-arrange.result in
    memory_given r (err_from_is_err_and r c.from_residual-in_err-arrange.ensures.1) is

pub returns-clause-history : goal.returns-clause-history
returns-clause-history g c =
    history_joined _ _ (g.D.Device.state c.read_map.new.device) c.read_roots.ensures.history c.read_map.ensures.history

pub returns-in_default-clause-history : goal.returns-in_default-clause-history
returns-in_default-clause-history g c = history_none (g.D.Device.state c.args.device.now)

pub returns-in_default-clause-sized : goal.returns-in_default-clause-sized
returns-in_default-clause-sized g c = tt

pub returns-in_default-clause-same : goal.returns-in_default-clause-same
returns-in_default-clause-same g c = tt

pub returns-in_default-clause-idle : goal.returns-in_default-clause-idle
returns-in_default-clause-idle g c = tt

pub returns-in_default-clause-settled : goal.returns-in_default-clause-settled
returns-in_default-clause-settled g c first = tt

pub returns-in_err-read_roots-clause-history : goal.returns-in_err-read_roots-clause-history
returns-in_err-read_roots-clause-history g c = c.read_roots.ensures.history

pub returns-in_err-read_roots-clause-reads : goal.returns-in_err-read_roots-clause-reads
returns-in_err-read_roots-clause-reads g c = c.read_roots.ensures.reads

pub returns-in_err-read_roots-clause-sized : goal.returns-in_err-read_roots-clause-sized
returns-in_err-read_roots-clause-sized g c = never_ok _ _ _ (err_from_is_err_and c.from_residual.result c.from_residual.ensures.1).1

pub returns-in_err-read_roots-clause-same : goal.returns-in_err-read_roots-clause-same
returns-in_err-read_roots-clause-same g c = never_ok _ _ _ (err_from_is_err_and c.from_residual.result c.from_residual.ensures.1).1

pub returns-in_err-read_roots-clause-idle : goal.returns-in_err-read_roots-clause-idle
returns-in_err-read_roots-clause-idle g c = never_ok _ _ _ (err_from_is_err_and c.from_residual.result c.from_residual.ensures.1).1

pub returns-in_err-read_roots-clause-settled : goal.returns-in_err-read_roots-clause-settled
returns-in_err-read_roots-clause-settled g c first = never_ok _ _ _ (err_from_is_err_and c.from_residual.result c.from_residual.ensures.1).1

pub returns-in_err-root-clause-history : goal.returns-in_err-root-clause-history
returns-in_err-root-clause-history g c = c.read_roots.ensures.history

pub returns-in_err-root-clause-reads : goal.returns-in_err-root-clause-reads
returns-in_err-root-clause-reads g c = c.read_roots.ensures.reads

pub returns-in_err-root-clause-sized : goal.returns-in_err-root-clause-sized
returns-in_err-root-clause-sized g c = never_ok _ _ _ (err_from_is_err_and c.from_residual-in_err-root.result c.from_residual-in_err-root.ensures.1).1

pub returns-in_err-root-clause-same : goal.returns-in_err-root-clause-same
returns-in_err-root-clause-same g c = never_ok _ _ _ (err_from_is_err_and c.from_residual-in_err-root.result c.from_residual-in_err-root.ensures.1).1

pub returns-in_err-root-clause-idle : goal.returns-in_err-root-clause-idle
returns-in_err-root-clause-idle g c = never_ok _ _ _ (err_from_is_err_and c.from_residual-in_err-root.result c.from_residual-in_err-root.ensures.1).1

pub returns-in_err-root-clause-settled : goal.returns-in_err-root-clause-settled
returns-in_err-root-clause-settled g c first = never_ok _ _ _ (err_from_is_err_and c.from_residual-in_err-root.result c.from_residual-in_err-root.ensures.1).1

pub returns-in_err-durable-clause-sized : goal.returns-in_err-durable-clause-sized
returns-in_err-durable-clause-sized g c = never_ok _ _ _ (err_from_is_err_and c.from_residual-in_err-durable.result c.from_residual-in_err-durable.ensures.1).1

pub returns-in_err-durable-clause-same : goal.returns-in_err-durable-clause-same
returns-in_err-durable-clause-same g c = never_ok _ _ _ (err_from_is_err_and c.from_residual-in_err-durable.result c.from_residual-in_err-durable.ensures.1).1

pub returns-in_err-durable-clause-idle : goal.returns-in_err-durable-clause-idle
returns-in_err-durable-clause-idle g c = never_ok _ _ _ (err_from_is_err_and c.from_residual-in_err-durable.result c.from_residual-in_err-durable.ensures.1).1

pub returns-in_err-durable-clause-settled : goal.returns-in_err-durable-clause-settled
returns-in_err-durable-clause-settled g c first = never_ok _ _ _ (err_from_is_err_and c.from_residual-in_err-durable.result c.from_residual-in_err-durable.ensures.1).1

pub returns-in_err-arrange-clause-sized : goal.returns-in_err-arrange-clause-sized
returns-in_err-arrange-clause-sized g c = never_ok _ _ _ (err_from_is_err_and c.from_residual-in_err-arrange.result c.from_residual-in_err-arrange.ensures.1).1

pub returns-in_err-arrange-clause-same : goal.returns-in_err-arrange-clause-same
returns-in_err-arrange-clause-same g c = never_ok _ _ _ (err_from_is_err_and c.from_residual-in_err-arrange.result c.from_residual-in_err-arrange.ensures.1).1

pub returns-in_err-arrange-clause-idle : goal.returns-in_err-arrange-clause-idle
returns-in_err-arrange-clause-idle g c = never_ok _ _ _ (err_from_is_err_and c.from_residual-in_err-arrange.result c.from_residual-in_err-arrange.ensures.1).1

pub returns-in_err-arrange-clause-settled : goal.returns-in_err-arrange-clause-settled
returns-in_err-arrange-clause-settled g c first = never_ok _ _ _ (err_from_is_err_and c.from_residual-in_err-arrange.result c.from_residual-in_err-arrange.ensures.1).1

pub returns-clause-idle : goal.returns-clause-idle
returns-clause-idle g c = c.in_ok-arrange.ensures.idle

pub returns-clause-cause : goal.returns-clause-cause
returns-clause-cause g c is = none_given _ is
