use Rattle.std.proofs.Common.{ℕ, Err, ap, sym, subst}
use Rattle.cow_pages.specs.declared.open.OpenFault.TheVariants.{Damaged, Memory}
use Rattle.store.specs.declared.fault.Fault.{Fault}
use Rattle.journal_store.specs.Opening.{CannotOpen, IsReplayed, NotReplayed}
use Rattle.journal_store.proofs.Opened.{refused_on, pages_refused, refused_memory, refused_damaged, store_opened}
use Rattle.journal_store.proofs.stores.JournalStore.open_with.Goals as goal

pub returns-in_err-store : goal.returns-in_err-store
returns-in_err-store g c =
    let state = g.D.Device.state in
    let d = state c.args.device in
    refused_on d c.from_residual.result c.in_err-store.field-0.0 c.from_residual.ensures.1
    (pages_refused d (state c.read_behind_roots.new.device) c.read_behind_roots.ensures.history c.read_behind_roots.ensures.reads c.in_err-store.field-0.0.1 (state c.in_err-store.field-0.0.0)
    c.in_err-store.ensures.opens)

pub returns-in-Ok : goal.returns-in-Ok
returns-in-Ok g c =
    let state = g.D.Device.state in
    let sectors = c.read_behind_roots.new.sectors in
    store_opened (state c.args.device) (state c.read_behind_roots.new.device) c.read_behind_roots.ensures.history c.read_behind_roots.ensures.reads _ c.in_ok-store.ensures.opens sectors
    c.in_default.ensures.read c.in_default.ensures.synced (subst (λ (n : ℕ). IsReplayed n sectors c.in-Ok.replayed) c.number.ensures c.in-Ok.ensures.read)

pub returns-in-Err-Memory : goal.returns-in-Err-Memory
returns-in-Err-Memory g c =
    let state = g.D.Device.state in
    let d = state c.args.device in
    subst (λ (x : g.row.D.Denot). CannotOpen d Memory (state x)) (sym c.into_device.ensures)
    (refused_memory d (state c.read_behind_roots.new.device) c.read_behind_roots.ensures.history c.read_behind_roots.ensures.reads c.in_ok-store.store c.in_ok-store.ensures.opens
    c.read_behind_roots.new.sectors c.in_default.ensures.read)

pub returns-in-Err-Damaged : goal.returns-in-Err-Damaged
returns-in-Err-Damaged g c =
    let state = g.D.Device.state in
    let d = state c.args.device in
    subst (λ (x : g.row.D.Denot). CannotOpen d Damaged (state x)) (sym c.into_device-in-Err-Damaged.ensures)
    (refused_damaged d (state c.read_behind_roots.new.device) c.read_behind_roots.ensures.history c.read_behind_roots.ensures.reads c.in_ok-store.store c.in_ok-store.ensures.opens
    c.read_behind_roots.new.sectors c.in_default.ensures.read
    (subst (λ (n : ℕ). NotReplayed n c.read_behind_roots.new.sectors) c.number.ensures (c.in-Err-Damaged.ensures.damaged (ap (λ (f : Fault). Err f) c.in-Err-Damaged.field-0-is))))
