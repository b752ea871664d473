use Rattle.std.proofs.Common.{◌≡◌, inl, inr, ⊎_elim, Err, List, ap, sym, subst, ◌∙◌, arith}
use Rattle.store.specs.Contents.{changed_by_batch}
use Rattle.store.specs.Records.{Changes}
use Rattle.store.specs.Store.{Commits, stored}
use Rattle.store.specs.declared.fault.StoreFault.{StoreFault}
use Rattle.transactions.specs.Views.{applied_all}
use Rattle.journal_store.specs.Stores.{journal_state}
use Rattle.journal_store.proofs.InTurn.{full_keeps, commits_later}
use Rattle.journal_store.proofs.Rooms.{contains_itself, contains_later, room_since, two_roots}
use Rattle.journal_store.proofs.stores.JournalStore.commit_to_pages.Goals as goal

-- behind what waits
pub returns-then-waits_under-clause-commits : goal.returns-then-waits_under-clause-commits
returns-then-waits_under-clause-commits g c =
    let s = c.args.self.now in
    let mid = c.checkpoint.new.self in
    let after = changed_by_batch c.args.batch.now (stored (journal_state s)) in
    let under = c.waits_under.ensures.waits c.if-waits_under.true in
    let first = subst (λ (f : StoreFault). Commits (Err f) after (journal_state s) (journal_state mid)) c.in-Err-Full.field-0-is c.in-Err-Full.ensures.commits in
    commits_later _ c.args.batch.now (journal_state s) (journal_state mid) _ c.requires
    (full_keeps after (journal_state s) (journal_state mid) (omega (arith, under.0, under.1, c.number-number.ensures)) first) c.checkpoint_apart.ensures.commits

pub returns-then-waits_under-clause-room : goal.returns-then-waits_under-clause-room
returns-then-waits_under-clause-room g c sound full =
    let s = c.args.self.now in
    let mid = c.checkpoint.new.self in
    let after = changed_by_batch c.args.batch.now (stored (journal_state s)) in
    let under = c.waits_under.ensures.waits c.if-waits_under.true in
    let first = subst (λ (f : StoreFault). Commits (Err f) after (journal_state s) (journal_state mid)) c.in-Err-Full.field-0-is c.in-Err-Full.ensures.commits in
    let since = contains_later s mid sound c.requires (full_keeps after (journal_state s) (journal_state mid) (omega (arith, under.0, under.1, c.number-number.ensures)) first) c.checkpoint.ensures.history in
    inl (room_since c.args.batch.now s mid since c.in-Err-Full.ensures.waits (c.checkpoint_apart.ensures.room since.sound full))

pub returns-then-waits_under-clause-anew : goal.returns-then-waits_under-clause-anew
returns-then-waits_under-clause-anew g c sound =
    two_roots c.checkpoint_apart.result _ _ _ _ (c.in-Err-Full.ensures.root sound (ap (λ (f : StoreFault). Err f) c.in-Err-Full.field-0-is)) c.checkpoint_apart.ensures.anew c.checkpoint_apart.ensures.cleared

pub returns-in-Ok-clause-commits : goal.returns-in-Ok-clause-commits
returns-in-Ok-clause-commits g c = c.in-Ok.ensures.commits

-- nothing waits, or no number in the journal is above the root's
pub returns-else-waits_under-clause-room : goal.returns-else-waits_under-clause-room
returns-else-waits_under-clause-room g c sound full =
    let s = c.args.self.now in
    let mid = c.checkpoint.new.self in
    let after = changed_by_batch c.args.batch.now (stored (journal_state s)) in
    let first = subst (λ (f : StoreFault). Commits (Err f) after (journal_state s) (journal_state mid)) c.in-Err-Full.field-0-is c.in-Err-Full.ensures.commits in
    let is_full = ap (λ (f : StoreFault). Err f) c.in-Err-Full.field-0-is in
    let root = c.in-Err-Full.ensures.root sound is_full in
    let had = c.in-Err-Full.ensures.room sound is_full in
    let number : (journal_state mid).number ≡ (journal_state s).number = (first.at_once sound c.requires).committed.number in
    ⊎_elim
    (λ nothing. inl (record {
      later = s;
      since = contains_itself s sound;
      none = inl (λ records in_order. ap (λ (ws : List Changes). applied_all ws records) (sym c.in-Err-Full.ensures.waits) ∙ nothing records in_order, had);
    }))
    (λ low. inr (omega (arith, low, root, c.in-Err-Full.ensures.top), had))
    (c.waits_under.ensures.none (first.history.sound sound) (first.failed ∙ c.requires) (c.number-number.ensures ∙ sym number) c.if-waits_under.false)
