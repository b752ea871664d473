use Rattle.std.proofs.Common.{inl, inr, Ok, Err, refl, ap, subst, List, arith}
use Rattle.store.specs.Contents.{changed_by_batch}
use Rattle.store.specs.Records.{Changes}
use Rattle.store.specs.Store.{Commits, stored}
use Rattle.transactions.specs.Views.{applied_all}
use Rattle.journal_store.specs.Room.{HadNoRoomFor}
use Rattle.journal_store.specs.Stores.{journal_state}
use Rattle.journal_store.proofs.InTurn.{nothing_keeps, commits_later, refused_alike}
use Rattle.journal_store.proofs.Rooms.{contains_itself, contains_later}
use Rattle.journal_store.proofs.stores.JournalStore.checkpoint_apart.Goals as goal

-- what waited is in the pages
pub returns-in-Ok-clause-commits : goal.returns-in-Ok-clause-commits
returns-in-Ok-clause-commits g c =
    let s = c.args.self.now in
    let mid = c.checkpoint.new.self in
    let first = subst (λ (none : Changes). Commits (Ok tt) (changed_by_batch none (stored (journal_state s))) (journal_state s) (journal_state mid)) c.new-nothing.ensures c.in-Ok.ensures.commits in
    commits_later _ c.args.batch.now (journal_state s) (journal_state mid) _ c.requires.works
    (nothing_keeps (journal_state s) (journal_state mid) (omega (arith, c.in-Ok.ensures.anew, c.in-Ok.ensures.top, c.requires.waits)) first) c.checkpoint-in-Ok.ensures.commits

pub returns-in-Ok-clause-room : goal.returns-in-Ok-clause-room
returns-in-Ok-clause-room g c sound full =
    let s = c.args.self.now in
    let mid = c.checkpoint.new.self in
    let first = subst (λ (none : Changes). Commits (Ok tt) (changed_by_batch none (stored (journal_state s))) (journal_state s) (journal_state mid)) c.new-nothing.ensures c.in-Ok.ensures.commits in
    let since = contains_later s mid sound c.requires.works
    (nothing_keeps (journal_state s) (journal_state mid) (omega (arith, c.in-Ok.ensures.anew, c.in-Ok.ensures.top, c.requires.waits)) first) c.checkpoint.ensures.history in
    record {
      later = mid;
      since = since;
      none = inl (λ records in_order. ap (λ (ws : List Changes). applied_all ws records) c.in-Ok.ensures.cleared, c.checkpoint-in-Ok.ensures.room since.sound full);
    }

pub returns-clause-commits : goal.returns-clause-commits
returns-clause-commits g c =
    let s = c.args.self.now in
    let mid = c.checkpoint.new.self in
    let first = subst (λ (none : Changes). Commits (Err c.in-Err.fault) (changed_by_batch none (stored (journal_state s))) (journal_state s) (journal_state mid)) c.new-nothing.ensures c.in-Err.ensures.commits in
    refused_alike c.in-Err.fault (stored (journal_state s)) _ (journal_state s) (journal_state mid) c.requires.works refl first

-- what waits has no room by itself
pub returns-clause-room : goal.returns-clause-room
returns-clause-room g c sound full =
    let s = c.args.self.now in
    record {
      later = s;
      since = contains_itself s sound;
      none = inr (refl, subst (λ (none : Changes). HadNoRoomFor none s) c.new-nothing.ensures (c.in-Err.ensures.room sound full));
    }
