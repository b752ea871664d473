use Rattle.std.proofs.Common.{◌≡◌, [], Ok, refl, sym, subst, ◌∙◌}
use Rattle.std.proofs.lemmas.Bool.{false≢true}
use Rattle.store.specs.Contents.{changed_by_batch}
use Rattle.store.specs.Records.{Changes}
use Rattle.store.specs.Store.{Commits, stored}
use Rattle.journal_store.specs.Stores.{journal_state}
use Rattle.journal_store.proofs.Records.{refused_closed, committed_nothing}
use Rattle.journal_store.proofs.stores.JournalStore.commit_lent.Goals as goal

pub returns-then-has_failed : goal.returns-then-has_failed
returns-then-has_failed g c =
    let failed = sym c.has_failed.ensures ∙ c.if-has_failed.true in
    record {
      commits = refused_closed g.met.D.Device.only_now c.args.self.now _ failed;
      empty = λ none works. absurd (false≢true (sym works ∙ failed));
      journal = record {
        room = λ sound full. absurd cc;
        rises = λ sound some. tt;
        still = λ had. (refl, refl);
      };
    }

pub returns-then-is_empty : goal.returns-then-is_empty
returns-then-is_empty g c =
    let s = c.args.self.now in
    let works = sym c.has_failed.ensures ∙ c.if-has_failed.false in
    let none : c.args.batch.now ≡ [] = c.is_empty.ensures.0 c.if-is_empty.true in
    record {
      commits = subst (λ (cs : Changes). Commits (Ok tt) (changed_by_batch cs (stored (journal_state s))) (journal_state s) (journal_state s)) (sym none) (committed_nothing g.met.D.Device.only_now s (stored (journal_state s)) works);
      empty = λ none worked. (refl, refl);
      journal = record {
        room = λ sound full. absurd cc;
        rises = λ sound some. absurd (some none);
        still = λ had. absurd (false≢true (sym works ∙ had));
      };
    }

pub returns : goal.returns
returns g c =
    let works = sym c.has_failed.ensures ∙ c.if-has_failed.false in
    record {
      commits = c.commit_some.ensures.commits;
      empty = λ none worked. absurd (false≢true (sym c.if-is_empty.false ∙ c.is_empty.ensures.1 none));
      journal = record {
        room = c.commit_some.ensures.room;
        rises = λ sound some. c.commit_some.ensures.rises sound;
        still = λ had. absurd (false≢true (sym works ∙ had));
      };
    }
