use Rattle.std.proofs.Common.{◌≡◌, ◌+◌, ◌/◌, ℕ, true, List, Option, Some, None, length, sym, ap, subst, ◌∙◌, arith}
use Rattle.std.specs.Prelude.{IfSome, is_some}
use Rattle.store.specs.Records.{Changes}
use Rattle.journal_store.specs.Room.{changes_in, AreEnough}
use Rattle.journal_store.specs.Stores.{device_under}
use Rattle.journal_store.proofs.Counted.{enough_for}
use Rattle.journal_store.proofs.stores.JournalStore.has_pages_for.Goals as goal

-- what is there, where something is
there_is : (found : Option ℕ) (P : ℕ → Type 0) → is_some found ≡ true → IfSome found P → (n : ℕ) × P n
there_is None P some is = absurd (cc)
there_is (Some n) P some is = (n, is)

pub returns-in-Some-left_after_all : goal.returns-in-Some-left_after_all
returns-in-Some-left_after_all g c some =
    let left = there_is c.left_after.result (λ n. n + length c.args.batch.now ≡ c.in-Some-left_after_all.left) (sym c.is_some.ensures ∙ some) c.left_after.ensures in
    let waiting = ap (λ (lists : List Changes). changes_in lists) c.as_slice.ensures in
    let pages : c.sectors-pages.result / 8 ≡ (device_under c.args.self.now).sectors / 8
    = ap (λ (n : ℕ). n / 8) (c.sectors-pages.ensures ∙ ap (λ (d : g.row.D.Denot). (g.D.Device.state d).sectors) c.device.ensures) in
    record {
      free = c.free_pages.result;
      free_is = c.free_pages.ensures;
      enough = subst (λ (n : ℕ). AreEnough n c.free_pages.result (changes_in c.args.self.now.waiting + length c.args.batch.now)) pages
          (enough_for (c.sectors-pages.result / 8) c.free_pages.result c.in-Some.most (changes_in c.args.self.now.waiting + length c.args.batch.now) left.0 c.in-Some.ensures
          (omega (arith, left.1, c.in-Some-left_after_all.ensures, waiting)));
    }
