use Rattle.std.proofs.Common.{refl, sym, subst}
use Rattle.transactions.specs.Views.{HasLeast}
use Rattle.transactions.proofs.merge.Merge.from_key.Goals as goal

pub returns-clause-merge : goal.returns-clause-merge
returns-clause-merge c es = record {
  from = c.args.key.now;
  ahead = refl;
  least = subst (λ o. HasLeast c.args.key.now o c.args.lists.now) (sym c.in_ok-copied.ensures) c.least_change.ensures;
  records_are = refl;
}
