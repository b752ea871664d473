use Rattle.std.proofs.Common.{◌≡◌, inl, inr, length, refl, ap, ◌∙◌, arith}
use Rattle.transactions.specs.Views.{latest}
use Rattle.transactions.proofs.Latest.{only_given_back, only_latest}
use Rattle.transactions.proofs.changes.ChangeLists.commit_to.Goals as goal

-- the only list is committed
pub returns-then-len-eq1-clause-commits : goal.returns-then-len-eq1-clause-commits
returns-then-len-eq1-clause-commits g c =
    let lists = c.self.inside.lists in
    let one : length lists.items ≡ 1 = omega (arith, c.if-len-eq1.true, c.len.ensures, lists.ok) in
    inr (
      c.index_mut.result.now,
      λ key. only_latest lists.items c.index_mut.result.now key one c.index_mut.ensures.value ∙ ap (latest key) c.self.view_is,
      c.commit.ensures.commits,
    )

pub returns-then-len-eq1-clause-given_back : goal.returns-then-len-eq1-clause-given_back
returns-then-len-eq1-clause-given_back g c =
    let lists = c.self.inside.lists in
    let one : length lists.items ≡ 1 = omega (arith, c.if-len-eq1.true, c.len.ensures, lists.ok) in
    only_given_back c.commit.result lists.items c.args.self.now c.index_mut.result.now c.commit.new.batch one c.index_mut.ensures.value c.self.view_is c.commit.ensures.given_back

-- the lists in one are
pub returns-in-Ok-clause-commits : goal.returns-in-Ok-clause-commits
returns-in-Ok-clause-commits g c = inr (c.in-Ok.joined, c.in-Ok.ensures, c.commit-in-Ok.ensures.commits)

-- memory was refused
pub returns-in-Err-clause-commits : goal.returns-in-Err-clause-commits
returns-in-Err-clause-commits g c = inl (refl, refl)
