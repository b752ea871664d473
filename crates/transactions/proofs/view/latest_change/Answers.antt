use Rattle.std.proofs.Common.{◌≡◌, ℕ, None, drop, sym, ap, ◌∙◌, subst, arith}
use Rattle.std.specs.Option.{option_copied}
use Rattle.transactions.specs.Views.{latest}
use Rattle.transactions.proofs.Latest.{one_more_behind, nothing_more, change_found}
use Rattle.transactions.proofs.view.latest_change.Goals as goal

pub loop-at-preserved : goal.loop-at-preserved
loop-at-preserved c =
    let lists = c.args.lists.now in
    let front = one_more_behind lists c.loop-at.at c.index-lists-at.result c.loop-at-test.true c.loop-at.invariant.inside c.index-lists-at.is in
    record {
      inside = omega arith;
      none = nothing_more c.args.key.now lists c.loop-at.at c.index-lists-at.result front c.loop-at.invariant.none (sym (ap option_copied c.in_default.is) ∙ c.find.ensures);
    }

pub returns-in-Some : goal.returns-in-Some
returns-in-Some c =
    let lists = c.args.lists.now in
    let front = one_more_behind lists c.loop-at.at c.index-lists-at.result c.loop-at-test.true c.loop-at.invariant.inside c.index-lists-at.is in
    change_found c.args.key.now lists c.loop-at.at c.index-lists-at.result c.in-Some.change.now front c.loop-at.invariant.none (sym (ap option_copied c.in-Some.is) ∙ c.find.ensures)

pub returns : goal.returns
returns c =
    let none_left : c.loop-at.at ≡ 0 = omega arith in
    subst (λ (n : ℕ). latest c.args.key.now (drop n c.args.lists.now) ≡ None) none_left c.loop-at.invariant.none
