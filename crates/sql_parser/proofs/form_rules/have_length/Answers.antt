use Rattle.std.proofs.Common.{arith, rules, length, ◌≡◌}
use Rattle.sql_parser.proofs.Loops.{all_more, all_done}
use Rattle.sql_parser.proofs.form_rules.have_length.Goals as goal

pub loop-row-preserved : goal.loop-row-preserved
loop-row-preserved c = all_more (λ row. length row ≡ c.args.width) _ _ _ c.row-item.is (omega arith) c.loop-row.invariant (search rules)

pub returns : goal.returns
returns c = let h = all_done (λ row. length row ≡ c.args.width) c.args.rows.now c.loop-row.row-index c.loop-row-test.false c.loop-row.invariant in (λ _. h, λ _. search rules)
