use Rattle.std.proofs.Common.{sym, ◌∙◌, arith}
use Rattle.catalogue.proofs.Counting.{all_taken}
use Rattle.catalogue.proofs.numbers.least_free_id.Goals as goal

pub returns-clause-some : goal.returns-clause-some
returns-clause-some c few =
    let many = all_taken c.args.tables.now (λ n from to. sym (c.marks-marks.ensures n to) ∙ c.loop-id.invariant n from (omega (arith, to, c.loop-id-test.false, c.loop-id.auto))) in
    absurd (omega (arith, few, many))
