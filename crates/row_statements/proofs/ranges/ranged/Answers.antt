use Rattle.std.proofs.Common.{refl, arith}
use Rattle.expressions.specs.Rows.{names_of}
use Rattle.key_ranges.specs.BoxCode.{role_names}
use Rattle.row_statements.proofs.Ranging.{one_range, one_ranged}
use Rattle.row_statements.proofs.ranges.ranged.Goals as goal

pub loop-index-preserved : goal.loop-index-preserved
loop-index-preserved c =
    let users = names_of c.args.users.now in
    let sources = c.args.sources.now in
    let conditions = c.args.conditions.now in
    let i = c.loop-index.index in
    let source = c.index-sources-index.result in (
      one_range users (role_names c.args.users.now) conditions sources c.loop-index.ranged c.push.new.self i source _ c.in_ok-push.ensures.ok c.loop-index.invariant.0 (omega arith) c.index-sources-index.is c.in_ok-range.ensures.exact,
      one_ranged users conditions sources c.loop-index.ranged c.push.new.self i source _ c.in_ok-push.ensures.ok c.loop-index.invariant.1 (omega arith) c.index-sources-index.is refl c.in_ok-range.ensures.safe,
    )
