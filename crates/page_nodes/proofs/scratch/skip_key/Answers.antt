use Rattle.std.proofs.Common.{refl, arith}
use Rattle.page_nodes.proofs.Scan.{unread, skips_none, skips_less, skips_same}
use Rattle.page_nodes.proofs.scratch.skip_key.Goals as goal

pub returns-then-left-eq0-clause-skipped : goal.returns-then-left-eq0-clause-skipped
returns-then-left-eq0-clause-skipped c cells after are count = skips_none c.args.kind c.args.bytes.now c.args.key.now c.args.at cells after are (omega (arith, count, c.if-left-eq0.true))

pub returns-in_err-cell-clause-skipped : goal.returns-in_err-cell-clause-skipped
returns-in_err-cell-clause-skipped c cells after are count =
    absurd (unread c.args.kind c.args.bytes.now c.args.at cells after are (omega (arith, count, c.if-left-eq0.false)) (c.in_err-cell.ensures.none refl))

pub returns-then-is_less-clause-skipped : goal.returns-then-is_less-clause-skipped
returns-then-is_less-clause-skipped c cells after are count =
    let view = c.in_ok-cell.cell in
    skips_less c.args.kind c.args.bytes.now c.args.key.now c.args.at c.args.left cells after view.key.now view.payload.now view.end are count (omega (arith, c.if-left-eq0.false)) c.in_ok-cell.ensures.found c.if-is_less.ensures

pub returns-clause-skipped : goal.returns-clause-skipped
returns-clause-skipped c cells after are count =
    let view = c.in_ok-cell.cell in
    skips_same c.args.kind c.args.bytes.now c.args.key.now c.args.at c.args.left cells after view.key.now view.payload.now view.end are count (omega (arith, c.if-left-eq0.false)) c.in_ok-cell.ensures.found c.if-is_less.ensures
