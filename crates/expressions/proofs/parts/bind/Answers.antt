use Rattle.std.proofs.Common.{rules}
use Rattle.expressions.proofs.PartLemmas.{unresolved, is_bound}
use Rattle.expressions.proofs.parts.bind.Goals as goal

pub returns-in_err-resolved : goal.returns-in_err-resolved
returns-in_err-resolved c =
    let m = unresolved c.args.parts.now c.in_err-resolved.field-0.0 c.in_err-resolved.ensures in
    search rules

pub returns : goal.returns
returns c = is_bound c.args.parts.now c.in_ok-resolved.resolved c.type_parts.result c.in_ok-resolved.ensures c.type_parts.ensures
