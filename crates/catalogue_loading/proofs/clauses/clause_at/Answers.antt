use Rattle.std.proofs.Common.{◌≡◌, rules}
use Rattle.catalogue_loading.proofs.Written.{clause_read}
use Rattle.catalogue_loading.proofs.clauses.clause_at.Goals as goal

pub returns-in-Ok : goal.returns-in-Ok
returns-in-Ok c =
    let is_one : c.in-Some.tag.now ≡ 1 = search rules in
    let text = c.in-Some-counted_text_at.ensures in
    clause_read c.one_condition.ensures c.args.bytes.now c.in-Some.rest.now c.in-Some-counted_text_at.text.now c.in-Some-counted_text_at.rest.now c.in-Some.tag.now c.in-Ok.clause
    c.in-Some.ensures.cases.0 is_one text.found.0 text.found.1 text.found.2 text.only c.in-Ok.ensures
