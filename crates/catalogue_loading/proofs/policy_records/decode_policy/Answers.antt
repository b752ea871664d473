use Rattle.std.proofs.Common.{◌≤◌, ◌<◌, ◌∙◌, sym, length, arith, rules}
use Rattle.catalogue_loading.proofs.PolicyRecordLemmas.{key_of, not_long, policy_whole, no_clauses}
use Rattle.catalogue_loading.proofs.policy_records.decode_policy.Goals as goal

pub returns-in_default : goal.returns-in_default
returns-in_default c p is = c.in_default.ensures p.name (c.key.ensures ∙ key_of c.args.id c.args.entry.now p is.spelled)

pub returns-then-value-gt-MAX_VALUE_LENGTH : goal.returns-then-value-gt-MAX_VALUE_LENGTH
returns-then-value-gt-MAX_VALUE_LENGTH c p is =
    let few : length c.args.entry.now.1 ≤ 1200 = not_long c.args.id c.args.table.now c.args.entry.now p is in
    let many : 1200 < length c.args.entry.now.1 = search rules in
    omega (arith, few, many)

pub returns-in-Ok-decode_clauses : goal.returns-in-Ok-decode_clauses
returns-in-Ok-decode_clauses c =
    let few : length c.args.entry.now.1 ≤ 1200 = search rules in
    policy_whole c.args.id c.in-Some.name.now c.in-Some-two_at.rest.now c.in-Ok-roles_at.front.1.now c.args.entry.now c.args.table.now c.in_ok-table.table c.in-Ok.name
    c.in-Some-two_at.kind c.in-Some-two_at.command c.in-Ok-roles_at.front.0 c.in-Ok-decode_clauses.using c.in-Ok-decode_clauses.check
    (sym c.key.ensures ∙ c.in-Some.ensures) few (sym c.value-2.ensures ∙ c.in-Some-two_at.ensures) c.in-Ok.ensures c.in_ok-table.ensures c.in-Ok-roles_at.ensures.0 c.in-Ok-decode_clauses.ensures

pub returns-in-Err-decode_clauses : goal.returns-in-Err-decode_clauses
returns-in-Err-decode_clauses c =
    no_clauses c.args.id c.in-Some-two_at.rest.now c.in-Ok-roles_at.front.1.now c.args.entry.now c.args.table.now c.in-Some-two_at.kind c.in-Some-two_at.command c.in-Ok-roles_at.front.0
    c.in-Err-decode_clauses.fault (sym c.value-2.ensures ∙ c.in-Some-two_at.ensures) c.in-Ok-roles_at.ensures.1 c.in-Err-decode_clauses.ensures
