use Rattle.std.proofs.Common.{ap, ◌∙◌}
use Rattle.std.proofs.lemmas.Result.{IfOk-weaker}
use Rattle.stored_database.specs.Definitions.{TableDefinition}
use Rattle.schema_statements.proofs.PolicyTableParts.{less_is, less_parts}
use Rattle.schema_statements.proofs.policy_tables.without_policy.Goals as goal

pub with_parts-requires-clause-parts : goal.with_parts-requires-clause-parts
with_parts-requires-clause-parts c =
    less_parts c.in_ok-parts.parts c.args.table.now c.in_ok-parts.ensures.table c.in_ok-parts.ensures.parts c.args.name.now
    c.into_vec-policies.result.items c.from_vec.result c.into_vec-policies.ensures (c.from_vec.ensures ∙ c.drop_named.ensures)

pub with_parts-requires-clause-descriptors : goal.with_parts-requires-clause-descriptors
with_parts-requires-clause-descriptors c = ap (λ (t : TableDefinition). t.descriptors) c.in_ok-parts.ensures.table

pub returns : goal.returns
returns c =
    IfOk-weaker c.with_parts.result _ _
    (λ next is.
    is
    ∙ less_is c.in_ok-parts.parts c.args.table.now c.in_ok-parts.ensures.table c.in_ok-parts.ensures.parts c.args.name.now
    c.into_vec-policies.result.items c.from_vec.result c.into_vec-policies.ensures (c.from_vec.ensures ∙ c.drop_named.ensures))
    c.with_parts.ensures
