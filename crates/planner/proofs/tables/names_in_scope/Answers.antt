use Rattle.std.proofs.Common.{◌∙◌, ap, sym, map}
use Rattle.std.proofs.Math.Seq.{take_all}
use Rattle.abstract_database.specs.Queries.{name_in_scope}
use Rattle.planner.proofs.Stages.{map_map}
use Rattle.planner.proofs.tables.names_in_scope.Goals as goal

pub returns : goal.returns
returns c =
    let references = c.args.references.now in
    c.loop-reference.invariant
    ∙ ap (map (λ r. name_in_scope r.now)) (take_all c.loop-reference.reference-index references c.loop-reference-test.false)
    ∙ sym (map_map name_in_scope (λ r. r.now) references)
