use Rattle.std.proofs.Common.{◌∙◌, option_to_list, refl}
use Rattle.std.specs.List.{list_any}
use Rattle.catalogue.specs.Grants.{has_bit}
use Rattle.gathering.specs.Reads.{names}
use Rattle.planner.specs.Changed.{where_of}
use Rattle.planner.specs.Reading.{lacks}
use Rattle.planner.proofs.ReadColumns.{either, first_so, then_so}
use Rattle.planner.proofs.reading.changes_lack.Goals as goal

pub returns-then-any_names : goal.returns-then-any_names
returns-then-any_names c =
    let more = option_to_list (where_of c.args.condition.now) in
    let kind = lacks (has_bit c.args.mask) 0 in
    first_so c.any_names.result (list_any (names kind) more) c.if-any_names.true ∙ either kind c.args.values.now more c.any_names.result (list_any (names kind) more) c.any_names.ensures refl

pub returns-else-any_names : goal.returns-else-any_names
returns-else-any_names c =
    then_so c.any_names.result c.condition_names.result c.if-any_names.false
    ∙ either (lacks (has_bit c.args.mask) 0) c.args.values.now (option_to_list (where_of c.args.condition.now)) c.any_names.result c.condition_names.result c.any_names.ensures c.condition_names.ensures
