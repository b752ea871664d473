use Rattle.std.proofs.Common.{◌∙◌, ap, sym, not}
use Rattle.abstract_database.specs.Needs.{columns_read}
use Rattle.catalogue.specs.Grants.{has_bit}
use Rattle.planner.specs.Changed.{expressions_in}
use Rattle.planner.proofs.ReadColumns.{read_covered, whole_covers}
use Rattle.planner.proofs.reading.covers_changes.Goals as goal

pub returns-then-is_whole : goal.returns-then-is_whole
returns-then-is_whole c = c.if-is_whole.true ∙ sym (whole_covers (has_bit c.args.mask) (sym c.is_whole.ensures ∙ c.if-is_whole.true) (columns_read 0 (expressions_in c.args.values.now c.args.condition.now)))

pub returns-else-is_whole : goal.returns-else-is_whole
returns-else-is_whole c = ap not c.changes_lack.ensures ∙ sym (read_covered (has_bit c.args.mask) 0 (expressions_in c.args.values.now c.args.condition.now))
