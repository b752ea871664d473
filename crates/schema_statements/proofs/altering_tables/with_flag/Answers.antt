use Rattle.std.proofs.Common.{true, false, sym, subst}
use Rattle.catalogue.specs.Tables.{AreParts}
use Rattle.schema_statements.proofs.TableParts.{flagged}
use Rattle.schema_statements.proofs.altering_tables.with_flag.Goals as goal
use Rattle.schema_statements.proofs.altering_tables.with_flag.Goals.{in-Enable, in-Disable, in-Force, in-NoForce}

pub with_parts-requires-clause-parts : goal.with_parts-requires-clause-parts
with_parts-requires-clause-parts c =
    let old = c.in_ok-parts.parts in
    let are = c.in_ok-parts.ensures.parts in
    elim c.match-change.branch [
      | in-Enable w ↦ subst AreParts (sym w.parts-is) (flagged old true old.forced are)
      | in-Disable w ↦ subst AreParts (sym w.parts-is) (flagged old false old.forced are)
      | in-Force w ↦ subst AreParts (sym w.parts-is) (flagged old old.row_security true are)
      | in-NoForce w ↦ subst AreParts (sym w.parts-is) (flagged old old.row_security false are)
    ]
