-- Changes in pieces, as their callers see them.
use Rattle.store.specs.Records.{Changes}
use Rattle.store.specs.Batch.{all_changes}
use Rattle.store.specs.declared.pieces.Pieces.{Pieces}

-- all of them
abbrev pub changes_of : Pieces → Changes
changes_of p = all_changes p.list.items
