-- What walks over a table cost, and what its rows do.
use Rattle.std.proofs.Common.{◌≡◌, ◌≤◌, ◌+◌, ◌∙◌, ℕ, List, Option, None, Bor, refl, ap, sym, subst}
use Rattle.store.specs.Records.{Records}
use Rattle.store.specs.Walks.{span}
use Rattle.row_codec.specs.Rows.{row_prefix}
use Rattle.key_ranges.specs.declared.range.KeyRange.{KeyRange}
use Rattle.table_rows.specs.declared.target.Target.{Target}
use Rattle.table_rows.specs.Ranged.{records_of}
use Rattle.table_rows.specs.Costs.{walk_cost, found_cost, cost_of}
use Rattle.table_rows.proofs.Ranging.{whole_span}

-- a walk over the whole table, where the target has no range
pub whole_cost : (target : Target) (all : List ℕ) (records : Records) → target.range ≡ None → all ≡ row_prefix target.id → walk_cost 1 (span all all records) ≡ cost_of target records
whole_cost target all records none is =
    ap (walk_cost 1) (whole_span target.id target.range all records none is) ∙ ap (λ (range : Option (Bor KeyRange)). found_cost range (records_of target records)) (sym none)
