use Rattle.std.proofs.Common.{◌≡◌, ◌∙◌, ◌+◌, Bool, List, ℕ, false, if◌then◌else◌, length, sym, subst, true, ap}
use Rattle.table_rows.specs.Costs.{cost_of}
use Rattle.table_rows.specs.Ranged.{records_of}
use Rattle.table_rows.specs.Setting.{sets_key}
use Rattle.table_rows.proofs.change.update.Goals as goal

pub returns-else-sets_key-clause-changes : goal.returns-else-sets_key-clause-changes
returns-else-sets_key-clause-changes g c = λ s rows checked is h i f l.
    let columns = c.args.assignments.now.columns.now in
    let apart = sym (c.sets_key.ensures ∙ ap (λ (key : List ℕ). sets_key key columns) c.key.ensures.key) ∙ c.if-sets_key.false in
    c.update_in_place.ensures.changes s rows checked is apart h i f l

pub returns-then-sets_key-clause-cost : goal.returns-then-sets_key-clause-cost
returns-then-sets_key-clause-cost g c = λ s of.
    let target = c.args.target.now in
    let records = (g.M.Map.state c.args.records.now).map in
    let columns = c.args.assignments.now.columns.now in
    let sets : true ≡ sets_key target.columns.now.key columns = sym c.if-sets_key.true ∙ c.sets_key.ensures ∙ ap (λ (key : List ℕ). sets_key key columns) c.key.ensures.key in
    subst (λ (b : Bool). g.M.Map.cost c.args.records.now c.update_with_keys.new.records (if b then cost_of target records + length (records_of target records) else cost_of target records)) sets (c.update_with_keys.ensures.cost s of)

pub returns-else-sets_key-clause-cost : goal.returns-else-sets_key-clause-cost
returns-else-sets_key-clause-cost g c = λ s of.
    let target = c.args.target.now in
    let records = (g.M.Map.state c.args.records.now).map in
    let columns = c.args.assignments.now.columns.now in
    let sets : false ≡ sets_key target.columns.now.key columns = sym c.if-sets_key.false ∙ c.sets_key.ensures ∙ ap (λ (key : List ℕ). sets_key key columns) c.key.ensures.key in
    subst (λ (b : Bool). g.M.Map.cost c.args.records.now c.update_in_place.new.records (if b then cost_of target records + length (records_of target records) else cost_of target records)) sets (c.update_in_place.ensures.cost s)
