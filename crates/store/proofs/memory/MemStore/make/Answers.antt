use Rattle.std.proofs.Common.{◌∙◌, [], List, ℕ, Option, Some, None, sym, ap}
use Rattle.store.specs.Records.{Changes, applied, changed, lookup}
use Rattle.store.specs.InPieces.{changes_of}
use Rattle.store.proofs.Changes.{ordered_applied, put_applied}
use Rattle.store.proofs.Held.{not_put, others_stay, removal_made}
use Rattle.store.proofs.memory.MemStore.make.Goals as goal

pub invariant_of-self : goal.invariant_of-self
invariant_of-self c = record { ordered = ordered_applied (changes_of c.replace.new.self) [] tt }

pub invariant_of-self-else-is_put : goal.invariant_of-self-else-is_put
invariant_of-self-else-is_put c = record { ordered = ordered_applied (changes_of c.remove.new.self) [] tt }

-- the entry gets its value
pub returns-then-is_put-clause-made : goal.returns-then-is_put-clause-made
returns-then-is_put-clause-made c =
    ap (λ (cs : Changes). applied cs []) c.replace.ensures
    ∙ put_applied c.args.change.0 c.args.change.1 (changes_of c.args.self.now.entries) [] c.args.self.now.entries.ordered tt

pub returns-then-is_put-clause-elsewhere : goal.returns-then-is_put-clause-elsewhere
returns-then-is_put-clause-elsewhere c =
    λ k less. ap (lookup k) c.replace.ensures ∙ others_stay k c.args.change.0 (Some c.args.change.1) (changes_of c.args.self.now.entries) c.args.self.now.entries.ordered less

-- the entry goes with its record
pub returns-else-is_put-clause-made : goal.returns-else-is_put-clause-made
returns-else-is_put-clause-made c =
    let es = changes_of c.args.self.now.entries in
    let gone = c.remove.ensures ∙ ap (λ (k : List ℕ). changed k None es) c.key.ensures in
    let none = not_put c.args.change.1 (sym c.is_put.ensures ∙ c.if-is_put.false) in
    ap (λ (cs : Changes). applied cs []) gone
    ∙ removal_made c.args.change.0 es c.args.self.now.entries.ordered
    ∙ ap (λ (v : Option (List ℕ)). changed c.args.change.0 v (applied es [])) (sym none)

pub returns-else-is_put-clause-elsewhere : goal.returns-else-is_put-clause-elsewhere
returns-else-is_put-clause-elsewhere c =
    λ k less.
    let es = changes_of c.args.self.now.entries in
    let gone = c.remove.ensures ∙ ap (λ (n : List ℕ). changed n None es) c.key.ensures in
    ap (lookup k) gone ∙ others_stay k c.args.change.0 None es c.args.self.now.entries.ordered less
