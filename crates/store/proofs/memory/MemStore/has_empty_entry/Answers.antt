use Rattle.std.proofs.Common.{◌∙◌, Some, Option, List, ℕ, sym, ap}
use Rattle.std.specs.Prelude.{not}
use Rattle.store.specs.Records.{lookup}
use Rattle.store.specs.InPieces.{changes_of}
use Rattle.store.proofs.Held.{the_value, none_there}
use Rattle.store.proofs.memory.MemStore.has_empty_entry.Goals as goal

-- the entry puts no value
pub returns-in-Some : goal.returns-in-Some
returns-in-Some c =
    λ empty.
    let entries = changes_of c.args.self.now.entries in
    let change = c.in-Some.change.now in
    let none = none_there c.value.result change.1 (c.is_none.ensures ∙ ap not empty) c.value.ensures in
    the_value c.args.key.now change.0 (lookup c.args.key.now entries) change.1 (sym c.in-Some.ensures) ∙ ap (λ (v : Option (List ℕ)). Some v) none
