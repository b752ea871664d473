use Rattle.std.proofs.Common.{◌∙◌, List, ℕ, Option, is_some, sym, ap}
use Rattle.store.specs.InPieces.{changes_of}
use Rattle.store.proofs.Held.{value_there, value_nowhere}
use Rattle.store.proofs.memory.MemStore.has_record.Goals as goal

-- the key's entry puts a value or none
pub returns-in-Some-clause-found : goal.returns-in-Some-clause-found
returns-in-Some-clause-found c = c.is_put.ensures ∙ ap (λ (v : Option (List ℕ)). is_some v) (sym (value_there c.args.key.now (changes_of c.args.self.now.entries) c.in-Some.change.now c.in-Some.ensures))

-- there is no entry
pub returns-in-None-clause-found : goal.returns-in-None-clause-found
returns-in-None-clause-found c = ap (λ (v : Option (List ℕ)). is_some v) (sym (value_nowhere c.args.key.now (changes_of c.args.self.now.entries) c.in-None.ensures))
