use Rattle.std.proofs.Common.{◌∙◌, sym}
use Rattle.store.specs.InPieces.{changes_of}
use Rattle.store.proofs.Held.{value_lent, value_there, value_nowhere}
use Rattle.store.proofs.memory.MemStore.value.Goals as goal

-- the value that the key's entry puts
pub returns-in-Some : goal.returns-in-Some
returns-in-Some c = value_lent c.value.result c.in-Some.change.now.1 c.value.ensures ∙ sym (value_there c.args.key.now (changes_of c.args.self.now.entries) c.in-Some.change.now c.in-Some.ensures)

-- there is no entry
pub returns-in-None : goal.returns-in-None
returns-in-None c = sym (value_nowhere c.args.key.now (changes_of c.args.self.now.entries) c.in-None.ensures)
