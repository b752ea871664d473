use Rattle.kv_store.proofs.Reading.{contents_are}
use Rattle.kv_store.proofs.Committing.{holds_sound}
use Rattle.kv_store.proofs.tree_store.TreeStore.new.Goals as goal

pub returns-clause-sound : goal.returns-clause-sound
returns-clause-sound g c contents holds = (holds_sound contents _ holds (c.new-3.ensures.place _), contents_are contents c.args.pages holds)
