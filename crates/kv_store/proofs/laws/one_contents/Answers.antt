use Rattle.kv_store.specs.ContentLaws.{same_contents}
use Rattle.kv_store.proofs.laws.one_contents.Goals as goal

pub returns : goal.returns
returns c = same_contents
