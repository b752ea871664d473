use Rattle.journal_store.specs.ImageLaws.{one_contents}
use Rattle.journal_store.proofs.device_laws.one_contents.Goals as goal

pub returns : goal.returns
returns c = one_contents
