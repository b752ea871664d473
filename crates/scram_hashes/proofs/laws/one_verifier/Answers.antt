use Rattle.scram_hashes.proofs.Texts.{same_Spells}
use Rattle.scram_hashes.proofs.laws.one_verifier.Goals as goal

pub returns : goal.returns
returns c text verifier other one two = same_Spells text verifier other one two
