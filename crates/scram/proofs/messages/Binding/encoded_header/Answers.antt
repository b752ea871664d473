use Rattle.std.proofs.Common.{refl}
use Rattle.base64.proofs.OnLiterals.{base64_on_literals}
use Rattle.scram.proofs.messages.Binding.encoded_header.Goals as goal

pub returns-in-Unsupported : goal.returns-in-Unsupported
unfolding base64_on_literals
returns-in-Unsupported c = rw c.in-Unsupported.is refl

pub returns-in-Unoffered : goal.returns-in-Unoffered
unfolding base64_on_literals
returns-in-Unoffered c = rw c.in-Unoffered.is refl
