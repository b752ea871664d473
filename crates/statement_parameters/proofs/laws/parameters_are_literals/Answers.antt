use Rattle.std.proofs.Common.{map}
use Rattle.statement_parameters.specs.Parts.{literal_tokens}
use Rattle.statement_parameters.specs.Templates.{parts_of}
use Rattle.statement_parameters.proofs.Outside.{agree, alike}
use Rattle.statement_parameters.proofs.laws.parameters_are_literals.Goals as goal

pub returns : goal.returns
returns c = λ template values others text another one two same. agree (map literal_tokens values) (map literal_tokens others) (parts_of template) one.expected two.expected (alike values others same) one.bound two.bound
