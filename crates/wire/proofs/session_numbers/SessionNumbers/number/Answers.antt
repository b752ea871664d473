use Rattle.std.proofs.Common.{◌∙◌, ◌+◌, ap}
use Rattle.wire.specs.SessionNames.{texts_of}
use Rattle.wire.proofs.Names.{index_of_text, added_text}
use Rattle.wire.proofs.session_numbers.SessionNumbers.number.Goals as goal

pub returns-in-Some-clause-names : goal.returns-in-Some-clause-names
returns-in-Some-clause-names c = ap texts_of c.in_ok-index.ensures.keys ∙ added_text c.args.name c.args.self.now.names.keys

pub returns-in-Some-clause-number : goal.returns-in-Some-clause-number
returns-in-Some-clause-number c = c.in-Some.ensures.1 ∙ ap (λ index. index + 1) (c.in-Ok.ensures.1 ∙ c.in_ok-index.ensures.index ∙ index_of_text c.args.name c.args.self.now.names.keys)
