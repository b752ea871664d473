use Rattle.std.proofs.Common.{rules}
use Rattle.std.proofs.lemmas.Bool.{iff_false}
use Rattle.sql_grammar.proofs.Steps.{of_law, optional_there, optional_never, optional_left}
use Rattle.sql_commands.proofs.optional.OptionalReadable.read.Goals as goal

pub returns-then-not-begins : goal.returns-then-not-begins
returns-then-not-begins g c = optional_left (of_law _ g.met.T.Production.listable) (iff_false c.begins.ensures.value c.if-not-begins.true)

pub returns-in_err-item : goal.returns-in_err-item
returns-in_err-item g c =
    let m = optional_never (of_law _ g.met.T.Production.listable) (c.begins.ensures.value.0 c.if-not-begins.false) c.in_err-item.ensures in
    search rules

pub returns : goal.returns
returns g c = optional_there (of_law _ g.met.T.Production.listable) (c.begins.ensures.value.0 c.if-not-begins.false) c.in_ok-item.ensures
