use Rattle.std.proofs.Common.{rules}
use Rattle.std.proofs.lemmas.Bool.{iff_false}
use Rattle.sql_parser.proofs.Wholes.{means_none, means_one, means_unformed}
use Rattle.sql_parser.proofs.parse.OneStatementGrammar.read.Goals as goal

pub returns-in_err-statement : goal.returns-in_err-statement
returns-in_err-statement c = let m = means_none {source = c.args.source.now} c.in_err-statement.ensures in search rules

pub returns-then-is_well_formed : goal.returns-then-is_well_formed
returns-then-is_well_formed c = means_one {source = c.args.source.now} c.in_ok-statement.ensures (c.is_well_formed.ensures.0 c.if-is_well_formed.true)

pub returns-else-is_well_formed : goal.returns-else-is_well_formed
returns-else-is_well_formed c = means_unformed {source = c.args.source.now} c.in_ok-statement.ensures (iff_false c.is_well_formed.ensures c.if-is_well_formed.false)
