use Rattle.sql_parser.proofs.Answered.{is_read}
use Rattle.sql_parser.proofs.PolicyTexts.{has_conditions_as_written}
use Rattle.sql_parser.proofs.parse.parse.Goals as goal

pub returns-clause-read : goal.returns-clause-read
returns-clause-read c = is_read c.utf8.text c.parse_text.ensures

pub returns-clause-policies : goal.returns-clause-policies
returns-clause-policies c = has_conditions_as_written (record { one = c.one_lexing.ensures }) c.parse_text.ensures
