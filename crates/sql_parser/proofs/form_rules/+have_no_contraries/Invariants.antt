use Rattle.std.proofs.Common.{length}
use Rattle.sql_parser.proofs.form_rules.+have_no_contraries.Given as goal

abbrev pub decreases-have_no_contraries : goal.decreases-have_no_contraries
decreases-have_no_contraries l = length l.attributes.now
