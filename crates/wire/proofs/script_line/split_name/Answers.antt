use Rattle.std.proofs.Common.{rules}
use Rattle.wire.proofs.Lines.{no_split, other_split}
use Rattle.wire.proofs.script_line.split_name.Goals as goal

pub returns-in_default : goal.returns-in_default
returns-in_default c = no_split c.args.end c.args.text.now c.split_once.result c.split_once.ensures.cases c.requires.ascii c.requires.unnamed (search rules)

pub returns-then-not-is_session_name : goal.returns-then-not-is_session_name
returns-then-not-is_session_name c = other_split c.args.end c.args.text.now c.split_once.result _ c.split_once.ensures.cases c.requires.ascii c.requires.unnamed c.in-Some.is (search rules)
