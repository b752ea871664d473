use Rattle.database_laws.proofs.BeforeOthers.{insert_for_others, update_for_others}
use Rattle.database_laws.proofs.HiddenAnswers.{hide}
use Rattle.database_laws.proofs.TwoWorlds.{ends_alike, ends_agreeing}
use Rattle.database_laws.proofs.OtherEyes.{delete_for_others}
use Rattle.database_laws.proofs.rows.two_worlds.Goals as goal

pub returns-clause-alike : goal.returns-clause-alike
returns-clause-alike c = ends_alike

pub returns-clause-agreeing : goal.returns-clause-agreeing
returns-clause-agreeing c = ends_agreeing

pub returns-clause-answered : goal.returns-clause-answered
returns-clause-answered c = hide

pub returns-clause-others : goal.returns-clause-others
returns-clause-others c = delete_for_others

pub returns-clause-others_at_insert : goal.returns-clause-others_at_insert
returns-clause-others_at_insert c = insert_for_others

pub returns-clause-others_at_update : goal.returns-clause-others_at_update
returns-clause-others_at_update c = update_for_others
