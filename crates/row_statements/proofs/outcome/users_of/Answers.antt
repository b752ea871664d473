use Rattle.row_statements.proofs.Acting.{same_users}
use Rattle.row_statements.proofs.outcome.users_of.Goals as goal

pub returns : goal.returns
returns c = λ memberships are.
    same_users (record { current_user = c.as_str.result; session_user = c.as_str-2.result; roles = c.args.roles }) memberships c.args.current.now c.args.session.now c.as_str.ensures.text c.as_str-2.ensures.text are
