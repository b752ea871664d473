use Rattle.sessions.proofs.RoleLemmas.{login_found, login_missing}
use Rattle.sessions.proofs.roles.find_login.Goals as goal

pub returns-in_ok-try_copy-in-Some : goal.returns-in_ok-try_copy-in-Some
returns-in_ok-try_copy-in-Some c db same = login_found _ db c.roles.result.now c.args.login.now _ _ same c.roles.ensures.roles c.in_ok-try_copy-in-Some.ensures c.in-Some.ensures

pub returns-in-None : goal.returns-in-None
returns-in-None c db same = login_missing _ db c.roles.result.now c.args.login.now same c.roles.ensures.roles c.in-None.ensures
