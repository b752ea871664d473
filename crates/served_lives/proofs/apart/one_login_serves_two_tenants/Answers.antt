use Rattle.served_lives.proofs.OneLogin.{one_login_meets}
use Rattle.served_lives.proofs.apart.one_login_serves_two_tenants.Goals as goal

pub returns : goal.returns
returns c = one_login_meets
