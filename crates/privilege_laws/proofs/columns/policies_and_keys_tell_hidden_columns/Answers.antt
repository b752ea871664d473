use Rattle.privilege_laws.proofs.HiddenPay.{pay_is_hidden, policy_tells_pay, key_tells_pay}
use Rattle.privilege_laws.proofs.columns.policies_and_keys_tell_hidden_columns.Goals as goal

pub returns-clause-alike : goal.returns-clause-alike
returns-clause-alike c = pay_is_hidden

pub returns-clause-policies : goal.returns-clause-policies
returns-clause-policies c = policy_tells_pay

pub returns-clause-keys : goal.returns-clause-keys
returns-clause-keys c = key_tells_pay
