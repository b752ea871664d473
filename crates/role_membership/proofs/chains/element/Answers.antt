use Rattle.std.proofs.Common.{refl}
use Rattle.role_membership.proofs.chains.element.Goals as goal

pub returns : goal.returns
returns c = record { start = c.contains.ensures; waits_for = c.as_str.ensures.text; role = c.as_str-2.result; gives = refl; is_role = c.as_str-2.ensures.text }
