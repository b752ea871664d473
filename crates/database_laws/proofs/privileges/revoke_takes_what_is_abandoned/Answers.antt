use Rattle.std.proofs.Common.{refl}
use Rattle.abstract_database.specs.Privileges.{is_cascade, without_named, abandoned}
use Rattle.abstract_database.proofs.ChainLemmas.{support_found}
use Rattle.database_laws.proofs.PrivilegeLemmas.{revoked_leaves, left_supported, refused_by}
use Rattle.database_laws.proofs.privileges.revoke_takes_what_is_abandoned.Goals as goal

pub returns-clause-supported : goal.returns-clause-supported
returns-clause-supported c = λ option behavior named set after e d h. left_supported (without_named option named set) after (revoked_leaves option behavior named set after e) d h

pub returns-clause-nothing_more : goal.returns-clause-nothing_more
returns-clause-nothing_more c = λ option behavior named set after e d h s. (revoked_leaves option behavior named set after e).kept d h (support_found (without_named option named set) d s)

pub returns-clause-nothing_added : goal.returns-clause-nothing_added
returns-clause-nothing_added c = λ option behavior named set after e d h. ((revoked_leaves option behavior named set after e).left d h).0

pub returns-clause-refused : goal.returns-clause-refused
returns-clause-refused c = λ option behavior named set code e. refused_by (is_cascade behavior) (without_named option named set) (abandoned (without_named option named set)) code refl e
