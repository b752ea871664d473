use Rattle.std.proofs.Common.{◌≡◌, ℕ, List, ◌++◌, MatchOption, subst}
use Rattle.catalogue_loading.proofs.bytes.after_table.Goals as goal

pub returns : goal.returns
returns c = subst (λ (prefix : List ℕ). MatchOption c.after.result ((rest : List ℕ) → c.args.key.now ≡ prefix ++ rest → ⊥) (λ rest. c.args.key.now ≡ prefix ++ rest.now)) c.table_prefix.ensures c.after.ensures
