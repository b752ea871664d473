use Rattle.std.proofs.Common.{◌≡◌, ◌++◌, ◌∷◌, [], ℕ, List, subst}
use Rattle.sql_ast.specs.declared.description.ResultColumn.{ResultColumn}
use Rattle.postgres_messages.specs.declared.backend.ValueFormat.{ValueFormat}
use Rattle.postgres_talks.specs.Rows.{columns_said}
use Rattle.postgres_talks.specs.Sayings.{Puts, Saying}
use Rattle.postgres_talks.proofs.Putting.{puts_on}
use Rattle.postgres_talks.proofs.told.say_columns_of.Goals as goal

columns_so : (xs : List Saying) (fs gs : List ValueFormat) (cs : List ResultColumn) (a b c : List ℕ) → fs ≡ gs → Puts xs a b → Puts (columns_said fs cs ∷ []) b c
    → Puts (xs ++ columns_said gs cs ∷ []) a c
columns_so xs fs gs cs a b c e first last = puts_on xs (columns_said gs cs ∷ []) a b c first (subst (λ (hs : List ValueFormat). Puts (columns_said hs cs ∷ []) b c) e last)

pub returns : goal.returns
returns c = columns_so _ _ _ _ _ _ _ c.as_slice.ensures c.in_ok-say_parameters.ensures c.in_ok-say_columns.ensures
