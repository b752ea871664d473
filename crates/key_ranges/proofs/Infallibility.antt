-- Expressions without arithmetic never fail.
use Rattle.std.proofs.Common.{◌≡◌, true, List, [], ◌∷◌, refl, sym, subst}
use Rattle.std.specs.Prelude.{IsOk}
use Rattle.sql_ast.specs.Term.{Term}
use Rattle.expressions.specs.Infallible.{has_no_arithmetic, NeverFails}
use Rattle.expressions.specs.Types.{TypedTerm}
use Rattle.expressions.proofs.Infallibility.{infallible_value}
use Rattle.row_codec.proofs.Layouts.{and_parts}
use Rattle.key_ranges.specs.Infallible.{are_infallible, AreInfallible}

never_fails : {C : Type 0} (t : Term C) → has_no_arithmetic t ≡ true → NeverFails t
never_fails t h cell users = let value = infallible_value cell users t h in subst (λ o. IsOk o) (sym value.1) refl

pub all_infallible : (ts : List TypedTerm) → are_infallible ts ≡ true → AreInfallible ts
all_infallible [] h = tt
all_infallible (t ∷ ts) h =
    let parts = and_parts (has_no_arithmetic t.term) (are_infallible ts) h in
    (never_fails t.term parts.0, all_infallible ts parts.1)
