-- Two machines that are not alike to a tenant: one pattern, and two answers.
use Rattle.std.proofs.Common.{◌≡◌, ℕ, pos, List, [], ◌∷◌, refl, ap}
use Rattle.sql_types.specs.Row.{Row}
use Rattle.sql_types.specs.declared.value.Value.TheVariants.{Int, Text}
use Rattle.sql_types.specs.declared.answer.Answer.{Answer}
use Rattle.sql_types.specs.declared.answer.Answer.TheVariants as answer
use Rattle.database_laws.specs.TwoTenants.{notes, ann, PartsAtSelect}

-- the number in the first of some notes
abbrev number_in_first : List Row → ℕ
number_in_first ((Text t ∷ Int (pos n) ∷ []) ∷ rows) = n
number_in_first _ = 0

abbrev first_answer : List Answer → ℕ
first_answer (answer.Rows rows ∷ answers) = number_in_first rows
first_answer _ = 0

unlike : ◌≡◌ {A = ℕ} 1 2 → ⊥
unlike e = cc

pub parts_at_select : PartsAtSelect
parts_at_select = record {
  patterns = refl;
  answers = λ same. unlike (ap first_answer same);
  machines = λ st. unlike (ap number_in_first ((st.committed.rows ann (refl, refl)).rows notes refl));
}
