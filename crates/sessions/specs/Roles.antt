-- SET ROLE in a session.
use Rattle.std.specs.Prelude.{ℕ, Option, Ok}
use Rattle.sql_types.specs.declared.tag.Tag.TheVariants as tag
use Rattle.expressions.specs.Stages.{◌>>=◌}
use Rattle.abstract_database.specs.Lists.{TheName}
use Rattle.abstract_database.specs.Machine.{Machine, Session, Transition, seen, succeeds, transition_or_refusal, with_role_set, with_session_changed}

-- the role is set from now on, or its setting is refused
abbrev pub role_set : Machine → ℕ → Session → Option TheName → Transition
role_set m number s role =
    transition_or_refusal m number s
    (with_role_set (seen m number) s role >>= λ changed. Ok (succeeds tag.Set (with_session_changed m number changed)))
