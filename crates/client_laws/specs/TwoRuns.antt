-- Two runs in which the clients of one tenant have other numbers: they meet the premises, and it is told the same in both.
use Rattle.std.specs.Prelude.{◌≡◌, ◌||◌, ℕ, nat_eq, pos, Bool, false, if◌then◌else◌, List, [], ◌∷◌, codes, Some, None, Ok}
use Rattle.sql_types.specs.declared.value.Value.TheVariants.{Int, Text}
use Rattle.sql_types.specs.declared.tag.Tag.TheVariants as tag
use Rattle.sql_types.specs.declared.answer.Answer.{Answer}
use Rattle.sql_types.specs.declared.answer.Answer.TheVariants as answer
use Rattle.sql_ast.specs.Term.{literal}
use Rattle.sql_ast.specs.declared.statement.Statement.TheVariants as statement
use Rattle.sql_ast.specs.declared.statement.DatabaseStatement.TheVariants as on_database
use Rattle.sql_ast.specs.declared.statement.RowStatement.TheVariants as over_rows
use Rattle.abstract_database.specs.Database.{Database}
use Rattle.abstract_database.specs.Machine.{Event, executes, closes, Reading, Machine, Outside, number_in}
use Rattle.database_laws.specs.HiddenRuns.{AreSound}
use Rattle.database_laws.specs.Told.{Tenant, IsAlikeTo, Act, happens, OthersKeepOutOfSight, noticed, IsToldAlike}
use Rattle.database_laws.specs.Patterns.{own_answers}
use Rattle.database_laws.specs.TwoTenants.{notes, note, first, second, with_her_other, by_app_for_ann, idle, working, as_app, ann_asks, reading_of, of_ann}
use Rattle.client_laws.specs.Renumbered.{IsOneToOne, renumbered_machine}
use Rattle.client_laws.specs.Clients.{in_run, renumbered_acts, place_of}

-- ---- a tenant of two clients

-- these two are its own
abbrev pub are_own : ℕ → ℕ → ℕ → Bool
are_own i j c = nat_eq c i || nat_eq c j

-- by its names the second is 1, and the first 0
abbrev pub named : ℕ → ℕ → ℕ
named j c = if nat_eq c j then 1 else 0

abbrev pub placed : ℕ → ℕ → ℕ → ℕ
placed i j = place_of (are_own i j) (named j)

-- by their places these sessions of both are of number 1 and 8,589,934,593
abbrev pub of_both_clients : ℕ → Bool
of_both_clients n = nat_eq n (number_in 0 1) || nat_eq n (number_in 2 1)

-- the tenant ann, where one login role serves all tenants, and its sessions set the role of one
abbrev pub ann_by_app : Tenant
ann_by_app = record { pairs = by_app_for_ann; sessions = of_both_clients }

-- session 1 of a client asks for the notes
abbrev pub asks : ℕ → Event Reading
asks client = executes (number_in client 1) (reading_of ann_asks)

-- INSERT INTO notes VALUES ('ann', 2), in session 1 of a client
abbrev pub writes : ℕ → Event Reading
writes client = executes (number_in client 1) (Ok (statement.OnDatabase (on_database.OverRows (over_rows.Insert (record {
  table = notes.name;
  columns = None;
  rows = (literal (Text (codes "ann")) ∷ literal (Int (pos 2)) ∷ []) ∷ [];
})))))

-- ---- two runs

-- the first and the third client are ann's, the second and the fourth are bob's; the third has begun a block
abbrev pub one_machine : Machine
one_machine = record {
  committed = first;
  holder = None;
  sessions = (number_in 0 1, idle as_app "ann") ∷ (number_in 1 1, idle as_app "bob") ∷ (number_in 2 1, working as_app "ann") ∷ (number_in 3 1, idle as_app "bob") ∷ [];
  stopped = false;
}

-- bob came first, with other notes, and ann's second client before her first
abbrev pub other_machine : Machine
other_machine = record {
  committed = second;
  holder = None;
  sessions = (number_in 0 1, idle as_app "bob") ∷ (number_in 4 1, working as_app "ann") ∷ (number_in 5 1, idle as_app "ann") ∷ (number_in 1 1, working as_app "bob") ∷ [];
  stopped = false;
}

-- ann's second client writes a note, and both of them ask; a session of bob's is closed before that, or between
abbrev pub one_run : List Act
one_run = happens (closes (number_in 1 1)) ∷ happens (writes 2) ∷ happens (asks 0) ∷ happens (asks 2) ∷ []

abbrev pub other_run : List Act
other_run = happens (writes 4) ∷ happens (closes (number_in 0 1)) ∷ happens (asks 5) ∷ happens (asks 4) ∷ []

abbrev pub one_place : ℕ → ℕ
one_place = placed 0 2

abbrev pub other_place : ℕ → ℕ
other_place = placed 5 4

-- her first client is shown the note that is committed, and her second the one that it has written, too
abbrev pub her_answers : List Answer
her_answers = answer.Done tag.Insert (Some 1) None ∷ answer.Rows (note "ann" 1 ∷ []) ∷ answer.Rows (note "ann" 1 ∷ note "ann" 2 ∷ []) ∷ []

pub record TwoRunsMeetThePremises : Type 0 where
  pub places : IsOneToOne one_place × IsOneToOne other_place
  pub alike : IsAlikeTo ann_by_app (renumbered_machine one_place one_machine) (renumbered_machine other_place other_machine)
  pub sound : AreSound one_machine × AreSound other_machine
  pub hidden : OthersKeepOutOfSight (in_run one_place ann_by_app) one_machine one_run × OthersKeepOutOfSight (in_run other_place ann_by_app) other_machine other_run
  pub same : renumbered_acts one_place (noticed (in_run one_place ann_by_app) one_run) ≡ renumbered_acts other_place (noticed (in_run other_place ann_by_app) other_run)
  pub told : IsToldAlike ann_by_app (renumbered_machine one_place one_machine) (renumbered_machine other_place other_machine) (renumbered_acts one_place one_run) (renumbered_acts other_place other_run)
  pub answers : own_answers (in_run one_place ann_by_app) one_machine one_run ≡ her_answers
  pub answers_there : own_answers (in_run other_place ann_by_app) other_machine other_run ≡ her_answers

-- ---- where the law is broken

-- a machine in which a client of ann's has a session open
abbrev pub opened_by : ℕ → Database → Machine
opened_by client db = record { committed = db; holder = None; sessions = (number_in client 1, record { login = codes "ann"; role = codes "ann"; block = Outside }) ∷ []; stopped = false }

-- the fourth client is hers in the one, the eighth in the other, and each has no second one; her own notes differ: two machines that are
-- not alike to her, which part at her SELECT
abbrev pub ClientsPartAtSelect : Type 0
ClientsPartAtSelect =
    IsToldAlike of_ann (renumbered_machine (placed 3 9) (opened_by 3 first)) (renumbered_machine (placed 7 9) (opened_by 7 with_her_other))
    (renumbered_acts (placed 3 9) (happens (asks 3) ∷ [])) (renumbered_acts (placed 7 9) (happens (asks 7) ∷ [])) → ⊥
