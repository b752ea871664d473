-- Two runs over stores in which the clients of one tenant have other numbers, and one login role serves all tenants: it is told the same in both,
-- byte by byte. And two that part at a SELECT.
use Rattle.std.specs.Prelude.{◌≡◌, ℕ, nat_eq, if◌then◌else◌, List, [], ◌∷◌, codes, Some, None, Ok}
use Rattle.std.proofs.Common.{refl, arith}
use Rattle.sql_types.specs.declared.tag.Tag.TheVariants as tag
use Rattle.sql_types.specs.declared.answer.Answer.{Answer}
use Rattle.sql_types.specs.declared.answer.Answer.TheVariants as answer
use Rattle.sql_ast.specs.declared.statement.Statement.TheVariants as statement
use Rattle.sql_ast.specs.declared.statement.SessionStatement.TheVariants as of_session
use Rattle.abstract_database.specs.Database.{Database}
use Rattle.abstract_database.specs.Lists.{TheName}
use Rattle.abstract_database.specs.Machine.{Event, opens, executes, closes, Reading, Machine, machine_over, number_in, client_of}
use Rattle.abstract_database.specs.Runs.{TheText, ReadingRelation, IsReadAs, RanBy, Counts, NoneFalls, Stops, At, Happens, by_transition}
use Rattle.database_laws.specs.HiddenRuns.{answer_to, after}
use Rattle.database_laws.specs.Told.{Tenant, IsAlikeTo}
use Rattle.database_laws.specs.ToldStores.{own_texts, KeepOutOfSight, IsToldAlikeBy}
use Rattle.database_laws.specs.StorePatterns.{own_told}
use Rattle.database_laws.specs.TwoTenants.{note, first, second, with_her_other, by_app_for_ann, by_ann, ann_asks, reading_of, her_note}
use Rattle.client_laws.specs.Renumbered.{renumbered_machine, renumbered_events, renumbered_at}
use Rattle.client_laws.specs.Clients.{in_run}
use Rattle.client_laws.specs.Connections.{Spelling, bytes_of, IsClientOf, BeginAlike}
use Rattle.client_laws.specs.TwoRuns.{are_own, placed, writes, one_place, other_place, opened_by}

-- ---- what texts are read as

abbrev pub sets : TheName → Reading
sets name = Ok (statement.OfSession (of_session.SetRole (record { role = Some name })))

-- SELECT * FROM notes; or by its first byte SET ROLE ann, SET ROLE bob, BEGIN, or INSERT INTO notes VALUES ('ann', 2)
abbrev pub reading_so : TheText → Reading
reading_so [] = reading_of ann_asks
reading_so (n ∷ rest) =
    if nat_eq n 1 then sets (codes "ann") else if nat_eq n 2 then sets (codes "bob") else if nat_eq n 3 then Ok (statement.OfSession of_session.Begin) else reading_of (writes 0)

abbrev pub ReadsSo : ReadingRelation
ReadsSo text reading = reading ≡ reading_so text

abbrev pub read_so : Event TheText → Event Reading
read_so (opens number login) = opens number login
read_so (executes number text) = executes number (reading_so text)
read_so (closes number) = closes number

abbrev pub is_read_so : (m : Machine) (event : Event TheText) → IsReadAs ReadsSo m event (read_so event)
is_read_so m (opens number login) = refl
is_read_so m (executes number text) = (reading_so text, refl, λ may. refl)
is_read_so m (closes number) = refl

-- ---- a store that counts nothing, and of whose stops nothing is said

abbrev pub no_stops : Stops
no_stops from to P = Unit {0}

abbrev pub no_counts : Counts
no_counts = record { number = 0; fulls = 0; failures = 0; faults = 0 }

abbrev pub none_falls : NoneFalls no_counts no_counts
none_falls = record { number = omega arith; fulls = omega arith; failures = omega arith; faults = omega arith }

abbrev pub standing_with : Machine → At
standing_with m = record { counts = no_counts; moment = 0; standing = record { machine = m; under_way = None } }

-- it makes the machine's transition
abbrev pub happens_so : (m : Machine) (event : Event TheText) → Happens ReadsSo no_stops (standing_with m) event (answer_to m (read_so event)) (standing_with (after m (read_so event)))
happens_so m event = record { counts = none_falls; step = by_transition (record { as_read = read_so event; read = is_read_so m event; is = refl }); under_way = refl; later = omega arith; during = tt; now = tt }

abbrev pub machine_behind : Machine → List (Event TheText) → Machine
machine_behind m [] = m
machine_behind m (event ∷ events) = machine_behind (after m (read_so event)) events

abbrev pub answers_from : Machine → List (Event TheText) → List Answer
answers_from m [] = []
answers_from m (event ∷ events) = answer_to m (read_so event) ∷ answers_from (after m (read_so event)) events

abbrev pub runs_from : (m : Machine) (events : List (Event TheText)) → RanBy (Happens ReadsSo no_stops) (standing_with m) events (answers_from m events) (standing_with (machine_behind m events))
runs_from m [] = refl
runs_from m (event ∷ events) = (standing_with (after m (read_so event)), happens_so m event, runs_from (after m (read_so event)) events)

-- ---- a tenant of two clients, in two runs

-- by their places her clients are 0 and 2; all log in as the application, which sets the role of each tenant
abbrev pub her_clients : Tenant
her_clients = record { pairs = by_app_for_ann; sessions = λ number. are_own 0 2 (client_of number) }

abbrev pub comes : ℕ → Event TheText
comes client = opens (number_in client 1) (codes "app")

abbrev pub sends : ℕ → TheText → Event TheText
sends client text = executes (number_in client 1) text

-- the first and the third client are hers, the second and the fourth are bob's
abbrev pub one_list : List (Event TheText)
one_list = comes 1 ∷ comes 0 ∷ sends 1 (2 ∷ []) ∷ sends 0 (1 ∷ []) ∷ comes 2 ∷ sends 2 (1 ∷ []) ∷ comes 3 ∷ sends 2 (3 ∷ []) ∷ sends 2 (4 ∷ []) ∷ sends 1 [] ∷ sends 0 [] ∷ sends 2 [] ∷ []

-- the sixth and the fifth are, and bob's came before them; he has other notes
abbrev pub other_list : List (Event TheText)
other_list = comes 0 ∷ sends 0 (2 ∷ []) ∷ comes 1 ∷ comes 5 ∷ sends 5 (1 ∷ []) ∷ comes 4 ∷ sends 4 (1 ∷ []) ∷ sends 4 (3 ∷ []) ∷ sends 0 [] ∷ sends 4 (4 ∷ []) ∷ sends 5 [] ∷ closes (number_in 0 1) ∷ sends 4 [] ∷ []

abbrev pub one_answers : List Answer
one_answers = answers_from (machine_over first) one_list

abbrev pub other_answers : List Answer
other_answers = answers_from (machine_over second) other_list

abbrev pub one_end : At
one_end = standing_with (machine_behind (machine_over first) one_list)

abbrev pub other_end : At
other_end = standing_with (machine_behind (machine_over second) other_list)

-- her first client is shown the note that is committed, and her second the one that it has written, too
abbrev pub she_is_told : List Answer
she_is_told = answer.Done tag.Open None None ∷ answer.Done tag.Set None None ∷ answer.Done tag.Open None None ∷ answer.Done tag.Set None None ∷ answer.Done tag.Begin None None
    ∷ answer.Done tag.Insert (Some 1) None ∷ answer.Rows (note "ann" 1 ∷ []) ∷ answer.Rows (note "ann" 1 ∷ note "ann" 2 ∷ []) ∷ []

pub record RunsOverStoresMeetThePremises : Type 0 where
  -- all sessions of these clients are hers
  pub clients : IsClientOf her_clients 0 × IsClientOf her_clients 2
  pub alike : IsAlikeTo her_clients (renumbered_machine one_place (machine_over first)) (renumbered_machine other_place (machine_over second))
  pub hidden : KeepOutOfSight ReadsSo no_stops (in_run one_place her_clients) (standing_with (machine_over first)) one_end one_list one_answers (runs_from (machine_over first) one_list)
      × KeepOutOfSight ReadsSo no_stops (in_run other_place her_clients) (standing_with (machine_over second)) other_end other_list other_answers (runs_from (machine_over second) other_list)
  pub same : renumbered_events one_place (own_texts (in_run one_place her_clients) one_list) ≡ renumbered_events other_place (own_texts (in_run other_place her_clients) other_list)
  pub told : IsToldAlikeBy ReadsSo no_stops no_stops her_clients (renumbered_at one_place (standing_with (machine_over first))) (renumbered_at other_place (standing_with (machine_over second)))
      (renumbered_events one_place one_list) one_answers (renumbered_events other_place other_list) other_answers
  pub begin : BeginAlike ReadsSo no_stops no_stops her_clients (renumbered_at one_place (standing_with (machine_over first))) (renumbered_at other_place (standing_with (machine_over second)))
      (renumbered_events one_place one_list) one_answers (renumbered_events other_place other_list) other_answers
  -- up to the end
  pub answers : own_told (in_run one_place her_clients) one_list one_answers ≡ she_is_told
  pub answers_there : own_told (in_run other_place her_clients) other_list other_answers ≡ she_is_told
  pub bytes : (spell : Spelling) → bytes_of spell 0 one_list one_answers ≡ bytes_of spell 5 other_list other_answers
  pub bytes_of_second : (spell : Spelling) → bytes_of spell 2 one_list one_answers ≡ bytes_of spell 4 other_list other_answers

-- ---- where the laws are broken

-- the same clients, of whoever logs in as ann
abbrev pub clients_of_ann : Tenant
clients_of_ann = record { pairs = by_ann; sessions = λ number. are_own 0 2 (client_of number) }

-- a client of hers has its session open, and sends a SELECT
abbrev pub stands_with : ℕ → Database → At
stands_with client db = renumbered_at (placed client 9) (standing_with (opened_by client db))

abbrev pub asked_by : ℕ → List (Event TheText)
asked_by client = renumbered_events (placed client 9) (sends client [] ∷ [])

abbrev pub her_other_note : Answer
her_other_note = answer.Rows (note "ann" 2 ∷ [])

-- the fourth client is hers in the one, the eighth in the other; her own notes differ: the law over stores refuses what they are answered
abbrev pub StoresPartAtSelect : Type 0
StoresPartAtSelect = IsToldAlikeBy ReadsSo no_stops no_stops clients_of_ann (stands_with 3 first) (stands_with 7 with_her_other) (asked_by 3) (her_note ∷ []) (asked_by 7) (her_other_note ∷ []) → ⊥

-- and so does that of bytes
abbrev pub BytesPartAtSelect : Type 0
BytesPartAtSelect = BeginAlike ReadsSo no_stops no_stops clients_of_ann (stands_with 3 first) (stands_with 7 with_her_other) (asked_by 3) (her_note ∷ []) (asked_by 7) (her_other_note ∷ []) → ⊥
