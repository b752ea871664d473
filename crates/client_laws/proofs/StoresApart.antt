-- Two runs over stores in which the clients of one tenant have other numbers, and two that part.
use Rattle.std.proofs.Common.{◌≡◌, ◌∙◌, ℕ, pos, Bool, true, false, List, [], ◌∷◌, refl, sym, ap, subst, inl, inr}
use Rattle.sql_types.specs.declared.value.Value.TheVariants.{Int, Text}
use Rattle.sql_types.specs.declared.answer.Answer.{Answer}
use Rattle.sql_types.specs.declared.answer.Answer.TheVariants as answer
use Rattle.abstract_database.specs.Database.{Database}
use Rattle.abstract_database.specs.Statements.{UserPair}
use Rattle.abstract_database.specs.Machine.{Event, executes, Reading, Machine, machine_over}
use Rattle.abstract_database.specs.Runs.{IsReadAs}
use Rattle.database_laws.specs.Runs.{ReadsOnce}
use Rattle.database_laws.specs.HiddenRuns.{SameApparentRowsForPairs, AreSound, not_issued, failed}
use Rattle.database_laws.specs.Told.{IsAlikeTo, LeavesTenant, by_role, happens, IsExceptionFor, told_apart}
use Rattle.database_laws.specs.ToldApart.{NoStoreGives}
use Rattle.database_laws.specs.ToldStores.{KeepOutOfSight}
use Rattle.database_laws.specs.TwoTenants.{first, second, with_her_other, opened_by_ann, ann_asks, her_note, by_app_for_ann, of_ann}
use Rattle.database_laws.proofs.TwoTenants.{premises_met}
use Rattle.client_laws.specs.Renumbered.{renumbered_machine}
use Rattle.client_laws.specs.Clients.{in_run}
use Rattle.client_laws.specs.TwoRuns.{are_own, one_place, other_place}
use Rattle.client_laws.specs.StoresApart.{ReadsSo, no_stops, standing_with, runs_from, her_clients, one_list, other_list, one_answers, other_answers, one_end, other_end, RunsOverStoresMeetThePremises, clients_of_ann, stands_with, asked_by, her_other_note, StoresPartAtSelect, BytesPartAtSelect}
use Rattle.client_laws.proofs.Told.{stores_told}
use Rattle.client_laws.proofs.Bytes.{same_bytes, begin_alike, bytes_part}
use Rattle.client_laws.proofs.TwoRuns.{runs_meet_the_premises}

clash : true ≡ false → ⊥
clash e = cc

-- ---- the premises

reads_once : ReadsOnce ReadsSo
reads_once text x y one two = one ∙ sym two

alike : IsAlikeTo her_clients (renumbered_machine one_place (machine_over first)) (renumbered_machine other_place (machine_over second))
alike = record {
  sessions = λ number own. refl;
  opened_for = λ number own. tt;
  stopped = refl;
  lock = λ number own. refl;
  committed = premises_met.by_one_login.committed;
  seen = λ number own. premises_met.by_one_login.committed;
}

same_rows : (pairs : UserPair → Bool) (db : Database) → SameApparentRowsForPairs pairs db db
same_rows pairs db = record { definitions = refl; rows = λ pair acts. record { definitions = refl; rows = λ t is. refl } }

sound_over_first : AreSound (machine_over first)
sound_over_first = record { committed = premises_met.sound_first; holder = tt }

sound_over_second : AreSound (machine_over second)
sound_over_second = record { committed = premises_met.sound_second; holder = tt }

hidden : KeepOutOfSight ReadsSo no_stops (in_run one_place her_clients) (standing_with (machine_over first)) one_end one_list one_answers (runs_from (machine_over first) one_list)
hidden = (
  (λ own. absurd (clash (sym own)), λ foreign. same_rows by_app_for_ann first),
  (
    (λ own may. refl, λ foreign. absurd (clash foreign)),
    (
      (λ own. absurd (clash (sym own)), λ foreign. same_rows by_app_for_ann first),
      (
        (λ own. tt, λ foreign. absurd (clash foreign)),
        (
          (λ own may. refl, λ foreign. absurd (clash foreign)),
          (
            (λ own. tt, λ foreign. absurd (clash foreign)),
            (
              (λ own. absurd (clash (sym own)), λ foreign. same_rows by_app_for_ann first),
              (
                (λ own. tt, λ foreign. absurd (clash foreign)),
                (
                  (λ own. tt, λ foreign. absurd (clash foreign)),
                  (
                    (λ own. absurd (clash (sym own)), λ foreign. same_rows by_app_for_ann first),
                    (
                      (λ own. tt, λ foreign. absurd (clash foreign)),
                      ((λ own. tt, λ foreign. absurd (clash foreign)), tt),
                    ),
                  ),
                ),
              ),
            ),
          ),
        ),
      ),
    ),
  ),
)

hidden_there : KeepOutOfSight ReadsSo no_stops (in_run other_place her_clients) (standing_with (machine_over second)) other_end other_list other_answers (runs_from (machine_over second) other_list)
hidden_there = (
  (λ own. absurd (clash (sym own)), λ foreign. same_rows by_app_for_ann second),
  (
    (λ own. absurd (clash (sym own)), λ foreign. same_rows by_app_for_ann second),
    (
      (λ own. absurd (clash (sym own)), λ foreign. same_rows by_app_for_ann second),
      (
        (λ own may. refl, λ foreign. absurd (clash foreign)),
        (
          (λ own. tt, λ foreign. absurd (clash foreign)),
          (
            (λ own may. refl, λ foreign. absurd (clash foreign)),
            (
              (λ own. tt, λ foreign. absurd (clash foreign)),
              (
                (λ own. tt, λ foreign. absurd (clash foreign)),
                (
                  (λ own. absurd (clash (sym own)), λ foreign. same_rows by_app_for_ann second),
                  (
                    (λ own. tt, λ foreign. absurd (clash foreign)),
                    (
                      (λ own. tt, λ foreign. absurd (clash foreign)),
                      (
                        (λ own. absurd (clash (sym own)), λ foreign. same_rows by_app_for_ann second),
                        ((λ own. tt, λ foreign. absurd (clash foreign)), tt),
                      ),
                    ),
                  ),
                ),
              ),
            ),
          ),
        ),
      ),
    ),
  ),
)

pub stores_meet_the_premises : RunsOverStoresMeetThePremises
stores_meet_the_premises = record {
  clients = (λ number is. ap (are_own 0 2) is, λ number is. ap (are_own 0 2) is);
  alike = alike;
  hidden = (hidden, hidden_there);
  same = refl;
  told = stores_told ReadsSo no_stops no_stops reads_once her_clients one_place other_place runs_meet_the_premises.places.0 runs_meet_the_premises.places.1
      (standing_with (machine_over first)) (standing_with (machine_over second)) one_end other_end one_list other_list one_answers other_answers
      alike sound_over_first sound_over_second (runs_from (machine_over first) one_list) (runs_from (machine_over second) other_list) hidden hidden_there refl;
  begin = same_bytes ReadsSo no_stops no_stops reads_once her_clients one_place other_place runs_meet_the_premises.places.0 runs_meet_the_premises.places.1
      (standing_with (machine_over first)) (standing_with (machine_over second)) one_end other_end one_list other_list one_answers other_answers
      alike sound_over_first sound_over_second (runs_from (machine_over first) one_list) (runs_from (machine_over second) other_list) hidden hidden_there refl;
  answers = refl;
  answers_there = refl;
  bytes = λ spell. refl;
  bytes_of_second = λ spell. refl;
}

-- ---- where the laws are broken

abbrev m : Machine
m = opened_by_ann first

abbrev k : Machine
k = opened_by_ann with_her_other

abbrev is_refused : Answer → Bool
is_refused (answer.Refused code) = true
is_refused _ = false

no_store_gives : (x : Answer) → is_refused x ≡ false → NoStoreGives x
no_store_gives x not_so old new (not_issued code is counted) = clash (sym (ap is_refused is) ∙ not_so)
no_store_gives x not_so old new (failed is broke) = clash (sym (ap is_refused is) ∙ not_so)

-- the key of the first note
abbrev key_told : Answer → ℕ
key_told (answer.Rows ((Text t ∷ Int (pos n) ∷ []) ∷ rows)) = n
key_told _ = 0

abbrev head_of : List ℕ → ℕ
head_of [] = 0
head_of (n ∷ ns) = n

leaves_her : (number : ℕ) (j : Machine) (event : Event Reading) → LeavesTenant clients_of_ann number j event → LeavesTenant of_ann number j event
leaves_her number j event (by_role s changed x free at may set none) = by_role s changed x free at may set none

excepts_her : IsExceptionFor clients_of_ann m k (happens ann_asks) → IsExceptionFor of_ann m k (happens ann_asks)
excepts_her exception = elim exception [
  | inl is ↦ inl is
  | inr (inl crowd) ↦ inr (inl crowd)
  | inr (inr leaves) ↦ inr (inr (leaves_her 1 m ann_asks leaves))
]

no_exception : IsExceptionFor clients_of_ann m k (happens ann_asks) → ⊥
no_exception exception = premises_met.parts (told_apart refl (excepts_her exception) (λ one. let contrary : her_note ≡ answer.Refused one.0 = one.1 in cc))

read_as_asked : (read : Event Reading) → IsReadAs ReadsSo m (executes 1 []) read → read ≡ ann_asks
read_as_asked read (reading, is, reads) = is ∙ ap (λ (r : Reading). executes 1 r) (reads (refl, refl))

pub bytes_part_at_select : BytesPartAtSelect
bytes_part_at_select begin =
    let at = bytes_part ReadsSo no_stops no_stops clients_of_ann (stands_with 3 first) (stands_with 7 with_her_other) (executes 1 []) her_note her_other_note (λ n x. key_told x ∷ [])
    (λ number is. ap (are_own 0 2) is) (λ same. let wrong : 1 ≡ 2 = ap head_of same in cc) (no_store_gives her_note refl) (no_store_gives her_other_note refl) begin in
    no_exception (subst (λ (e : Event Reading). IsExceptionFor clients_of_ann m k (happens e)) (read_as_asked at.0 at.1) at.2)

pub stores_part_at_select : StoresPartAtSelect
stores_part_at_select told = bytes_part_at_select (begin_alike ReadsSo no_stops no_stops clients_of_ann (stands_with 3 first) (stands_with 7 with_her_other) (asked_by 3) (her_note ∷ []) (asked_by 7) (her_other_note ∷ []) told)
