-- Two runs in which the clients of one tenant have other numbers.
use Rattle.std.proofs.Common.{◌≡◌, ◌∙◌, ◌||◌, ℕ, nat_eq, Bool, true, false, cond, refl, sym, subst}
use Rattle.std.proofs.lemmas.Bool.{eqb-true}
use Rattle.abstract_database.specs.Database.{Database}
use Rattle.abstract_database.specs.Statements.{UserPair}
use Rattle.abstract_database.specs.Machine.{Machine, number_in, seen}
use Rattle.database_laws.specs.HiddenRuns.{SameApparentRowsForPairs, AreSound, holds_lock}
use Rattle.database_laws.specs.Told.{entries_of, AllFor, IsAlikeTo, OthersKeepOutOfSight}
use Rattle.database_laws.specs.TwoTenants.{first, second, by_app_for_ann}
use Rattle.database_laws.proofs.TwoTenants.{premises_met}
use Rattle.client_laws.specs.Renumbered.{IsOneToOne, renumbered_machine}
use Rattle.client_laws.specs.Clients.{in_run}
use Rattle.client_laws.specs.TwoRuns.{are_own, named, placed, of_both_clients, ann_by_app, one_machine, other_machine, one_run, other_run, one_place, other_place, TwoRunsMeetThePremises, ClientsPartAtSelect}
use Rattle.client_laws.proofs.Told.{have_places, clients_told}

clash : true ≡ false → ⊥
clash e = cc

-- ---- places

abbrev name_if : Bool → ℕ
name_if x = cond x 1 0

one_is_not_none : name_if true ≡ name_if false → ⊥
one_is_not_none e = cc

first_of_two : (b c : Bool) → (b || c) ≡ true → c ≡ false → b ≡ true
first_of_two true c e off = refl
first_of_two false true e off = absurd (clash off)
first_of_two false false e off = e

two_names : (i j c d : ℕ) → are_own i j c ≡ true → are_own i j d ≡ true → named j c ≡ named j d → c ≡ d
two_names i j c d on too same = by (nat_eq c j) (nat_eq d j) refl refl same where
  by : (x y : Bool) → nat_eq c j ≡ x → nat_eq d j ≡ y → name_if x ≡ name_if y → c ≡ d
  by true true is also e = eqb-true c j is ∙ sym (eqb-true d j also)
  by true false is also e = absurd (one_is_not_none e)
  by false true is also e = absurd (one_is_not_none (sym e))
  by false false is also e =
      eqb-true c i (first_of_two (nat_eq c i) (nat_eq c j) on is) ∙ sym (eqb-true d i (first_of_two (nat_eq d i) (nat_eq d j) too also))

placed_apart : (i j : ℕ) → IsOneToOne (placed i j)
placed_apart i j = (have_places (are_own i j) (named j) (two_names i j)).0

-- ---- machines

abbrev m : Machine
m = renumbered_machine one_place one_machine

abbrev k : Machine
k = renumbered_machine other_place other_machine

-- what holds of the sessions of both clients
of_both : (P : ℕ → Type 0) → P (number_in 0 1) → P (number_in 2 1) → (number : ℕ) → of_both_clients number ≡ true → P number
of_both P p q number h = by (nat_eq number (number_in 0 1)) (nat_eq number (number_in 2 1)) refl refl h where
  by : (b c : Bool) → nat_eq number (number_in 0 1) ≡ b → nat_eq number (number_in 2 1) ≡ c → (b || c) ≡ true → P number
  by true c is also e = subst P (sym (eqb-true number (number_in 0 1) is)) p
  by false true is also e = subst P (sym (eqb-true number (number_in 2 1) also)) q
  by false false is also e = absurd (clash (sym e))

committed_alike : SameApparentRowsForPairs by_app_for_ann first second
committed_alike = premises_met.by_one_login.committed

alike : IsAlikeTo ann_by_app m k
alike = record {
  sessions = of_both (λ n. entries_of n m.sessions ≡ entries_of n k.sessions) refl refl;
  opened_for = of_both (λ n. AllFor by_app_for_ann (entries_of n m.sessions)) (record { now = refl; reset = refl; rolled_back = tt }, tt) (record { now = refl; reset = refl; rolled_back = refl }, tt);
  stopped = refl;
  lock = of_both (λ n. holds_lock n m.holder ≡ holds_lock n k.holder) refl refl;
  committed = committed_alike;
  seen = of_both (λ n. SameApparentRowsForPairs by_app_for_ann (seen m n) (seen k n)) committed_alike committed_alike;
}

same_rows : (pairs : UserPair → Bool) (db : Database) → SameApparentRowsForPairs pairs db db
same_rows pairs db = record { definitions = refl; rows = λ pair acts. record { definitions = refl; rows = λ t is. refl } }

one_sound : AreSound one_machine
one_sound = record { committed = premises_met.sound_first; holder = tt }

other_sound : AreSound other_machine
other_sound = record { committed = premises_met.sound_second; holder = tt }

one_hidden : OthersKeepOutOfSight (in_run one_place ann_by_app) one_machine one_run
one_hidden = (
  (λ own. absurd (clash (sym own)), λ foreign. same_rows by_app_for_ann first),
  ((λ own. tt, λ foreign. absurd (clash foreign)), ((λ own. tt, λ foreign. absurd (clash foreign)), ((λ own. tt, λ foreign. absurd (clash foreign)), tt))),
)

other_hidden : OthersKeepOutOfSight (in_run other_place ann_by_app) other_machine other_run
other_hidden = (
  (λ own. tt, λ foreign. absurd (clash foreign)),
  ((λ own. absurd (clash (sym own)), λ foreign. same_rows by_app_for_ann second), ((λ own. tt, λ foreign. absurd (clash foreign)), ((λ own. tt, λ foreign. absurd (clash foreign)), tt))),
)

pub runs_meet_the_premises : TwoRunsMeetThePremises
runs_meet_the_premises = record {
  places = (placed_apart 0 2, placed_apart 5 4);
  alike = alike;
  sound = (one_sound, other_sound);
  hidden = (one_hidden, other_hidden);
  same = refl;
  told = clients_told ann_by_app one_place other_place (placed_apart 0 2) (placed_apart 5 4) one_machine other_machine one_run other_run alike one_sound other_sound one_hidden other_hidden refl;
  answers = refl;
  answers_there = refl;
}

pub clients_part : ClientsPartAtSelect
clients_part told = premises_met.parts told
