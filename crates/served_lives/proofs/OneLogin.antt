-- Lives in which one login role serves two tenants.
use Rattle.std.proofs.Common.{◌≡◌, ◌∙◌, true, false, refl, sym}
use Rattle.abstract_database.specs.Database.{Database}
use Rattle.database_laws.specs.HiddenRuns.{SameApparentRowsForPairs}
use Rattle.database_laws.specs.Runs.{ReadsOnce}
use Rattle.database_laws.specs.TwoTenants.{first, second, by_app_for_ann}
use Rattle.database_laws.proofs.TwoTenants.{premises_met}
use Rattle.client_laws.specs.StoresApart.{ReadsSo}
use Rattle.served_lives.specs.ServedLives.{OthersKeepHidden, WantTheSame}
use Rattle.served_lives.specs.OneLogin.{clients_by_app, lives_here, lives_there, OneLoginMeetsThePremises}
use Rattle.served_lives.proofs.ServedLivesApart.{apart}
use Rattle.served_lives.proofs.ServedLivesTold.{lives_tell}

clash : true ≡ false → ⊥
clash e = cc

same_rows : (db : Database) → SameApparentRowsForPairs by_app_for_ann db db
same_rows db = record { definitions = refl; rows = λ pair acts. record { definitions = refl; rows = λ t is. refl } }

here_hidden : OthersKeepHidden clients_by_app (lives_here apart)
here_hidden = (
  (
    (λ own. absurd (clash (sym own)), λ foreign. same_rows first),
    (
      (λ own admitted may. refl, λ foreign. absurd (clash foreign)),
      (
        (λ own. tt, λ foreign. absurd (clash foreign)),
        (
          (λ own. absurd (clash (sym own)), λ foreign. same_rows first),
          (
            (λ own admitted may. refl, λ foreign. absurd (clash foreign)),
            (
              (λ own. tt, λ foreign. absurd (clash foreign)),
              (
                (λ own. absurd (clash (sym own)), λ foreign. same_rows first),
                (
                  (λ own. tt, λ foreign. absurd (clash foreign)),
                  (
                    (λ own. tt, λ foreign. absurd (clash foreign)),
                    (
                      (λ own. absurd (clash (sym own)), λ foreign. same_rows first),
                      (
                        (λ own. tt, λ foreign. absurd (clash foreign)),
                        ((λ own. tt, λ foreign. absurd (clash foreign)), tt),
                      ),
                    ),
                  ),
                ),
              ),
            ),
          ),
        ),
      ),
    ),
  ),
  (
    (
      (λ own admitted may. refl, λ foreign. absurd (clash foreign)),
      (
        (λ own. tt, λ foreign. absurd (clash foreign)),
        (
          (λ own. absurd (clash (sym own)), λ foreign. same_rows first),
          (
            (λ own admitted may. refl, λ foreign. absurd (clash foreign)),
            (
              (λ own. tt, λ foreign. absurd (clash foreign)),
              (
                (λ own. tt, λ foreign. absurd (clash foreign)),
                ((λ own. tt, λ foreign. absurd (clash foreign)), tt),
              ),
            ),
          ),
        ),
      ),
    ),
    tt,
  ),
)

there_hidden : OthersKeepHidden clients_by_app (lives_there apart)
there_hidden = (
  (
    (λ own. absurd (clash (sym own)), λ foreign. same_rows second),
    (
      (λ own. absurd (clash (sym own)), λ foreign. same_rows second),
      (
        (λ own admitted may. refl, λ foreign. absurd (clash foreign)),
        (
          (λ own. tt, λ foreign. absurd (clash foreign)),
          (
            (λ own admitted may. refl, λ foreign. absurd (clash foreign)),
            (
              (λ own. tt, λ foreign. absurd (clash foreign)),
              (
                (λ own. absurd (clash (sym own)), λ foreign. same_rows second),
                (
                  (λ own. tt, λ foreign. absurd (clash foreign)),
                  (
                    (λ own. absurd (clash (sym own)), λ foreign. same_rows second),
                    (
                      (λ own. tt, λ foreign. absurd (clash foreign)),
                      ((λ own. tt, λ foreign. absurd (clash foreign)), tt),
                    ),
                  ),
                ),
              ),
            ),
          ),
        ),
      ),
    ),
  ),
  (
    (
      (λ own admitted may. refl, λ foreign. absurd (clash foreign)),
      (
        (λ own. tt, λ foreign. absurd (clash foreign)),
        (
          (λ own admitted may. refl, λ foreign. absurd (clash foreign)),
          (
            (λ own. tt, λ foreign. absurd (clash foreign)),
            (
              (λ own. absurd (clash (sym own)), λ foreign. same_rows second),
              (
                (λ own. absurd (clash (sym own)), λ foreign. same_rows second),
                (
                  (λ own. absurd (clash (sym own)), λ foreign. same_rows second),
                  (
                    (λ own. tt, λ foreign. absurd (clash foreign)),
                    ((λ own. tt, λ foreign. absurd (clash foreign)), tt),
                  ),
                ),
              ),
            ),
          ),
        ),
      ),
    ),
    tt,
  ),
)

reads_once : ReadsOnce ReadsSo
reads_once text x y one two = one ∙ sym two

want_the_same : WantTheSame clients_by_app (lives_here apart) (lives_there apart)
want_the_same = (
  ((refl, refl), λ a. ((refl, refl), λ b. ((refl, refl), λ c. ((refl, refl), λ d. ((refl, refl), λ e. ((refl, refl), λ f. ((refl, refl), λ g. tt))))))),
  (((refl, refl), λ a. ((refl, refl), λ b. ((refl, refl), λ c. ((refl, refl), λ d. ((refl, refl), λ e. ((refl, refl), λ f. tt)))))), tt),
)

pub one_login_meets : OneLoginMeetsThePremises
one_login_meets = record {
  apart = apart;
  hidden = (here_hidden, there_hidden);
  same = want_the_same;
  told = lives_tell ReadsSo reads_once clients_by_app first second (lives_here apart) (lives_there apart) premises_met.by_one_login.committed premises_met.sound_first premises_met.sound_second here_hidden there_hidden want_the_same;
  shown = refl;
  shown_there = refl;
}
