use Rattle.std.proofs.Common.{refl}
use Rattle.placed_talks.specs.declared.placed_talk.PlacedTalk.TheVariants.{Frames, Postgres, FramesWithPassword, PostgresWithPassword}
use Rattle.placed_talks.proofs.Hearing.{stays_inside}
use Rattle.placed_talks.proofs.Inside.{in_frames_hears, in_frames_rejects, in_frames_learns, by_postgres_hears, by_postgres_rejects, by_postgres_learns, frames_with_password_hears, frames_with_password_rejects, frames_with_password_learns, postgres_with_password_hears, postgres_with_password_rejects, postgres_with_password_learns}
use Rattle.placed_talks.proofs.laws.a_conversation_stays_of_its_kind.Goals as goal

pub returns-clause-in_frames : goal.returns-clause-in_frames
returns-clause-in_frames g c = λ t u bytes said rest xs heard. stays_inside g.F.Talk _ (λ a. Frames a) (λ a b same. cc) (λ a. refl) (λ a bytes. refl) (in_frames_hears g.F.Talk g.P.Talk g.V.Talk g.W.Talk) (in_frames_rejects g.F.Talk g.P.Talk g.V.Talk g.W.Talk) (in_frames_learns g.F.Talk g.P.Talk g.V.Talk g.W.Talk) heard t refl

pub returns-clause-by_postgres : goal.returns-clause-by_postgres
returns-clause-by_postgres g c = λ t u bytes said rest xs heard. stays_inside g.P.Talk _ (λ a. Postgres a) (λ a b same. cc) (λ a. refl) (λ a bytes. refl) (by_postgres_hears g.F.Talk g.P.Talk g.V.Talk g.W.Talk) (by_postgres_rejects g.F.Talk g.P.Talk g.V.Talk g.W.Talk) (by_postgres_learns g.F.Talk g.P.Talk g.V.Talk g.W.Talk) heard t refl

pub returns-clause-frames_with_password : goal.returns-clause-frames_with_password
returns-clause-frames_with_password g c = λ t u bytes said rest xs heard. stays_inside g.V.Talk _ (λ a. FramesWithPassword a) (λ a b same. cc) (λ a. refl) (λ a bytes. refl) (frames_with_password_hears g.F.Talk g.P.Talk g.V.Talk g.W.Talk) (frames_with_password_rejects g.F.Talk g.P.Talk g.V.Talk g.W.Talk) (frames_with_password_learns g.F.Talk g.P.Talk g.V.Talk g.W.Talk) heard t refl

pub returns-clause-postgres_with_password : goal.returns-clause-postgres_with_password
returns-clause-postgres_with_password g c = λ t u bytes said rest xs heard. stays_inside g.W.Talk _ (λ a. PostgresWithPassword a) (λ a b same. cc) (λ a. refl) (λ a bytes. refl) (postgres_with_password_hears g.F.Talk g.P.Talk g.V.Talk g.W.Talk) (postgres_with_password_rejects g.F.Talk g.P.Talk g.V.Talk g.W.Talk) (postgres_with_password_learns g.F.Talk g.P.Talk g.V.Talk g.W.Talk) heard t refl
