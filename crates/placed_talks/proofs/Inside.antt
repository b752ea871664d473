-- Of a conversation of a kind all that is said is of that kind.
use Rattle.std.proofs.Common.{◌≡◌, ℕ, List, refl}
use Rattle.talks.specs.declared.talk.Talk.{Ghosts}
use Rattle.talks.specs.declared.want.Reply.{Reply}
use Rattle.placed_talks.specs.declared.placed_talk.PlacedTalk.{PlacedTalk}
use Rattle.placed_talks.specs.declared.placed_talk.PlacedTalk.TheVariants.{Frames, Postgres, FramesWithPassword, PostgresWithPassword}
use Rattle.placed_talks.specs.Kinds.{hears_as, learns_as, rejects_as}

module _ {F P V W : Type 0} (f : Ghosts F) (p : Ghosts P) (v : Ghosts V) (w : Ghosts W) where
  pub in_frames_hears : (a : F) (u : PlacedTalk F P V W) (message said : List ℕ) → hears_as f p v w (Frames a) message said u → (b : F) × (u ≡ Frames b) × f.hears a message said b
  in_frames_hears a (Frames b) message said it = (b, refl, it)
  in_frames_hears a (Postgres b) message said it = absurd it
  in_frames_hears a (FramesWithPassword b) message said it = absurd it
  in_frames_hears a (PostgresWithPassword b) message said it = absurd it

  pub in_frames_rejects : (a : F) (u : PlacedTalk F P V W) (said : List ℕ) → rejects_as f p v w (Frames a) said u → (b : F) × (u ≡ Frames b) × f.rejects a said b
  in_frames_rejects a (Frames b) said it = (b, refl, it)
  in_frames_rejects a (Postgres b) said it = absurd it
  in_frames_rejects a (FramesWithPassword b) said it = absurd it
  in_frames_rejects a (PostgresWithPassword b) said it = absurd it

  pub in_frames_learns : (a : F) (u : PlacedTalk F P V W) (r : Reply) (said : List ℕ) → learns_as f p v w (Frames a) r said u → (b : F) × (u ≡ Frames b) × f.learns a r said b
  in_frames_learns a (Frames b) r said it = (b, refl, it)
  in_frames_learns a (Postgres b) r said it = absurd it
  in_frames_learns a (FramesWithPassword b) r said it = absurd it
  in_frames_learns a (PostgresWithPassword b) r said it = absurd it

  pub by_postgres_hears : (a : P) (u : PlacedTalk F P V W) (message said : List ℕ) → hears_as f p v w (Postgres a) message said u → (b : P) × (u ≡ Postgres b) × p.hears a message said b
  by_postgres_hears a (Frames b) message said it = absurd it
  by_postgres_hears a (Postgres b) message said it = (b, refl, it)
  by_postgres_hears a (FramesWithPassword b) message said it = absurd it
  by_postgres_hears a (PostgresWithPassword b) message said it = absurd it

  pub by_postgres_rejects : (a : P) (u : PlacedTalk F P V W) (said : List ℕ) → rejects_as f p v w (Postgres a) said u → (b : P) × (u ≡ Postgres b) × p.rejects a said b
  by_postgres_rejects a (Frames b) said it = absurd it
  by_postgres_rejects a (Postgres b) said it = (b, refl, it)
  by_postgres_rejects a (FramesWithPassword b) said it = absurd it
  by_postgres_rejects a (PostgresWithPassword b) said it = absurd it

  pub by_postgres_learns : (a : P) (u : PlacedTalk F P V W) (r : Reply) (said : List ℕ) → learns_as f p v w (Postgres a) r said u → (b : P) × (u ≡ Postgres b) × p.learns a r said b
  by_postgres_learns a (Frames b) r said it = absurd it
  by_postgres_learns a (Postgres b) r said it = (b, refl, it)
  by_postgres_learns a (FramesWithPassword b) r said it = absurd it
  by_postgres_learns a (PostgresWithPassword b) r said it = absurd it

  pub frames_with_password_hears : (a : V) (u : PlacedTalk F P V W) (message said : List ℕ) → hears_as f p v w (FramesWithPassword a) message said u → (b : V) × (u ≡ FramesWithPassword b) × v.hears a message said b
  frames_with_password_hears a (Frames b) message said it = absurd it
  frames_with_password_hears a (Postgres b) message said it = absurd it
  frames_with_password_hears a (FramesWithPassword b) message said it = (b, refl, it)
  frames_with_password_hears a (PostgresWithPassword b) message said it = absurd it

  pub frames_with_password_rejects : (a : V) (u : PlacedTalk F P V W) (said : List ℕ) → rejects_as f p v w (FramesWithPassword a) said u → (b : V) × (u ≡ FramesWithPassword b) × v.rejects a said b
  frames_with_password_rejects a (Frames b) said it = absurd it
  frames_with_password_rejects a (Postgres b) said it = absurd it
  frames_with_password_rejects a (FramesWithPassword b) said it = (b, refl, it)
  frames_with_password_rejects a (PostgresWithPassword b) said it = absurd it

  pub frames_with_password_learns : (a : V) (u : PlacedTalk F P V W) (r : Reply) (said : List ℕ) → learns_as f p v w (FramesWithPassword a) r said u → (b : V) × (u ≡ FramesWithPassword b) × v.learns a r said b
  frames_with_password_learns a (Frames b) r said it = absurd it
  frames_with_password_learns a (Postgres b) r said it = absurd it
  frames_with_password_learns a (FramesWithPassword b) r said it = (b, refl, it)
  frames_with_password_learns a (PostgresWithPassword b) r said it = absurd it

  pub postgres_with_password_hears : (a : W) (u : PlacedTalk F P V W) (message said : List ℕ) → hears_as f p v w (PostgresWithPassword a) message said u → (b : W) × (u ≡ PostgresWithPassword b) × w.hears a message said b
  postgres_with_password_hears a (Frames b) message said it = absurd it
  postgres_with_password_hears a (Postgres b) message said it = absurd it
  postgres_with_password_hears a (FramesWithPassword b) message said it = absurd it
  postgres_with_password_hears a (PostgresWithPassword b) message said it = (b, refl, it)

  pub postgres_with_password_rejects : (a : W) (u : PlacedTalk F P V W) (said : List ℕ) → rejects_as f p v w (PostgresWithPassword a) said u → (b : W) × (u ≡ PostgresWithPassword b) × w.rejects a said b
  postgres_with_password_rejects a (Frames b) said it = absurd it
  postgres_with_password_rejects a (Postgres b) said it = absurd it
  postgres_with_password_rejects a (FramesWithPassword b) said it = absurd it
  postgres_with_password_rejects a (PostgresWithPassword b) said it = (b, refl, it)

  pub postgres_with_password_learns : (a : W) (u : PlacedTalk F P V W) (r : Reply) (said : List ℕ) → learns_as f p v w (PostgresWithPassword a) r said u → (b : W) × (u ≡ PostgresWithPassword b) × w.learns a r said b
  postgres_with_password_learns a (Frames b) r said it = absurd it
  postgres_with_password_learns a (Postgres b) r said it = absurd it
  postgres_with_password_learns a (FramesWithPassword b) r said it = absurd it
  postgres_with_password_learns a (PostgresWithPassword b) r said it = (b, refl, it)
