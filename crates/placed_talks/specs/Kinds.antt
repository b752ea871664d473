-- A conversation of one of four kinds.
use Rattle.std.specs.Prelude.{◌≡◌, ◌≤◌, ◌++◌, ℕ, List, length, Option}
use Rattle.talks.specs.declared.talk.MessageFront.{MessageFront}
use Rattle.talks.specs.declared.talk.MessageFront.TheVariants.{Whole, Bad}
use Rattle.talks.specs.declared.talk.Talk.{Ghosts}
use Rattle.talks.specs.declared.want.Want.{Want}
use Rattle.talks.specs.declared.want.Reply.{Reply}
use Rattle.placed_talks.specs.declared.placed_talk.PlacedTalk.{PlacedTalk}
use Rattle.placed_talks.specs.declared.placed_talk.PlacedTalk.TheVariants.{Frames, Postgres, FramesWithPassword, PostgresWithPassword}

-- what stands at the front of bytes, by what each kind sees there
abbrev pub front_in : {F P V W : Type 0} → (F → List ℕ → MessageFront) → (P → List ℕ → MessageFront) → (V → List ℕ → MessageFront) → (W → List ℕ → MessageFront) → PlacedTalk F P V W → List ℕ → MessageFront
front_in f p v w (Frames t) bytes = f t bytes
front_in f p v w (Postgres t) bytes = p t bytes
front_in f p v w (FramesWithPassword t) bytes = v t bytes
front_in f p v w (PostgresWithPassword t) bytes = w t bytes

-- `f`, `p`, `v` and `w` are what is said of conversations of the four kinds
module _ {F P V W : Type 0} (f : Ghosts F) (p : Ghosts P) (v : Ghosts V) (w : Ghosts W) where
  -- it begins as one of its kind
  abbrev pub starts_as : PlacedTalk F P V W → Type 0
  starts_as (Frames t) = f.starts t
  starts_as (Postgres t) = p.starts t
  starts_as (FramesWithPassword t) = v.starts t
  starts_as (PostgresWithPassword t) = w.starts t

  -- what it wants
  abbrev pub wants_of : PlacedTalk F P V W → Want
  wants_of (Frames t) = f.wants t
  wants_of (Postgres t) = p.wants t
  wants_of (FramesWithPassword t) = v.wants t
  wants_of (PostgresWithPassword t) = w.wants t

  -- the role of which its client has shown that it comes as that
  abbrev pub comes_as_of : PlacedTalk F P V W → Option (List ℕ)
  comes_as_of (Frames t) = f.comes_as t
  comes_as_of (Postgres t) = p.comes_as t
  comes_as_of (FramesWithPassword t) = v.comes_as t
  comes_as_of (PostgresWithPassword t) = w.comes_as t

  -- what stands at the front of bytes
  abbrev pub front_of : PlacedTalk F P V W → List ℕ → MessageFront
  front_of t bytes = front_in f.front p.front v.front w.front t bytes

  -- what it says to a message, and that it stays one of its kind
  abbrev pub hears_as : PlacedTalk F P V W → List ℕ → List ℕ → PlacedTalk F P V W → Type 0
  hears_as (Frames t) message said (Frames u) = f.hears t message said u
  hears_as (Frames t) message said _ = ⊥
  hears_as (Postgres t) message said (Postgres u) = p.hears t message said u
  hears_as (Postgres t) message said _ = ⊥
  hears_as (FramesWithPassword t) message said (FramesWithPassword u) = v.hears t message said u
  hears_as (FramesWithPassword t) message said _ = ⊥
  hears_as (PostgresWithPassword t) message said (PostgresWithPassword u) = w.hears t message said u
  hears_as (PostgresWithPassword t) message said _ = ⊥

  -- and of a bad front
  abbrev pub rejects_as : PlacedTalk F P V W → List ℕ → PlacedTalk F P V W → Type 0
  rejects_as (Frames t) said (Frames u) = f.rejects t said u
  rejects_as (Frames t) said _ = ⊥
  rejects_as (Postgres t) said (Postgres u) = p.rejects t said u
  rejects_as (Postgres t) said _ = ⊥
  rejects_as (FramesWithPassword t) said (FramesWithPassword u) = v.rejects t said u
  rejects_as (FramesWithPassword t) said _ = ⊥
  rejects_as (PostgresWithPassword t) said (PostgresWithPassword u) = w.rejects t said u
  rejects_as (PostgresWithPassword t) said _ = ⊥

  -- and to what it learns
  abbrev pub learns_as : PlacedTalk F P V W → Reply → List ℕ → PlacedTalk F P V W → Type 0
  learns_as (Frames t) reply said (Frames u) = f.learns t reply said u
  learns_as (Frames t) reply said _ = ⊥
  learns_as (Postgres t) reply said (Postgres u) = p.learns t reply said u
  learns_as (Postgres t) reply said _ = ⊥
  learns_as (FramesWithPassword t) reply said (FramesWithPassword u) = v.learns t reply said u
  learns_as (FramesWithPassword t) reply said _ = ⊥
  learns_as (PostgresWithPassword t) reply said (PostgresWithPassword u) = w.learns t reply said u
  learns_as (PostgresWithPassword t) reply said _ = ⊥

-- bytes that follow a whole message change nothing of it
abbrev pub FrontMore : {T : Type 0} → (T → List ℕ → MessageFront) → Type 0
FrontMore {T} front = (t : T) (bytes more : List ℕ) (n : ℕ) → front t bytes ≡ Whole n → (n ≤ length bytes) × (front t (bytes ++ more) ≡ Whole n)

-- and they mend no bad front
abbrev pub BadMore : {T : Type 0} → (T → List ℕ → MessageFront) → Type 0
BadMore {T} front = (t : T) (bytes more : List ℕ) → front t bytes ≡ Bad → front t (bytes ++ more) ≡ Bad

-- so it is of each kind, and so of all
module _ {F P V W : Type 0} {f : F → List ℕ → MessageFront} {p : P → List ℕ → MessageFront} {v : V → List ℕ → MessageFront} {w : W → List ℕ → MessageFront} where
  pub front_more_of : FrontMore f → FrontMore p → FrontMore v → FrontMore w → (t : PlacedTalk F P V W) (bytes more : List ℕ) (n : ℕ) → front_in f p v w t bytes ≡ Whole n
      → (n ≤ length bytes) × (front_in f p v w t (bytes ++ more) ≡ Whole n)
  front_more_of a b c d (Frames t) bytes more n is = a t bytes more n is
  front_more_of a b c d (Postgres t) bytes more n is = b t bytes more n is
  front_more_of a b c d (FramesWithPassword t) bytes more n is = c t bytes more n is
  front_more_of a b c d (PostgresWithPassword t) bytes more n is = d t bytes more n is

  pub bad_more_of : BadMore f → BadMore p → BadMore v → BadMore w → (t : PlacedTalk F P V W) (bytes more : List ℕ) → front_in f p v w t bytes ≡ Bad → front_in f p v w t (bytes ++ more) ≡ Bad
  bad_more_of a b c d (Frames t) bytes more is = a t bytes more is
  bad_more_of a b c d (Postgres t) bytes more is = b t bytes more is
  bad_more_of a b c d (FramesWithPassword t) bytes more is = c t bytes more is
  bad_more_of a b c d (PostgresWithPassword t) bytes more is = d t bytes more is
