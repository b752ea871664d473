-- Conversations at places say one thing to the same bytes and replies, where those by themselves do.
use Rattle.std.proofs.Common.{◌≡◌, ◌∙◌, ℕ, Bool, List, sym, ap, subst}
use Rattle.talks.specs.declared.talk.Talk.{Ghosts}
use Rattle.talks.specs.declared.want.Want.{Want}
use Rattle.talks.specs.declared.want.Reply.{Reply}
use Rattle.doors.specs.Entries.{wanted_with}
use Rattle.placed_talks.specs.declared.placed_talk.PlacedTalk.{PlacedTalk}
use Rattle.placed_talks.specs.declared.placed_talk.PlacedTalk.TheVariants.{Frames, Postgres, FramesWithPassword, PostgresWithPassword}
use Rattle.placed_talks.specs.Kinds.{front_of, hears_as, learns_as, rejects_as, starts_as, wants_of}
use Rattle.placed_talks.proofs.Inside.{in_frames_hears, in_frames_rejects, in_frames_learns, by_postgres_hears, by_postgres_rejects, by_postgres_learns, frames_with_password_hears, frames_with_password_rejects, frames_with_password_learns, postgres_with_password_hears, postgres_with_password_rejects, postgres_with_password_learns}
use Rattle.served_tenants.specs.Saying.{SpeaksOnce}
use Rattle.protocol_laws.specs.Places.{AreOfOneKind, in_frames, by_postgres, frames_with_password, postgres_with_password}

-- ---- at a place that may admit no superuser

module _ {T : Type 0} (k : Ghosts T) (Alike : T → T → Type 0) (speaks : SpeaksOnce k Alike) where
  module _ {U : Type 0} (d : Ghosts U) (bars : U → Bool) (talk_of : U → T) (wants : (u : U) → d.wants u ≡ wanted_with (bars u) (k.wants (talk_of u))) (front : (u : U) (bytes : List ℕ) → d.front u bytes ≡ k.front (talk_of u) bytes)
      (hears : (u v : U) (message said : List ℕ) → d.hears u message said v → k.hears (talk_of u) message said (talk_of v) × (bars v ≡ bars u))
      (rejects : (u v : U) (said : List ℕ) → d.rejects u said v → k.rejects (talk_of u) said (talk_of v) × (bars v ≡ bars u))
      (learns : (u v : U) (r : Reply) (said : List ℕ) → d.learns u r said v → k.learns (talk_of u) r said (talk_of v) × (bars v ≡ bars u)) where
    abbrev EnterAlike : U → U → Type 0
    EnterAlike t u = (bars t ≡ bars u) × Alike (talk_of t) (talk_of u)

    stand_so : (t u v w : U) (said also : List ℕ) → EnterAlike t u → bars v ≡ bars t → bars w ≡ bars u → (said ≡ also) × Alike (talk_of v) (talk_of w) → (said ≡ also) × EnterAlike v w
    stand_so t u v w said also alike here there both = (both.0, (here ∙ alike.0 ∙ sym there, both.1))

    pub entries_once : SpeaksOnce d EnterAlike
    entries_once = record {
      wants = λ t u alike. wants t ∙ ap (λ (b : Bool). wanted_with b (k.wants (talk_of t))) alike.0 ∙ ap (λ (x : Want). wanted_with (bars u) x) (speaks.wants (talk_of t) (talk_of u) alike.1) ∙ sym (wants u);
      front = λ t u bytes alike. front t bytes ∙ speaks.front (talk_of t) (talk_of u) bytes alike.1 ∙ sym (front u bytes);
      hears = λ t u v w message said also alike one other.
          let here = hears t v message said one in
          let there = hears u w message also other in
          stand_so t u v w said also alike here.1 there.1 (speaks.hears (talk_of t) (talk_of u) (talk_of v) (talk_of w) message said also alike.1 here.0 there.0);
      rejects = λ t u v w said also alike one other.
          let here = rejects t v said one in
          let there = rejects u w also other in
          stand_so t u v w said also alike here.1 there.1 (speaks.rejects (talk_of t) (talk_of u) (talk_of v) (talk_of w) said also alike.1 here.0 there.0);
      learns = λ t u v w r said also alike one other.
          let here = learns t v r said one in
          let there = learns u w r also other in
          stand_so t u v w said also alike here.1 there.1 (speaks.learns (talk_of t) (talk_of u) (talk_of v) (talk_of w) r said also alike.1 here.0 there.0);
    }

-- ---- of one kind

-- what both of a kind say, as conversations of all kinds
both_said : {T U : Type 0} (embed : T → U) (Same : T → T → Type 0) (Alike : U → U → Type 0) → ((a b : T) → Same a b → Alike (embed a) (embed b)) → (x y : U) (said also : List ℕ) (does beyond : List ℕ → T → Type 0) →
    ((s r : List ℕ) (a b : T) → does s a → beyond r b → (s ≡ r) × Same a b) → (a : T) × (x ≡ embed a) × does said a → (b : T) × (y ≡ embed b) × beyond also b → (said ≡ also) × Alike x y
both_said {T} {U} embed Same Alike up x y said also does beyond step (a, at, one) (b, at_there, other) =
    let both = step said also a b one other in
    (both.0, subst (λ (z : U). Alike z y) (sym at) (subst (λ (z : U). Alike (embed a) z) (sym at_there) (up a b both.1)))

module _ {F P V W : Type 0} (f : Ghosts F) (p : Ghosts P) (v : Ghosts V) (w : Ghosts W) (A : F → F → Type 0) (B : P → P → Type 0) (C : V → V → Type 0) (D : W → W → Type 0)
    (frames : SpeaksOnce f A) (postgres : SpeaksOnce p B) (with_password : SpeaksOnce v C) (postgres_with : SpeaksOnce w D) where
  abbrev Placed : Type 0
  Placed = PlacedTalk F P V W

  abbrev KindsAlike : Placed → Placed → Type 0
  KindsAlike = AreOfOneKind A B C D

  wanted_once : (t u : Placed) → KindsAlike t u → wants_of f p v w t ≡ wants_of f p v w u
  wanted_once t u (in_frames {t = a} {u = b} alike) = frames.wants a b alike
  wanted_once t u (by_postgres {t = a} {u = b} alike) = postgres.wants a b alike
  wanted_once t u (frames_with_password {t = a} {u = b} alike) = with_password.wants a b alike
  wanted_once t u (postgres_with_password {t = a} {u = b} alike) = postgres_with.wants a b alike

  fronts_once : (t u : Placed) (bytes : List ℕ) → KindsAlike t u → front_of f p v w t bytes ≡ front_of f p v w u bytes
  fronts_once t u bytes (in_frames {t = a} {u = b} alike) = frames.front a b bytes alike
  fronts_once t u bytes (by_postgres {t = a} {u = b} alike) = postgres.front a b bytes alike
  fronts_once t u bytes (frames_with_password {t = a} {u = b} alike) = with_password.front a b bytes alike
  fronts_once t u bytes (postgres_with_password {t = a} {u = b} alike) = postgres_with.front a b bytes alike

  heard_once : (t u x y : Placed) (message said also : List ℕ) → KindsAlike t u → hears_as f p v w t message said x → hears_as f p v w u message also y → (said ≡ also) × KindsAlike x y
  heard_once t u x y message said also (in_frames {t = a} {u = b} alike) one other =
      both_said (λ (c : F). Frames c) A KindsAlike (λ c d same. in_frames same) x y said also (f.hears a message) (f.hears b message) (λ s r c d. frames.hears a b c d message s r alike) (in_frames_hears f p v w a x message said one) (in_frames_hears f p v w b y message also other)
  heard_once t u x y message said also (by_postgres {t = a} {u = b} alike) one other =
      both_said (λ (c : P). Postgres c) B KindsAlike (λ c d same. by_postgres same) x y said also (p.hears a message) (p.hears b message) (λ s r c d. postgres.hears a b c d message s r alike) (by_postgres_hears f p v w a x message said one) (by_postgres_hears f p v w b y message also other)
  heard_once t u x y message said also (frames_with_password {t = a} {u = b} alike) one other =
      both_said (λ (c : V). FramesWithPassword c) C KindsAlike (λ c d same. frames_with_password same) x y said also (v.hears a message) (v.hears b message) (λ s r c d. with_password.hears a b c d message s r alike) (frames_with_password_hears f p v w a x message said one) (frames_with_password_hears f p v w b y message also other)
  heard_once t u x y message said also (postgres_with_password {t = a} {u = b} alike) one other =
      both_said (λ (c : W). PostgresWithPassword c) D KindsAlike (λ c d same. postgres_with_password same) x y said also (w.hears a message) (w.hears b message) (λ s r c d. postgres_with.hears a b c d message s r alike) (postgres_with_password_hears f p v w a x message said one) (postgres_with_password_hears f p v w b y message also other)

  rejected_once : (t u x y : Placed) (said also : List ℕ) → KindsAlike t u → rejects_as f p v w t said x → rejects_as f p v w u also y → (said ≡ also) × KindsAlike x y
  rejected_once t u x y said also (in_frames {t = a} {u = b} alike) one other =
      both_said (λ (c : F). Frames c) A KindsAlike (λ c d same. in_frames same) x y said also (f.rejects a) (f.rejects b) (λ s r c d. frames.rejects a b c d s r alike) (in_frames_rejects f p v w a x said one) (in_frames_rejects f p v w b y also other)
  rejected_once t u x y said also (by_postgres {t = a} {u = b} alike) one other =
      both_said (λ (c : P). Postgres c) B KindsAlike (λ c d same. by_postgres same) x y said also (p.rejects a) (p.rejects b) (λ s r c d. postgres.rejects a b c d s r alike) (by_postgres_rejects f p v w a x said one) (by_postgres_rejects f p v w b y also other)
  rejected_once t u x y said also (frames_with_password {t = a} {u = b} alike) one other =
      both_said (λ (c : V). FramesWithPassword c) C KindsAlike (λ c d same. frames_with_password same) x y said also (v.rejects a) (v.rejects b) (λ s r c d. with_password.rejects a b c d s r alike) (frames_with_password_rejects f p v w a x said one) (frames_with_password_rejects f p v w b y also other)
  rejected_once t u x y said also (postgres_with_password {t = a} {u = b} alike) one other =
      both_said (λ (c : W). PostgresWithPassword c) D KindsAlike (λ c d same. postgres_with_password same) x y said also (w.rejects a) (w.rejects b) (λ s r c d. postgres_with.rejects a b c d s r alike) (postgres_with_password_rejects f p v w a x said one) (postgres_with_password_rejects f p v w b y also other)

  learnt_once : (t u x y : Placed) (r : Reply) (said also : List ℕ) → KindsAlike t u → learns_as f p v w t r said x → learns_as f p v w u r also y → (said ≡ also) × KindsAlike x y
  learnt_once t u x y r said also (in_frames {t = a} {u = b} alike) one other =
      both_said (λ (c : F). Frames c) A KindsAlike (λ c d same. in_frames same) x y said also (f.learns a r) (f.learns b r) (λ s q c d. frames.learns a b c d r s q alike) (in_frames_learns f p v w a x r said one) (in_frames_learns f p v w b y r also other)
  learnt_once t u x y r said also (by_postgres {t = a} {u = b} alike) one other =
      both_said (λ (c : P). Postgres c) B KindsAlike (λ c d same. by_postgres same) x y said also (p.learns a r) (p.learns b r) (λ s q c d. postgres.learns a b c d r s q alike) (by_postgres_learns f p v w a x r said one) (by_postgres_learns f p v w b y r also other)
  learnt_once t u x y r said also (frames_with_password {t = a} {u = b} alike) one other =
      both_said (λ (c : V). FramesWithPassword c) C KindsAlike (λ c d same. frames_with_password same) x y said also (v.learns a r) (v.learns b r) (λ s q c d. with_password.learns a b c d r s q alike) (frames_with_password_learns f p v w a x r said one) (frames_with_password_learns f p v w b y r also other)
  learnt_once t u x y r said also (postgres_with_password {t = a} {u = b} alike) one other =
      both_said (λ (c : W). PostgresWithPassword c) D KindsAlike (λ c d same. postgres_with_password same) x y said also (w.learns a r) (w.learns b r) (λ s q c d. postgres_with.learns a b c d r s q alike) (postgres_with_password_learns f p v w a x r said one) (postgres_with_password_learns f p v w b y r also other)

  module _ (d : Ghosts Placed) (wants : (t : Placed) → d.wants t ≡ wants_of f p v w t) (front : (t : Placed) (bytes : List ℕ) → d.front t bytes ≡ front_of f p v w t bytes)
      (hears : (t u : Placed) (message said : List ℕ) → d.hears t message said u → hears_as f p v w t message said u)
      (rejects : (t u : Placed) (said : List ℕ) → d.rejects t said u → rejects_as f p v w t said u)
      (learns : (t u : Placed) (r : Reply) (said : List ℕ) → d.learns t r said u → learns_as f p v w t r said u) where
    pub kinds_once : SpeaksOnce d KindsAlike
    kinds_once = record {
      wants = λ t u alike. wants t ∙ wanted_once t u alike ∙ sym (wants u);
      front = λ t u bytes alike. front t bytes ∙ fronts_once t u bytes alike ∙ sym (front u bytes);
      hears = λ t u x y message said also alike one other. heard_once t u x y message said also alike (hears t x message said one) (hears u y message also other);
      rejects = λ t u x y said also alike one other. rejected_once t u x y said also alike (rejects t x said one) (rejects u y also other);
      learns = λ t u x y r said also alike one other. learnt_once t u x y r said also alike (learns t x r said one) (learns u y r also other);
    }

-- conversations of one kind begin alike, where those by themselves do
module _ {F P V W : Type 0} (f : Ghosts F) (p : Ghosts P) (v : Ghosts V) (w : Ghosts W) (A E : F → F → Type 0) (B G : P → P → Type 0) (C H : V → V → Type 0) (D I : W → W → Type 0)
    (frames : (t u : F) → f.starts t → f.starts u → E t u → A t u) (postgres : (t u : P) → p.starts t → p.starts u → G t u → B t u)
    (with_password : (t u : V) → v.starts t → v.starts u → H t u → C t u) (postgres_with : (t u : W) → w.starts t → w.starts u → I t u → D t u) where
  pub begun_of_one_kind : (t u : PlacedTalk F P V W) → starts_as f p v w t → starts_as f p v w u → AreOfOneKind E G H I t u → AreOfOneKind A B C D t u
  begun_of_one_kind t u starts starts_there (in_frames {t = a} {u = b} begins) = in_frames (frames a b starts starts_there begins)
  begun_of_one_kind t u starts starts_there (by_postgres {t = a} {u = b} begins) = by_postgres (postgres a b starts starts_there begins)
  begun_of_one_kind t u starts starts_there (frames_with_password {t = a} {u = b} begins) = frames_with_password (with_password a b starts starts_there begins)
  begun_of_one_kind t u starts starts_there (postgres_with_password {t = a} {u = b} begins) = postgres_with_password (postgres_with a b starts starts_there begins)
