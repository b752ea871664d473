-- Clients of several places want sessions as they are entitled at their own.
use Rattle.std.proofs.Common.{◌≡◌, ◌∙◌, ◌⊎◌, ◌≤◌, ℕ, true, List, [], ◌++◌, length, inl, inr, refl, sym, subst}
use Rattle.std.specs.List.{AllByRecursion}
use Rattle.store.specs.Store.{StoreState}
use Rattle.talks.specs.Wants.{Learnt}
use Rattle.talks.specs.Conversations.{Heard, stays, hears, rejects, learns, loses, breaks}
use Rattle.talks.specs.declared.talk.MessageFront.TheVariants.{Whole, Bad}
use Rattle.talks.specs.declared.talk.Talk.{Ghosts}
use Rattle.talks.specs.declared.want.Want.{Want}
use Rattle.talks.specs.declared.want.Want.TheVariants as want
use Rattle.doors.specs.declared.door.Door.{Door}
use Rattle.doors.specs.declared.door_talk.DoorTalk.{DoorTalk}
use Rattle.doors.specs.Doors.{opens_only, wanted_at}
use Rattle.doors.proofs.Hearing.{admitted_heard, admitted_there}
use Rattle.password_talks.specs.declared.password_talk.PasswordTalk.{PasswordTalk}
use Rattle.postgres_logins.specs.declared.postgres_login_talk.PostgresLoginTalk.{PostgresLoginTalk}
use Rattle.placed_talks.specs.declared.placed_talk.PlacedTalk.{PlacedTalk}
use Rattle.placed_talks.specs.declared.placed_talk.PlacedTalk.TheVariants.{Frames, Postgres, FramesWithPassword, PostgresWithPassword}
use Rattle.password_talks.specs.FrontLaws.{bad_more_if, front_more_if}
use Rattle.password_talks.specs.Logins.{is_admitted}
use Rattle.postgres_logins.specs.FrontLaws.{bad_more_if as bad_in_messages, front_more_if as more_in_messages}
use Rattle.postgres_logins.specs.Logins.{is_admitted as is_in}
use Rattle.placed_talks.specs.Kinds.{BadMore, FrontMore}
use Rattle.placed_talks.proofs.Inside.{in_frames_hears, in_frames_rejects, in_frames_learns, by_postgres_hears, by_postgres_rejects, by_postgres_learns, frames_with_password_hears, frames_with_password_rejects, frames_with_password_learns, postgres_with_password_hears, postgres_with_password_rejects, postgres_with_password_learns}
use Rattle.login_laws.specs.Done.{Done, told_in}
use Rattle.login_laws.specs.Entitled.{WantsAsEntitled, WantedAsEntitled}
use Rattle.login_laws.specs.Places.{EntitledAt, drawn_of, place_of}
use Rattle.login_laws.specs.Shown.{MayComeIn, ShowedPassword, ShowedPasswordInMessages}
use Rattle.login_laws.proofs.Doing.{FindsKeptText}
use Rattle.login_laws.proofs.ComingIn.{all_come_in, comes_in}
use Rattle.login_laws.proofs.Entered.{in_frames, in_messages}
use Rattle.login_laws.proofs.Inside.{entitled_inside, heard_inside, silent}
use Rattle.login_laws.proofs.TalkGhosts.{door_talk, login_talk, password_talk, placed_talk}

-- ---- at a door

module _ {T : Type 0} (k : Ghosts T) where
  -- it stays at its door, or memory was refused
  door_stays : {t u : DoorTalk T} {bytes said rest : List ℕ} {xs : List Learnt} → Heard (door_talk k) t bytes xs said rest u → (u.door ≡ t.door) ⊎ ((door_talk k).wants u ≡ want.OutOfMemory)
  door_stays stays = inl refl
  door_stays (hears n wants front says later) = elim (door_stays later) [ inl same ↦ inl (same ∙ says.1) | inr lost ↦ inr lost ]
  door_stays (rejects wants front says later) = elim (door_stays later) [ inl same ↦ inl (same ∙ says.1) | inr lost ↦ inr lost ]
  door_stays (learns x wants fits says later) = elim (door_stays later) [ inl same ↦ inl (same ∙ says.1) | inr lost ↦ inr lost ]
  door_stays (loses x wants fits end later) = inr (silent (door_talk k) later end).2
  door_stays (breaks end later) = inr (silent (door_talk k) later end).2

  next_admitted : (t u : DoorTalk T) → (u.door ≡ t.door) ⊎ ((door_talk k).wants u ≡ want.OutOfMemory) → opens_only t.door ((door_talk k).wants u) ≡ true
  next_admitted t u (inl same) = subst (λ (d : Door). opens_only d (wanted_at u.door (k.wants u.talk)) ≡ true) same (admitted_there u.door (k.wants u.talk))
  next_admitted t u (inr lost) = subst (λ (w : Want). opens_only t.door w ≡ true) (sym lost) refl

  pub door_entitled : {S X : Type 0} (t u : DoorTalk T) (sent said rest : List ℕ) (ks : List (Done S X)) → Heard (door_talk k) t sent (told_in ks) said rest u
      → WantedAsEntitled (MayComeIn t.door [] sent said) [] ks × WantsAsEntitled (MayComeIn t.door [] sent said) ks ((door_talk k).wants u)
  door_entitled t u sent said rest ks heard = (
    all_come_in t.door [] sent said [] ks
        (admitted_heard k (door_talk k) (λ v. v.door) (λ v. v.talk) (λ v. refl) (λ v bytes. refl) (λ a b message saying it. it) (λ a b saying it. it) (λ a b r saying it. it) heard),
    comes_in t.door [] sent said ks ((door_talk k).wants u) (next_admitted t u (door_stays heard)),
  )

-- ---- at several places

abbrev pub all_kinds : {F P V W : Type 0} → Ghosts F → Ghosts P → Ghosts V → Ghosts W → Ghosts (PlacedTalk (DoorTalk F) (DoorTalk P) (PasswordTalk V) (PostgresLoginTalk W))
all_kinds f p v w = placed_talk (door_talk f) (door_talk p) (password_talk v) (login_talk w)

module _ {S X F P V W : Type 0} (state : S → StoreState) (f : Ghosts F) (p : Ghosts P) (v : Ghosts V) (w : Ghosts W) where
  pub placed_entitled : (t u : PlacedTalk (DoorTalk F) (DoorTalk P) (PasswordTalk V) (PostgresLoginTalk W)) (sent said rest : List ℕ) (xs : List (Done S X)) → (all_kinds f p v w).starts t → Heard (all_kinds f p v w) t sent (told_in xs) said rest u
      → AllByRecursion (FindsKeptText state) xs
      → WantedAsEntitled (EntitledAt state (place_of t) (drawn_of t) sent said) [] xs × WantsAsEntitled (EntitledAt state (place_of t) (drawn_of t) sent said) xs ((all_kinds f p v w).wants u)
  placed_entitled (Frames a) u sent said rest xs starts heard finds =
      entitled_inside state (MayComeIn a.door [] sent said) (door_talk f) a sent said (λ b left ks it found. door_entitled f a b sent said left ks it) xs
      (heard_inside (door_talk f) (all_kinds f p v w) (λ b. Frames b) (λ b. refl) (λ b bytes. refl) (in_frames_hears (door_talk f) (door_talk p) (password_talk v) (login_talk w)) (in_frames_rejects (door_talk f) (door_talk p) (password_talk v) (login_talk w))
      (in_frames_learns (door_talk f) (door_talk p) (password_talk v) (login_talk w)) heard a refl) finds
  placed_entitled (Postgres a) u sent said rest xs starts heard finds =
      entitled_inside state (MayComeIn a.door [] sent said) (door_talk p) a sent said (λ b left ks it found. door_entitled p a b sent said left ks it) xs
      (heard_inside (door_talk p) (all_kinds f p v w) (λ b. Postgres b) (λ b. refl) (λ b bytes. refl) (by_postgres_hears (door_talk f) (door_talk p) (password_talk v) (login_talk w)) (by_postgres_rejects (door_talk f) (door_talk p) (password_talk v) (login_talk w))
      (by_postgres_learns (door_talk f) (door_talk p) (password_talk v) (login_talk w)) heard a refl) finds
  placed_entitled (FramesWithPassword a) u sent said rest xs starts heard finds =
      entitled_inside state (ShowedPassword state a.login.place a.login.drawn sent said) (password_talk v) a sent said
      (λ b left ks it found. in_frames state v (password_talk v) (λ t. refl) (λ t bytes. refl) (λ t u message saying h. h) (λ t u saying h. h) (λ t u r saying h. h) a b sent said left ks starts.0 starts.1 starts.2 it found) xs
      (heard_inside (password_talk v) (all_kinds f p v w) (λ b. FramesWithPassword b) (λ b. refl) (λ b bytes. refl) (frames_with_password_hears (door_talk f) (door_talk p) (password_talk v) (login_talk w))
      (frames_with_password_rejects (door_talk f) (door_talk p) (password_talk v) (login_talk w)) (frames_with_password_learns (door_talk f) (door_talk p) (password_talk v) (login_talk w)) heard a refl) finds
  placed_entitled (PostgresWithPassword a) u sent said rest xs starts heard finds =
      entitled_inside state (ShowedPasswordInMessages state a.login.place a.login.drawn sent said) (login_talk w) a sent said
      (λ b left ks it found. in_messages state w (login_talk w) (λ t. refl) (λ t bytes. refl) (λ t u message saying h. h) (λ t u saying h. h) (λ t u r saying h. h) a b sent said left ks starts.0 starts.1 starts.2 it found) xs
      (heard_inside (login_talk w) (all_kinds f p v w) (λ b. PostgresWithPassword b) (λ b. refl) (λ b bytes. refl) (postgres_with_password_hears (door_talk f) (door_talk p) (password_talk v) (login_talk w))
      (postgres_with_password_rejects (door_talk f) (door_talk p) (password_talk v) (login_talk w)) (postgres_with_password_learns (door_talk f) (door_talk p) (password_talk v) (login_talk w)) heard a refl) finds

-- ---- the fronts of their bytes

module _ {F P V W : Type 0} (f : Ghosts F) (p : Ghosts P) (v : Ghosts V) (w : Ghosts W) where
  pub placed_front_more : FrontMore f.front → FrontMore p.front → FrontMore v.front → FrontMore w.front → (t : PlacedTalk (DoorTalk F) (DoorTalk P) (PasswordTalk V) (PostgresLoginTalk W)) (bytes more : List ℕ) (n : ℕ)
      → (all_kinds f p v w).front t bytes ≡ Whole n → (n ≤ length bytes) × ((all_kinds f p v w).front t (bytes ++ more) ≡ Whole n)
  placed_front_more a b c d (Frames t) bytes more n is = a t.talk bytes more n is
  placed_front_more a b c d (Postgres t) bytes more n is = b t.talk bytes more n is
  placed_front_more a b c d (FramesWithPassword t) bytes more n is =
      front_more_if (is_admitted t.login.stage) (v.front t.talk bytes) (v.front t.talk (bytes ++ more)) bytes more n (λ it. c t.talk bytes more n it) is
  placed_front_more a b c d (PostgresWithPassword t) bytes more n is =
      more_in_messages (is_in t.login.stage) t.login.stage (w.front t.talk bytes) (w.front t.talk (bytes ++ more)) bytes more n (λ it. d t.talk bytes more n it) is

  pub placed_bad_more : BadMore f.front → BadMore p.front → BadMore v.front → BadMore w.front → (t : PlacedTalk (DoorTalk F) (DoorTalk P) (PasswordTalk V) (PostgresLoginTalk W)) (bytes more : List ℕ)
      → (all_kinds f p v w).front t bytes ≡ Bad → (all_kinds f p v w).front t (bytes ++ more) ≡ Bad
  placed_bad_more a b c d (Frames t) bytes more is = a t.talk bytes more is
  placed_bad_more a b c d (Postgres t) bytes more is = b t.talk bytes more is
  placed_bad_more a b c d (FramesWithPassword t) bytes more is =
      bad_more_if (is_admitted t.login.stage) (v.front t.talk bytes) (v.front t.talk (bytes ++ more)) bytes more (λ it. c t.talk bytes more it) is
  placed_bad_more a b c d (PostgresWithPassword t) bytes more is =
      bad_in_messages (is_in t.login.stage) t.login.stage (w.front t.talk bytes) (w.front t.talk (bytes ++ more)) bytes more (λ it. d t.talk bytes more it) is
