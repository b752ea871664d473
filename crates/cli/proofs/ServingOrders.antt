-- An order to serve many clients at once was performed.
use Rattle.std.proofs.Common.{◌≡◌, ◌⊎◌, ⊎_elim, inr, ◌∙◌, ap, sym, subst, refl, Option, [], ◌∷◌, true, false}
use Rattle.sector_device.specs.declared.device.Device.{Ghosts}
use Rattle.abstract_database.specs.Runs.{ReadingRelation}
use Rattle.channels.specs.declared.attend.Attend.{Ghosts as AttendGhosts}
use Rattle.systems.specs.declared.place.ListenPlace.{ListenPlace}
use Rattle.systems.specs.declared.place.ListenPlace.TheVariants.{Each}
use Rattle.systems.specs.declared.place.OnePlace.{OnePlace}
use Rattle.systems.specs.Systems.{SystemState}
use Rattle.std.specs.Global.{Vec}
use Rattle.doors.specs.declared.door_talk.DoorTalk.{DoorTalk}
use Rattle.doors.specs.declared.entry_talk.EntryTalk.{EntryTalk}
use Rattle.placed_talks.specs.declared.placed_talk.PlacedTalk.{PlacedTalk}
use Rattle.password_talks.specs.declared.login.PasswordPlace.{PasswordPlace}
use Rattle.password_talks.specs.declared.password_talk.PasswordTalk.{PasswordTalk}
use Rattle.postgres_logins.specs.declared.postgres_login_talk.PostgresLoginTalk.{PostgresLoginTalk}
use Rattle.talks.specs.declared.talk.Talk.{Ghosts as TalkGhosts}
use Rattle.talks.specs.declared.clients.ServedClients.{Ghosts as ClientsGhosts}
use Rattle.std.specs.Borrow.{Bor}
use Rattle.std.specs.Prelude.{ℕ, List}
use Rattle.wire.specs.declared.sink.Sink.{Ghosts as SinkGhosts}
use Rattle.wire.specs.Listening.{Listening}
use Rattle.wire.specs.ScriptRun.{Known}
use Rattle.cli.specs.declared.command.Invocation.{Invocation}
use Rattle.cli.specs.declared.command.Invocation.TheVariants as order
use Rattle.cli.specs.declared.ending.Exit.{Exit}
use Rattle.cli.specs.declared.ending.Subject.{Subject}
use Rattle.cli.specs.declared.ending.Subject.TheVariants as subject
use Rattle.cli.specs.declared.serve_clients.ManyClients.{ManyClients}
use Rattle.cli.specs.declared.served_place.NamedPlace.{NamedPlace}
use Rattle.cli.specs.declared.served_place.PlaceDoor.{PlaceDoor}
use Rattle.cli.specs.declared.served_place.PlaceDoor.TheVariants.{Anyone, Only, Passwords}
use Rattle.cli.specs.declared.served_place.ServedPlace.{ServedPlace}
use Rattle.cli.specs.OpenPlaces.{by_itself, named_by_itself, open_lines}
use Rattle.cli.specs.ServingClients.{IsDoorFor, password_place}
use Rattle.cli.specs.Program.{IsPerformed, ServesMany, ServesManyAt, ServesManyBy, ServesPlaces, asks_for_passwords, bound_places}
use Rattle.cli.specs.SeveralTalks.{StandsAtOne}

module _ (X : Type 0) {D L K C S H T P U Q V W M N R I : Type 0} (g : Ghosts D) (k : SinkGhosts K) (c : SinkGhosts C) (a : AttendGhosts L H) (t : TalkGhosts (DoorTalk T)) (p : ClientsGhosts P (DoorTalk T)) (u : TalkGhosts (DoorTalk U)) (q : ClientsGhosts Q (DoorTalk U)) (v : TalkGhosts (PasswordTalk V)) (w : ClientsGhosts W (PasswordTalk V)) (m : TalkGhosts (PostgresLoginTalk M)) (n : ClientsGhosts N (PostgresLoginTalk M)) {s : TalkGhosts (PlacedTalk (DoorTalk T) (DoorTalk U) (PasswordTalk V) (PostgresLoginTalk M))}
    (o : TalkGhosts (EntryTalk (PlacedTalk (DoorTalk T) (DoorTalk U) (PasswordTalk V) (PostgresLoginTalk M)) s)) (r : ClientsGhosts R (EntryTalk (PlacedTalk (DoorTalk T) (DoorTalk U) (PasswordTalk V) (PostgresLoginTalk M)) s)) (MayDraw : I → List ℕ → Type 0) (Reads : ReadingRelation) (listening : L → Option Listening) (state : S → SystemState D L) (old : SystemState D L) where
  pub many_performed : (asked : Invocation) (file : Bor (List ℕ)) (place : ServedPlace) (many : ManyClients) (exit : Exit) (new : SystemState D L) (out : K) (err_before err_after : Known) → asked ≡ order.ServeClients file place many
      → ServesManyAt X g a t p u q v w m n MayDraw Reads old (subject.Named file) file.now place many exit new err_before err_after → IsPerformed X g k c a t p u q v w m n o r MayDraw Reads listening state old asked exit new out out err_before err_after
  many_performed asked file place many exit new out err_before err_after is serves =
      subst (λ (i : Invocation). IsPerformed X g k c a t p u q v w m n o r MayDraw Reads listening state old i exit new out out err_before err_after) (sym is) (serves, refl)

  pub places_performed : (asked : Invocation) (file : Bor (List ℕ)) (places : Vec NamedPlace) (told : List NamedPlace) (many : ManyClients) (exit : Exit) (new : SystemState D L) (out : K) (err_before err_after : Known) → asked ≡ order.ServePlaces file places many → told ≡ places.items
      → ServesPlaces X g a o r MayDraw Reads old (subject.Named file) file.now told many exit new err_before err_after → IsPerformed X g k c a t p u q v w m n o r MayDraw Reads listening state old asked exit new out out err_before err_after
  places_performed asked file places told many exit new out err_before err_after is same serves =
      subst (λ (i : Invocation). IsPerformed X g k c a t p u q v w m n o r MayDraw Reads listening state old i exit new out out err_before err_after) (sym is)
      (subst (λ (ps : List NamedPlace). ServesPlaces X g a o r MayDraw Reads old (subject.Named file) file.now ps many exit new err_before err_after) same serves, refl)

-- clients were served at several places, each by the words of its place
module _ {X : Type 0} {D L H F P V W Q I : Type 0} {g : Ghosts D} {a : AttendGhosts L H} {s : TalkGhosts (PlacedTalk (DoorTalk F) (DoorTalk P) (PasswordTalk V) (PostgresLoginTalk W))} {t : TalkGhosts (EntryTalk (PlacedTalk (DoorTalk F) (DoorTalk P) (PasswordTalk V) (PostgresLoginTalk W)) s)}
    {p : ClientsGhosts Q (EntryTalk (PlacedTalk (DoorTalk F) (DoorTalk P) (PasswordTalk V) (PostgresLoginTalk W)) s)} {MayDraw : I → List ℕ → Type 0} {Reads : ReadingRelation} {old : SystemState D L} {file : Subject} {path : List ℕ} {many : ManyClients} {exit : Exit} {new : SystemState D L} {err_before err_after : Known} where
  pub served_at_each : (draw : I) (bound : Bor (List OnePlace)) (places made : List NamedPlace) (each : ListenPlace) → bound.now ≡ bound_places places → each ≡ Each bound → made ≡ places
      → ServesMany X g a t p Reads old file path each (open_lines places) (StandsAtOne (MayDraw draw) made) many exit new err_before err_after → ServesPlaces X g a t p MayDraw Reads old file path places many exit new err_before err_after
  served_at_each draw bound places made each are_bound is same serves = inr (record {
    bound = bound;
    are_bound = are_bound;
    draw = draw;
    serves = subst (λ (e : ListenPlace). ServesMany X g a t p Reads old file path e (open_lines places) (StandsAtOne (MayDraw draw) places) many exit new err_before err_after) is
        (subst (λ (ps : List NamedPlace). ServesMany X g a t p Reads old file path each (open_lines places) (StandsAtOne (MayDraw draw) ps) many exit new err_before err_after) same serves);
  })

-- what the door of a place says of passwords
abbrev words_of : PlaceDoor → PasswordPlace
words_of Anyone = password_place [] []
words_of (Only role) = password_place [] []
words_of (Passwords table mock) = password_place table.now mock.now

same_place : (a b c d : List ℕ) → a ≡ c → b ≡ d → password_place a b ≡ password_place c d
same_place a b c d first second = subst (λ (t : List ℕ). password_place a b ≡ password_place t d) first (subst (λ (m : List ℕ). password_place a b ≡ password_place a m) second refl)

-- a place where one comes in as any role, or as one alone, asks for no passwords
asks_none : (door : PlaceDoor) → (door ≡ Anyone) ⊎ ((role : Bor (List ℕ)) × (door ≡ Only role)) → asks_for_passwords door ≡ false
asks_none door is = ⊎_elim (λ anyone. ap asks_for_passwords anyone) (λ only. ap asks_for_passwords only.1) is

-- clients were served at a place, by whom it lets in
module _ {X : Type 0} {D L C T P V W I : Type 0} {g : Ghosts D} {a : AttendGhosts L C} {t : TalkGhosts (DoorTalk T)} {p : ClientsGhosts P (DoorTalk T)} {v : TalkGhosts V} {w : ClientsGhosts W V} (place_of : V → PasswordPlace) (drawn_of : V → List ℕ) {MayDraw : I → List ℕ → Type 0} {Reads : ReadingRelation} {old : SystemState D L} {file : Subject} {path : List ℕ} {many : ManyClients} {exit : Exit}
    {new : SystemState D L} {err_before err_after : Known} where
  pub served_at_door : (place : ServedPlace) (named : NamedPlace) (door : PlaceDoor) → named ≡ named_by_itself place → door ≡ place.door → (place.door ≡ Anyone) ⊎ ((role : Bor (List ℕ)) × (place.door ≡ Only role))
      → ServesMany X g a t p Reads old file path place.place (open_lines (named ∷ [])) (λ talk. IsDoorFor door talk.door) many exit new err_before err_after → ServesManyBy X g a t p v w place_of drawn_of MayDraw Reads old file path place many exit new err_before err_after
  served_at_door place named door itself same is serves = record {
    at_door = λ asked.
        subst (λ (d : PlaceDoor). ServesMany X g a t p Reads old file path place.place (open_lines (by_itself place)) (λ talk. IsDoorFor d talk.door) many exit new err_before err_after) same
        (subst (λ (n : NamedPlace). ServesMany X g a t p Reads old file path place.place (open_lines (n ∷ [])) (λ talk. IsDoorFor door talk.door) many exit new err_before err_after) itself serves);
    with_passwords = λ table mock asked. let bad : true ≡ false = sym (ap asks_for_passwords asked) ∙ asks_none place.door is in cc;
  }

  pub served_with_passwords : (draw : I) (place : ServedPlace) (named : NamedPlace) (table mock : Bor (List ℕ)) (made_table made_mock : List ℕ) → named ≡ named_by_itself place → place.door ≡ Passwords table mock → made_table ≡ table.now → made_mock ≡ mock.now
      → ServesMany X g a v w Reads old file path place.place (open_lines (named ∷ [])) (λ talk. (place_of talk ≡ password_place made_table made_mock) × MayDraw draw (drawn_of talk)) many exit new err_before err_after → ServesManyBy X g a t p v w place_of drawn_of MayDraw Reads old file path place many exit new err_before err_after
  served_with_passwords draw place named table mock made_table made_mock itself is same_table same_mock serves = record {
    at_door = λ open_to_all. let bad : true ≡ false = sym (ap asks_for_passwords is) ∙ open_to_all in cc;
    with_passwords = λ other_table other_mock asked. (
      draw,
      subst (λ (there : PasswordPlace). ServesMany X g a v w Reads old file path place.place (open_lines (by_itself place)) (λ talk. (place_of talk ≡ there) × MayDraw draw (drawn_of talk)) many exit new err_before err_after)
          (same_place made_table made_mock table.now mock.now same_table same_mock ∙ ap words_of (sym is ∙ asked))
          (subst (λ (n : NamedPlace). ServesMany X g a v w Reads old file path place.place (open_lines (n ∷ [])) (λ talk. (place_of talk ≡ password_place made_table made_mock) × MayDraw draw (drawn_of talk)) many exit new err_before err_after) itself serves),
    );
  }
