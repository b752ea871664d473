-- A place that admits no superuser: who is entitled to sessions is as at another place.
use Rattle.std.specs.Prelude.{not, ◌&&◌}
use Rattle.std.proofs.Common.{◌≡◌, ◌∙◌, ℕ, Bool, true, false, List, [], ◌∷◌, ◌++◌, take, map, refl, ap, sym, subst}
use Rattle.std.proofs.lemmas.List.{map-append}
use Rattle.std.specs.List.{AllByRecursion}
use Rattle.store.specs.Store.{StoreState}
use Rattle.abstract_database.specs.Lists.{TheName}
use Rattle.abstract_database.specs.Runs.{At}
use Rattle.server.specs.declared.server.Server.{Server}
use Rattle.server.specs.Standing.{Represents}
use Rattle.server.specs.Superusers.{may_become_superuser}
use Rattle.served_machine.specs.Admitted.{WantsAdmitted}
use Rattle.served_machine.specs.Entries.{is_way_of}
use Rattle.talks.specs.Wants.{Learnt, learnt, FitsWant}
use Rattle.talks.specs.Conversations.{Heard, stays, hears, rejects, learns, loses, breaks}
use Rattle.talks.specs.declared.talk.Talk.{Ghosts}
use Rattle.talks.specs.declared.want.Want.{Want}
use Rattle.talks.specs.declared.want.Want.TheVariants as want
use Rattle.talks.specs.declared.want.Reply.{Reply}
use Rattle.talks.specs.declared.want.Reply.TheVariants as reply
use Rattle.doors.specs.declared.entry_talk.EntryTalk.{EntryTalk}
use Rattle.doors.specs.Entries.{is_open, wanted_with}
use Rattle.password_talks.specs.declared.login.PasswordPlace.{PasswordPlace}
use Rattle.password_talks.specs.Courses.{HasShown, found}
use Rattle.postgres_logins.specs.declared.stage.Newcomer.{Newcomer}
use Rattle.postgres_logins.specs.Courses.{HasAuthenticated}
use Rattle.login_laws.specs.Done.{Done, told_in}
use Rattle.login_laws.specs.Entitled.{IsNoSuperuser, WantsAsEntitled, WantedAsEntitled, WantsBarred}
use Rattle.login_laws.specs.Places.{SomePlace, at_door, with_password, with_password_in_messages, EntitledAt}
use Rattle.login_laws.specs.Shown.{FoundAsKept, WereFoundAsKept}
use Rattle.login_laws.proofs.Doing.{FindsKeptText}
use Rattle.login_laws.proofs.Inside.{first_same, rest_same, silent}

-- ---- what is wanted there

-- what is no session is wanted as it is
kept : (b : Bool) (v w : Want) → is_open v ≡ false → wanted_with b w ≡ v → w ≡ v
kept false v w none is = is
kept true v (want.Open n login entry) none is = let wrong : true ≡ false = ap is_open is ∙ none in cc
kept true v want.Message none is = is
kept true v (want.Event e) none is = is
kept true v (want.Standing n) none is = is
kept true v (want.Description n text) none is = is
kept true v (want.Verifier table role) none is = is
kept true v (want.End late) none is = is
kept true v want.OutOfMemory none is = is

looked_up_there : (b : Bool) (table role : TheName) → wanted_with b (want.Verifier table role) ≡ want.Verifier table role
looked_up_there true table role = refl
looked_up_there false table role = refl

-- and it is answered as it is
fits_there : (b : Bool) (w : Want) (r : Reply) → FitsWant (wanted_with b w) r → FitsWant w r
fits_there false w r fits = fits
fits_there true (want.Open n login entry) (reply.Answer a) fits = tt
fits_there true (want.Open n login entry) (reply.Standing s) fits = fits
fits_there true (want.Open n login entry) (reply.Description d) fits = fits
fits_there true (want.Open n login entry) (reply.Verifier v) fits = fits
fits_there true want.Message r fits = fits
fits_there true (want.Event e) r fits = fits
fits_there true (want.Standing n) r fits = fits
fits_there true (want.Description n text) r fits = fits
fits_there true (want.Verifier table role) r fits = fits
fits_there true (want.End late) r fits = fits
fits_there true want.OutOfMemory r fits = fits

-- what was wanted, with the entries of such a place
abbrev there : Bool → Learnt → Learnt
there b y = learnt (wanted_with b y.want) y.reply

-- look-ups were learnt as they were wanted
three_there : (b : Bool) (table mock role : TheName) (mock_text text : List ℕ) (later : List Learnt)
    → map (there b) (found table mock mock_text ∷ found table role text ∷ found table role text ∷ later) ≡ found table mock mock_text ∷ found table role text ∷ found table role text ∷ map (there b) later
three_there true table mock role mock_text text later = refl
three_there false table mock role mock_text text later = refl

abbrev done_as : {S X : Type 0} → Server S X → ℕ → Want → Reply → Done S X
done_as server c w r = record { server = server; exchange = record { client = c; want = w; reply = r } }

abbrev done_there : {S X : Type 0} → Bool → Done S X → Done S X
done_there b z = done_as z.server z.exchange.client (wanted_with b z.exchange.want) z.exchange.reply

-- ---- all that is heard

module _ {U : Type 0} (s : Ghosts U) (outer : Ghosts (EntryTalk U s))
    (wants_is : (t : EntryTalk U s) → outer.wants t ≡ wanted_with t.no_superuser (s.wants t.talk))
    (front_is : (t : EntryTalk U s) (bytes : List ℕ) → outer.front t bytes ≡ s.front t.talk bytes)
    (hears_is : (t u : EntryTalk U s) (message said : List ℕ) → outer.hears t message said u → s.hears t.talk message said u.talk × (u.no_superuser ≡ t.no_superuser))
    (rejects_is : (t u : EntryTalk U s) (said : List ℕ) → outer.rejects t said u → s.rejects t.talk said u.talk × (u.no_superuser ≡ t.no_superuser))
    (learns_is : (t u : EntryTalk U s) (r : Reply) (said : List ℕ) → outer.learns t r said u → s.learns t.talk r said u.talk × (u.no_superuser ≡ t.no_superuser)) where
  -- the conversation inside heard the same, and learnt what it wanted
  record HeardBehind (t u : EntryTalk U s) (bytes : List ℕ) (xs : List Learnt) (said rest : List ℕ) : Type 0 where
    pub known : List Learnt
    pub heard : Heard s t.talk bytes known said rest u.talk
    pub as_known : xs ≡ map (there t.no_superuser) known

  wanted_behind : (t : EntryTalk U s) (v : Want) → is_open v ≡ false → outer.wants t ≡ v → s.wants t.talk ≡ v
  wanted_behind t v none is = kept t.no_superuser v (s.wants t.talk) none (sym (wants_is t) ∙ is)

  asked_behind : (t : EntryTalk U s) (x : Learnt) → outer.wants t ≡ x.want → x ≡ there t.no_superuser (learnt (s.wants t.talk) x.reply)
  asked_behind t x is = ap (λ (w : Want). learnt w x.reply) (sym is ∙ wants_is t)

  fits_behind : (t : EntryTalk U s) (x : Learnt) → outer.wants t ≡ x.want → FitsWant x.want x.reply → FitsWant (s.wants t.talk) x.reply
  fits_behind t x is fits = fits_there t.no_superuser (s.wants t.talk) x.reply (subst (λ (w : Want). FitsWant w x.reply) (sym is ∙ wants_is t) fits)

  one_first : (b c : Bool) (x y : Learnt) (xs ys : List Learnt) → x ≡ there b y → xs ≡ map (there c) ys → c ≡ b → x ∷ xs ≡ map (there b) (y ∷ ys)
  one_first b c x y xs ys is as_known same =
      ap (λ (l : Learnt). l ∷ xs) is ∙ (ap (λ (ls : List Learnt). there b y ∷ ls) as_known ∙ ap (λ (d : Bool). there b y ∷ map (there d) ys) same)

  -- nothing more was learnt, whatever the entries
  any_entries : (b c : Bool) (xs ys : List Learnt) → xs ≡ [] → xs ≡ map (there c) ys → xs ≡ map (there b) ys
  any_entries b c xs [] none is = is
  any_entries b c xs (y ∷ ys) none is = let wrong : [] ≡ there c y ∷ map (there c) ys = sym none ∙ is in cc

  heard_behind : {t u : EntryTalk U s} {bytes said rest : List ℕ} {xs : List Learnt} → Heard outer t bytes xs said rest u → HeardBehind t u bytes xs said rest
  heard_behind stays = record { known = []; heard = stays; as_known = refl }
  heard_behind {t = t} (hears {u = u} {bytes = bytes} {said = saying} n wants front says later) =
      let it = hears_is t u (take n bytes) saying says in
      let on = heard_behind later in record {
        known = on.known;
        heard = hears n (wanted_behind t want.Message refl wants) (sym (front_is t bytes) ∙ front) it.0 on.heard;
        as_known = on.as_known ∙ ap (λ (b : Bool). map (there b) on.known) it.1;
      }
  heard_behind {t = t} (rejects {u = u} {bytes = bytes} {said = saying} wants front says later) =
      let it = rejects_is t u saying says in
      let on = heard_behind later in record {
        known = on.known;
        heard = rejects (wanted_behind t want.Message refl wants) (sym (front_is t bytes) ∙ front) it.0 on.heard;
        as_known = on.as_known ∙ ap (λ (b : Bool). map (there b) on.known) it.1;
      }
  heard_behind {t = t} (learns {u = u} {said = saying} {xs = ys} x wants fits says later) =
      let it = learns_is t u x.reply saying says in
      let on = heard_behind later in record {
        known = learnt (s.wants t.talk) x.reply ∷ on.known;
        heard = learns (learnt (s.wants t.talk) x.reply) refl (fits_behind t x wants fits) it.0 on.heard;
        as_known = one_first t.no_superuser u.no_superuser x (learnt (s.wants t.talk) x.reply) ys on.known (asked_behind t x wants) on.as_known it.1;
      }
  heard_behind {t = t} (loses {u = u} {xs = ys} x wants fits end later) =
      let on = heard_behind later in record {
        known = learnt (s.wants t.talk) x.reply ∷ on.known;
        heard = loses (learnt (s.wants t.talk) x.reply) refl (fits_behind t x wants fits) (wanted_behind u want.OutOfMemory refl end) on.heard;
        as_known = one_first t.no_superuser t.no_superuser x (learnt (s.wants t.talk) x.reply) ys on.known (asked_behind t x wants)
            (any_entries t.no_superuser u.no_superuser ys on.known (silent outer later end).0 on.as_known) refl;
      }
  heard_behind {t = t} (breaks {u = u} {xs = ys} end later) =
      let on = heard_behind later in record {
        known = on.known;
        heard = breaks (wanted_behind u want.OutOfMemory refl end) on.heard;
        as_known = any_entries t.no_superuser u.no_superuser ys on.known (silent outer later end).0 on.as_known;
      }

-- ---- what was done

module _ {S X : Type 0} (state : S → StoreState) (b : Bool) where
  -- what was done, as the conversation inside wanted it
  record DoneBehind (xs : List (Done S X)) (ys : List Learnt) : Type 0 where
    pub zs : List (Done S X)
    pub told : told_in zs ≡ ys
    pub as_done : xs ≡ map (done_there b) zs

  as_wanted : (x : Done S X) (v : Want) (q : Reply) → x.exchange.want ≡ wanted_with b v → x.exchange.reply ≡ q → x ≡ done_there b (done_as x.server x.exchange.client v q)
  as_wanted x v q wants replies =
      ap (λ (w : Want). done_as x.server x.exchange.client w x.exchange.reply) wants ∙ ap (λ (r : Reply). done_as x.server x.exchange.client (wanted_with b v) r) replies

  done_behind : (xs : List (Done S X)) (ys : List Learnt) → told_in xs ≡ map (there b) ys → DoneBehind xs ys
  done_behind [] [] is = record { zs = []; told = refl; as_done = refl }
  done_behind [] (y ∷ ys) is = absurd (let no : ⊥ = cc in no)
  done_behind (x ∷ xs) [] is = absurd (let no : ⊥ = cc in no)
  done_behind (x ∷ xs) (y ∷ ys) is =
      let on = done_behind xs ys (rest_same _ _ _ _ is) in
      let same = first_same _ _ _ _ is in
      let z : Done S X = done_as x.server x.exchange.client y.want y.reply in record {
        zs = z ∷ on.zs;
        told = ap (λ (ls : List Learnt). y ∷ ls) on.told;
        as_done = ap (λ (d : Done S X). d ∷ xs) (as_wanted x y.want y.reply (ap (λ (l : Learnt). l.want) same) (ap (λ (l : Learnt). l.reply) same))
            ∙ ap (λ (ds : List (Done S X)). done_there b z ∷ ds) on.as_done;
      }

  kept_behind : (table role : TheName) (text : List ℕ) (z : Done S X) → FoundAsKept state table role text z → FoundAsKept state table role text (done_there b z)
  kept_behind table role text z it = record { wanted = ap (λ (w : Want). wanted_with b w) it.wanted ∙ looked_up_there b table role; told = it.told; sound = it.sound; kept = it.kept }

  finds_behind : (z : Done S X) → FindsKeptText state (done_there b z) → FindsKeptText state z
  finds_behind z finds table role text is told =
      let it = finds table role text (ap (λ (w : Want). wanted_with b w) is ∙ looked_up_there b table role) told in
      record { wanted = is; told = told; sound = it.sound; kept = it.kept }

  all_find_behind : (zs : List (Done S X)) → AllByRecursion (FindsKeptText state) (map (done_there b) zs) → AllByRecursion (FindsKeptText state) zs
  all_find_behind [] all = tt
  all_find_behind (z ∷ zs) all = (finds_behind z all.0, all_find_behind zs all.1)

  told_there : (zs : List (Done S X)) → told_in (map (done_there b) zs) ≡ map (there b) (told_in zs)
  told_there [] = refl
  told_there (z ∷ zs) = ap (λ (ls : List Learnt). there b (learnt z.exchange.want z.exchange.reply) ∷ ls) (told_there zs)

  -- ---- who is entitled

  found_there : (place : PasswordPlace) (past : List (Done S X)) (role mock_text text : List ℕ) → WereFoundAsKept state place past role mock_text text → WereFoundAsKept state place (map (done_there b) past) role mock_text text
  found_there place past role mock_text text it = record {
    of_mock = done_there b it.of_mock;
    of_role = done_there b it.of_role;
    of_role_again = done_there b it.of_role_again;
    later = map (done_there b) it.later;
    began = ap (λ (l : List (Done S X)). map (done_there b) l) it.began;
    mock_kept = kept_behind place.table place.mock mock_text it.of_mock it.mock_kept;
    role_kept = kept_behind place.table role text it.of_role it.role_kept;
    role_kept_again = kept_behind place.table role text it.of_role_again it.role_kept_again;
    earlier = map (done_there b) it.earlier;
    just_now = done_there b it.just_now;
    ended = ap (λ (l : List (Done S X)). map (done_there b) l) it.ended ∙ map-append (done_there b) it.earlier (it.just_now ∷ []);
    role_kept_now = kept_behind place.table role text it.just_now it.role_kept_now;
  }

  learnt_there : (past : List (Done S X)) (table mock role : TheName) (mock_text text : List ℕ) (later : List Learnt) → told_in past ≡ found table mock mock_text ∷ found table role text ∷ found table role text ∷ later
      → told_in (map (done_there b) past) ≡ found table mock mock_text ∷ found table role text ∷ found table role text ∷ map (there b) later
  learnt_there past table mock role mock_text text later is = told_there past ∙ (ap (λ (l : List Learnt). map (there b) l) is ∙ three_there b table mock role mock_text text later)

  abbrev shown_there : (place : PasswordPlace) (drawn sent : List ℕ) (past : List (Done S X)) (role text : List ℕ) → HasShown place drawn sent (told_in past) role text → HasShown place drawn sent (told_in (map (done_there b) past)) role text
  shown_there place drawn sent past role text it = record {
    label = it.label;
    first = it.first;
    last = it.last;
    middle = it.middle;
    rest = it.rest;
    begun = it.begun;
    ended = it.ended;
    was_shown = it.was_shown;
    mock_text = it.mock_text;
    later = map (there b) it.later;
    learnt_is = learnt_there past place.table place.mock role it.mock_text text it.later it.learnt_is;
  }

  abbrev authenticated_there : (place : PasswordPlace) (drawn sent : List ℕ) (past : List (Done S X)) (n : Newcomer) (text : List ℕ) → HasAuthenticated place drawn sent (told_in past) n text
      → HasAuthenticated place drawn sent (told_in (map (done_there b) past)) n text
  authenticated_there place drawn sent past n text it = record {
    before = it.before;
    behind_start = it.behind_start;
    entered = it.entered;
    first = it.first;
    last = it.last;
    middle = it.middle;
    rest = it.rest;
    begun = it.begun;
    ended = it.ended;
    was_shown = it.was_shown;
    mock_text = it.mock_text;
    later = map (there b) it.later;
    learnt_is = learnt_there past place.table place.mock n.role it.mock_text text it.later it.learnt_is;
  }

  entitled_there : (place : SomePlace) (drawn sent said : List ℕ) (past : List (Done S X)) (role : TheName) → EntitledAt state place drawn sent said past role → EntitledAt state place drawn sent said (map (done_there b) past) role
  entitled_there (at_door door) drawn sent said past role it = it
  entitled_there (with_password place) drawn sent said past role it = record {
    text = it.text;
    shown = shown_there place drawn sent past role it.text it.shown;
    found = found_there place past role it.shown.mock_text it.text it.found;
    told = it.told;
  }
  entitled_there (with_password_in_messages place) drawn sent said past role it = record {
    newcomer = it.newcomer;
    is_for = it.is_for;
    text = it.text;
    shown = authenticated_there place drawn sent past it.newcomer it.text it.shown;
    found = found_there place past role it.shown.mock_text it.text it.found;
    told = it.told;
  }

  module _ (E : List (Done S X) → TheName → Type 0) (more : (past : List (Done S X)) (role : TheName) → E past role → E (map (done_there b) past) role) where
    wants_there : (past : List (Done S X)) (c : Bool) (w : Want) → WantsAsEntitled E past w → WantsAsEntitled E (map (done_there b) past) (wanted_with c w)
    wants_there past true (want.Open n login entry) it = more past login it
    wants_there past true want.Message it = tt
    wants_there past true (want.Event e) it = tt
    wants_there past true (want.Standing n) it = tt
    wants_there past true (want.Description n text) it = tt
    wants_there past true (want.Verifier table role) it = tt
    wants_there past true (want.End late) it = tt
    wants_there past true want.OutOfMemory it = tt
    wants_there past false (want.Open n login entry) it = more past login it
    wants_there past false want.Message it = tt
    wants_there past false (want.Event e) it = tt
    wants_there past false (want.Standing n) it = tt
    wants_there past false (want.Description n text) it = tt
    wants_there past false (want.Verifier table role) it = tt
    wants_there past false (want.End late) it = tt
    wants_there past false want.OutOfMemory it = tt

    all_wanted_there : (before zs : List (Done S X)) → WantedAsEntitled E before zs → WantedAsEntitled E (map (done_there b) before) (map (done_there b) zs)
    all_wanted_there before [] it = tt
    all_wanted_there before (z ∷ zs) it = (
      wants_there before b z.exchange.want it.0,
      subst (λ (l : List (Done S X)). WantedAsEntitled E l (map (done_there b) zs)) (map-append (done_there b) before (z ∷ [])) (all_wanted_there (before ++ z ∷ []) zs it.1),
    )

-- ---- who is barred

barred_with : (b : Bool) (w : Want) → WantsBarred b (wanted_with b w)
barred_with true (want.Open n login entry) = λ so. refl
barred_with false (want.Open n login entry) = λ so. absurd (let no : ⊥ = cc in no)
barred_with true want.Message = tt
barred_with true (want.Event e) = tt
barred_with true (want.Standing n) = tt
barred_with true (want.Description n text) = tt
barred_with true (want.Verifier table role) = tt
barred_with true (want.End late) = tt
barred_with true want.OutOfMemory = tt
barred_with false want.Message = tt
barred_with false (want.Event e) = tt
barred_with false (want.Standing n) = tt
barred_with false (want.Description n text) = tt
barred_with false (want.Verifier table role) = tt
barred_with false (want.End late) = tt
barred_with false want.OutOfMemory = tt

each_barred : {S X : Type 0} (b : Bool) (xs : List (Done S X)) (ys : List Learnt) → told_in xs ≡ map (there b) ys → AllByRecursion (λ x. WantsBarred b x.exchange.want) xs
each_barred b [] ys is = tt
each_barred b (x ∷ xs) [] is = absurd (let no : ⊥ = cc in no)
each_barred b (x ∷ xs) (y ∷ ys) is = (
  subst (λ (w : Want). WantsBarred b w) (sym (ap (λ (l : Learnt). l.want) (first_same _ _ _ _ is))) (barred_with b y.want),
  each_barred b xs ys (rest_same _ _ _ _ is),
)

-- whom such a place lets in may not become a superuser
not_both : (way no may : Bool) → no ≡ true → (way && not (no && may)) ≡ true → may ≡ false
not_both true true true so is = let wrong : false ≡ true = is in cc
not_both true true false so is = refl
not_both false true may so is = let wrong : false ≡ true = is in cc
not_both way false may so is = let wrong : false ≡ true = so in cc

module _ {S X : Type 0} (state : S → StoreState) (b : Bool) (so : b ≡ true) where
  let_in_there : (server : Server S X) (w : Want) → WantsBarred b w → (n : ℕ) (login : TheName) → WantsAdmitted state server w n login → (a : At) → Represents state server a
      → may_become_superuser a.standing.machine.committed login ≡ false
  let_in_there server (want.Open k role entry) barred n login admitted a stands =
      not_both (is_way_of entry.way login) entry.no_superuser (may_become_superuser a.standing.machine.committed login) (barred so) (admitted.2 a stands)
  let_in_there server want.Message barred n login admitted a stands = absurd admitted
  let_in_there server (want.Event e) barred n login admitted a stands = absurd admitted
  let_in_there server (want.Standing k) barred n login admitted a stands = absurd admitted
  let_in_there server (want.Description k text) barred n login admitted a stands = absurd admitted
  let_in_there server (want.Verifier table role) barred n login admitted a stands = absurd admitted
  let_in_there server (want.End late) barred n login admitted a stands = absurd admitted
  let_in_there server want.OutOfMemory barred n login admitted a stands = absurd admitted

  pub none_let_in : (xs : List (Done S X)) → AllByRecursion (λ x. WantsBarred b x.exchange.want) xs → AllByRecursion (IsNoSuperuser state) xs
  none_let_in [] barred = tt
  none_let_in (x ∷ xs) barred = (let_in_there x.server x.exchange.want barred.0, none_let_in xs barred.1)

-- ---- what follows

module _ {S X U : Type 0} (s : Ghosts U) (outer : Ghosts (EntryTalk U s))
    (wants_is : (t : EntryTalk U s) → outer.wants t ≡ wanted_with t.no_superuser (s.wants t.talk))
    (front_is : (t : EntryTalk U s) (bytes : List ℕ) → outer.front t bytes ≡ s.front t.talk bytes)
    (hears_is : (t u : EntryTalk U s) (message said : List ℕ) → outer.hears t message said u → s.hears t.talk message said u.talk × (u.no_superuser ≡ t.no_superuser))
    (rejects_is : (t u : EntryTalk U s) (said : List ℕ) → outer.rejects t said u → s.rejects t.talk said u.talk × (u.no_superuser ≡ t.no_superuser))
    (learns_is : (t u : EntryTalk U s) (r : Reply) (said : List ℕ) → outer.learns t r said u → s.learns t.talk r said u.talk × (u.no_superuser ≡ t.no_superuser)) where
  pub all_barred : (t u : EntryTalk U s) (sent said rest : List ℕ) (xs : List (Done S X)) → Heard outer t sent (told_in xs) said rest u → AllByRecursion (λ x. WantsBarred t.no_superuser x.exchange.want) xs
  all_barred t u sent said rest xs heard =
      let inside = heard_behind s outer wants_is front_is hears_is rejects_is learns_is heard in
      each_barred t.no_superuser xs inside.known inside.as_known

module _ {S X U : Type 0} (state : S → StoreState) (s : Ghosts U) (outer : Ghosts (EntryTalk U s)) (place_of : U → SomePlace) (drawn_of : U → List ℕ)
    (wants_is : (t : EntryTalk U s) → outer.wants t ≡ wanted_with t.no_superuser (s.wants t.talk))
    (front_is : (t : EntryTalk U s) (bytes : List ℕ) → outer.front t bytes ≡ s.front t.talk bytes)
    (hears_is : (t u : EntryTalk U s) (message said : List ℕ) → outer.hears t message said u → s.hears t.talk message said u.talk × (u.no_superuser ≡ t.no_superuser))
    (rejects_is : (t u : EntryTalk U s) (said : List ℕ) → outer.rejects t said u → s.rejects t.talk said u.talk × (u.no_superuser ≡ t.no_superuser))
    (learns_is : (t u : EntryTalk U s) (r : Reply) (said : List ℕ) → outer.learns t r said u → s.learns t.talk r said u.talk × (u.no_superuser ≡ t.no_superuser))
    (law : (t u : U) (sent said rest : List ℕ) (xs : List (Done S X)) → s.starts t → Heard s t sent (told_in xs) said rest u → AllByRecursion (FindsKeptText state) xs
    → WantedAsEntitled (EntitledAt state (place_of t) (drawn_of t) sent said) [] xs × WantsAsEntitled (EntitledAt state (place_of t) (drawn_of t) sent said) xs (s.wants u)) where
  pub entered_entitled : (t u : EntryTalk U s) (sent said rest : List ℕ) (xs : List (Done S X)) → s.starts t.talk → Heard outer t sent (told_in xs) said rest u → AllByRecursion (FindsKeptText state) xs
      → WantedAsEntitled (EntitledAt state (place_of t.talk) (drawn_of t.talk) sent said) [] xs × WantsAsEntitled (EntitledAt state (place_of t.talk) (drawn_of t.talk) sent said) xs (outer.wants u)
  entered_entitled t u sent said rest xs starts heard finds =
      let b = t.no_superuser in
      let inside = heard_behind s outer wants_is front_is hears_is rejects_is learns_is heard in
      let done = done_behind state b xs inside.known inside.as_known in
      let found = all_find_behind state b done.zs (subst (λ (l : List (Done S X)). AllByRecursion (FindsKeptText state) l) done.as_done finds) in
      let both = law t.talk u.talk sent said rest done.zs starts (subst (λ (l : List Learnt). Heard s t.talk sent l said rest u.talk) (sym done.told) inside.heard) found in
      let more = entitled_there state b (place_of t.talk) (drawn_of t.talk) sent said in (
        subst (λ (l : List (Done S X)). WantedAsEntitled (EntitledAt state (place_of t.talk) (drawn_of t.talk) sent said) [] l) (sym done.as_done)
            (all_wanted_there state b (EntitledAt state (place_of t.talk) (drawn_of t.talk) sent said) more [] done.zs both.0),
        subst (λ (w : Want). WantsAsEntitled (EntitledAt state (place_of t.talk) (drawn_of t.talk) sent said) xs w) (sym (wants_is u))
            (subst (λ (l : List (Done S X)). WantsAsEntitled (EntitledAt state (place_of t.talk) (drawn_of t.talk) sent said) l (wanted_with u.no_superuser (s.wants u.talk))) (sym done.as_done)
            (wants_there state b (EntitledAt state (place_of t.talk) (drawn_of t.talk) sent said) more done.zs u.no_superuser (s.wants u.talk) both.1)),
      )
