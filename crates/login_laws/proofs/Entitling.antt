-- From what a conversation may want to the sessions of its client.
use Rattle.std.proofs.Common.{◌≡◌, ◌∙◌, ◌⊎◌, ◌≤◌, ℕ, nat_eq, Bool, true, false, cond, List, [], ◌∷◌, ◌++◌, length, Option, refl, sym, ap, subst, inl, inr}
use Rattle.std.proofs.lemmas.Bool.{eq-eqb}
use Rattle.std.proofs.lemmas.List.{append-nil, append_assoc}
use Rattle.std.specs.List.{AllByRecursion}
use Rattle.std.specs.Prelude.{Some, None}
use Rattle.std.specs.Io.KnownBytes.{append_known, Appends, Consumes}
use Rattle.store.specs.Store.{StoreState}
use Rattle.abstract_database.specs.Lists.{TheName}
use Rattle.abstract_database.specs.Runs.{ReadingRelation}
use Rattle.talks.specs.declared.want.Want.{Want}
use Rattle.talks.specs.declared.want.Want.TheVariants as want
use Rattle.talks.specs.declared.talk.Talk.{Ghosts as TalkGhosts}
use Rattle.talks.specs.declared.talk.MessageFront.TheVariants.{Whole, Bad}
use Rattle.talks.specs.declared.clients.ServedClients.{Ghosts as ClientsGhosts}
use Rattle.talks.specs.Conversations.{ClientState, Conversation, awaited, there, gone, Continues, Heard, IsAwaited, IsNew, Passes, told}
use Rattle.talks.specs.Wants.{Learnt, OpensSession}
use Rattle.talks.proofs.Turning.{talked}
use Rattle.served_machine.specs.Machines.{machine_of}
use Rattle.login_laws.specs.Done.{Done, done_for, told_in, all_done}
use Rattle.served_machine.specs.Sessions.{HasOwnSession}
use Rattle.login_laws.specs.Answers.{IsOpening, WasOpenedFor}
use Rattle.login_laws.specs.Entitled.{Entitlement, HasSent, StandsNow, WasSaid, WantsAsEntitled, WantedAsEntitled, OpenedAsEntitled, WantsOnlyAsEntitled, HasSessionAsEntitled, IsAnsweredAsEntitled, sessions_are_wanted_as_entitled, sessions_are_opened_as_entitled, sessions_are_answered_as_entitled}
use Rattle.login_laws.proofs.Doing.{FindsKeptText, all_for, for_on, learnt_all, each_finds}
use Rattle.login_laws.proofs.Opening.{all_opened, open_there}

-- ---- lists

module _ {S X : Type 0} where
  no_told : (xs : List (Done S X)) → told_in xs ≡ [] → xs ≡ []
  no_told [] is = refl
  no_told (x ∷ xs) is = absurd (let no : ⊥ = cc in no)

  none_opened : (past later : List (Done S X)) (x : Done S X) → [] ≡ past ++ x ∷ later → ⊥
  none_opened [] later x is = cc
  none_opened (y ∷ past) later x is = cc

  pub keeps_own : (b : Bool) (x : Done S X) (xs : List (Done S X)) → b ≡ true → cond b (x ∷ xs) xs ≡ x ∷ xs
  keeps_own true x xs is = refl
  keeps_own false x xs is = cc

  -- what opened a session of a client is among what was done for it
  own_done : (state : S → StoreState) (xs : List (Done S X)) (c n : ℕ) (login : TheName) (it : WasOpenedFor state xs c n login) → done_for c xs ≡ done_for c it.past ++ it.opening ∷ done_for c it.later
  own_done state xs c n login it =
      ap (λ (l : List (Done S X)). done_for c l) it.is_done
      ∙ (for_on c it.past (it.opening ∷ it.later)
      ∙ ap (λ (l : List (Done S X)). done_for c it.past ++ l) (keeps_own (nat_eq it.opening.exchange.client c) it.opening (done_for c it.later) (eq-eqb it.opening.exchange.client c it.client)))

  -- and it stayed open through those that are left
  own_opening : (state : S → StoreState) (c n : ℕ) (login : TheName) (x : Done S X) (later : List (Done S X)) → IsOpening state x later n login → IsOpening state x (done_for c later) n login
  own_opening state c n login x later it = record {
    opens = it.opens;
    let_in = it.let_in;
    answered = it.answered;
    was_new = it.was_new;
    stays = all_for (λ (y : Done S X). HasOwnSession state y.server x.exchange.client n login) c later it.stays;
  }

  module _ (E : List (Done S X) → TheName → Type 0) where
    pub by_opening : (past : List (Done S X)) (w : Want) (n : ℕ) (login : TheName) → OpensSession w n login → WantsAsEntitled E past w → E past login
    by_opening past (want.Open session role entry) n login opens entitled = subst (λ (r : TheName). E past r) opens.1 entitled
    by_opening past want.Message n login opens entitled = absurd opens
    by_opening past (want.Event e) n login opens entitled = absurd opens
    by_opening past (want.Standing session) n login opens entitled = absurd opens
    by_opening past (want.Description session text) n login opens entitled = absurd opens
    by_opening past (want.Verifier table role) n login opens entitled = absurd opens
    by_opening past (want.End late) n login opens entitled = absurd opens
    by_opening past want.OutOfMemory n login opens entitled = absurd opens

    pub pick : (before past later : List (Done S X)) (x : Done S X) → WantedAsEntitled E before (past ++ x ∷ later) → WantsAsEntitled E (before ++ past) x.exchange.want
    pick before [] later x wanted = subst (λ (l : List (Done S X)). WantsAsEntitled E l x.exchange.want) (sym (append-nil before)) wanted.0
    pick before (y ∷ past) later x wanted =
        subst (λ (l : List (Done S X)). WantsAsEntitled E l x.exchange.want) (append_assoc before (y ∷ []) past) (pick (before ++ y ∷ []) past later x wanted.1)

    -- `more` is what was done behind these
    opened_so : (state : S → StoreState) (xs more past later : List (Done S X)) (x : Done S X) (n : ℕ) (login : TheName) → xs ≡ past ++ x ∷ later → IsOpening state x later n login
        → WantedAsEntitled E [] (xs ++ more) → OpenedAsEntitled E state xs n login
    opened_so state xs more past later x n login is opened wanted = record {
      past = past;
      opening = x;
      later = later;
      is_done = is;
      opened = opened;
      entitled = by_opening past x.exchange.want n login opened.opens (pick [] past (later ++ more) x
          (subst (λ (l : List (Done S X)). WantedAsEntitled E [] l) (ap (λ (l : List (Done S X)). l ++ more) is ∙ append_assoc past (x ∷ later) more) wanted));
    }

-- ---- what was said

-- nothing had gone out to a client as it came
none_out : (sent : Option (List ℕ)) (unsent : List ℕ) → (sent ≡ None) ⊎ (sent ≡ Some []) → unsent ≡ [] → (append_known sent unsent ≡ None) ⊎ (append_known sent unsent ≡ Some [])
none_out sent unsent (inl none) empty = inl (ap (λ (o : Option (List ℕ)). append_known o unsent) none)
none_out sent unsent (inr nothing) empty = inr (ap (λ (o : Option (List ℕ)). append_known o unsent) nothing ∙ ap (λ (l : List ℕ). Some l) empty)

-- ---- one client

module _ {P S X T : Type 0} (state : S → StoreState) (t : TalkGhosts T) (place_of : T → P) (drawn_of : T → List ℕ) (Entitled : Entitlement P S X)
    (law : (talk last : T) (sent said rest : List ℕ) (xs : List (Done S X)) → t.starts talk → Heard t talk sent (told_in xs) said rest last → AllByRecursion (FindsKeptText state) xs
    → WantedAsEntitled (Entitled (place_of talk) (drawn_of talk) sent said) [] xs × WantsAsEntitled (Entitled (place_of talk) (drawn_of talk) sent said) xs (t.wants last))
    (made : T → Type 0) where
  came_with : (bytes : Option (List ℕ)) (now : ClientState T) (x y : Conversation T) (xs : List (Done S X)) → IsNew t made bytes x → (goes : Continues t x (told_in xs) y) → HasSent (awaited bytes) now goes.0 → WasSaid (told x) now goes.1
      → StandsNow now y.talk y.held → AllByRecursion (FindsKeptText state) xs → WantsOnlyAsEntitled state t made place_of drawn_of Entitled (awaited bytes) now xs
  came_with bytes now x y xs new goes has_sent says stands finds =
      let heard = subst (λ (b : List ℕ). Heard t x.talk (b ++ goes.0) (told_in xs) goes.1 y.held y.talk) new.held goes.3 in
      let both = law x.talk y.talk goes.0 goes.1 y.held xs new.starts heard finds in
      inr (
        x.talk,
        goes.0,
        goes.1,
        record {
          is_made = new.is_made;
          starts = new.starts;
          has_sent = has_sent;
          gone_out = told x;
          none_yet = none_out x.sent x.unsent new.sent new.unsent;
          was_said = says;
          rest = y.held;
          last = y.talk;
          heard = heard;
          stands = stands;
        },
        both.0,
        both.1,
      )

  -- what has come of it was the beginning of its bytes
  came_of : (bytes : Option (List ℕ)) (x y : Conversation T) (came : List ℕ) → IsNew t made bytes x → Consumes x.remaining y.remaining came → Consumes bytes y.remaining came
  came_of bytes x y came new takes = subst (λ (o : Option (List ℕ)). Consumes o y.remaining came) new.remaining takes

  came_passing : (old new : ClientState T) (xs : List (Done S X)) → IsAwaited old → Passes t made old (told_in xs) new → AllByRecursion (FindsKeptText state) xs
      → WantsOnlyAsEntitled state t made place_of drawn_of Entitled old new xs
  came_passing (awaited bytes) (awaited left) xs was passes finds = inl (no_told xs passes.0)
  came_passing (awaited bytes) (there y) xs was passes finds = came_with bytes (there y) passes.0 y xs passes.1 passes.2 (came_of bytes passes.0 y passes.2.0 passes.1 passes.2.2) passes.2.4 (refl, refl) finds
  came_passing (awaited bytes) (gone sent) xs was passes finds =
      let y = passes.2.0 in
      let goes = passes.2.1 in
      came_with bytes (gone sent) passes.0 y xs passes.1 goes (y.remaining, came_of bytes passes.0 y goes.0 passes.1 goes.2)
      (y.unsent, subst (λ (o : Option (List ℕ)). Appends (told passes.0) (append_known o y.unsent) goes.1) passes.2.3 goes.4) tt finds
  came_passing (there x) new xs was passes finds = absurd was
  came_passing (gone sent) new xs was passes finds = absurd was

  has_so : (client now : ClientState T) (xs past later : List (Done S X)) (x : Done S X) (n : ℕ) (login : TheName) → xs ≡ past ++ x ∷ later → IsOpening state x later n login
      → WantsOnlyAsEntitled state t made place_of drawn_of Entitled client now xs → HasSessionAsEntitled state t made place_of drawn_of Entitled client now xs n login
  has_so client now xs past later x n login is opened (inl none) = absurd (none_opened past later x (sym none ∙ is))
  has_so client now xs past later x n login is opened (inr it) = (
    it.0,
    it.1,
    it.2,
    it.3,
    opened_so (Entitled (place_of it.0) (drawn_of it.0) it.1 it.2) state xs [] past later x n login is opened
        (subst (λ (l : List (Done S X)). WantedAsEntitled (Entitled (place_of it.0) (drawn_of it.0) it.1 it.2) [] l) (sym (append-nil xs)) it.4),
  )

  answered_as : (client now : ClientState T) (xs own more past later : List (Done S X)) (x : Done S X) (n : ℕ) (login : TheName) → xs ≡ own ++ more → own ≡ past ++ x ∷ later → IsOpening state x later n login
      → WantsOnlyAsEntitled state t made place_of drawn_of Entitled client now xs → IsAnsweredAsEntitled state t made place_of drawn_of Entitled client now xs own n login
  answered_as client now xs own more past later x n login whole is opened (inl none) =
      absurd (none_opened past (later ++ more) x (sym none ∙ (whole ∙ (ap (λ (l : List (Done S X)). l ++ more) is ∙ append_assoc past (x ∷ later) more))))
  answered_as client now xs own more past later x n login whole is opened (inr it) = (
    it.0,
    it.1,
    it.2,
    it.3,
    opened_so (Entitled (place_of it.0) (drawn_of it.0) it.1 it.2) state own more past later x n login is opened
        (subst (λ (l : List (Done S X)). WantedAsEntitled (Entitled (place_of it.0) (drawn_of it.0) it.1 it.2) [] l) whole it.4),
  )

-- ---- all clients

module _ {P S X T C : Type 0} (Reads : ReadingRelation) (state : S → StoreState) (t : TalkGhosts T) (k : ClientsGhosts C T) (place_of : T → P) (drawn_of : T → List ℕ) (Entitled : Entitlement P S X)
    (front_more : (s : T) (bytes more : List ℕ) (n : ℕ) → t.front s bytes ≡ Whole n → (n ≤ length bytes) × (t.front s (bytes ++ more) ≡ Whole n))
    (bad_more : (s : T) (bytes more : List ℕ) → t.front s bytes ≡ Bad → t.front s (bytes ++ more) ≡ Bad)
    (law : (talk last : T) (sent said rest : List ℕ) (xs : List (Done S X)) → t.starts talk → Heard t talk sent (told_in xs) said rest last → AllByRecursion (FindsKeptText state) xs
    → WantedAsEntitled (Entitled (place_of talk) (drawn_of talk) sent said) [] xs × WantsAsEntitled (Entitled (place_of talk) (drawn_of talk) sent said) xs (t.wants last)) where
  pub wanted_so : sessions_are_wanted_as_entitled P S X T C Reads state t k place_of drawn_of Entitled
  wanted_so old before turns new after took sound c was =
      came_passing state t place_of drawn_of Entitled law (k.makes (k.maker before)) (k.at before c) (k.at after c) (done_for c (all_done Reads state t k old before turns new after took)) was
      (subst (λ (l : List Learnt). Passes t (k.makes (k.maker before)) (k.at before c) l (k.at after c)) (learnt_all Reads state t k old before turns new after took c)
      (talked (machine_of Reads state) t k front_more bad_more old new before after turns took c))
      (all_for (FindsKeptText state) c (all_done Reads state t k old before turns new after took) (each_finds Reads state t k old before turns new after took sound))

  pub opened_as : sessions_are_opened_as_entitled P S X T C Reads state t k place_of drawn_of Entitled
  opened_as old before turns new after took sound c was n login none has =
      let xs = all_done Reads state t k old before turns new after took in
      elim (all_opened Reads state t k old before turns new after took sound c n login has) [
        | inl there_already ↦ absurd (none there_already.0)
        | inr it ↦
            has_so state t place_of drawn_of Entitled law (k.makes (k.maker before)) (k.at before c) (k.at after c) (done_for c xs) (done_for c it.past) (done_for c it.later) it.opening n login
            (own_done state xs c n login it) (own_opening state c n login it.opening it.later it.opened) (wanted_so old before turns new after took sound c was)
      ]

  pub answered_so : sessions_are_answered_as_entitled P S X T C Reads state t k place_of drawn_of Entitled
  answered_so old before turns new after took sound past x later is was number login answer none =
      let c = x.exchange.client in
      let xs = all_done Reads state t k old before turns new after took in
      elim (open_there Reads state t k old before turns new after took sound past x later is c answer.own login answer.is_open) [
        | inl there_already ↦ absurd (none there_already.0)
        | inr it ↦
            answered_as state t place_of drawn_of Entitled law (k.makes (k.maker before)) (k.at before c) (k.at after c) (done_for c xs) (done_for c past) (done_for c (x ∷ later)) (done_for c it.past) (done_for c it.later) it.opening answer.own login
            (ap (λ (l : List (Done S X)). done_for c l) is ∙ for_on c past (x ∷ later)) (own_done state past c answer.own login it) (own_opening state c answer.own login it.opening it.later it.opened)
            (wanted_so old before turns new after took sound c was)
      ]
