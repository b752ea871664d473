-- From what a conversation found to what was kept.
use Rattle.std.proofs.Common.{◌≡◌, ◌∙◌, ℕ, List, [], ◌∷◌, ◌++◌, refl, sym, ap, subst}
use Rattle.std.proofs.lemmas.List.{append_assoc}
use Rattle.std.specs.List.{AllByRecursion}
use Rattle.store.specs.Store.{StoreState}
use Rattle.abstract_database.specs.Lists.{TheName}
use Rattle.talks.specs.declared.want.Want.{Want}
use Rattle.talks.specs.declared.want.Want.TheVariants as want
use Rattle.talks.specs.Wants.{Learnt, learnt}
use Rattle.password_talks.specs.declared.login.PasswordPlace.{PasswordPlace}
use Rattle.password_talks.specs.Courses.{HasChallenged, HasShown, MayWant, MayOpenSession, MightBeWanted, found}
use Rattle.postgres_logins.specs.Courses.{HasAuthenticated, MayBeWanted, MayOpenFor, MightAllBeWanted, WasChallenged}
use Rattle.login_laws.specs.Done.{Done, told_in}
use Rattle.login_laws.specs.Entitled.{WantsAsEntitled, WantedAsEntitled}
use Rattle.postgres_logins.specs.declared.stage.Newcomer.{Newcomer}
use Rattle.login_laws.specs.Shown.{IsChallenged, IsChallengedInMessages, WasToldDrawn, FoundAsKept, WereFoundAsKept, ShowedPassword, ShowedPasswordInMessages}
use Rattle.login_laws.proofs.Doing.{FindsKeptText, all_on, told_on}
use Rattle.login_laws.proofs.Inside.{first_same, rest_same}
use Rattle.login_laws.proofs.Telling.{FewOrTold, first_two, told_of_three}
use Rattle.login_laws.proofs.ToldInFrames.{ChallengedInFrames, same_challenge}
use Rattle.login_laws.proofs.ToldInMessages.{ChallengedInMessages}

-- ---- lists

no_rest : (a : Learnt) (ls ks : List Learnt) → [] ≡ ks ++ a ∷ ls → ⊥
no_rest a ls [] is = cc
no_rest a ls (b ∷ ks) is = cc

-- the last thing that was done is the one of which this was told
record LastDone {S X : Type 0} (past : List (Done S X)) (last : Learnt) : Type 0 where
  pub earlier : List (Done S X)
  pub just_now : Done S X
  pub ended : past ≡ earlier ++ just_now ∷ []
  pub told : learnt just_now.exchange.want just_now.exchange.reply ≡ last

last_done : {S X : Type 0} (past : List (Done S X)) (earlier : List Learnt) (last : Learnt) → told_in past ≡ earlier ++ last ∷ [] → LastDone past last
last_done [] earlier last is = absurd (no_rest last [] earlier is)
last_done (x ∷ []) [] last is = record { earlier = []; just_now = x; ended = refl; told = first_same _ _ _ _ is }
last_done (x ∷ y ∷ past) [] last is = absurd (let more = rest_same _ _ _ _ is in let no : ⊥ = cc in no)
last_done {S} {X} (x ∷ past) (l ∷ earlier) last is =
    let it = last_done past earlier last (rest_same _ _ _ _ is) in
    record { earlier = x ∷ it.earlier; just_now = it.just_now; ended = ap (λ (ds : List (Done S X)). x ∷ ds) it.ended; told = it.told }

-- ---- challenges

-- `whole` is all that is learnt in the end, and the client was challenged by then
module _ (place : PasswordPlace) (drawn sent said : List ℕ) (whole : List Learnt) (so : FewOrTold (ChallengedInFrames place drawn sent) whole said) where
  told_so : (past more : List Learnt) (role text : List ℕ) → past ++ more ≡ whole → (shown : HasShown place drawn sent past role text)
      → WasToldDrawn (IsChallenged place drawn sent role shown.mock_text text shown.label shown.middle) said
  told_so past more role text is shown =
      let it = told_of_three past more whole shown.later _ _ _ is shown.learnt_is so in
      let challenged = it.challenged.4 in
      let two = first_two whole it.learnt_first it.learnt_then _ _ _ _ _ it.learnt_is challenged.learnt_is (sym is ∙ ap (λ (l : List Learnt). l ++ more) shown.learnt_is) in
      record {
        first_said = it.first_said;
        later = it.later;
        challenged = (
          it.challenged.3,
          subst (λ (l : List Learnt). HasChallenged place drawn sent l it.first_said shown.middle shown.label role it.challenged.3) two
              (same_challenge place drawn sent it.learnt_first it.first_said it.challenged.2 it.challenged.0 it.challenged.1 it.challenged.3 shown.label role shown.first shown.middle challenged shown.begun),
        );
        said_is = it.said_is;
      }

module _ (place : PasswordPlace) (drawn sent said : List ℕ) (whole : List Learnt) (so : FewOrTold (ChallengedInMessages place drawn sent) whole said) where
  told_there : (past more : List Learnt) (newcomer : Newcomer) (text : List ℕ) → past ++ more ≡ whole → (shown : HasAuthenticated place drawn sent past newcomer text)
      → WasToldDrawn (IsChallengedInMessages place drawn sent newcomer.role shown.mock_text text) said
  told_there past more newcomer text is shown =
      let it = told_of_three past more whole shown.later _ _ _ is shown.learnt_is so in
      let challenged = it.challenged.3 in
      let two = first_two whole it.learnt_first it.learnt_then _ _ _ _ _ it.learnt_is challenged.offered.learnt_is (sym is ∙ ap (λ (l : List Learnt). l ++ more) shown.learnt_is) in
      record {
        first_said = it.first_said;
        later = it.later;
        challenged = (
          it.challenged.0,
          it.challenged.1,
          it.challenged.2,
          subst (λ (l : List Learnt). WasChallenged place drawn sent l it.first_said it.challenged.0 it.challenged.1 it.challenged.2) two challenged,
        );
        said_is = it.said_is;
      }

module _ {S X : Type 0} (state : S → StoreState) where
  -- ---- look-ups

  found_so : (x : Done S X) (table role : TheName) (text : List ℕ) → FindsKeptText state x → learnt x.exchange.want x.exchange.reply ≡ found table role text → FoundAsKept state table role text x
  found_so x table role text finds is = finds table role text (ap (λ (l : Learnt). l.want) is) (ap (λ (l : Learnt). l.reply) is)

  last_finds : (past earlier : List (Done S X)) (x : Done S X) → past ≡ earlier ++ x ∷ [] → AllByRecursion (FindsKeptText state) past → FindsKeptText state x
  last_finds past earlier x is finds = in_list earlier (subst (λ (l : List (Done S X)). AllByRecursion (FindsKeptText state) l) is finds) where
    in_list : (ys : List (Done S X)) → AllByRecursion (FindsKeptText state) (ys ++ x ∷ []) → FindsKeptText state x
    in_list [] all = all.0
    in_list (y ∷ ys) all = in_list ys all.1

  module _ (place : PasswordPlace) (role : TheName) (mock_text text : List ℕ) where
    were_found : (past : List (Done S X)) (later earlier : List Learnt) → AllByRecursion (FindsKeptText state) past
        → told_in past ≡ found place.table place.mock mock_text ∷ found place.table role text ∷ found place.table role text ∷ later → told_in past ≡ earlier ++ found place.table role text ∷ []
        → WereFoundAsKept state place past role mock_text text
    were_found [] later earlier finds began ended = absurd (let no : ⊥ = cc in no)
    were_found (a ∷ []) later earlier finds began ended = absurd (let rest = rest_same _ _ _ _ began in let no : ⊥ = cc in no)
    were_found (a ∷ b ∷ []) later earlier finds began ended = absurd (let rest = rest_same _ _ _ _ (rest_same _ _ _ _ began) in let no : ⊥ = cc in no)
    were_found (a ∷ b ∷ e ∷ more) later earlier finds began ended =
        let it = last_done (a ∷ b ∷ e ∷ more) earlier (found place.table role text) ended in
        let rest = rest_same _ _ _ _ began in record {
          of_mock = a;
          of_role = b;
          of_role_again = e;
          later = more;
          began = refl;
          mock_kept = found_so a place.table place.mock mock_text finds.0 (first_same _ _ _ _ began);
          role_kept = found_so b place.table role text finds.1.0 (first_same _ _ _ _ rest);
          role_kept_again = found_so e place.table role text finds.1.1.0 (first_same _ _ _ _ (rest_same _ _ _ _ rest));
          earlier = it.earlier;
          just_now = it.just_now;
          ended = it.ended;
          role_kept_now = found_so it.just_now place.table role text (last_finds (a ∷ b ∷ e ∷ more) it.earlier it.just_now it.ended finds) it.told;
        }

  -- ---- in frames

  -- `whole` is all that is learnt in the end, and the client was challenged by then
  module _ (place : PasswordPlace) (drawn sent said : List ℕ) (whole : List Learnt) (so : FewOrTold (ChallengedInFrames place drawn sent) whole said) where
    showed : (past : List (Done S X)) (more : List Learnt) (role : TheName) → told_in past ++ more ≡ whole → AllByRecursion (FindsKeptText state) past → MayOpenSession place drawn sent (told_in past) role
        → ShowedPassword state place drawn sent said past role
    showed past more role is finds may = record {
      text = may.text;
      shown = may.has_shown;
      found = were_found place role may.has_shown.mock_text may.text past may.has_shown.later may.earlier finds may.has_shown.learnt_is may.found_now;
      told = told_so place drawn sent said whole so (told_in past) more role may.text is may.has_shown;
    }

    pub as_entitled : (past : List (Done S X)) (more : List Learnt) (w : Want) → told_in past ++ more ≡ whole → AllByRecursion (FindsKeptText state) past → MayWant place drawn sent (told_in past) w → WantsAsEntitled (ShowedPassword state place drawn sent said) past w
    as_entitled past more (want.Open session role entry) is finds may = showed past more role is finds may
    as_entitled past more want.Message is finds may = tt
    as_entitled past more (want.Event e) is finds may = tt
    as_entitled past more (want.Standing session) is finds may = tt
    as_entitled past more (want.Description session text) is finds may = tt
    as_entitled past more (want.Verifier table role) is finds may = tt
    as_entitled past more (want.End late) is finds may = tt
    as_entitled past more want.OutOfMemory is finds may = tt

    pub all_entitled : (past xs : List (Done S X)) → told_in past ++ told_in xs ≡ whole → AllByRecursion (FindsKeptText state) past → AllByRecursion (FindsKeptText state) xs → MightBeWanted place drawn sent (told_in past) (told_in xs)
        → WantedAsEntitled (ShowedPassword state place drawn sent said) past xs
    all_entitled past [] is before finds might = tt
    all_entitled past (x ∷ xs) is before finds might = (
      as_entitled past (told_in (x ∷ xs)) x.exchange.want is before might.0,
      all_entitled (past ++ x ∷ []) xs (ap (λ (l : List Learnt). l ++ told_in xs) (told_on past (x ∷ [])) ∙ (append_assoc (told_in past) (told_in (x ∷ [])) (told_in xs) ∙ is))
          (all_on (FindsKeptText state) past (x ∷ []) before (finds.0, tt)) finds.1
          (subst (λ (l : List Learnt). MightBeWanted place drawn sent l (told_in xs)) (sym (told_on past (x ∷ []))) might.1),
    )

  -- ---- in PostgreSQL's messages

  module _ (place : PasswordPlace) (drawn sent said : List ℕ) (whole : List Learnt) (so : FewOrTold (ChallengedInMessages place drawn sent) whole said) where
    showed_there : (past : List (Done S X)) (more : List Learnt) (role : TheName) → told_in past ++ more ≡ whole → AllByRecursion (FindsKeptText state) past → MayOpenFor place drawn sent (told_in past) role
        → ShowedPasswordInMessages state place drawn sent said past role
    showed_there past more role is finds may =
        record {
          newcomer = may.newcomer;
          is_for = may.is_for;
          text = may.text;
          shown = may.has_shown;
          found = were_found place role may.has_shown.mock_text may.text past may.has_shown.later may.earlier finds
              (subst (λ (r : TheName). told_in past ≡ found place.table place.mock may.has_shown.mock_text ∷ found place.table r may.text ∷ found place.table r may.text ∷ may.has_shown.later) may.is_for may.has_shown.learnt_is) may.found_now;
          told = told_there place drawn sent said whole so (told_in past) more may.newcomer may.text is may.has_shown;
        }

    pub as_entitled_there : (past : List (Done S X)) (more : List Learnt) (w : Want) → told_in past ++ more ≡ whole → AllByRecursion (FindsKeptText state) past → MayBeWanted place drawn sent (told_in past) w → WantsAsEntitled (ShowedPasswordInMessages state place drawn sent said) past w
    as_entitled_there past more (want.Open session role entry) is finds may = showed_there past more role is finds may
    as_entitled_there past more want.Message is finds may = tt
    as_entitled_there past more (want.Event e) is finds may = tt
    as_entitled_there past more (want.Standing session) is finds may = tt
    as_entitled_there past more (want.Description session text) is finds may = tt
    as_entitled_there past more (want.Verifier table role) is finds may = tt
    as_entitled_there past more (want.End late) is finds may = tt
    as_entitled_there past more want.OutOfMemory is finds may = tt

    pub all_entitled_there : (past xs : List (Done S X)) → told_in past ++ told_in xs ≡ whole → AllByRecursion (FindsKeptText state) past → AllByRecursion (FindsKeptText state) xs → MightAllBeWanted place drawn sent (told_in past) (told_in xs)
        → WantedAsEntitled (ShowedPasswordInMessages state place drawn sent said) past xs
    all_entitled_there past [] is before finds might = tt
    all_entitled_there past (x ∷ xs) is before finds might = (
      as_entitled_there past (told_in (x ∷ xs)) x.exchange.want is before might.0,
      all_entitled_there (past ++ x ∷ []) xs (ap (λ (l : List Learnt). l ++ told_in xs) (told_on past (x ∷ [])) ∙ (append_assoc (told_in past) (told_in (x ∷ [])) (told_in xs) ∙ is))
          (all_on (FindsKeptText state) past (x ∷ []) before (finds.0, tt)) finds.1
          (subst (λ (l : List Learnt). MightAllBeWanted place drawn sent l (told_in xs)) (sym (told_on past (x ∷ []))) might.1),
    )
