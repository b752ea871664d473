-- The bytes that each client of a tenant gets in two runs.
use Rattle.std.proofs.Common.{◌≡◌, ◌∙◌, ℕ, nat_eq, Bool, true, false, cond, List, [], ◌∷◌, ◌++◌, refl, sym, ap, subst, inl, inr, eq-eqb}
use Rattle.std.proofs.lemmas.List.{append-nil}
use Rattle.std.proofs.lemmas.Bool.{eqb-true}
use Rattle.sql_types.specs.declared.answer.Answer.{Answer}
use Rattle.abstract_database.specs.Machine.{Event, opens, executes, closes, Reading, client_of, own_number}
use Rattle.abstract_database.specs.Runs.{TheText, ReadingRelation, IsReadAs, RanBy, Stops, At, Happens}
use Rattle.database_laws.specs.Sessions.{number_of}
use Rattle.database_laws.specs.HiddenRuns.{IsInPlace}
use Rattle.database_laws.specs.Told.{Tenant, happens, IsExceptionFor}
use Rattle.database_laws.specs.ToldApart.{NoStoreGives}
use Rattle.database_laws.specs.ToldStores.{is_text_of, IsToldAlikeBy, all_told, told_apart, refused_alone, told_alike, untold_here, untold_there, failed_here, failed_there}
use Rattle.client_laws.specs.Renumbered.{renumbered, renumbered_event, renumbered_events, renumbered_at}
use Rattle.client_laws.specs.Connections.{Spelling, bytes_of, IsClientOf, EndAlike, nothing_left, at_exception, at_refusal, at_failure, at_failure_there, BeginAlike, clients_get_the_same_bytes, places_change_no_bytes, bytes_part_at_exceptions}
use Rattle.client_laws.proofs.Numbers.{client_renumbered, same_place, own_again}
use Rattle.client_laws.proofs.Told.{stores_told}

clash : true ≡ false → ⊥
clash e = cc

-- a client of the tenant has no event that is another's
not_its_own : (a : Tenant) (client : ℕ) → IsClientOf a client → (event : Event TheText) → is_text_of a event ≡ false → nat_eq client (client_of (number_of event)) ≡ false
not_its_own a client all event foreign = by (nat_eq client (client_of (number_of event))) refl where
  by : (b : Bool) → nat_eq client (client_of (number_of event)) ≡ b → b ≡ false
  by false is = refl
  by true is = absurd (clash (sym (all (number_of event) (sym (eqb-true client (client_of (number_of event)) is))) ∙ foreign))

module _ (Reads : ReadingRelation) (Leave LeaveOther : Stops) (a : Tenant) where
  abbrev Begin : At → At → List (Event TheText) → List Answer → List (Event TheText) → List Answer → Type 0
  Begin w v events answers others told = BeginAlike Reads Leave LeaveOther a w v events answers others told

  -- nothing is done yet
  at_once : (w v : At) (events : List (Event TheText)) (answers : List Answer) (others : List (Event TheText)) (told : List Answer) → EndAlike Reads Leave LeaveOther a w v events answers others told → Begin w v events answers others told
  at_once w v events answers others told ends = record {
    done = [];
    left = events;
    done_there = [];
    left_there = others;
    answered = [];
    to_answer = answers;
    answered_there = [];
    to_answer_there = told;
    events_are = refl;
    answers_are = refl;
    others_are = refl;
    told_are = refl;
    here = w;
    there = v;
    ran = refl;
    ran_there = refl;
    bytes = λ spell client all. refl;
    ends = ends;
  }

  both_go : (w v next later : At) (event : Event TheText) (events : List (Event TheText)) (x : Answer) (answers : List Answer) (others : List (Event TheText)) (told : List Answer) →
      Happens Reads Leave w event x next → Happens Reads LeaveOther v event x later → Begin next later events answers others told → Begin w v (event ∷ events) (x ∷ answers) (event ∷ others) (x ∷ told)
  both_go w v next later event events x answers others told it its r = record {
    done = event ∷ r.done;
    left = r.left;
    done_there = event ∷ r.done_there;
    left_there = r.left_there;
    answered = x ∷ r.answered;
    to_answer = r.to_answer;
    answered_there = x ∷ r.answered_there;
    to_answer_there = r.to_answer_there;
    events_are = ap (λ (l : List (Event TheText)). event ∷ l) r.events_are;
    answers_are = ap (λ (l : List Answer). x ∷ l) r.answers_are;
    others_are = ap (λ (l : List (Event TheText)). event ∷ l) r.others_are;
    told_are = ap (λ (l : List Answer). x ∷ l) r.told_are;
    here = r.here;
    there = r.there;
    ran = (next, it, r.ran);
    ran_there = (later, its, r.ran_there);
    bytes = λ spell client all. ap (λ (l : List ℕ). cond (nat_eq client (client_of (number_of event))) (spell (own_number (number_of event)) x ++ l) l) (r.bytes spell client all);
    ends = r.ends;
  }

  one_goes : (w v next : At) (event : Event TheText) (events : List (Event TheText)) (x : Answer) (answers : List Answer) (others : List (Event TheText)) (told : List Answer) → is_text_of a event ≡ false →
      Happens Reads Leave w event x next → Begin next v events answers others told → Begin w v (event ∷ events) (x ∷ answers) others told
  one_goes w v next event events x answers others told foreign it r = record {
    done = event ∷ r.done;
    left = r.left;
    done_there = r.done_there;
    left_there = r.left_there;
    answered = x ∷ r.answered;
    to_answer = r.to_answer;
    answered_there = r.answered_there;
    to_answer_there = r.to_answer_there;
    events_are = ap (λ (l : List (Event TheText)). event ∷ l) r.events_are;
    answers_are = ap (λ (l : List Answer). x ∷ l) r.answers_are;
    others_are = r.others_are;
    told_are = r.told_are;
    here = r.here;
    there = r.there;
    ran = (next, it, r.ran);
    ran_there = r.ran_there;
    bytes = λ spell client all.
        ap (λ (b : Bool). cond b (spell (own_number (number_of event)) x ++ bytes_of spell client r.done r.answered) (bytes_of spell client r.done r.answered)) (not_its_own a client all event foreign)
        ∙ r.bytes spell client all;
    ends = r.ends;
  }

  other_goes : (w v later : At) (event : Event TheText) (events : List (Event TheText)) (x : Answer) (answers : List Answer) (others : List (Event TheText)) (told : List Answer) → is_text_of a event ≡ false →
      Happens Reads LeaveOther v event x later → Begin w later events answers others told → Begin w v events answers (event ∷ others) (x ∷ told)
  other_goes w v later event events x answers others told foreign it r = record {
    done = r.done;
    left = r.left;
    done_there = event ∷ r.done_there;
    left_there = r.left_there;
    answered = r.answered;
    to_answer = r.to_answer;
    answered_there = x ∷ r.answered_there;
    to_answer_there = r.to_answer_there;
    events_are = r.events_are;
    answers_are = r.answers_are;
    others_are = ap (λ (l : List (Event TheText)). event ∷ l) r.others_are;
    told_are = ap (λ (l : List Answer). x ∷ l) r.told_are;
    here = r.here;
    there = r.there;
    ran = r.ran;
    ran_there = (later, it, r.ran_there);
    bytes = λ spell client all.
        r.bytes spell client all
        ∙ sym (ap (λ (b : Bool). cond b (spell (own_number (number_of event)) x ++ bytes_of spell client r.done_there r.answered_there) (bytes_of spell client r.done_there r.answered_there)) (not_its_own a client all event foreign));
    ends = r.ends;
  }

  pub begin_alike : (w v : At) (events : List (Event TheText)) (answers : List Answer) (others : List (Event TheText)) (told : List Answer) → IsToldAlikeBy Reads Leave LeaveOther a w v events answers others told → Begin w v events answers others told
  begin_alike w v [] [] [] [] (all_told st) = at_once w v [] [] [] [] (nothing_left st)
  begin_alike w v (event ∷ events) (x ∷ answers) (event_there ∷ others) (y ∷ told) (told_apart own read is exception none) =
      at_once w v (event ∷ events) (x ∷ answers) (event ∷ others) (y ∷ told) (at_exception own read is exception none)
  begin_alike w v (event ∷ events) (x ∷ answers) (event_there ∷ others) (y ∷ told) (refused_alone next later own it its place none) =
      at_once w v (event ∷ events) (x ∷ answers) (event ∷ others) (y ∷ told) (at_refusal next later own it its place none)
  begin_alike w v (event ∷ events) (x ∷ answers) (event_there ∷ others) (y ∷ told) (told_alike next later own it its rest) =
      both_go w v next later event events x answers others told it its (begin_alike next later events answers others told rest)
  begin_alike w v (event ∷ events) (x ∷ answers) others told (untold_here next foreign it rest) =
      one_goes w v next event events x answers others told foreign it (begin_alike next v events answers others told rest)
  begin_alike w v events answers (event ∷ others) (x ∷ told) (untold_there later foreign it rest) =
      other_goes w v later event events x answers others told foreign it (begin_alike w later events answers others told rest)
  begin_alike w v (event ∷ events) (x ∷ answers) others told (failed_here foreign is) = at_once w v (event ∷ events) (x ∷ answers) others told (at_failure foreign is)
  begin_alike w v events answers (event ∷ others) (x ∷ told) (failed_there foreign is) = at_once w v events answers (event ∷ others) (x ∷ told) (at_failure_there foreign is)

pub same_bytes : (Reads : ReadingRelation) (Leave LeaveOther : Stops) → clients_get_the_same_bytes Reads Leave LeaveOther
same_bytes Reads Leave LeaveOther once a place place_there apart apart_there w v end other_end events others answers told st on_w on_v ran ran_there keep keep_there same =
    begin_alike Reads Leave LeaveOther a (renumbered_at place w) (renumbered_at place_there v) (renumbered_events place events) answers (renumbered_events place_there others) told
    (stores_told Reads Leave LeaveOther once a place place_there apart apart_there w v end other_end events others answers told st on_w on_v ran ran_there keep keep_there same)

-- ---- places

number_so : (place : ℕ → ℕ) (event : Event TheText) → number_of (renumbered_event place event) ≡ renumbered place (number_of event)
number_so place (opens n login) = refl
number_so place (executes n x) = refl
number_so place (closes n) = refl

pub bytes_placed : places_change_no_bytes
bytes_placed spell place apart client [] answers = refl
bytes_placed spell place apart client (event ∷ events) [] = refl
bytes_placed spell place apart client (event ∷ events) (x ∷ answers) =
    ap (λ (n : ℕ). cond (nat_eq (place client) (client_of n)) (spell (own_number n) x ++ later) later) (number_so place event)
    ∙ ap (λ (c : ℕ). cond (nat_eq (place client) c) (spell (own_number (renumbered place (number_of event))) x ++ later) later) (client_renumbered place (number_of event))
    ∙ ap (λ (b : Bool). cond b (spell (own_number (renumbered place (number_of event))) x ++ later) later) (same_place place apart client (client_of (number_of event)))
    ∙ ap (λ (n : ℕ). cond (nat_eq client (client_of (number_of event))) (spell n x ++ later) later) (own_again place (number_of event))
    ∙ ap (λ (l : List ℕ). cond (nat_eq client (client_of (number_of event))) (spell (own_number (number_of event)) x ++ l) l) (bytes_placed spell place apart client events answers)
  where
    later : List ℕ
    later = bytes_of spell (place client) (renumbered_events place events) answers

-- ---- what that forbids

module _ (Reads : ReadingRelation) (Leave LeaveOther : Stops) (a : Tenant) (w v : At) (event : Event TheText) (x y : Answer) (spell : Spelling) (all : IsClientOf a (client_of (number_of event)))
    (differ : spell (own_number (number_of event)) x ≡ spell (own_number (number_of event)) y → ⊥) (fine : NoStoreGives x) (good : NoStoreGives y) where
  own : is_text_of a event ≡ true
  own = all (number_of event) refl

  abbrev Excepted : Type 0
  Excepted = (read : Event Reading) × IsReadAs Reads w.standing.machine event read × IsExceptionFor a w.standing.machine v.standing.machine (happens read)

  one_answer : (z : Answer) → bytes_of spell (client_of (number_of event)) (event ∷ []) (z ∷ []) ≡ spell (own_number (number_of event)) z
  one_answer z =
      ap (λ (b : Bool). cond b (spell (own_number (number_of event)) z ++ []) []) (eq-eqb (client_of (number_of event)) (client_of (number_of event)) refl)
      ∙ append-nil (spell (own_number (number_of event)) z)

  nil_of : {A : Type 0} (xs ys : List A) → [] ≡ xs ++ ys → (xs ≡ []) × (ys ≡ [])
  nil_of [] ys e = (refl, sym e)
  nil_of (z ∷ xs) ys e = let contrary : [] ≡ z ∷ (xs ++ ys) = e in cc

  heads : {A : Type 0} (z u : A) (zs us : List A) → (z ∷ zs) ≡ (u ∷ us) → z ≡ u
  heads z u zs us e = cc

  tails : {A : Type 0} (z u : A) (zs us : List A) → (z ∷ zs) ≡ (u ∷ us) → zs ≡ us
  tails z u zs us e = cc

  none_is_one : {A : Type 0} (z : A) (zs : List A) → [] ≡ (z ∷ zs) → ⊥
  none_is_one z zs e = cc

  foreign_not : (e : Event TheText) → e ≡ event → is_text_of a e ≡ false → ⊥
  foreign_not e is foreign = clash (sym own ∙ ap (is_text_of a) (sym is) ∙ foreign)

  -- it cannot be done in one of the runs alone
  only_here : (here there : At) (left left_there : List (Event TheText)) (to_answer to_answer_there : List Answer) → left ≡ event ∷ [] → left_there ≡ [] → EndAlike Reads Leave LeaveOther a here there left to_answer left_there to_answer_there → ⊥
  only_here here there [] [] [] [] e g (nothing_left st) = none_is_one event [] e
  only_here here there (f ∷ events) (h ∷ others) (z ∷ answers) (u ∷ told) e g (at_exception o read is exception none) = none_is_one h others (sym g)
  only_here here there (f ∷ events) (h ∷ others) (z ∷ answers) (u ∷ told) e g (at_refusal next later o it its place none) = none_is_one h others (sym g)
  only_here here there (f ∷ events) others (z ∷ answers) told e g (at_failure foreign is) = foreign_not f (heads f event events [] e) foreign
  only_here here there events (h ∷ others) answers (u ∷ told) e g (at_failure_there foreign is) = none_is_one h others (sym g)

  only_there : (here there : At) (left left_there : List (Event TheText)) (to_answer to_answer_there : List Answer) → left ≡ [] → left_there ≡ event ∷ [] → EndAlike Reads Leave LeaveOther a here there left to_answer left_there to_answer_there → ⊥
  only_there here there [] [] [] [] e g (nothing_left st) = none_is_one event [] g
  only_there here there (f ∷ events) (h ∷ others) (z ∷ answers) (u ∷ told) e g (at_exception o read is exception none) = none_is_one f events (sym e)
  only_there here there (f ∷ events) (h ∷ others) (z ∷ answers) (u ∷ told) e g (at_refusal next later o it its place none) = none_is_one f events (sym e)
  only_there here there (f ∷ events) others (z ∷ answers) told e g (at_failure foreign is) = none_is_one f events (sym e)
  only_there here there events (h ∷ others) answers (u ∷ told) e g (at_failure_there foreign is) = foreign_not h (heads h event others [] g) foreign

  at_end : (here there : At) (left left_there : List (Event TheText)) (to_answer to_answer_there : List Answer) → here ≡ w → there ≡ v → left ≡ event ∷ [] → left_there ≡ event ∷ [] → to_answer ≡ x ∷ [] → to_answer_there ≡ y ∷ [] →
      EndAlike Reads Leave LeaveOther a here there left to_answer left_there to_answer_there → Excepted
  at_end here there [] [] [] [] at at_there e g f h (nothing_left st) = absurd (none_is_one event [] e)
  at_end here there (d ∷ events) (d_there ∷ others) (z ∷ answers) (u ∷ told) at at_there e g f h (at_exception o read is exception none) = (
    read,
    subst (λ (n : At). IsReadAs Reads n.standing.machine event read) at (subst (λ (q : Event TheText). IsReadAs Reads here.standing.machine q read) (heads d event events [] e) is),
    subst (λ (n : At). IsExceptionFor a n.standing.machine v.standing.machine (happens read)) at (subst (λ (n : At). IsExceptionFor a here.standing.machine n.standing.machine (happens read)) at_there exception),
  )
  at_end here there (d ∷ events) (d_there ∷ others) (z ∷ answers) (u ∷ told) at at_there e g f h (at_refusal next later o it its (inl place) none) =
      absurd (fine here.counts next.counts (subst (λ (q : Answer). IsInPlace here.counts next.counts q) (heads z x answers [] f) place))
  at_end here there (d ∷ events) (d_there ∷ others) (z ∷ answers) (u ∷ told) at at_there e g f h (at_refusal next later o it its (inr place) none) =
      absurd (good there.counts later.counts (subst (λ (q : Answer). IsInPlace there.counts later.counts q) (heads u y told [] h) place))
  at_end here there (d ∷ events) others (z ∷ answers) told at at_there e g f h (at_failure foreign is) = absurd (foreign_not d (heads d event events [] e) foreign)
  at_end here there events (d ∷ others) answers (u ∷ told) at at_there e g f h (at_failure_there foreign is) = absurd (foreign_not d (heads d event others [] g) foreign)

  -- what is done and answered, if anything is
  one_done : {A : Type 0} (z d : A) (ds left : List A) → (z ∷ []) ≡ (d ∷ (ds ++ left)) → ((d ∷ ds) ≡ (z ∷ [])) × (left ≡ [])
  one_done {A} z d ds left e =
      let rest = nil_of ds left (tails z d [] (ds ++ left) e) in
      (ap (λ (q : A). q ∷ ds) (sym (heads z d [] (ds ++ left) e)) ∙ ap (λ (qs : List A). z ∷ qs) rest.0, rest.1)

  by : (done left done_there left_there : List (Event TheText)) (answered to_answer answered_there to_answer_there : List Answer) → (event ∷ []) ≡ done ++ left → (event ∷ []) ≡ done_there ++ left_there →
      (x ∷ []) ≡ answered ++ to_answer → (y ∷ []) ≡ answered_there ++ to_answer_there → (here there : At) → RanBy (Happens Reads Leave) w done answered here → RanBy (Happens Reads LeaveOther) v done_there answered_there there →
      bytes_of spell (client_of (number_of event)) done answered ≡ bytes_of spell (client_of (number_of event)) done_there answered_there → EndAlike Reads Leave LeaveOther a here there left to_answer left_there to_answer_there → Excepted
  by [] left [] left_there [] to_answer [] to_answer_there e g f h here there ran ran_there same ends = at_end here there left left_there to_answer to_answer_there ran ran_there (sym e) (sym g) (sym f) (sym h) ends
  by [] left [] left_there (z ∷ zs) to_answer us to_answer_there e g f h here there ran ran_there same ends = absurd ran
  by [] left [] left_there [] to_answer (u ∷ us) to_answer_there e g f h here there ran ran_there same ends = absurd ran_there
  by [] left (d ∷ ds) left_there zs to_answer us to_answer_there e g f h here there ran ran_there same ends =
      absurd (only_here here there left left_there to_answer to_answer_there (sym e) (one_done event d ds left_there g).1 ends)
  by (d ∷ ds) left [] left_there zs to_answer us to_answer_there e g f h here there ran ran_there same ends =
      absurd (only_there here there left left_there to_answer to_answer_there (one_done event d ds left e).1 (sym g) ends)
  by (d ∷ ds) left (i ∷ is) left_there [] to_answer us to_answer_there e g f h here there ran ran_there same ends = absurd ran
  by (d ∷ ds) left (i ∷ is) left_there (z ∷ zs) to_answer [] to_answer_there e g f h here there ran ran_there same ends = absurd ran_there
  by (d ∷ ds) left (i ∷ is) left_there (z ∷ zs) to_answer (u ∷ us) to_answer_there e g f h here there ran ran_there same ends =
      absurd (differ (sym (one_answer x)
      ∙ sym (ap (λ (l : List (Event TheText)). bytes_of spell (client_of (number_of event)) l (x ∷ [])) (one_done event d ds left e).0)
      ∙ sym (ap (bytes_of spell (client_of (number_of event)) (d ∷ ds)) (one_done x z zs to_answer f).0)
      ∙ same
      ∙ ap (bytes_of spell (client_of (number_of event)) (i ∷ is)) (one_done y u us to_answer_there h).0
      ∙ ap (λ (l : List (Event TheText)). bytes_of spell (client_of (number_of event)) l (y ∷ [])) (one_done event i is left_there g).0
      ∙ one_answer y))

pub bytes_part : (Reads : ReadingRelation) (Leave LeaveOther : Stops) → bytes_part_at_exceptions Reads Leave LeaveOther
bytes_part Reads Leave LeaveOther a w v event x y spell all differ fine good r =
    by Reads Leave LeaveOther a w v event x y spell all differ fine good r.done r.left r.done_there r.left_there r.answered r.to_answer r.answered_there r.to_answer_there
    r.events_are r.others_are r.answers_are r.told_are r.here r.there r.ran r.ran_there (r.bytes spell (client_of (number_of event)) all) r.ends
