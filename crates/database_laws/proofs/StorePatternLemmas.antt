-- Where the answers of two servers to a tenant have one pattern, they are the same.
use Rattle.std.proofs.Common.{◌≡◌, Bool, true, false, cond, List, [], ◌∷◌, Option, Some, None, refl, sym, ap, ◌∙◌, subst}
use Rattle.sql_types.specs.declared.state.SqlState.{SqlState}
use Rattle.sql_types.specs.declared.state.SqlState.TheVariants.{ProgramLimitExceeded, DiskFull, OutOfMemory, IoError}
use Rattle.sql_types.specs.declared.answer.Answer.{Answer}
use Rattle.sql_types.specs.declared.answer.Answer.TheVariants as answer
use Rattle.abstract_database.specs.Machine.{Event, opens, executes, closes, Machine, Transition, transition_to, refuses, running_transition, transition}
use Rattle.abstract_database.specs.Runs.{TheText, ReadingRelation, IsTransition, RanBy, Counts, Stops, At, Happens, MayCommit}
use Rattle.database_laws.specs.Runs.{ReadsOnce, CountsAsNotIssued, for_memory, for_space, for_number}
use Rattle.database_laws.specs.Codes.{is_of_stores}
use Rattle.database_laws.specs.HiddenRuns.{AreSound, answer_to, after}
use Rattle.database_laws.specs.Told.{Tenant, IsAlikeTo, happens, declares}
use Rattle.database_laws.specs.ToldStores.{is_text_of, own_texts, OpensAsOwn, KeepOutOfSight, IsReadAsCode}
use Rattle.database_laws.specs.Patterns.{is_listed, mark_of, pattern}
use Rattle.database_laws.specs.StorePatterns.{is_listed_of_stores, own_told, ReadsForNoStore, TextTellsListedOnly, AllTextsTellListedOnly, store_patterns_determine_answers}
use Rattle.database_laws.proofs.RunLemmas.{only_transition}
use Rattle.database_laws.proofs.RunsAlike.{sound_after}
use Rattle.database_laws.proofs.ToldRuns.{Came, parts, goes_on_alike, is_declared, comes, turned}
use Rattle.database_laws.proofs.ToldStores.{without_memory, without_commit, Did, moves, stays, fails, did, read_there, opens_own, own_read, runs_still, Passed, passes, ends, passed, Went, part, refused, goes, went}
use Rattle.database_laws.proofs.PatternLemmas.{marked, refused_so, exceptions_part, first_same, rest_same}

clash : true ≡ false → ⊥
clash e = cc

abbrev mark : Answer → Option SqlState
mark x = mark_of is_listed_of_stores x

abbrev marks : List Answer → List (Option SqlState)
marks answers = pattern is_listed_of_stores answers

-- ---- what is listed of stores

wider : (code : SqlState) → is_listed code ≡ true → is_listed_of_stores code ≡ true
wider OutOfMemory e = refl
wider DiskFull e = refl
wider ProgramLimitExceeded e = refl
wider IoError e = refl
wider code e = e

no_some : (code : SqlState) → ◌≡◌ {A = Option SqlState} (Some code) None → ⊥
no_some code e = cc

-- what has no mark has none among the listed refusals of the machine
unmarked : (x : Answer) → mark x ≡ None → mark_of is_listed x ≡ None
unmarked (answer.Rows rows) e = refl
unmarked (answer.Done t count w) e = refl
unmarked (answer.Refused code) e = by (is_listed code) refl where
  by : (b : Bool) → is_listed code ≡ b → cond b (Some code) None ≡ None
  by true on = absurd (no_some code (sym (marked is_listed_of_stores code (wider code on)) ∙ e))
  by false on = refl

not_issued_so : (old new : Counts) (code : SqlState) → CountsAsNotIssued old new code → is_listed_of_stores code ≡ true
not_issued_so old new OutOfMemory for_memory = refl
not_issued_so old new DiskFull (for_space rises) = refl
not_issued_so old new ProgramLimitExceeded (for_number greatest) = refl
not_issued_so old new _ p = elim p [ ]

has_mark : (x : Answer) (code : SqlState) → is_listed_of_stores code ≡ true → x ≡ answer.Refused code → mark x ≡ None → ⊥
has_mark x code on e none = no_some code (sym (marked is_listed_of_stores code on) ∙ sym (ap mark e) ∙ none)

-- ---- refusals of the device

abbrev AllFailed : List Answer → Type 0
AllFailed [] = Unit {0}
AllFailed (x ∷ answers) = (x ≡ answer.Refused IoError) × AllFailed answers

-- their marks determine them
failed_same : (xs ys : List Answer) → AllFailed xs → marks xs ≡ marks ys → xs ≡ ys
failed_same [] [] are e = refl
failed_same [] (y ∷ ys) are e = let contrary : [] ≡ (mark y ∷ marks ys) = e in cc
failed_same (x ∷ xs) [] are e = let contrary : (mark x ∷ marks xs) ≡ [] = e in cc
failed_same (x ∷ xs) (y ∷ ys) are e =
    ap (λ (z : Answer). z ∷ xs) (are.0 ∙ sym (refused_so is_listed_of_stores IoError y (sym (first_same (mark x) (mark y) (marks xs) (marks ys) e) ∙ ap mark are.0)))
    ∙ ap (λ (zs : List Answer). y ∷ zs) (failed_same xs ys are.1 (rest_same (mark x) (mark y) (marks xs) (marks ys) e))

module _ (Reads : ReadingRelation) (Leave LeaveOther : Stops) (once : ReadsOnce Reads) (a : Tenant) where
  -- a machine that has stopped refuses each event so
  stopped_step : (old new : Counts) (m : Machine) (event : Event TheText) (x : Answer) (next : Machine) → m.stopped ≡ true → Did Reads old new m event x next → (x ≡ answer.Refused IoError) × (next.stopped ≡ true)
  stopped_step old new m event x next on (moves t) =
      let at : transition m t.as_read ≡ refuses m IoError = ap (λ (b : Bool). cond b (refuses m IoError) (running_transition m t.as_read)) on in
      (ap (λ (z : Transition). z.answer) (t.is ∙ at), ap (λ (z : Transition). z.machine.stopped) (t.is ∙ at) ∙ on)
  stopped_step old new m event x next on (fails e broke may kept) = (e, ap (λ (z : Machine). z.stopped) kept)
  stopped_step old new m event x next on (stays code e place (without_memory is may) kept) = absurd (clash (sym on ∙ runs_still Reads Leave LeaveOther once a m event may))
  stopped_step old new m event x next on (stays code e place (without_commit may) kept) = absurd (clash (sym on ∙ still event may)) where
    still : (event : Event TheText) → MayCommit Reads m event → m.stopped ≡ false
    still (opens i l) may = absurd may
    still (executes i text) may = may.0
    still (closes i) may = absurd may

  module _ (Stopping : Stops) where
    stopped_run : (events : List (Event TheText)) (answers : List Answer) (w end : At) → w.standing.machine.stopped ≡ true → RanBy (Happens Reads Stopping) w events answers end → AllFailed (own_told a events answers)
    stopped_run [] answers w end on ran = tt
    stopped_run (event ∷ events) [] w end on ran = tt
    stopped_run (event ∷ events) (x ∷ answers) w end on (n, it, its) = by (is_text_of a event) step.0 (stopped_run events answers n end step.1 its) where
      step : (x ≡ answer.Refused IoError) × (n.standing.machine.stopped ≡ true)
      step = stopped_step w.counts n.counts w.standing.machine event x n.standing.machine on (did Reads w.counts n.counts w.standing.machine event x n.standing.machine it.step)

      by : (b : Bool) → x ≡ answer.Refused IoError → AllFailed (own_told a events answers) → AllFailed (cond b (x ∷ own_told a events answers) (own_told a events answers))
      by true here rest = (here, rest)
      by false here rest = rest

  -- ---- an own event

  module _ (none : ReadsForNoStore Reads) (w v n j : At) (st : IsAlikeTo a w.standing.machine v.standing.machine) (on_w : AreSound w.standing.machine) (on_v : AreSound v.standing.machine) (event : Event TheText) (x y : Answer)
      (own : is_text_of a event ≡ true) (opens_so : OpensAsOwn a w.standing.machine event) (listed : TextTellsListedOnly Reads a w.standing.machine event) where
    abbrev m : Machine
    m = w.standing.machine

    abbrev k : Machine
    k = v.standing.machine

    abbrev GoesOn : Type 0
    GoesOn = (x ≡ y) × IsAlikeTo a n.standing.machine j.standing.machine × AreSound n.standing.machine × AreSound j.standing.machine

    not_read : (code : SqlState) → is_of_stores code ≡ true → IsReadAsCode Reads event code → ⊥
    not_read code store = by event where
      by : (event : Event TheText) → IsReadAsCode Reads event code → ⊥
      by (opens i l) read = read
      by (executes i text) read = none text code store read
      by (closes i) read = read

    both_refused : (code : SqlState) → x ≡ answer.Refused code → y ≡ answer.Refused code → Went Reads Leave LeaveOther once a w v n j event x y → GoesOn
    both_refused code e f (part read is exception other) = absurd (other (code, e, f, not_read code))
    both_refused code e f (refused place other) = absurd (other (code, e, f, not_read code))
    both_refused code e f (goes same next on_n on_j) = (same, next, on_n, on_j)

    both_move : (t : IsTransition Reads m event (transition_to x n.standing.machine)) → IsTransition Reads k event (transition_to y j.standing.machine) → m.stopped ≡ false → mark x ≡ None → mark y ≡ None →
        Came a m k st on_w on_v (happens t.as_read) → GoesOn
    both_move t u running plain plain_there came = at came where
      is_k : transition_to y j.standing.machine ≡ transition k t.as_read
      is_k = only_transition Reads once k event (transition_to y j.standing.machine) (transition k t.as_read) u
          (record { as_read = t.as_read; read = read_there Reads Leave LeaveOther once a m k st event t.as_read own t.read; is = refl })

      here : n.standing.machine ≡ after m t.as_read
      here = ap (λ (z : Transition). z.machine) t.is

      beyond : j.standing.machine ≡ after k t.as_read
      beyond = ap (λ (z : Transition). z.machine) is_k

      no_marks : mark_of is_listed (answer_to m t.as_read) ≡ mark_of is_listed (answer_to k t.as_read)
      no_marks =
          sym (ap (λ (z : Transition). mark_of is_listed z.answer) t.is) ∙ unmarked x plain
          ∙ sym (unmarked y plain_there) ∙ ap (λ (z : Transition). mark_of is_listed z.answer) is_k

      at : Came a m k st on_w on_v (happens t.as_read) → GoesOn
      at (parts exception other) = absurd (exceptions_part a m k t.as_read exception (listed running t.as_read t.read) no_marks)
      at (is_declared e is) = let contrary : declares e ≡ happens t.as_read = is in cc
      at (goes_on_alike answers next) = (
        ap (λ (z : Transition). z.answer) t.is ∙ answers ∙ sym (ap (λ (z : Transition). z.answer) is_k),
        subst (λ (z : Machine). IsAlikeTo a z j.standing.machine) (sym here) (subst (λ (z : Machine). IsAlikeTo a (after m t.as_read) z) (sym beyond) next),
        subst AreSound (sym here) (sound_after m t.as_read on_w),
        subst AreSound (sym beyond) (sound_after k t.as_read on_v),
      )

    unmarked_went : Did Reads w.counts n.counts m event x n.standing.machine → Did Reads v.counts j.counts k event y j.standing.machine → mark x ≡ None → mark y ≡ None → GoesOn
    unmarked_went (stays c e p may kept) d plain plain_there = absurd (has_mark x c (not_issued_so w.counts n.counts c p) e plain)
    unmarked_went (fails e p may kept) d plain plain_there = absurd (has_mark x IoError refl e plain)
    unmarked_went (moves t) (stays c e p may kept) plain plain_there = absurd (has_mark y c (not_issued_so v.counts j.counts c p) e plain_there)
    unmarked_went (moves t) (fails e p may kept) plain plain_there = absurd (has_mark y IoError refl e plain_there)
    unmarked_went (moves t) (moves u) plain plain_there = by m.stopped refl where
      by : (b : Bool) → m.stopped ≡ b → GoesOn
      by true on = absurd (has_mark x IoError refl (stopped_step w.counts n.counts m event x n.standing.machine on (moves t)).0 plain)
      by false running =
          both_move t u running plain plain_there
          (comes a m k st on_w on_v (happens t.as_read) (own_read Reads Leave LeaveOther once a m event t.as_read t.read true own) (opens_own Reads Leave LeaveOther once a m event t.as_read t.read opens_so))

    own_same : Did Reads w.counts n.counts m event x n.standing.machine → Did Reads v.counts j.counts k event y j.standing.machine → mark x ≡ mark y → GoesOn
    own_same d e same = by (mark x) refl where
      by : (o : Option SqlState) → mark x ≡ o → GoesOn
      by (Some code) is =
          both_refused code (refused_so is_listed_of_stores code x is) (refused_so is_listed_of_stores code y (sym same ∙ is))
          (went Reads Leave LeaveOther once a w v n j st on_w on_v event x y own opens_so d e)
      by None is = unmarked_went d e is (sym same ∙ is)

  -- ---- runs

  abbrev Same : List (Event TheText) → List Answer → List (Event TheText) → List Answer → Type 0
  Same events answers others told = marks (own_told a events answers) ≡ marks (own_told a others told) → own_told a events answers ≡ own_told a others told

  at_event : (event : Event TheText) (events : List (Event TheText)) (x : Answer) (answers : List Answer) (b : Bool) → is_text_of a event ≡ b →
      own_told a (event ∷ events) (x ∷ answers) ≡ cond b (x ∷ own_told a events answers) (own_told a events answers)
  at_event event events x answers b own = ap (λ (c : Bool). cond c (x ∷ own_told a events answers) (own_told a events answers)) own

  both_first : (x y : Event TheText) (xs ys : List (Event TheText)) → (x ∷ xs) ≡ (y ∷ ys) → (x ≡ y) × (xs ≡ ys)
  both_first x y xs ys e = (first_same x y xs ys e, rest_same x y xs ys e)

  -- an event of another leaves what is said of the later ones
  skip_here : (event : Event TheText) (events others : List (Event TheText)) (x : Answer) (answers told : List Answer) → is_text_of a event ≡ false → Same events answers others told → Same (event ∷ events) (x ∷ answers) others told
  skip_here event events others x answers told other on same =
      let here = at_event event events x answers false other in
      here ∙ on (sym (ap marks here) ∙ same)

  skip_there : (event : Event TheText) (events others : List (Event TheText)) (y : Answer) (answers told : List Answer) → is_text_of a event ≡ false → Same events answers others told → Same events answers (event ∷ others) (y ∷ told)
  skip_there event events others y answers told other on same =
      let there = at_event event others y told false other in
      on (same ∙ ap marks there) ∙ sym there

  -- behind a device that has failed
  failed_here : (event : Event TheText) (events others : List (Event TheText)) (x : Answer) (answers told : List Answer) → is_text_of a event ≡ false → AllFailed (own_told a events answers) → Same (event ∷ events) (x ∷ answers) others told
  failed_here event events others x answers told other are = skip_here event events others x answers told other (λ same. failed_same (own_told a events answers) (own_told a others told) are same)

  failed_there : (event : Event TheText) (events others : List (Event TheText)) (y : Answer) (answers told : List Answer) → is_text_of a event ≡ false → AllFailed (own_told a others told) → Same events answers (event ∷ others) (y ∷ told)
  failed_there event events others y answers told other are = skip_there event events others y answers told other (λ same. sym (failed_same (own_told a others told) (own_told a events answers) are (sym same)))

  module _ (none : ReadsForNoStore Reads) where
    abbrev Goes : List (Event TheText) → List Answer → At → Type 0
    Goes events answers end = (w v other_end : At) (others : List (Event TheText)) (told : List Answer) → IsAlikeTo a w.standing.machine v.standing.machine → AreSound w.standing.machine → AreSound v.standing.machine →
        (ran : RanBy (Happens Reads Leave) w events answers end) (ran_there : RanBy (Happens Reads LeaveOther) v others told other_end) →
        KeepOutOfSight Reads Leave a w end events answers ran → KeepOutOfSight Reads LeaveOther a v other_end others told ran_there → own_texts a events ≡ own_texts a others →
        AllTextsTellListedOnly Reads Leave a w end events answers ran → Same events answers others told

    abbrev ReachesOwn : (w : At) (event : Event TheText) (x : Answer) (events : List (Event TheText)) (answers : List Answer) → List (Event TheText) → List Answer → Type 0
    ReachesOwn w event x events answers others told = (v other_end : At) → IsAlikeTo a w.standing.machine v.standing.machine → AreSound v.standing.machine →
        (ran_there : RanBy (Happens Reads LeaveOther) v others told other_end) → KeepOutOfSight Reads LeaveOther a v other_end others told ran_there →
        (event ∷ own_texts a events) ≡ own_texts a others → Same (event ∷ events) (x ∷ answers) others told

    module _ (w n end : At) (event : Event TheText) (x : Answer) (events : List (Event TheText)) (answers : List Answer) (on_w : AreSound w.standing.machine) (own : is_text_of a event ≡ true) (opens_so : OpensAsOwn a w.standing.machine event)
        (listed : TextTellsListedOnly Reads a w.standing.machine event) (here : Happens Reads Leave w event x n) (ran : RanBy (Happens Reads Leave) n events answers end) (keep : KeepOutOfSight Reads Leave a n end events answers ran)
        (alone : AllTextsTellListedOnly Reads Leave a n end events answers ran) (go : Goes events answers end) where
      meets : (v j other_end : At) (y : Answer) (fs : List (Event TheText)) (told : List Answer) → IsAlikeTo a w.standing.machine v.standing.machine → AreSound v.standing.machine →
          (ran_there : RanBy (Happens Reads LeaveOther) j fs told other_end) → KeepOutOfSight Reads LeaveOther a j other_end fs told ran_there → own_texts a events ≡ own_texts a fs → Happens Reads LeaveOther v event y j →
          Same (event ∷ events) (x ∷ answers) (event ∷ fs) (y ∷ told)
      meets v j other_end y fs told st on_v ran_there keeps equal it same =
          at_event event events x answers true own
          ∙ ap (λ (z : Answer). z ∷ own_told a events answers) step.0
          ∙ ap (λ (zs : List Answer). y ∷ zs) (go n j other_end fs told step.1 step.2 step.3 ran ran_there keep keeps equal alone (rest_same (mark x) (mark y) _ _ both))
          ∙ sym (at_event event fs y told true own)
        where
          both : (mark x ∷ marks (own_told a events answers)) ≡ (mark y ∷ marks (own_told a fs told))
          both = sym (ap marks (at_event event events x answers true own)) ∙ same ∙ ap marks (at_event event fs y told true own)

          step : (x ≡ y) × IsAlikeTo a n.standing.machine j.standing.machine × AreSound n.standing.machine × AreSound j.standing.machine
          step = own_same none w v n j st on_w on_v event x y own opens_so listed
              (did Reads w.counts n.counts w.standing.machine event x n.standing.machine here.step) (did Reads v.counts j.counts v.standing.machine event y j.standing.machine it.step)
              (first_same (mark x) (mark y) (marks (own_told a events answers)) (marks (own_told a fs told)) both)

      to_own : (others : List (Event TheText)) (told : List Answer) → ReachesOwn w event x events answers others told
      to_own [] told v other_end st on_v ran_there keeps equal = let contrary : (event ∷ own_texts a events) ≡ [] = equal in cc
      to_own (f ∷ fs) [] v other_end st on_v ran_there keeps equal = absurd ran_there
      to_own (f ∷ fs) (y ∷ told) v other_end st on_v (j, it, its) keeps equal = by (is_text_of a f) refl (to_own fs told) where
        by : (b : Bool) → is_text_of a f ≡ b → ReachesOwn w event x events answers fs told → Same (event ∷ events) (x ∷ answers) (f ∷ fs) (y ∷ told)
        by true own_f on =
            let both = both_first event f (own_texts a events) (own_texts a fs) (equal ∙ ap (λ (b : Bool). cond b (f ∷ own_texts a fs) (own_texts a fs)) own_f) in
            subst (λ (z : Event TheText). Same (event ∷ events) (x ∷ answers) (z ∷ fs) (y ∷ told)) both.0
            (meets v j other_end y fs told st on_v its keeps.1 both.1 (subst (λ (z : Event TheText). Happens Reads LeaveOther v z y j) (sym both.0) it))
        by false other on =
            at (passed Reads Leave LeaveOther once a v.counts j.counts v.standing.machine j.standing.machine w.standing.machine f y (turned a w.standing.machine v.standing.machine st) on_v other (keeps.0.1 other)
            (did Reads v.counts j.counts v.standing.machine f y j.standing.machine it.step)) where
              at : Passed Reads Leave LeaveOther once a v.standing.machine j.standing.machine w.standing.machine y → Same (event ∷ events) (x ∷ answers) (f ∷ fs) (y ∷ told)
              at (passes next on_j) = skip_there f (event ∷ events) fs y (x ∷ answers) told other
                  (on j other_end (turned a j.standing.machine w.standing.machine next) on_j its keeps.1 (equal ∙ ap (λ (b : Bool). cond b (f ∷ own_texts a fs) (own_texts a fs)) other))
              at (ends e stops) = failed_there f (event ∷ events) fs y (x ∷ answers) told other (stopped_run LeaveOther fs told j other_end stops its)

    -- no own event is left in the other run
    none_told : (others : List (Event TheText)) (told : List Answer) → [] ≡ own_texts a others → own_told a others told ≡ []
    none_told [] told equal = refl
    none_told (f ∷ fs) [] equal = refl
    none_told (f ∷ fs) (y ∷ told) equal = by (is_text_of a f) refl (none_told fs told) where
      by : (b : Bool) → is_text_of a f ≡ b → ([] ≡ own_texts a fs → own_told a fs told ≡ []) → own_told a (f ∷ fs) (y ∷ told) ≡ []
      by true own on = let contrary : [] ≡ (f ∷ own_texts a fs) = equal ∙ ap (λ (b : Bool). cond b (f ∷ own_texts a fs) (own_texts a fs)) own in cc
      by false other on = at_event f fs y told false other ∙ on (equal ∙ ap (λ (b : Bool). cond b (f ∷ own_texts a fs) (own_texts a fs)) other)

    runs : (events : List (Event TheText)) (answers : List Answer) (end : At) → Goes events answers end
    runs [] answers end w v other_end others told st on_w on_v ran ran_there keep keeps equal alone = λ same. sym (none_told others told equal)
    runs (event ∷ events) [] end w v other_end others told st on_w on_v ran ran_there keep keeps equal alone = absurd ran
    runs (event ∷ events) (x ∷ answers) end w v other_end others told st on_w on_v (n, it, its) ran_there keep keeps equal alone = by (is_text_of a event) refl (runs events answers end) where
      by : (b : Bool) → is_text_of a event ≡ b → Goes events answers end → Same (event ∷ events) (x ∷ answers) others told
      by true own go =
          to_own w n end event x events answers on_w own (keep.0.0 own) (alone.0 own) it its keep.1 alone.1 go others told v other_end st on_v ran_there keeps
          (sym (ap (λ (b : Bool). cond b (event ∷ own_texts a events) (own_texts a events)) own) ∙ equal)
      by false other go =
          at (passed Reads Leave LeaveOther once a w.counts n.counts w.standing.machine n.standing.machine v.standing.machine event x st on_w other (keep.0.1 other)
          (did Reads w.counts n.counts w.standing.machine event x n.standing.machine it.step)) where
            at : Passed Reads Leave LeaveOther once a w.standing.machine n.standing.machine v.standing.machine x → Same (event ∷ events) (x ∷ answers) others told
            at (passes next on_n) = skip_here event events others x answers told other
                (go n v other_end others told next on_n on_v its ran_there keep.1 keeps (sym (ap (λ (b : Bool). cond b (event ∷ own_texts a events) (own_texts a events)) other) ∙ equal) alone.1)
            at (ends e stops) = failed_here event events others x answers told other (stopped_run Leave events answers n end stops its)

pub store_patterns_determine : (Reads : ReadingRelation) (Leave LeaveOther : Stops) → store_patterns_determine_answers Reads Leave LeaveOther
store_patterns_determine Reads Leave LeaveOther once none a w v end other_end events others answers told st on_w on_v ran ran_there keep keeps equal alone same =
    runs Reads Leave LeaveOther once a none events answers end w v other_end others told st on_w on_v ran ran_there keep keeps equal alone same
