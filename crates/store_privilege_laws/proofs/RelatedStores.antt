-- Two servers over stores of their own, of which a tenant asks the same, over databases that it is not to tell apart.
use Rattle.std.proofs.Common.{◌≡◌, ◌⊎◌, ℕ, Bool, true, false, cond, List, [], ◌∷◌, Option, Some, None, IsSome, Ok, Err, refl, sym, ap, ◌∙◌, subst, inl, inr}
use Rattle.sql_types.specs.declared.answer.Answer.{Answer}
use Rattle.sql_types.specs.declared.answer.Answer.TheVariants as answer
use Rattle.sql_types.specs.declared.state.SqlState.{SqlState}
use Rattle.sql_types.specs.declared.state.SqlState.TheVariants.{OutOfMemory, DiskFull, ProgramLimitExceeded, IoError}
use Rattle.sql_ast.specs.declared.statement.Statement.{Statement}
use Rattle.sql_ast.specs.declared.statement.Statement.TheVariants as statement
use Rattle.sql_ast.specs.declared.statement.SessionStatement.TheVariants as of_session
use Rattle.abstract_database.specs.Machine.{Block, Outside, Inside, Failed, Session, Event, opens, executes, closes, Reading, Machine, Transition, transition_to, session_of, commit, transition}
use Rattle.abstract_database.specs.Runs.{TheText, ReadingRelation, IsReadAs, IsTransition, RanBy, Counts, Stops, At, Happens, MayRunOutOfMemory, MayCallStore, CommitsAt, Commits, MayCommit}
use Rattle.database_laws.specs.Runs.{ReadsOnce, CountsAsNotIssued, for_memory, for_space, for_number}
use Rattle.database_laws.specs.Codes.{is_of_stores, IsReadAsRefused}
use Rattle.database_laws.specs.Sessions.{number_of}
use Rattle.database_laws.specs.HiddenRuns.{AreSound, AreOneRefusal, IsInPlace, not_issued, failed, after}
use Rattle.database_laws.specs.Told.{Tenant, happens, declares, is_of, OpensItsOwn}
use Rattle.database_laws.specs.ToldStores.{is_text_of, own_texts, OpensAsOwn, IsReadAsCode, AreRefusedAlike}
use Rattle.database_laws.proofs.RunLemmas.{only_transition}
use Rattle.database_laws.proofs.RunsAlike.{sound_after}
use Rattle.database_laws.proofs.BlockLemmas.{executed_in}
use Rattle.database_laws.proofs.RefusalLemmas.{changes_nothing}
use Rattle.database_laws.proofs.RefusedAlike.{one_code, one_refusal_or_not, needs_no_store}
use Rattle.database_laws.proofs.ToldStores.{MayStay, without_memory, without_commit, Did, moves, stays, fails, did}
use Rattle.privilege_laws.specs.Related.{Relation, Telling, MachinesRelated, MayPart}
use Rattle.privilege_laws.proofs.Moves.{Hides}
use Rattle.privilege_laws.proofs.ToldRelated.{Came, parts, goes_on_alike, is_declared, comes, for_one, turned, after_another}
use Rattle.store_privilege_laws.specs.RelatedStores.{KeepRelated, IsToldRelatedBy, all_told, told_apart, refused_alone, told_alike, untold_here, untold_there, failed_here, failed_there, StoresTellRelated}

-- ---- a refusal of the machine itself, where a store might have refused

same_session : (s t : Session) → ◌≡◌ {A = Option Session} (Some s) (Some t) → s ≡ t
same_session s t e = cc

commit_ends : (m : Machine) (number : ℕ) (s : Session) (b : Block) (code : SqlState) → (commit m number s b).answer ≡ answer.Refused code → ⊥
commit_ends m number s Outside code e = cc
commit_ends m number s (Inside role) code e = cc
commit_ends m number s (Failed role) code e = cc

module _ (Reads : ReadingRelation) (m n : Machine) (event : Event TheText) (x : Answer) (t : IsTransition Reads m event (transition_to x n)) (code : SqlState) (e : x ≡ answer.Refused code) where
  answers_so : (transition m t.as_read).answer ≡ answer.Refused code
  answers_so = sym (ap (λ (z : Transition). z.answer) t.is) ∙ e

  -- one for memory, for space or of the device is what its text was read as
  read_so : m.stopped ≡ false → is_of_stores code ≡ true → IsReadAsCode Reads event code
  read_so on store = at event t.as_read t.read (needs_no_store m t.as_read code on store answers_so) where
    number_same : (i j : ℕ) (r q : Reading) → ◌≡◌ {A = Event Reading} (executes i r) (executes j q) → i ≡ j
    number_same i j r q e = cc

    reading_same : (i j : ℕ) (r q : Reading) → ◌≡◌ {A = Event Reading} (executes i r) (executes j q) → r ≡ q
    reading_same i j r q e = cc

    at : (event : Event TheText) (read : Event Reading) → IsReadAs Reads m event read → IsReadAsRefused m read code → IsReadAsCode Reads event code
    at (opens i l) read is h = let contrary : opens i l ≡ executes h.number (Err code) = sym is ∙ h.read in cc
    at (closes i) read is h = let contrary : closes i ≡ executes h.number (Err code) = sym is ∙ h.read in cc
    at (executes i text) read (reading, is, reads) h =
        let same : executes i reading ≡ executes h.number (Err code) = sym is ∙ h.read in
        subst (λ (r : Reading). Reads text r) (reading_same i h.number reading (Err code) same)
        (reads (on, subst (λ (j : ℕ). IsSome (session_of j m.sessions)) (sym (number_same i h.number reading (Err code) same)) h.session))

number_read : (Reads : ReadingRelation) (m : Machine) (event : Event TheText) (read : Event Reading) → IsReadAs Reads m event read → number_of read ≡ number_of event
number_read Reads m (opens n l) read is = ap (λ (e : Event Reading). number_of e) is
number_read Reads m (closes n) read is = ap (λ (e : Event Reading). number_of e) is
number_read Reads m (executes n text) read (reading, is, reads) = ap (λ (e : Event Reading). number_of e) is

module _ (Reads : ReadingRelation) (Leave LeaveOther : Stops) (once : ReadsOnce Reads) (a : Tenant) (R : Relation) (T : Telling) (h : Hides a.pairs R T) where
  -- what is read over one machine is read over the other
  pub read_there : (m k : Machine) → MachinesRelated R a m k → (event : Event TheText) (x : Event Reading) → is_text_of a event ≡ true → IsReadAs Reads m event x → IsReadAs Reads k event x
  read_there m k st (opens n l) x own read = read
  read_there m k st (closes n) x own read = read
  read_there m k st (executes n text) x own (reading, is, reads) =
      (reading, is, λ may. reads (st.stopped ∙ may.0, subst (λ (o : Option Session). IsSome o) (sym (for_one a R T h m k st n own).session) may.1))

  pub opens_own : (m : Machine) (event : Event TheText) (read : Event Reading) → IsReadAs Reads m event read → OpensAsOwn a m event → OpensItsOwn a m (happens read)
  opens_own m (opens n l) read is own = subst (λ (e : Event Reading). OpensItsOwn a m (happens e)) (sym is) own
  opens_own m (closes n) read is own = subst (λ (e : Event Reading). OpensItsOwn a m (happens e)) (sym is) tt
  opens_own m (executes n text) read (reading, is, reads) own = subst (λ (e : Event Reading). OpensItsOwn a m (happens e)) (sym is) tt

  pub own_read : (m : Machine) (event : Event TheText) (read : Event Reading) → IsReadAs Reads m event read → (b : Bool) → is_text_of a event ≡ b → is_of a (happens read) ≡ b
  own_read m event read is b own = ap a.sessions (number_read Reads m event read is) ∙ own

  -- where a commit of the same text might be refused over the other machine, the refusal leaves this one
  commits_so : (m k : Machine) → MachinesRelated R a m k → (event : Event TheText) → is_text_of a event ≡ true → (n : Machine) (x : Answer) → IsTransition Reads m event (transition_to x n) → (code : SqlState) → x ≡ answer.Refused code →
      MayCommit Reads k event → n ≡ m
  commits_so m k st (opens i l) own n x t code e may = absurd may
  commits_so m k st (closes i) own n x t code e may = absurd may
  commits_so m k st (executes i text) own n x t code e (on, commits) = at (session_of i k.sessions) refl commits where
    reading : Reading
    reading = t.read.0

    here : transition_to x n ≡ transition m (executes i reading)
    here = t.is ∙ ap (λ (z : Event Reading). transition m z) t.read.1

    refuses_so : (transition m (executes i reading)).answer ≡ answer.Refused code
    refuses_so = sym (ap (λ (z : Transition). z.answer) here) ∙ e

    running : m.stopped ≡ false
    running = st.stopped ∙ on

    at : (o : Option Session) → session_of i k.sessions ≡ o → Commits Reads k i text o → n ≡ m
    at None there c = absurd c
    at (Some s) there (x, reads, how) = by_block s.block refl how where
      there_m : session_of i m.sessions ≡ Some s
      there_m = (for_one a R T h m k st i own).session ∙ there

      reads_m : reading ≡ Ok x
      reads_m = once text reading (Ok x) (t.read.2 (running, subst (λ (o : Option Session). IsSome o) (sym there_m) refl)) reads

      by_block : (b : Block) → s.block ≡ b → CommitsAt k i b x → n ≡ m
      by_block Outside out writes =
          ap (λ (z : Transition). z.machine) here ∙ changes_nothing m (executes i reading) (λ (t, o, (role, inside)).
          let contrary : Outside ≡ Inside role = sym out ∙ ap (λ (z : Session). z.block) (same_session s t (sym there_m ∙ o.session)) ∙ inside in cc) (code, refuses_so)
      by_block (Inside role) inside (is, held) =
          absurd (commit_ends m i s s.block code
          (ap (λ (z : Transition). z.answer) (sym (executed_in m i s (Ok (statement.OfSession of_session.Commit)) (record { running = running; session = there_m })))
          ∙ ap (λ (r : Reading). (transition m (executes i r)).answer) (sym (reads_m ∙ ap (λ (z : Statement). Ok z) is)) ∙ refuses_so))
      by_block (Failed role) b how = absurd how

  pub runs_still : (k : Machine) (event : Event TheText) → MayRunOutOfMemory k event → k.stopped ≡ false
  runs_still k (opens i l) may = may.0
  runs_still k (executes i text) may = may.0.0
  runs_still k (closes i) may = absurd may

  calls_still : (k : Machine) (event : Event TheText) → MayCallStore k event → k.stopped ≡ false
  calls_still k (opens i l) may = absurd may
  calls_still k (executes i text) may = may.0.0
  calls_still k (closes i) may = absurd may

  left_so : (m k : Machine) → MachinesRelated R a m k → (event : Event TheText) → is_text_of a event ≡ true → (n : Machine) (x : Answer) → IsTransition Reads m event (transition_to x n) → (code : SqlState) → x ≡ answer.Refused code →
      MayStay Reads k event code → (n ≡ m) ⊎ ((is_of_stores code ≡ true) × IsReadAsCode Reads event code)
  left_so m k st event own n x t code e (without_memory is may) =
      let store : is_of_stores code ≡ true = ap is_of_stores is in
      inr (store, read_so Reads m n event x t code e (st.stopped ∙ runs_still k event may) store)
  left_so m k st event own n x t code e (without_commit may) = inl (commits_so m k st event own n x t code e may)

  -- ---- an event of another

  pub data Passed (m n k : Machine) (x : Answer) : Type 0 where
    passes : MachinesRelated R a n k → AreSound n → Passed m n k x
    ends : x ≡ answer.Refused IoError → n.stopped ≡ true → Passed m n k x

  pub passed : (old new : Counts) (m n k : Machine) (event : Event TheText) (x : Answer) → MachinesRelated R a m k → AreSound m → is_text_of a event ≡ false → R m.committed n.committed →
      Did Reads old new m event x n → Passed m n k x
  passed old new m n k event x st on other hides (moves is) =
      let here : n ≡ after m is.as_read = ap (λ (t : Transition). t.machine) is.is in
      passes
      (subst (λ (z : Machine). MachinesRelated R a z k) (sym here)
      (after_another a R T h m k st is.as_read (own_read m event is.as_read is.read false other) (subst (λ (z : Machine). R m.committed z.committed) here hides)))
      (subst AreSound (sym here) (sound_after m is.as_read on))
  passed old new m n k event x st on other hides (stays code e place may kept) = passes (subst (λ (z : Machine). MachinesRelated R a z k) (sym kept) st) (subst AreSound (sym kept) on)
  passed old new m n k event x st on other hides (fails e broke may kept) = ends e (ap (λ (z : Machine). z.stopped) kept)

  -- ---- an own event

  pub data Went (w v n j : At) (event : Event TheText) (x y : Answer) : Type 0 where
    part : (read : Event Reading) → IsReadAs Reads w.standing.machine event read → MayPart T a w.standing.machine v.standing.machine (happens read) → (AreRefusedAlike Reads event x y → ⊥) → Went w v n j event x y
    refused : IsInPlace w.counts n.counts x ⊎ IsInPlace v.counts j.counts y → (AreRefusedAlike Reads event x y → ⊥) → Went w v n j event x y
    goes : x ≡ y → MachinesRelated R a n.standing.machine j.standing.machine → AreSound n.standing.machine → AreSound j.standing.machine → Went w v n j event x y

  module _ (w v n j : At) (st : MachinesRelated R a w.standing.machine v.standing.machine) (on_w : AreSound w.standing.machine) (on_v : AreSound v.standing.machine) (event : Event TheText) (x y : Answer)
      (own : is_text_of a event ≡ true) (opens_so : OpensAsOwn a w.standing.machine event) where
    abbrev m : Machine
    m = w.standing.machine

    abbrev k : Machine
    k = v.standing.machine

    both_move : (t : IsTransition Reads m event (transition_to x n.standing.machine)) → IsTransition Reads k event (transition_to y j.standing.machine) → Came a R T h m k st on_w on_v (happens t.as_read) → Went w v n j event x y
    both_move t u came = at came where
      is_k : transition_to y j.standing.machine ≡ transition k t.as_read
      is_k = only_transition Reads once k event (transition_to y j.standing.machine) (transition k t.as_read) u (record { as_read = t.as_read; read = read_there m k st event t.as_read own t.read; is = refl })

      here : n.standing.machine ≡ after m t.as_read
      here = ap (λ (z : Transition). z.machine) t.is

      beyond : j.standing.machine ≡ after k t.as_read
      beyond = ap (λ (z : Transition). z.machine) is_k

      at : Came a R T h m k st on_w on_v (happens t.as_read) → Went w v n j event x y
      at (parts exception none) = part t.as_read t.read exception (λ (code, e, f, not_read).
          none (code, sym (ap (λ (z : Transition). z.answer) t.is) ∙ e, sym (ap (λ (z : Transition). z.answer) is_k) ∙ f))
      at (is_declared e is) = let contrary : declares e ≡ happens t.as_read = is in cc
      at (goes_on_alike answers next) =
          goes (ap (λ (z : Transition). z.answer) t.is ∙ answers ∙ sym (ap (λ (z : Transition). z.answer) is_k))
          (subst (λ (z : Machine). MachinesRelated R a z j.standing.machine) (sym here) (subst (λ (z : Machine). MachinesRelated R a (after m t.as_read) z) (sym beyond) next))
          (subst AreSound (sym here) (sound_after m t.as_read on_w)) (subst AreSound (sym beyond) (sound_after k t.as_read on_v))

    moved_both : (t : IsTransition Reads m event (transition_to x n.standing.machine)) → IsTransition Reads k event (transition_to y j.standing.machine) → Went w v n j event x y
    moved_both t u = both_move t u (comes a R T h m k st on_w on_v (happens t.as_read) (own_read m event t.as_read t.read true own) (opens_own m event t.as_read t.read opens_so))

    -- ---- both refuse it alike

    unmoved : AreOneRefusal x y → n.standing.machine ≡ m → j.standing.machine ≡ k → Went w v n j event x y
    unmoved one here beyond =
        goes (one.1 ∙ sym one.2)
        (subst (λ (z : Machine). MachinesRelated R a z j.standing.machine) (sym here) (subst (λ (z : Machine). MachinesRelated R a m z) (sym beyond) st))
        (subst AreSound (sym here) on_w) (subst AreSound (sym beyond) on_v)

    both_stop : AreOneRefusal x y → n.standing.machine ≡ record m { stopped = true } → j.standing.machine ≡ record k { stopped = true } → Went w v n j event x y
    both_stop one here beyond =
        goes (one.1 ∙ sym one.2)
        (subst (λ (z : Machine). MachinesRelated R a z j.standing.machine) (sym here) (subst (λ (z : Machine). MachinesRelated R a (record m { stopped = true }) z) (sym beyond)
        (record { sessions = st.sessions; opened_for = st.opened_for; stopped = refl; lock = st.lock; committed = st.committed; seen = st.seen })))
        (subst AreSound (sym here) (record { committed = on_w.committed; holder = on_w.holder })) (subst AreSound (sym beyond) (record { committed = on_v.committed; holder = on_v.holder }))

    -- the codes of one refusal
    coded : (z : Answer) (c d : SqlState) → z ≡ answer.Refused c → z ≡ answer.Refused d → c ≡ d
    coded z c d e f = one_code c d (sym e ∙ f)

    apart_codes : (old new : Counts) (code : SqlState) → CountsAsNotIssued old new code → code ≡ IoError → ⊥
    apart_codes old new OutOfMemory for_memory e = cc
    apart_codes old new DiskFull (for_space rises) e = cc
    apart_codes old new ProgramLimitExceeded (for_number greatest) e = cc
    apart_codes old new IoError p e = elim p [ ]
    apart_codes old new _ p e = cc

    -- what is read as it is no refusal alike
    as_read : (z : Answer) (code : SqlState) → ((alike : AreRefusedAlike Reads event x y) → z ≡ answer.Refused alike.0) → z ≡ answer.Refused code → (is_of_stores code ≡ true) × IsReadAsCode Reads event code → AreRefusedAlike Reads event x y → ⊥
    as_read z code of e read alike =
        let same : code ≡ alike.0 = coded z code alike.0 e (of alike) in
        alike.3 (subst (λ (c : SqlState). is_of_stores c ≡ true) same read.0) (subst (λ (c : SqlState). IsReadAsCode Reads event c) same read.1)

    one_went : AreOneRefusal x y → Did Reads w.counts n.counts m event x n.standing.machine → Did Reads v.counts j.counts k event y j.standing.machine → Went w v n j event x y
    one_went one (moves t) (moves u) = moved_both t u
    one_went one (stays c e p may here) (stays d f q may_k beyond) = unmoved one here beyond
    one_went one (fails e p may here) (fails f q may_k beyond) = both_stop one here beyond
    one_went one (stays c e p may here) (fails f q may_k beyond) = absurd (apart_codes w.counts n.counts c p (coded x c one.0 e one.1 ∙ sym (coded y IoError one.0 f one.2)))
    one_went one (fails e p may here) (stays d f q may_k beyond) = absurd (apart_codes v.counts j.counts d q (coded y d one.0 f one.2 ∙ sym (coded x IoError one.0 e one.1)))
    one_went one (moves t) (stays d f q may_k beyond) =
        let e : x ≡ answer.Refused d = one.1 ∙ ap (λ (c : SqlState). answer.Refused c) (coded y one.0 d one.2 f) in
        elim (left_so m k st event own n.standing.machine x t d e may_k) [
          | inl here ↦ unmoved one here beyond
          | inr read ↦ refused (inr (not_issued d f q)) (as_read x d (λ alike. alike.1) e read)
        ]
    one_went one (stays c e p may here) (moves u) =
        let f : y ≡ answer.Refused c = one.2 ∙ ap (λ (d : SqlState). answer.Refused d) (coded x one.0 c one.1 e) in
        elim (left_so k m (turned a R T h m k st) event own j.standing.machine y u c f may) [
          | inl beyond ↦ unmoved one here beyond
          | inr read ↦ refused (inl (not_issued c e p)) (as_read y c (λ alike. alike.2) f read)
        ]
    one_went one (moves t) (fails f q may_k beyond) =
        let e : x ≡ answer.Refused IoError = one.1 ∙ ap (λ (c : SqlState). answer.Refused c) (coded y one.0 IoError one.2 f) in
        refused (inr (failed f q)) (as_read x IoError (λ alike. alike.1) e (refl, read_so Reads m n.standing.machine event x t IoError e (st.stopped ∙ calls_still k event may_k) refl))
    one_went one (fails e p may here) (moves u) =
        let f : y ≡ answer.Refused IoError = one.2 ∙ ap (λ (d : SqlState). answer.Refused d) (coded x one.0 IoError one.1 e) in
        refused (inl (failed e p)) (as_read y IoError (λ alike. alike.2) f (refl, read_so Reads k j.standing.machine event y u IoError f (sym st.stopped ∙ calls_still m event may) refl))

    -- ---- they do not

    other_went : (AreOneRefusal x y → ⊥) → Did Reads w.counts n.counts m event x n.standing.machine → Did Reads v.counts j.counts k event y j.standing.machine → Went w v n j event x y
    other_went none (moves t) (moves u) = moved_both t u
    other_went none (moves t) (stays d f q may_k beyond) = refused (inr (not_issued d f q)) (λ alike. none (alike.0, alike.1, alike.2))
    other_went none (moves t) (fails f q may_k beyond) = refused (inr (failed f q)) (λ alike. none (alike.0, alike.1, alike.2))
    other_went none (stays c e p may here) d = refused (inl (not_issued c e p)) (λ alike. none (alike.0, alike.1, alike.2))
    other_went none (fails e p may here) d = refused (inl (failed e p)) (λ alike. none (alike.0, alike.1, alike.2))

    pub went : Did Reads w.counts n.counts m event x n.standing.machine → Did Reads v.counts j.counts k event y j.standing.machine → Went w v n j event x y
    went d e = elim (one_refusal_or_not x y) [ inl one ↦ one_went one d e | inr none ↦ other_went none d e ]

  -- ---- runs

  abbrev Tells : At → At → List (Event TheText) → List Answer → List (Event TheText) → List Answer → Type 0
  Tells = IsToldRelatedBy Reads Leave LeaveOther R T a

  abbrev Goes : List (Event TheText) → List Answer → At → Type 0
  Goes events answers end = (w v other_end : At) (others : List (Event TheText)) (told : List Answer) → MachinesRelated R a w.standing.machine v.standing.machine → AreSound w.standing.machine → AreSound v.standing.machine →
      (ran : RanBy (Happens Reads Leave) w events answers end) (ran_there : RanBy (Happens Reads LeaveOther) v others told other_end) →
      KeepRelated Reads Leave R a w end events answers ran → KeepRelated Reads LeaveOther R a v other_end others told ran_there → own_texts a events ≡ own_texts a others → Tells w v events answers others told

  first_same : (x y : Event TheText) (xs ys : List (Event TheText)) → (x ∷ xs) ≡ (y ∷ ys) → (x ≡ y) × (xs ≡ ys)
  first_same x y xs ys e = (ap first_of e, ap rest_of e) where
    first_of : List (Event TheText) → Event TheText
    first_of [] = x
    first_of (z ∷ zs) = z

    rest_of : List (Event TheText) → List (Event TheText)
    rest_of [] = []
    rest_of (z ∷ zs) = zs

  abbrev ReachesOwn : (w n end : At) (event : Event TheText) (x : Answer) (events : List (Event TheText)) (answers : List Answer) → List (Event TheText) → List Answer → Type 0
  ReachesOwn w n end event x events answers others told = (v other_end : At) → MachinesRelated R a w.standing.machine v.standing.machine → AreSound v.standing.machine →
      (ran_there : RanBy (Happens Reads LeaveOther) v others told other_end) → KeepRelated Reads LeaveOther R a v other_end others told ran_there →
      (event ∷ own_texts a events) ≡ own_texts a others → Tells w v (event ∷ events) (x ∷ answers) others told

  module _ (w n end : At) (event : Event TheText) (x : Answer) (events : List (Event TheText)) (answers : List Answer) (on_w : AreSound w.standing.machine) (own : is_text_of a event ≡ true) (opens_so : OpensAsOwn a w.standing.machine event)
      (here : Happens Reads Leave w event x n) (ran : RanBy (Happens Reads Leave) n events answers end) (keep : KeepRelated Reads Leave R a n end events answers ran) (go : Goes events answers end) where
    meets : (v j other_end : At) (y : Answer) (fs : List (Event TheText)) (told : List Answer) → AreSound v.standing.machine → (ran_there : RanBy (Happens Reads LeaveOther) j fs told other_end) →
        KeepRelated Reads LeaveOther R a j other_end fs told ran_there → own_texts a events ≡ own_texts a fs → Happens Reads LeaveOther v event y j → Went w v n j event x y → Tells w v (event ∷ events) (x ∷ answers) (event ∷ fs) (y ∷ told)
    meets v j other_end y fs told on_v ran_there keeps equal it (part read is exception none) = told_apart own read is exception none
    meets v j other_end y fs told on_v ran_there keeps equal it (refused place none) = refused_alone n j own here it place none
    meets v j other_end y fs told on_v ran_there keeps equal it (goes is next on_n on_j) =
        subst (λ (z : Answer). Tells w v (event ∷ events) (x ∷ answers) (event ∷ fs) (z ∷ told)) is
        (told_alike n j own here (subst (λ (z : Answer). Happens Reads LeaveOther v event z j) (sym is) it) (go n j other_end fs told next on_n on_j ran ran_there keep keeps equal))

    to_own : (others : List (Event TheText)) (told : List Answer) → ReachesOwn w n end event x events answers others told
    to_own [] [] v other_end st on_v ran_there keeps equal = let contrary : (event ∷ own_texts a events) ≡ [] = equal in cc
    to_own [] (y ∷ told) v other_end st on_v ran_there keeps equal = absurd ran_there
    to_own (f ∷ fs) [] v other_end st on_v ran_there keeps equal = absurd ran_there
    to_own (f ∷ fs) (y ∷ told) v other_end st on_v (j, it, its) keeps equal = by (is_text_of a f) refl (to_own fs told) where
      by : (b : Bool) → is_text_of a f ≡ b → ReachesOwn w n end event x events answers fs told → Tells w v (event ∷ events) (x ∷ answers) (f ∷ fs) (y ∷ told)
      by true own_f on =
          let both = first_same event f (own_texts a events) (own_texts a fs) (equal ∙ ap (λ (b : Bool). cond b (f ∷ own_texts a fs) (own_texts a fs)) own_f) in
          let it_same : Happens Reads LeaveOther v event y j = subst (λ (z : Event TheText). Happens Reads LeaveOther v z y j) (sym both.0) it in
          subst (λ (z : Event TheText). Tells w v (event ∷ events) (x ∷ answers) (z ∷ fs) (y ∷ told)) both.0
          (meets v j other_end y fs told on_v its keeps.1 both.1 it_same
          (went w v n j st on_w on_v event x y own opens_so (did Reads w.counts n.counts w.standing.machine event x n.standing.machine here.step) (did Reads v.counts j.counts v.standing.machine event y j.standing.machine it_same.step)))
      by false other on =
          at (passed v.counts j.counts v.standing.machine j.standing.machine w.standing.machine f y (turned a R T h w.standing.machine v.standing.machine st) on_v other (keeps.0.1 other) (did Reads v.counts j.counts v.standing.machine f y j.standing.machine it.step)) where
            at : Passed v.standing.machine j.standing.machine w.standing.machine y → Tells w v (event ∷ events) (x ∷ answers) (f ∷ fs) (y ∷ told)
            at (passes next on_j) = untold_there j other it (on j other_end (turned a R T h j.standing.machine w.standing.machine next) on_j its keeps.1 (equal ∙ ap (λ (b : Bool). cond b (f ∷ own_texts a fs) (own_texts a fs)) other))
            at (ends e stops) = failed_there other e

  abbrev NoneMore : List (Event TheText) → List Answer → Type 0
  NoneMore others told = (w v other_end : At) → MachinesRelated R a w.standing.machine v.standing.machine → AreSound v.standing.machine → (ran_there : RanBy (Happens Reads LeaveOther) v others told other_end) →
      KeepRelated Reads LeaveOther R a v other_end others told ran_there → [] ≡ own_texts a others → Tells w v [] [] others told

  none_more : (others : List (Event TheText)) (told : List Answer) → NoneMore others told
  none_more [] [] w v other_end st on_v ran_there keeps equal = all_told st
  none_more [] (y ∷ told) w v other_end st on_v ran_there keeps equal = absurd ran_there
  none_more (f ∷ fs) [] w v other_end st on_v ran_there keeps equal = absurd ran_there
  none_more (f ∷ fs) (y ∷ told) w v other_end st on_v (j, it, its) keeps equal = by (is_text_of a f) refl (none_more fs told) where
    by : (b : Bool) → is_text_of a f ≡ b → NoneMore fs told → Tells w v [] [] (f ∷ fs) (y ∷ told)
    by true own_f on = let contrary : [] ≡ (f ∷ own_texts a fs) = equal ∙ ap (λ (b : Bool). cond b (f ∷ own_texts a fs) (own_texts a fs)) own_f in cc
    by false other on =
        at (passed v.counts j.counts v.standing.machine j.standing.machine w.standing.machine f y (turned a R T h w.standing.machine v.standing.machine st) on_v other (keeps.0.1 other) (did Reads v.counts j.counts v.standing.machine f y j.standing.machine it.step)) where
          at : Passed v.standing.machine j.standing.machine w.standing.machine y → Tells w v [] [] (f ∷ fs) (y ∷ told)
          at (passes next on_j) = untold_there j other it (on w j other_end (turned a R T h j.standing.machine w.standing.machine next) on_j its keeps.1 (equal ∙ ap (λ (b : Bool). cond b (f ∷ own_texts a fs) (own_texts a fs)) other))
          at (ends e stops) = failed_there other e

  runs : (events : List (Event TheText)) (answers : List Answer) (end : At) → Goes events answers end
  runs [] [] end w v other_end others told st on_w on_v ran ran_there keep keeps equal = none_more others told w v other_end st on_v ran_there keeps equal
  runs [] (x ∷ answers) end w v other_end others told st on_w on_v ran ran_there keep keeps equal = absurd ran
  runs (event ∷ events) [] end w v other_end others told st on_w on_v ran ran_there keep keeps equal = absurd ran
  runs (event ∷ events) (x ∷ answers) end w v other_end others told st on_w on_v (n, it, its) ran_there keep keeps equal = by (is_text_of a event) refl (runs events answers end) where
    by : (b : Bool) → is_text_of a event ≡ b → Goes events answers end → Tells w v (event ∷ events) (x ∷ answers) others told
    by true own go =
        to_own w n end event x events answers on_w own (keep.0.0 own) it its keep.1 go others told v other_end st on_v ran_there keeps
        (sym (ap (λ (b : Bool). cond b (event ∷ own_texts a events) (own_texts a events)) own) ∙ equal)
    by false other go =
        at (passed w.counts n.counts w.standing.machine n.standing.machine v.standing.machine event x st on_w other (keep.0.1 other) (did Reads w.counts n.counts w.standing.machine event x n.standing.machine it.step)) where
          at : Passed w.standing.machine n.standing.machine v.standing.machine x → Tells w v (event ∷ events) (x ∷ answers) others told
          at (passes next on_n) = untold_here n other it (go n v other_end others told next on_n on_v its ran_there keep.1 keeps (sym (ap (λ (b : Bool). cond b (event ∷ own_texts a events) (own_texts a events)) other) ∙ equal))
          at (ends e stops) = failed_here other e

pub stores_told : (R : Tenant → Relation) (T : Telling) → ((a : Tenant) → Hides a.pairs (R a) T) → (Reads : ReadingRelation) (Leave LeaveOther : Stops) → StoresTellRelated R T Reads Leave LeaveOther
stores_told R T hides Reads Leave LeaveOther once a w v end other_end events others answers told st on_w on_v ran ran_there keep keeps equal =
    runs Reads Leave LeaveOther once a (R a) T (hides a) events answers end w v other_end others told st on_w on_v ran ran_there keep keeps equal
