-- One exchange of two servers that look alike to a tenant.
use Rattle.std.proofs.Common.{◌≡◌, ◌⊎◌, ◌∙◌, ◌&&◌, ℕ, Bool, true, false, not, bytes_eq, List, Option, Some, None, IsSome, Ok, Err, refl, sym, ap, subst, inl, inr}
use Rattle.std.specs.Option.{option_map}
use Rattle.sql_types.specs.declared.answer.Answer.{Answer}
use Rattle.sql_types.specs.declared.answer.Answer.TheVariants.{Refused}
use Rattle.sql_types.specs.declared.event.Event.{Event}
use Rattle.sql_types.specs.declared.event.Event.TheVariants as event
use Rattle.sql_types.specs.declared.state.SqlState.{SqlState}
use Rattle.sql_types.specs.declared.state.SqlState.TheVariants.{InvalidAuthorization, OutOfMemory, IoError}
use Rattle.sql_ast.specs.declared.description.StatementDescription.{StatementDescription}
use Rattle.sql_ast.specs.declared.description.StatementDescription.TheVariants as describes
use Rattle.abstract_database.specs.Database.{Database}
use Rattle.abstract_database.specs.Descriptions.{description, IsDescription}
use Rattle.abstract_database.specs.Lists.{TheName}
use Rattle.abstract_database.specs.Machine.{Machine, Session, number_in, session_of, Event as MachineEvent, opens, executes, Reading, Transition, transition}
use Rattle.server.specs.Superusers.{may_become_superuser}
use Rattle.abstract_database.specs.Runs.{TheText, ReadingRelation, MayRead, At}
use Rattle.abstract_database.proofs.ListLemmas.{bytes_same, same_bytes}
use Rattle.database_laws.specs.HiddenRuns.{SameApparentRowsForPairs, AreSound, AreOneRefusal}
use Rattle.database_laws.specs.Runs.{ReadsOnce}
use Rattle.database_laws.specs.Told.{IsAlikeTo}
use Rattle.database_laws.specs.ToldStores.{OpensAsOwn}
use Rattle.database_laws.proofs.ToldRuns.{for_one}
use Rattle.database_laws.proofs.RefusedAlike.{one_code, one_refusal_or_not, needs_no_store}
use Rattle.database_laws.proofs.ToldStores.{Did, moves, stays, did, Passed, passes, ends, passed, Went, part, refused, goes, went}
use Rattle.database_laws.proofs.ToldStores.{fails as did_fail}
use Rattle.client_laws.specs.Renumbered.{IsOneToOne, renumbered_machine, renumbered_at}
use Rattle.server.specs.Standing.{event_of}
use Rattle.server.specs.LookUps.{Found, look_up_client, IsLeftByLookUp, as_it_was, stopped_within}
use Rattle.talks.specs.declared.want.Want.{Want}
use Rattle.talks.specs.declared.want.Want.TheVariants as want
use Rattle.talks.specs.declared.want.Reply.{Reply}
use Rattle.talks.specs.declared.want.Reply.TheVariants as reply
use Rattle.talks.specs.declared.want.SessionEntry.{SessionEntry}
use Rattle.served_machine.specs.Entries.{is_way_of, admits}
use Rattle.served_machine.specs.RowsApart.{AgreeButForRows}
use Rattle.served_machine.specs.Served.{standing_of}
use Rattle.served_machine.proofs.Describing.{same_description}
use Rattle.served_tenants.specs.Exchanges.{unsaid, CarriesOutAt, OpensSessionAt, has_stopped, turns_away, lacks_memory, takes, StopsWithDevice, Replies}
use Rattle.served_tenants.specs.ServedTenants.{ClientsOfTenant, tenant_of, SeemAlike, HasLookUpSessions, OpensItsOwn, IsEventOf, DeviceFailed, at_exception, at_refusal, MayPart, by_event, for_memory, by_look_up, in_look_up_session}
use Rattle.served_tenants.proofs.Renumbering.{own_session, own_text, lifted, session_at, described_at, one_description}
use Rattle.served_tenants.proofs.LookingUp.{stopped_in, stopped_alike, stopped_sound}

-- two texts, if any, are the same or not
same_or_not : (x y : Option (List ℕ)) → (x ≡ y) ⊎ (x ≡ y → ⊥)
same_or_not None None = inl refl
same_or_not None (Some y) = inr (λ is. cc)
same_or_not (Some x) None = inr (λ is. cc)
same_or_not (Some x) (Some y) = by (bytes_eq x y) refl where
  within : ◌≡◌ {A = Option (List ℕ)} (Some x) (Some y) → x ≡ y
  within is = cc

  by : (b : Bool) → bytes_eq x y ≡ b → (◌≡◌ {A = Option (List ℕ)} (Some x) (Some y)) ⊎ (◌≡◌ {A = Option (List ℕ)} (Some x) (Some y) → ⊥)
  by true is = inl (ap (λ (z : List ℕ). Some z) (bytes_same x y is))
  by false is = inr (λ same. let contrary : true ≡ false = sym (same_bytes x y (within same)) ∙ is in cc)

-- memory is refused to a description, or not
lacks_or_not : (g : StatementDescription) → (g ≡ describes.Refused OutOfMemory) ⊎ (g ≡ describes.Refused OutOfMemory → ⊥)
lacks_or_not (describes.Rows columns) = inr (λ is. cc)
lacks_or_not describes.NoRows = inr (λ is. cc)
lacks_or_not (describes.Refused code) = at (one_refusal_or_not (Refused code) (Refused OutOfMemory)) where
  code_of : (c d : SqlState) → describes.Refused c ≡ describes.Refused d → c ≡ d
  code_of c d is = cc

  at : AreOneRefusal (Refused code) (Refused OutOfMemory) ⊎ (AreOneRefusal (Refused code) (Refused OutOfMemory) → ⊥) → (describes.Refused code ≡ describes.Refused OutOfMemory) ⊎ (describes.Refused code ≡ describes.Refused OutOfMemory → ⊥)
  at (inl (c, is, is_there)) = inl (ap (λ (i : SqlState). describes.Refused i) (one_code code OutOfMemory (is ∙ sym is_there)))
  at (inr other) = inr (λ is. other (OutOfMemory, ap (λ (i : SqlState). Refused i) (code_of code OutOfMemory is), refl))

described_in : (f g : StatementDescription) → reply.Description f ≡ reply.Description g → f ≡ g
described_in f g is = cc

answered_in : (p q : Answer) → reply.Answer p ≡ reply.Answer q → p ≡ q
answered_in p q is = cc

found_in : (f g : Found) → reply.Verifier f ≡ reply.Verifier g → f ≡ g
found_in f g is = cc

code_in : (c d : SqlState) → ◌≡◌ {A = Found} (Err c) (Err d) → c ≡ d
code_in c d is = cc

code_found : (c d : SqlState) → reply.Verifier (Err c) ≡ reply.Verifier (Err d) → c ≡ d
code_found c d is = code_in c d (found_in (Err c) (Err d) is)

text_in : (t u : Option (List ℕ)) → ◌≡◌ {A = Found} (Ok t) (Ok u) → t ≡ u
text_in t u is = cc

-- an opening that is refused memory leaves the machine
opening_left : (Reads : ReadingRelation) (w next : At) (c n : ℕ) (login : TheName) (p : Answer) → w.standing.machine.stopped ≡ false → CarriesOutAt Reads w c (event.Open n login) p next → p ≡ Refused OutOfMemory →
    next.standing.machine ≡ w.standing.machine
opening_left Reads w next c n login p on it is =
    at (did Reads w.counts next.counts w.standing.machine (opens (number_in c n) login) p next.standing.machine it.step) where
      no_text : (i j : ℕ) (reading : Reading) → ◌≡◌ {A = MachineEvent Reading} (opens i login) (executes j reading) → ⊥
      no_text i j reading is = cc

      at : Did Reads w.counts next.counts w.standing.machine (opens (number_in c n) login) p next.standing.machine → next.standing.machine ≡ w.standing.machine
      at (moves t) =
          let reads = needs_no_store w.standing.machine (opens (number_in c n) login) OutOfMemory on refl
          (sym (ap (λ (x : Transition). x.answer) t.is ∙ ap (λ (x : MachineEvent Reading). (transition w.standing.machine x).answer) t.read) ∙ is) in
          absurd (no_text (number_in c n) reads.number (Err OutOfMemory) reads.read)
      at (stays code e counted may kept) = kept
      at (did_fail io broke may kept) = let contrary : IoError ≡ OutOfMemory = one_code IoError OutOfMemory (sym io ∙ is) in cc

module _ (Reads : ReadingRelation) (once : ReadsOnce Reads) (a : ClientsOfTenant) (place place_there : ℕ → ℕ) (apart : IsOneToOne place) where
  abbrev rm : Machine → Machine
  rm = renumbered_machine place

  abbrev rk : Machine → Machine
  rk = renumbered_machine place_there

  -- ---- what another wants

  -- the servers look alike again, or the device has failed
  pub data Unseen (next v : At) (r : Reply) : Type 0 where
    unseen : SeemAlike a place place_there next v → AreSound (rm next.standing.machine) → Unseen next v r
    fails : DeviceFailed r → Unseen next v r

  module _ (w next v : At) (c : ℕ) (st : SeemAlike a place place_there w v) (on : AreSound (rm w.standing.machine)) (other : a.clients (place c) ≡ false)
      (hides : SameApparentRowsForPairs a.pairs w.standing.machine.committed next.standing.machine.committed) where
    stays_unseen : (r : Reply) → next ≡ w → Unseen next v r
    stays_unseen r is = unseen (subst (λ (x : At). SeemAlike a place place_there x v) (sym is) st) (subst (λ (x : At). AreSound (rm x.standing.machine)) (sym is) on)

    same_unseen : (r : Reply) → next.standing.machine ≡ w.standing.machine → Unseen next v r
    same_unseen r is = unseen
        (subst (λ (x : Machine). SeemAlike a place place_there (record w { standing = record { machine = x; under_way = w.standing.under_way } }) v) (sym is) st)
        (subst (λ (x : Machine). AreSound (rm x)) (sym is) on)

    carried_unseen : (e : Event) (p : Answer) (r : Reply) → r ≡ reply.Answer p → CarriesOutAt Reads w c e p next → Unseen next v r
    carried_unseen e p r is it = at
        (passed Reads unsaid unsaid once (tenant_of a) w.counts next.counts (rm w.standing.machine) (rm next.standing.machine) (rk v.standing.machine) (event_of (place c) e) p st on (own_text a (place c) e false other) hides
        (did Reads w.counts next.counts (rm w.standing.machine) (event_of (place c) e) p (rm next.standing.machine) (lifted place apart Reads w next c e p it).step))
      where
        at : Passed Reads unsaid unsaid once (tenant_of a) (rm w.standing.machine) (rm next.standing.machine) (rk v.standing.machine) p → Unseen next v r
        at (passes alike sound) = unseen alike sound
        at (ends io stops) = fails (inl (is ∙ ap (λ (x : Answer). reply.Answer x) io))

    opened_unseen : (n : ℕ) (login : TheName) (entry : SessionEntry) (p : Answer) (r : Reply) → r ≡ reply.Answer p → OpensSessionAt Reads w c n login entry p next → Unseen next v r
    opened_unseen n login entry p r is (has_stopped was e same) = stays_unseen r same
    opened_unseen n login entry p r is (turns_away runs away e same) = stays_unseen r same
    opened_unseen n login entry p r is (lacks_memory runs admitted e same) = stays_unseen r same
    opened_unseen n login entry p r is (takes runs admitted it) = carried_unseen (event.Open n login) p r is it

    looked_unseen : (role : TheName) (f : Found) (r : Reply) → r ≡ reply.Verifier f → IsLeftByLookUp role f w.standing.machine next.standing.machine → Unseen next v r
    looked_unseen role f r is (as_it_was same) = same_unseen r same
    looked_unseen role f r is (stopped_within io free after) = fails (inr (is ∙ ap (λ (x : Found). reply.Verifier x) io))

    pub other_reply : (x : Want) (r : Reply) → Replies Reads w c x r next → Unseen next v r
    other_reply (want.Event (event.Statement n text)) r it = carried_unseen (event.Statement n text) it.0 r it.1 it.2
    other_reply (want.Event (event.Close n)) r it = carried_unseen (event.Close n) it.0 r it.1 it.2
    other_reply (want.Event (event.Open n login)) r it = absurd it
    other_reply (want.Open n login entry) r it = opened_unseen n login entry it.0 r it.1 it.2
    other_reply (want.Standing n) r it = stays_unseen r it.1
    other_reply (want.Description n text) r it = stays_unseen r it.3
    other_reply (want.Verifier table role) r it = looked_unseen role it.0 r it.1 it.2
    other_reply want.Message r it = absurd it
    other_reply (want.End late) r it = absurd it
    other_reply want.OutOfMemory r it = absurd it

  -- ---- what the tenant wants

  module _ (apart_there : IsOneToOne place_there) where
    -- the runs may part, or both are told the same and look alike again
    pub data Outcome (w next v later : At) (c : ℕ) (x : Want) (r s : Reply) : Type 0 where
      parts : MayPart Reads a place place_there w next v later c x r s → Outcome w next v later c x r s
      agrees : r ≡ s → SeemAlike a place place_there next later → AreSound (rm next.standing.machine) → AreSound (rk later.standing.machine) → Outcome w next v later c x r s

    module _ (w next v later : At) (c d : ℕ) (st : SeemAlike a place place_there w v) (on : AreSound (rm w.standing.machine)) (on_there : AreSound (rk v.standing.machine)) (own : a.clients (place c) ≡ true) (at_one : place c ≡ place_there d) where
      abbrev m : Machine
      m = w.standing.machine

      abbrev k : Machine
      k = v.standing.machine

      abbrev Ends : Want → Reply → Reply → Type 0
      Ends x r s = Outcome w next v later (place c) x r s

      unmoved : (x : Want) (r s : Reply) → r ≡ s → next.standing.machine ≡ m → later.standing.machine ≡ k → Ends x r s
      unmoved x r s same is is_there = agrees same
          (subst (λ (y : Machine). SeemAlike a place place_there (record w { standing = record { machine = y; under_way = w.standing.under_way } }) later) (sym is)
          (subst (λ (y : Machine). SeemAlike a place place_there w (record v { standing = record { machine = y; under_way = v.standing.under_way } })) (sym is_there) st))
          (subst (λ (y : Machine). AreSound (rm y)) (sym is) on) (subst (λ (y : Machine). AreSound (rk y)) (sym is_there) on_there)

      stood : (x y : At) → x ≡ y → x.standing.machine ≡ y.standing.machine
      stood x y is = ap (λ (z : At). z.standing.machine) is

      -- ---- events

      there_at : (e : Event) (q : Answer) → CarriesOutAt Reads v d e q later → CarriesOutAt Reads (renumbered_at place_there v) (place c) e q (renumbered_at place_there later)
      there_at e q it = subst (λ (i : ℕ). CarriesOutAt Reads (renumbered_at place_there v) i e q (renumbered_at place_there later)) (sym at_one) (lifted place_there apart_there Reads v later d e q it)

      carried : (x : Want) (e : Event) (p q : Answer) (r s : Reply) → IsEventOf x e → r ≡ reply.Answer p → s ≡ reply.Answer q → OpensAsOwn (tenant_of a) (rm m) (event_of (place c) e) →
          CarriesOutAt Reads w c e p next → CarriesOutAt Reads v d e q later → Ends x r s
      carried x e p q r s of is is_there opens_so it it_there = at
          (went Reads unsaid unsaid once (tenant_of a) (renumbered_at place w) (renumbered_at place_there v) (renumbered_at place next) (renumbered_at place_there later) st on on_there (event_of (place c) e) p q (own_text a (place c) e true own) opens_so
          (did Reads w.counts next.counts (rm m) (event_of (place c) e) p (rm next.standing.machine) (lifted place apart Reads w next c e p it).step)
          (did Reads v.counts later.counts (rk k) (event_of (place c) e) q (rk later.standing.machine) (there_at e q it_there).step))
        where
          at : Went Reads unsaid unsaid once (tenant_of a) (renumbered_at place w) (renumbered_at place_there v) (renumbered_at place next) (renumbered_at place_there later) (event_of (place c) e) p q → Ends x r s
          at (part read reads exception none) = parts (by_event e p q of is is_there (at_exception read reads exception none))
          at (refused in_place none) = parts (by_event e p q of is is_there (at_refusal in_place none))
          at (goes same alike sound sound_there) = agrees (is ∙ ap (λ (z : Answer). reply.Answer z) same ∙ sym is_there) alike sound sound_there

      -- ---- sessions that are asked for

      admits_same : (login : TheName) (entry : SessionEntry) → admits m.committed entry login ≡ admits k.committed entry login
      admits_same login entry = ap (λ (b : Bool). is_way_of entry.way login && not (entry.no_superuser && b)) (ap (λ (db : Database). may_become_superuser db login) st.committed.definitions)

      stops_both : m.stopped ≡ true → k.stopped ≡ false → ⊥
      stops_both was runs = let contrary : true ≡ false = sym was ∙ st.stopped ∙ runs in cc

      stops_both_there : m.stopped ≡ false → k.stopped ≡ true → ⊥
      stops_both_there runs was = let contrary : false ≡ true = sym runs ∙ st.stopped ∙ was in cc

      one_way : (login : TheName) (entry : SessionEntry) (b : Bool) → admits m.committed entry login ≡ not b → admits k.committed entry login ≡ b → ⊥
      one_way login entry true here there = let contrary : false ≡ true = sym here ∙ admits_same login entry ∙ there in cc
      one_way login entry false here there = let contrary : true ≡ false = sym here ∙ admits_same login entry ∙ there in cc

      refused_both : (x : Want) (p q z : Answer) (r s : Reply) → r ≡ reply.Answer p → s ≡ reply.Answer q → p ≡ z → q ≡ z → next ≡ w → later ≡ v → Ends x r s
      refused_both x p q z r s is is_there here there same same_there =
          unmoved x r s (is ∙ ap (λ (y : Answer). reply.Answer y) (here ∙ sym there) ∙ sym is_there) (stood next w same) (stood later v same_there)

      opened : (n : ℕ) (login : TheName) (entry : SessionEntry) (p q : Answer) (r s : Reply) → r ≡ reply.Answer p → s ≡ reply.Answer q → OpensItsOwn a place m (want.Open n login entry) →
          OpensSessionAt Reads w c n login entry p next → OpensSessionAt Reads v d n login entry q later → Ends (want.Open n login entry) r s
      opened n login entry p q r s is is_there its (has_stopped was e same) (has_stopped was_k f same_k) = refused_both (want.Open n login entry) p q (Refused IoError) r s is is_there e f same same_k
      opened n login entry p q r s is is_there its (has_stopped was e same) (turns_away runs away f same_k) = absurd (stops_both was runs)
      opened n login entry p q r s is is_there its (has_stopped was e same) (lacks_memory runs admitted f same_k) = absurd (stops_both was runs)
      opened n login entry p q r s is is_there its (has_stopped was e same) (takes runs admitted it) = absurd (stops_both was runs)
      opened n login entry p q r s is is_there its (turns_away runs away e same) (has_stopped was f same_k) = absurd (stops_both_there runs was)
      opened n login entry p q r s is is_there its (turns_away runs away e same) (turns_away runs_k away_k f same_k) = refused_both (want.Open n login entry) p q (Refused InvalidAuthorization) r s is is_there e f same same_k
      opened n login entry p q r s is is_there its (turns_away runs away e same) (lacks_memory runs_k admitted f same_k) =
          parts (for_memory (inr (is_there ∙ ap (λ (y : Answer). reply.Answer y) f)) (λ one. let never : ◌≡◌ {A = Answer} (Refused InvalidAuthorization) (Refused OutOfMemory) = sym e ∙ answered_in p q (sym is ∙ one ∙ is_there) ∙ f in cc))
      opened n login entry p q r s is is_there its (turns_away runs away e same) (takes runs_k admitted it) = absurd (one_way login entry true away admitted)
      opened n login entry p q r s is is_there its (lacks_memory runs admitted e same) (has_stopped was f same_k) = absurd (stops_both_there runs was)
      opened n login entry p q r s is is_there its (lacks_memory runs admitted e same) (turns_away runs_k away f same_k) =
          parts (for_memory (inl (is ∙ ap (λ (y : Answer). reply.Answer y) e)) (λ one. let never : ◌≡◌ {A = Answer} (Refused OutOfMemory) (Refused InvalidAuthorization) = sym e ∙ answered_in p q (sym is ∙ one ∙ is_there) ∙ f in cc))
      opened n login entry p q r s is is_there its (lacks_memory runs admitted e same) (lacks_memory runs_k admitted_k f same_k) = refused_both (want.Open n login entry) p q (Refused OutOfMemory) r s is is_there e f same same_k
      opened n login entry p q r s is is_there its (lacks_memory runs admitted e same) (takes runs_k admitted_k it) = at (one_refusal_or_not (Refused OutOfMemory) q) where
        at : AreOneRefusal (Refused OutOfMemory) q ⊎ (AreOneRefusal (Refused OutOfMemory) q → ⊥) → Ends (want.Open n login entry) r s
        at (inl (code, one, other)) =
            let lacks : q ≡ Refused OutOfMemory = other ∙ sym one in
            unmoved (want.Open n login entry) r s (is ∙ ap (λ (y : Answer). reply.Answer y) (e ∙ sym lacks) ∙ sym is_there) (stood next w same) (opening_left Reads v later d n login q runs_k it lacks)
        at (inr other) = parts (for_memory (inl (is ∙ ap (λ (y : Answer). reply.Answer y) e)) (λ one. other (OutOfMemory, refl, sym (answered_in p q (sym is ∙ one ∙ is_there)) ∙ e)))
      opened n login entry p q r s is is_there its (takes runs admitted it) (has_stopped was f same_k) = absurd (stops_both_there runs was)
      opened n login entry p q r s is is_there its (takes runs admitted it) (turns_away runs_k away f same_k) = absurd (one_way login entry false admitted away)
      opened n login entry p q r s is is_there its (takes runs admitted it) (lacks_memory runs_k admitted_k f same_k) = at (one_refusal_or_not (Refused OutOfMemory) p) where
        at : AreOneRefusal (Refused OutOfMemory) p ⊎ (AreOneRefusal (Refused OutOfMemory) p → ⊥) → Ends (want.Open n login entry) r s
        at (inl (code, one, other)) =
            let lacks : p ≡ Refused OutOfMemory = other ∙ sym one in
            unmoved (want.Open n login entry) r s (is ∙ ap (λ (y : Answer). reply.Answer y) (lacks ∙ sym f) ∙ sym is_there) (opening_left Reads w next c n login p runs it lacks) (stood later v same_k)
        at (inr other) = parts (for_memory (inr (is_there ∙ ap (λ (y : Answer). reply.Answer y) f)) (λ one. other (OutOfMemory, refl, answered_in p q (sym is ∙ one ∙ is_there) ∙ f)))
      opened n login entry p q r s is is_there its (takes runs admitted it) (takes runs_k admitted_k it_k) =
          carried (want.Open n login entry) (event.Open n login) p q r s refl is is_there (its admitted) it it_k

      -- ---- questions

      -- the number that a session has by the place of its client
      abbrev numbered : ℕ → ℕ
      numbered n = number_in (place c) n

      session_there : (n : ℕ) → session_of (numbered n) (rk k).sessions ≡ session_of (number_in d n) k.sessions
      session_there n = ap (λ (i : ℕ). session_of (number_in i n) (rk k).sessions) at_one ∙ session_at place_there apart_there d n k

      one_session : (n : ℕ) → session_of (numbered n) (rm m).sessions ≡ session_of (numbered n) (rk k).sessions
      one_session n = (for_one (tenant_of a) (rm m) (rk k) st (numbered n) (own_session a (place c) n true own)).session

      standing_same : (n : ℕ) (r s : Reply) → Replies Reads w c (want.Standing n) r next → Replies Reads v d (want.Standing n) s later → Ends (want.Standing n) r s
      standing_same n r s it it_there =
          unmoved (want.Standing n) r s
          (it.0 ∙ ap (λ (o : Option Session). reply.Standing (option_map (λ t. standing_of t.block) o)) (sym (session_at place apart c n m) ∙ one_session n ∙ session_there n) ∙ sym it_there.0)
          (stood next w it.1) (stood later v it_there.1)

      agree : (n : ℕ) → AgreeButForRows (numbered n) (rm m) (rk k)
      agree n = record { stopped = st.stopped; session = one_session n; definitions = (st.seen (numbered n) (own_session a (place c) n true own)).definitions }

      described_same : (n : ℕ) (text : TheText) (f g : StatementDescription) → IsDescription Reads m (number_in c n) text f → IsDescription Reads k (number_in d n) text g →
          (f ≡ g) ⊎ (f ≡ describes.Refused OutOfMemory) ⊎ (g ≡ describes.Refused OutOfMemory)
      described_same n text f g (inl lacks) it = inr (inl lacks)
      described_same n text f g (inr it) (inl lacks) = inr (inr lacks)
      described_same n text f g (inr (x, reads, is)) (inr (y, reads_there, is_there)) =
          inl (is ∙ sym (described_at place apart c n m x) ∙ same_description (numbered n) (rm m) (rk k) (agree n) x ∙ one_description (rk k) (numbered n) x y read
          ∙ ap (λ (i : ℕ). description (rk k) (number_in i n) y) at_one ∙ described_at place_there apart_there d n k y ∙ sym is_there)
        where
          read : MayRead (rk k) (numbered n) → x ≡ y
          read may = once text x y
              (reads (st.stopped ∙ may.0, subst (λ (o : Option Session). IsSome o) (sym (one_session n) ∙ session_at place apart c n m) may.1))
              (reads_there (may.0, subst (λ (o : Option Session). IsSome o) (session_there n) may.1))

      told_of : (n : ℕ) (text : TheText) (r s : Reply) → Replies Reads w c (want.Description n text) r next → Replies Reads v d (want.Description n text) s later → Ends (want.Description n text) r s
      told_of n text r s (f, is, it, same) (g, is_there, it_there, same_there) = at (described_same n text f g it it_there) where
        at_both : f ≡ g → Ends (want.Description n text) r s
        at_both one = unmoved (want.Description n text) r s (is ∙ ap (λ (x : StatementDescription). reply.Description x) one ∙ sym is_there) (stood next w same) (stood later v same_there)

        at : (f ≡ g) ⊎ (f ≡ describes.Refused OutOfMemory) ⊎ (g ≡ describes.Refused OutOfMemory) → Ends (want.Description n text) r s
        at (inl one) = at_both one
        at (inr (inl lacks)) = in_one (lacks_or_not g) where
          in_one : (g ≡ describes.Refused OutOfMemory) ⊎ (g ≡ describes.Refused OutOfMemory → ⊥) → Ends (want.Description n text) r s
          in_one (inl both) = at_both (lacks ∙ sym both)
          in_one (inr other) = parts (for_memory (inl (is ∙ ap (λ (x : StatementDescription). reply.Description x) lacks)) (λ one. other (sym (described_in f g (sym is ∙ one ∙ is_there)) ∙ lacks)))
        at (inr (inr lacks)) = in_one (lacks_or_not f) where
          in_one : (f ≡ describes.Refused OutOfMemory) ⊎ (f ≡ describes.Refused OutOfMemory → ⊥) → Ends (want.Description n text) r s
          in_one (inl both) = at_both (both ∙ sym lacks)
          in_one (inr other) = parts (for_memory (inr (is_there ∙ ap (λ (x : StatementDescription). reply.Description x) lacks)) (λ one. other (described_in f g (sym is ∙ one ∙ is_there) ∙ lacks)))

      -- ---- look-ups

      found_leaves : (role : TheName) (t : Option (List ℕ)) (x y : Machine) → IsLeftByLookUp role (Ok t) x y → y ≡ x
      found_leaves role t x y (as_it_was same) = same
      found_leaves role t x y (stopped_within io free after) = let contrary : ◌≡◌ {A = Found} (Ok t) (Err IoError) = io in cc

      -- the devices of both have failed
      stopped_both : (table role : TheName) (r s : Reply) → r ≡ reply.Verifier (Err IoError) → s ≡ reply.Verifier (Err IoError) → m.stopped ≡ false → next.standing.machine ≡ stopped_in role m → later.standing.machine ≡ stopped_in role k →
          Ends (want.Verifier table role) r s
      stopped_both table role r s is is_there runs after after_there = at (a.clients (place look_up_client)) (a.clients (place_there look_up_client)) refl refl where
        counted : HasLookUpSessions a place ⊎ HasLookUpSessions a place_there → Ends (want.Verifier table role) r s
        counted has = parts (in_look_up_session table role refl runs (sym st.stopped ∙ runs) is is_there has)

        at : (b n : Bool) → a.clients (place look_up_client) ≡ b → a.clients (place_there look_up_client) ≡ n → Ends (want.Verifier table role) r s
        at true n has there = counted (inl has)
        at false true here has = counted (inr has)
        at false false here there = agrees (is ∙ sym is_there)
            (subst (λ (y : Machine). IsAlikeTo (tenant_of a) (rm y) (rk later.standing.machine)) (sym after)
            (subst (λ (y : Machine). IsAlikeTo (tenant_of a) (rm (stopped_in role m)) (rk y)) (sym after_there) (stopped_alike a place place_there apart apart_there here there role m k st)))
            (subst (λ (y : Machine). AreSound (rm y)) (sym after) (stopped_sound place role m on)) (subst (λ (y : Machine). AreSound (rk y)) (sym after_there) (stopped_sound place_there role k on_there))

      -- both look-ups failed alike
      failed_both : (table role : TheName) (code : SqlState) (r s : Reply) → r ≡ reply.Verifier (Err code) → s ≡ reply.Verifier (Err code) → IsLeftByLookUp role (Err code) m next.standing.machine → IsLeftByLookUp role (Err code) k later.standing.machine →
          StopsWithDevice w (Err code) next → StopsWithDevice v (Err code) later → (b : Bool) → m.stopped ≡ b → Ends (want.Verifier table role) r s
      failed_both table role code r s is is_there left left_there stops stops_there true was =
          unmoved (want.Verifier table role) r s (is ∙ sym is_there) (stood next w (stops.stopped was).1) (stood later v (stops_there.stopped (sym st.stopped ∙ was)).1)
      failed_both table role code r s is is_there left left_there stops stops_there false runs = by_left left left_there where
        by_left : IsLeftByLookUp role (Err code) m next.standing.machine → IsLeftByLookUp role (Err code) k later.standing.machine → Ends (want.Verifier table role) r s
        by_left (as_it_was same) (as_it_was same_there) = unmoved (want.Verifier table role) r s (is ∙ sym is_there) same same_there
        by_left (as_it_was same) (stopped_within io free after) = let contrary : true ≡ false = sym (stops.fails io) ∙ ap (λ (x : Machine). x.stopped) same ∙ runs in cc
        by_left (stopped_within io free after) (as_it_was same) = let contrary : true ≡ false = sym (stops_there.fails io) ∙ ap (λ (x : Machine). x.stopped) same ∙ sym st.stopped ∙ runs in cc
        by_left (stopped_within io free after) (stopped_within io_there free_there after_there) =
            stopped_both table role r s (is ∙ ap (λ (f : Found). reply.Verifier f) io) (is_there ∙ ap (λ (f : Found). reply.Verifier f) io) runs after after_there

      looked : (table role : TheName) (r s : Reply) → Replies Reads w c (want.Verifier table role) r next → Replies Reads v d (want.Verifier table role) s later → Ends (want.Verifier table role) r s
      looked table role r s (Err code, is, left, kept, stops) (Err other, is_there, left_there, kept_there, stops_there) = at (one_refusal_or_not (Refused code) (Refused other)) where
        at : AreOneRefusal (Refused code) (Refused other) ⊎ (AreOneRefusal (Refused code) (Refused other) → ⊥) → Ends (want.Verifier table role) r s
        at (inl (one, here, there)) =
            let same : other ≡ code = one_code other code (there ∙ sym here) in
            failed_both table role code r s is (is_there ∙ ap (λ (i : SqlState). reply.Verifier (Err i)) same) left
            (subst (λ (i : SqlState). IsLeftByLookUp role (Err i) k later.standing.machine) same left_there) stops (subst (λ (i : SqlState). StopsWithDevice v (Err i) later) same stops_there) m.stopped refl
        at (inr differ) =
            parts (by_look_up table role refl (inl (code, is)) (λ one. differ (code, refl, ap (λ (i : SqlState). Refused i) (code_found other code (sym is_there ∙ sym one ∙ is)))))
      looked table role r s (Err code, is, left, kept, stops) (Ok u, is_there, left_there, kept_there, stops_there) =
          parts (by_look_up table role refl (inl (code, is)) (λ one. let contrary : ◌≡◌ {A = Found} (Err code) (Ok u) = found_in (Err code) (Ok u) (sym is ∙ one ∙ is_there) in cc))
      looked table role r s (Ok t, is, left, kept, stops) (Err code, is_there, left_there, kept_there, stops_there) =
          parts (by_look_up table role refl (inr (inl (code, is_there))) (λ one. let contrary : ◌≡◌ {A = Found} (Ok t) (Err code) = found_in (Ok t) (Err code) (sym is ∙ one ∙ is_there) in cc))
      looked table role r s (Ok t, is, left, kept, stops) (Ok u, is_there, left_there, kept_there, stops_there) = at (same_or_not t u) where
        at : (t ≡ u) ⊎ (t ≡ u → ⊥) → Ends (want.Verifier table role) r s
        at (inl one) = unmoved (want.Verifier table role) r s (is ∙ ap (λ (x : Option (List ℕ)). reply.Verifier (Ok x)) one ∙ sym is_there) (found_leaves role t m next.standing.machine left) (found_leaves role u k later.standing.machine left_there)
        at (inr other) = parts (by_look_up table role refl (inr (inr (λ both. other (kept ∙ both ∙ sym kept_there)))) (λ one. other (text_in t u (found_in (Ok t) (Ok u) (sym is ∙ one ∙ is_there)))))

      -- ---- each

      pub own_reply : (x : Want) (r s : Reply) → OpensItsOwn a place m x → Replies Reads w c x r next → Replies Reads v d x s later → Ends x r s
      own_reply (want.Event (event.Statement n text)) r s its it it_there = carried (want.Event (event.Statement n text)) (event.Statement n text) it.0 it_there.0 r s refl it.1 it_there.1 tt it.2 it_there.2
      own_reply (want.Event (event.Close n)) r s its it it_there = carried (want.Event (event.Close n)) (event.Close n) it.0 it_there.0 r s refl it.1 it_there.1 tt it.2 it_there.2
      own_reply (want.Event (event.Open n login)) r s its it it_there = absurd it
      own_reply (want.Open n login entry) r s its it it_there = opened n login entry it.0 it_there.0 r s it.1 it_there.1 its it.2 it_there.2
      own_reply (want.Standing n) r s its it it_there = standing_same n r s it it_there
      own_reply (want.Description n text) r s its it it_there = told_of n text r s it it_there
      own_reply (want.Verifier table role) r s its it it_there = looked table role r s it it_there
      own_reply want.Message r s its it it_there = absurd it
      own_reply (want.End late) r s its it it_there = absurd it
      own_reply want.OutOfMemory r s its it it_there = absurd it
