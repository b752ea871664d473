-- What is said to the clients of a tenant.
use Rattle.std.proofs.Common.{◌≡◌, ◌∙◌, ◌≤◌, ℕ, Bool, true, false, cond, nat_eq, List, [], ◌∷◌, ◌++◌, length, Option, refl, sym, ap, subst, inl, inr, ne_eqb, eq-eqb, eqb-true}
use Rattle.std.proofs.lemmas.List.{append_assoc}
use Rattle.sql_types.specs.declared.event.Event.TheVariants as event
use Rattle.store.specs.Store.{StoreState}
use Rattle.abstract_database.specs.Runs.{ReadingRelation, At}
use Rattle.client_laws.specs.Renumbered.{IsOneToOne}
use Rattle.talks.specs.Conversations.{ClientState, awaited, there, gone, IsAwaited, Conversation, IsNew, Heard, Passes}
use Rattle.talks.specs.Wants.{Learnt, learnt}
use Rattle.talks.specs.declared.talk.MessageFront.TheVariants.{Whole, Bad}
use Rattle.talks.specs.declared.want.Want.{Want}
use Rattle.talks.specs.declared.want.Want.TheVariants as want
use Rattle.talks.specs.declared.want.Reply.{Reply}
use Rattle.talks.specs.declared.want.Reply.TheVariants as reply
use Rattle.talks.specs.declared.talk.Talk.{Ghosts as TalkGhosts}
use Rattle.talks.specs.declared.clients.ServedClients.{Ghosts as ClientsGhosts}
use Rattle.talks.specs.Turns.{Exchange, Turn, steps, asks, waits, leaves, ends, TakesTurns, IsAmong, IsTurnOf, NoneIs, IsCourse, learnt_of, learnt_of_all, own_learnt}
use Rattle.served_machine.specs.declared.machine.ServedMachine.{ServedMachine}
use Rattle.served_machine.specs.Machines.{machine_of}
use Rattle.served_tenants.specs.Exchanges.{exchanges_of}
use Rattle.served_tenants.specs.Saying.{AreFronts, SpeaksOnce, HasSaidAll}
use Rattle.served_tenants.specs.ServedTenants.{ClientsOfTenant, TellAlike, over_here, over_there, told_alike, told_apart, untold_here, untold_there, failed_here, failed_there}
use Rattle.served_tenants.specs.SaidTenants.{NeverParts, came_of, said_to, WasSaidAll, servers_say_the_same}
use Rattle.served_tenants.proofs.HeardAlike.{any_front, front_any, behind, shorter, said_so, all}

-- ---- what a client learns in a list of exchanges

pub all_joined : (c : ℕ) (ds es : List Exchange) → learnt_of_all c (ds ++ es) ≡ learnt_of_all c ds ++ learnt_of_all c es
all_joined c [] es = refl
all_joined c (d ∷ ds) es = ap (λ (l : List Learnt). learnt_of c d ++ l) (all_joined c ds es) ∙ sym (append_assoc (learnt_of c d) (learnt_of_all c ds) (learnt_of_all c es))

-- nothing of another's
pub none_of : (c : ℕ) (d : Exchange) → (d.client ≡ c → ⊥) → learnt_of c d ≡ []
none_of c d other = ap (λ (b : Bool). cond b (learnt d.want d.reply ∷ []) []) (ne_eqb d.client c other)

none_among : (c : ℕ) (ds : List Exchange) → (IsAmong c ds → ⊥) → learnt_of_all c ds ≡ []
none_among c [] other = refl
none_among c (d ∷ ds) other = ap (λ (l : List Learnt). l ++ learnt_of_all c ds) (none_of c d (λ is. other (inl is))) ∙ none_among c ds (λ is. other (inr is))

none_learnt : (c : ℕ) (us : List Turn) → NoneIs (IsTurnOf c) us → own_learnt c us ≡ []
none_learnt c [] none = refl
none_learnt c (steps d ds ∷ us) none = ap (λ (l : List Learnt). l ++ own_learnt c us) (none_among c (d ∷ ds) none.0) ∙ none_learnt c us none.1
none_learnt c (asks d ∷ us) none = ap (λ (l : List Learnt). l ++ own_learnt c us) (none_of c d none.0) ∙ none_learnt c us none.1
none_learnt c (waits client w ∷ us) none = none_learnt c us none.1
none_learnt c (leaves client ∷ us) none = none_learnt c us none.1
none_learnt c (ends client w ∷ us) none = none_learnt c us none.1

module _ {S X T C : Type 0} (Reads : ReadingRelation) (state : S → StoreState) (t : TalkGhosts T) (k : ClientsGhosts C T) where
  -- what a client learns of its turns is a front of its exchanges: behind it sessions are closed that it has left open
  pub learnt_so : (c : ℕ) (old : ServedMachine S X) (before : C) (us : List Turn) (new : ServedMachine S X) (after : C) (took : TakesTurns (machine_of Reads state) t k old before us new after) → IsCourse c us →
      (more : List Learnt) × (own_learnt c us ++ more ≡ learnt_of_all c (exchanges_of Reads state t k old before us new after took))
  learnt_so c old before [] new after took course = ([], refl)
  learnt_so c old before (steps d ds ∷ us) new after took course =
      let rest = learnt_so c took.1 took.2 us new after took.6 course.2 in (
        rest.0,
        append_assoc (learnt_of_all c (d ∷ ds)) (own_learnt c us) rest.0 ∙ ap (λ (l : List Learnt). learnt_of_all c (d ∷ ds) ++ l) rest.1
            ∙ sym (all_joined c (d ∷ ds) (exchanges_of Reads state t k took.1 took.2 us new after took.6)),
      )
  learnt_so c old before (asks d ∷ us) new after took course =
      let rest = learnt_so c took.1 took.2 us new after took.6 course.2 in
      (rest.0, append_assoc (learnt_of c d) (own_learnt c us) rest.0 ∙ ap (λ (l : List Learnt). learnt_of c d ++ l) rest.1)
  learnt_so c old before (waits client w ∷ us) new after took course = learnt_so c took.1 took.2 us new after took.6 course.2
  learnt_so c old before (ends client w ∷ us) new after took course = learnt_so c took.1 took.2 us new after took.6 course.2
  learnt_so c old before (leaves client ∷ us) new after took course = by (nat_eq client c) refl (learnt_so c took.1 took.2 us new after took.6 course.2) where
    later : List Learnt
    later = learnt_of_all c (exchanges_of Reads state t k took.1 took.2 us new after took.6)

    shut : Exchange
    shut = record { client = client; want = want.Event (event.Close took.4.1.closes.session); reply = reply.Answer took.4.1.closes.answer }

    full : List Learnt
    full = learnt_of_all c (exchanges_of Reads state t k old before (leaves client ∷ us) new after took)

    by : (b : Bool) → nat_eq client c ≡ b → (more : List Learnt) × (own_learnt c us ++ more ≡ later) → (more : List Learnt) × (own_learnt c us ++ more ≡ full)
    by true is rest = (full, ap (λ (l : List Learnt). l ++ full) (none_learnt c us (course.0 (eqb-true client c is))))
    by false is rest = (rest.0, rest.1 ∙ sym (ap (λ (l : List Learnt). l ++ later) (none_of c shut (λ it. let contrary : true ≡ false = sym (eq-eqb client c it) ∙ is in cc))))

-- ---- what both learn

module _ (Reads : ReadingRelation) (a : ClientsOfTenant) (place place_there : ℕ → ℕ) (apart : IsOneToOne place) (apart_there : IsOneToOne place_there) (c d : ℕ) (at_one : place c ≡ place_there d) (own : a.clients (place c) ≡ true) where
  -- one exchange that is told alike
  one_learnt : (x y : Exchange) → place x.client ≡ place_there y.client → x.want ≡ y.want → x.reply ≡ y.reply → learnt_of c x ≡ learnt_of d y
  one_learnt x y places wants replies = by (nat_eq x.client c) refl where
    same : learnt x.want x.reply ≡ learnt y.want y.reply
    same = ap (λ (w : Want). learnt w x.reply) wants ∙ ap (λ (r : Reply). learnt y.want r) replies

    by : (b : Bool) → nat_eq x.client c ≡ b → learnt_of c x ≡ learnt_of d y
    by true is =
        let client_there : y.client ≡ d = apart_there y.client d (sym places ∙ ap place (eqb-true x.client c is) ∙ at_one) in
        ap (λ (b : Bool). cond b (learnt x.want x.reply ∷ []) []) is ∙ ap (λ (l : Learnt). l ∷ []) same
        ∙ sym (ap (λ (b : Bool). cond b (learnt y.want y.reply ∷ []) []) (eq-eqb y.client d client_there))
    by false is =
        none_of c x (λ it. let contrary : true ≡ false = sym (eq-eqb x.client c it) ∙ is in cc)
        ∙ sym (none_of d y (λ it. let contrary : true ≡ false = sym (eq-eqb x.client c (apart x.client c (places ∙ ap place_there it ∙ sym at_one))) ∙ is in cc))

  foreign : (x : Exchange) → a.clients (place x.client) ≡ false → learnt_of c x ≡ []
  foreign x other = none_of c x (λ it. let contrary : true ≡ false = sym own ∙ ap (λ (i : ℕ). a.clients (place i)) (sym it) ∙ other in cc)

  foreign_there : (y : Exchange) → a.clients (place_there y.client) ≡ false → learnt_of d y ≡ []
  foreign_there y other = none_of d y (λ it. let contrary : true ≡ false = sym own ∙ ap a.clients at_one ∙ ap (λ (i : ℕ). a.clients (place_there i)) (sym it) ∙ other in cc)

  pub both_learnt : {w v : At} {xs ys : List Exchange} (alike : TellAlike Reads a place place_there w v xs ys) → NeverParts alike → AreFronts (learnt_of_all c xs) (learnt_of_all d ys)
  both_learnt {ys = ys} (over_here st) end = any_front (learnt_of_all d ys)
  both_learnt {xs = xs} (over_there st) end = front_any (learnt_of_all c xs)
  both_learnt (told_alike next later {x = x} {y = y} {xs = xs} {ys = ys} is asked same it it_there rest) end =
      behind (learnt_of c x) (learnt_of d y) (learnt_of_all c xs) (learnt_of_all d ys) (one_learnt x y asked.0 asked.1 same) (both_learnt rest end)
  both_learnt (told_apart next later is asked it it_there may) end = absurd end
  both_learnt {ys = ys} (untold_here next {x = x} {xs = xs} other it rest) end =
      subst (λ (l : List Learnt). AreFronts (l ++ learnt_of_all c xs) (learnt_of_all d ys)) (sym (foreign x other)) (both_learnt rest end)
  both_learnt {xs = xs} (untold_there later {y = y} {ys = ys} other it rest) end =
      subst (λ (l : List Learnt). AreFronts (learnt_of_all c xs) (l ++ learnt_of_all d ys)) (sym (foreign_there y other)) (both_learnt rest end)
  both_learnt (failed_here other io) end = absurd end
  both_learnt (failed_there other io) end = absurd end

-- ---- what both are said

module _ {T : Type 0} (t : TalkGhosts T) (Alike : T → T → Type 0) (speaks : SpeaksOnce t Alike)
    (front_more : (x : T) (bytes more : List ℕ) (n : ℕ) → t.front x bytes ≡ Whole n → (n ≤ length bytes) × (t.front x (bytes ++ more) ≡ Whole n))
    (bad_more : (x : T) (bytes more : List ℕ) → t.front x bytes ≡ Bad → t.front x (bytes ++ more) ≡ Bad)
    (made made_there : T → Type 0) (begin : (x y : T) → t.starts x → made x → t.starts y → made_there y → Alike x y) (xs ys : List Learnt) (fronts : AreFronts xs ys) where
  -- a conversation that has come, over all the bytes that came
  from_start : (x y : Conversation T) (zs : List Learnt) (came said : List ℕ) → x.held ≡ [] → Heard t x.talk (x.held ++ came) zs said y.held y.talk → Heard t x.talk came zs said y.held y.talk
  from_start x y zs came said none heard = subst (λ (l : List ℕ). Heard t x.talk (l ++ came) zs said y.held y.talk) none heard

  abbrev Says : (from to : ClientState T) (from_there to_there : ClientState T) → Passes t made from xs to → Passes t made_there from_there ys to_there → Type 0
  Says from to from_there to_there here beyond =
      (AreFronts (came_of t made from to xs here) (came_of t made_there from_there to_there ys beyond) → AreFronts (said_to t made from to xs here) (said_to t made_there from_there to_there ys beyond))
      × (came_of t made from to xs here ≡ came_of t made_there from_there to_there ys beyond → WasSaidAll t made from to xs here → WasSaidAll t made_there from_there to_there ys beyond →
      said_to t made from to xs here ≡ said_to t made_there from_there to_there ys beyond)

  module _ (bytes bytes_there : Option (List ℕ)) (x z y u : Conversation T) (new : IsNew t made bytes x) (new_there : IsNew t made_there bytes_there z) (came said came_there said_there : List ℕ)
      (heard : Heard t x.talk (x.held ++ came) xs said y.held y.talk) (heard_there : Heard t z.talk (z.held ++ came_there) ys said_there u.held u.talk) where
    alike : Alike x.talk z.talk
    alike = begin x.talk z.talk new.starts new.is_made new_there.starts new_there.is_made

    fronts_said : AreFronts came came_there → AreFronts said said_there
    fronts_said of = said_so T t Alike front_more bad_more speaks x.talk z.talk y.talk u.talk came came_there said said_there y.held u.held xs ys alike
        (from_start x y xs came said new.held heard) (from_start z u ys came_there said_there new_there.held heard_there) of fronts

    all_said : came ≡ came_there → HasSaidAll t y.talk y.held → HasSaidAll t u.talk u.held → said ≡ said_there
    all_said same done done_there = all t Alike speaks
        (subst (λ (l : List ℕ). Heard t x.talk l xs said y.held y.talk) same (from_start x y xs came said new.held heard)) (from_start z u ys came_there said_there new_there.held heard_there) alike done done_there fronts

  pub says : (from to from_there to_there : ClientState T) → IsAwaited from → IsAwaited from_there → (here : Passes t made from xs to) (beyond : Passes t made_there from_there ys to_there) → Says from to from_there to_there here beyond
  says (awaited b) (awaited l) (awaited e) to_there is is_there here it = (λ of. any_front (said_to t made_there (awaited e) to_there ys it), λ same done done_there. absurd done)
  says (awaited b) (there y) (awaited e) (awaited m) is is_there here it = (λ of. front_any (said_to t made (awaited b) (there y) xs here), λ same done done_there. absurd done_there)
  says (awaited b) (gone s) (awaited e) (awaited m) is is_there here it = (λ of. front_any (said_to t made (awaited b) (gone s) xs here), λ same done done_there. absurd done_there)
  says (awaited b) (there y) (awaited e) (there u) is is_there (x, new, (came, said, consumes, heard, appends, limited, once)) (z, new_there, (came_there, said_there, consumes_there, heard_there, appends_there, limited_there, once_there)) =
      (fronts_said b e x z y u new new_there came said came_there said_there heard heard_there, all_said b e x z y u new new_there came said came_there said_there heard heard_there)
  says (awaited b) (there y) (awaited e) (gone p) is is_there (x, new, (came, said, consumes, heard, appends, limited, once)) (z, new_there, (u, (came_there, said_there, consumes_there, heard_there, appends_there, limited_there, once_there), ended, sent)) =
      (fronts_said b e x z y u new new_there came said came_there said_there heard heard_there, all_said b e x z y u new new_there came said came_there said_there heard heard_there)
  says (awaited b) (gone s) (awaited e) (there u) is is_there (x, new, (y, (came, said, consumes, heard, appends, limited, once), ended, sent)) (z, new_there, (came_there, said_there, consumes_there, heard_there, appends_there, limited_there, once_there)) =
      (fronts_said b e x z y u new new_there came said came_there said_there heard heard_there, all_said b e x z y u new new_there came said came_there said_there heard heard_there)
  says (awaited b) (gone s) (awaited e) (gone p) is is_there (x, new, (y, (came, said, consumes, heard, appends, limited, once), ended, sent)) (z, new_there, (u, (came_there, said_there, consumes_there, heard_there, appends_there, limited_there, once_there), ended_there, sent_there)) =
      (fronts_said b e x z y u new new_there came said came_there said_there heard heard_there, all_said b e x z y u new new_there came said came_there said_there heard heard_there)
  says (there x) to from_there to_there is is_there here it = absurd is
  says (gone s) to from_there to_there is is_there here it = absurd is
  says (awaited b) to (there z) to_there is is_there here it = absurd is_there
  says (awaited b) to (gone s) to_there is is_there here it = absurd is_there

module _ (S Z X Y T C D : Type 0) (Reads : ReadingRelation) (state : S → StoreState) (state_there : Z → StoreState) (t : TalkGhosts T) (k : ClientsGhosts C T) (j : ClientsGhosts D T) (Alike : T → T → Type 0)
    (front_more : (x : T) (bytes more : List ℕ) (n : ℕ) → t.front x bytes ≡ Whole n → (n ≤ length bytes) × (t.front x (bytes ++ more) ≡ Whole n))
    (bad_more : (x : T) (bytes more : List ℕ) → t.front x bytes ≡ Bad → t.front x (bytes ++ more) ≡ Bad) where
  pub said_by_servers : servers_say_the_same S Z X Y T C D Reads state state_there t k j Alike
  said_by_servers speaks a place place_there apart apart_there w v old before us new after took old_there before_there us_there new_there after_there took_there alike end c d at_one own course course_there begin from to from_there to_there is is_there here it =
      let mine = learnt_so Reads state t k c old before us new after took course in
      let theirs = learnt_so Reads state_there t j d old_there before_there us_there new_there after_there took_there course_there in
      says t Alike speaks front_more bad_more (k.makes (k.maker before)) (j.makes (j.maker before_there)) begin (own_learnt c us) (own_learnt d us_there)
      (shorter (own_learnt c us) (own_learnt d us_there) _ _ mine.0 theirs.0 mine.1 theirs.1 (both_learnt Reads a place place_there apart apart_there c d at_one own alike end))
      from to from_there to_there is is_there here it
