-- From the same bytes, in one order, the same is asked.
use Rattle.std.proofs.Common.{◌≡◌, ◌∙◌, ◌≤◌, ℕ, Bool, true, false, cond, nat_eq, List, [], ◌∷◌, ◌++◌, map, filter, length, Option, Some, None, refl, sym, ap, subst, eq-eqb, eqb-true}
use Rattle.std.proofs.lemmas.List.{append_assoc}
use Rattle.sql_types.specs.declared.answer.Answer.{Answer}
use Rattle.sql_types.specs.declared.event.Event.TheVariants as event
use Rattle.store.specs.Store.{StoreState}
use Rattle.abstract_database.specs.Runs.{ReadingRelation}
use Rattle.client_laws.specs.Renumbered.{IsOneToOne}
use Rattle.talks.specs.Conversations.{ClientState, awaited, there, gone, IsAwaited, Conversation, IsNew, Heard, Passes}
use Rattle.talks.specs.Wants.{Learnt, learnt}
use Rattle.talks.specs.declared.talk.MessageFront.TheVariants.{Whole, Bad}
use Rattle.talks.specs.declared.want.Want.TheVariants as want
use Rattle.talks.specs.declared.want.Reply.TheVariants as reply
use Rattle.talks.specs.declared.talk.Talk.{Ghosts as TalkGhosts}
use Rattle.talks.specs.declared.clients.ServedClients.{Ghosts as ClientsGhosts}
use Rattle.talks.specs.Turns.{Exchange, Turn, steps, asks, waits, leaves, ends, TakesTurns, learnt_of, learnt_of_all, own_learnt}
use Rattle.served_machine.specs.declared.machine.ServedMachine.{ServedMachine}
use Rattle.served_machine.specs.Machines.{machine_of}
use Rattle.served_tenants.specs.Exchanges.{exchanges_of}
use Rattle.served_tenants.specs.Saying.{AreFronts, AreWantedAlike, SpeaksOnce}
use Rattle.served_tenants.specs.SaidTenants.{came_of}
use Rattle.served_tenants.specs.ServedTenants.{ClientsOfTenant, own_exchanges, AskAlike}
use Rattle.served_tenants.specs.AskedAlike.{Service, services_of, own_services, clients_ask_alike}
use Rattle.served_tenants.proofs.HeardAlike.{within, wanted_so}
use Rattle.served_tenants.proofs.SaidAlike.{none_of}

-- ---- what is done for clients, one thing after the other

data Item : Type 0 where
  tells : Exchange → Item
  shuts : ℕ → ℕ → Answer → Item

abbrev whose : Item → ℕ
whose (tells d) = d.client
whose (shuts c n a) = c

abbrev exchange_of : Item → Exchange
exchange_of (tells d) = d
exchange_of (shuts c n a) = record { client = c; want = want.Event (event.Close n); reply = reply.Answer a }

abbrev service_of : Item → Service
service_of (tells d) = (d.client, None)
service_of (shuts c n a) = (c, Some n)

abbrev learnt_by : ℕ → List Item → List Learnt
learnt_by c [] = []
learnt_by c (tells d ∷ xs) = learnt_of c d ++ learnt_by c xs
learnt_by c (shuts d n a ∷ xs) = learnt_by c xs

abbrev told_all : List Exchange → List Item
told_all [] = []
told_all (d ∷ ds) = tells d ∷ told_all ds

-- told items, and then these
told_exchanges : (ds : List Exchange) (es : List Exchange) (items : List Item) → es ≡ map exchange_of items → ds ++ es ≡ map exchange_of (told_all ds ++ items)
told_exchanges [] es items is = is
told_exchanges (d ∷ ds) es items is = ap (λ (l : List Exchange). d ∷ l) (told_exchanges ds es items is)

told_services : (ds : List Exchange) (es : List Service) (items : List Item) → es ≡ map service_of items → map (λ (e : Exchange). service_of (tells e)) ds ++ es ≡ map service_of (told_all ds ++ items)
told_services [] es items is = is
told_services (d ∷ ds) es items is = ap (λ (l : List Service). service_of (tells d) ∷ l) (told_services ds es items is)

told_learnt : (c : ℕ) (ds : List Exchange) (xs : List Learnt) (items : List Item) → xs ≡ learnt_by c items → learnt_of_all c ds ++ xs ≡ learnt_by c (told_all ds ++ items)
told_learnt c [] xs items is = is
told_learnt c (d ∷ ds) xs items is = append_assoc (learnt_of c d) (learnt_of_all c ds) xs ∙ ap (λ (l : List Learnt). learnt_of c d ++ l) (told_learnt c ds xs items is)

module _ {S X T C : Type 0} (Reads : ReadingRelation) (state : S → StoreState) (t : TalkGhosts T) (k : ClientsGhosts C T) where
  -- the turns come to this list
  record ComesTo (old : ServedMachine S X) (before : C) (us : List Turn) (new : ServedMachine S X) (after : C) (took : TakesTurns (machine_of Reads state) t k old before us new after) : Type 0 where
    items : List Item
    exchanges : exchanges_of Reads state t k old before us new after took ≡ map exchange_of items
    services : services_of Reads state t k old before us new after took ≡ map service_of items
    learns : (c : ℕ) → own_learnt c us ≡ learnt_by c items

  comes_to : (old : ServedMachine S X) (before : C) (us : List Turn) (new : ServedMachine S X) (after : C) (took : TakesTurns (machine_of Reads state) t k old before us new after) → ComesTo old before us new after took
  comes_to old before [] new after took = record { items = []; exchanges = refl; services = refl; learns = λ c. refl }
  comes_to old before (steps d ds ∷ us) new after took =
      let rest = comes_to took.1 took.2 us new after took.6 in record {
        items = told_all (d ∷ ds) ++ rest.items;
        exchanges = told_exchanges (d ∷ ds) (exchanges_of Reads state t k took.1 took.2 us new after took.6) rest.items rest.exchanges;
        services = told_services (d ∷ ds) (services_of Reads state t k took.1 took.2 us new after took.6) rest.items rest.services;
        learns = λ c. told_learnt c (d ∷ ds) (own_learnt c us) rest.items (rest.learns c);
      }
  comes_to old before (asks d ∷ us) new after took =
      let rest = comes_to took.1 took.2 us new after took.6 in record {
        items = tells d ∷ rest.items;
        exchanges = ap (λ (l : List Exchange). d ∷ l) rest.exchanges;
        services = ap (λ (l : List Service). (d.client, None) ∷ l) rest.services;
        learns = λ c. ap (λ (l : List Learnt). learnt_of c d ++ l) (rest.learns c);
      }
  comes_to old before (leaves c ∷ us) new after took =
      let rest = comes_to took.1 took.2 us new after took.6 in record {
        items = shuts c took.4.1.closes.session took.4.1.closes.answer ∷ rest.items;
        exchanges = ap (λ (l : List Exchange). exchange_of (shuts c took.4.1.closes.session took.4.1.closes.answer) ∷ l) rest.exchanges;
        services = ap (λ (l : List Service). (c, Some took.4.1.closes.session) ∷ l) rest.services;
        learns = λ d. rest.learns d;
      }
  comes_to old before (waits c w ∷ us) new after took =
      let rest = comes_to took.1 took.2 us new after took.6 in record { items = rest.items; exchanges = rest.exchanges; services = rest.services; learns = λ d. rest.learns d }
  comes_to old before (ends c w ∷ us) new after took =
      let rest = comes_to took.1 took.2 us new after took.6 in record { items = rest.items; exchanges = rest.exchanges; services = rest.services; learns = λ d. rest.learns d }

-- ---- those of the tenant

module _ (a : ClientsOfTenant) (place : ℕ → ℕ) where
  abbrev own_item : Item → Bool
  own_item x = a.clients (place (whose x))

  abbrev own_items : List Item → List Item
  own_items xs = filter own_item xs

  abbrev placed_service : Item → Service
  placed_service x = (place (service_of x).0, (service_of x).1)

  chosen : {A B : Type 0} (f : A → B) (b : Bool) (xs ys : List A) → map f (cond b xs ys) ≡ cond b (map f xs) (map f ys)
  chosen f true xs ys = refl
  chosen f false xs ys = refl

  exchanges_own : (xs : List Item) → own_exchanges a place (map exchange_of xs) ≡ map exchange_of (own_items xs)
  exchanges_own [] = refl
  exchanges_own (tells d ∷ xs) =
      ap (λ (l : List Exchange). cond (a.clients (place d.client)) (d ∷ l) l) (exchanges_own xs) ∙ sym (chosen exchange_of (a.clients (place d.client)) (tells d ∷ own_items xs) (own_items xs))
  exchanges_own (shuts c n x ∷ xs) =
      ap (λ (l : List Exchange). cond (a.clients (place c)) (exchange_of (shuts c n x) ∷ l) l) (exchanges_own xs) ∙ sym (chosen exchange_of (a.clients (place c)) (shuts c n x ∷ own_items xs) (own_items xs))

  services_own : (xs : List Item) → own_services a place (map service_of xs) ≡ map placed_service (own_items xs)
  services_own [] = refl
  services_own (tells d ∷ xs) = by (a.clients (place d.client)) (services_own xs) where
    rest : List Service
    rest = filter (λ (s : Service). a.clients (place s.0)) (map service_of xs)

    by : (b : Bool) → map (λ (s : Service). (place s.0, s.1)) rest ≡ map placed_service (own_items xs) →
        map (λ (s : Service). (place s.0, s.1)) (cond b ((d.client, None) ∷ rest) rest) ≡ map placed_service (cond b (tells d ∷ own_items xs) (own_items xs))
    by true is = ap (λ (l : List Service). (place d.client, None) ∷ l) is
    by false is = is
  services_own (shuts c n x ∷ xs) = by (a.clients (place c)) (services_own xs) where
    rest : List Service
    rest = filter (λ (s : Service). a.clients (place s.0)) (map service_of xs)

    by : (b : Bool) → map (λ (s : Service). (place s.0, s.1)) rest ≡ map placed_service (own_items xs) →
        map (λ (s : Service). (place s.0, s.1)) (cond b ((c, Some n) ∷ rest) rest) ≡ map placed_service (cond b (shuts c n x ∷ own_items xs) (own_items xs))
    by true is = ap (λ (l : List Service). (place c, Some n) ∷ l) is
    by false is = is

  -- an own client learns of these alone
  learnt_own : (c : ℕ) → a.clients (place c) ≡ true → (xs : List Item) → learnt_by c (own_items xs) ≡ learnt_by c xs
  learnt_own c own [] = refl
  learnt_own c own (tells d ∷ xs) = by (a.clients (place d.client)) refl (learnt_own c own xs) where
    by : (b : Bool) → a.clients (place d.client) ≡ b → learnt_by c (own_items xs) ≡ learnt_by c xs → learnt_by c (cond b (tells d ∷ own_items xs) (own_items xs)) ≡ learnt_of c d ++ learnt_by c xs
    by true is rest = ap (λ (l : List Learnt). learnt_of c d ++ l) rest
    by false is rest = rest ∙ sym (ap (λ (l : List Learnt). l ++ learnt_by c xs) (none_of c d (λ it. let contrary : true ≡ false = sym own ∙ ap (λ (i : ℕ). a.clients (place i)) (sym it) ∙ is in cc)))
  learnt_own c own (shuts d n x ∷ xs) = by (a.clients (place d)) (learnt_own c own xs) where
    by : (b : Bool) → learnt_by c (own_items xs) ≡ learnt_by c xs → learnt_by c (cond b (shuts d n x ∷ own_items xs) (own_items xs)) ≡ learnt_by c xs
    by true rest = rest
    by false rest = rest

-- ---- one order

module _ (a : ClientsOfTenant) (place place_there : ℕ → ℕ) (apart : IsOneToOne place) (apart_there : IsOneToOne place_there) where
  abbrev WantAlike : List Item → List Item → Type 0
  WantAlike xs ys = (c d : ℕ) → place c ≡ place_there d → a.clients (place c) ≡ true → AreWantedAlike (learnt_by c xs) (learnt_by d ys)

  abbrev AllOwn : List Item → Type 0
  AllOwn [] = Unit {0}
  AllOwn (x ∷ xs) = (a.clients (place (whose x)) ≡ true) × AllOwn xs

  first_place : (p q : ℕ) (o i : Option ℕ) → ◌≡◌ {A = Service} (p, o) (q, i) → p ≡ q
  first_place p q o i is = ap (λ (s : Service). s.0) is

  closes_same : (p q n m : ℕ) → ◌≡◌ {A = Service} (p, Some n) (q, Some m) → n ≡ m
  closes_same p q n m is = let both : ◌≡◌ {A = Option ℕ} (Some n) (Some m) = ap (λ (s : Service). s.1) is in cc

  other_kind : (p q n : ℕ) → ◌≡◌ {A = Service} (p, None) (q, Some n) → ⊥
  other_kind p q n is = let both : ◌≡◌ {A = Option ℕ} None (Some n) = ap (λ (s : Service). s.1) is in cc

  -- what was learnt in a first exchange of this client
  its_own : (c : ℕ) (d : Exchange) → d.client ≡ c → (xs : List Learnt) → learnt_of c d ++ xs ≡ learnt d.want d.reply ∷ xs
  its_own c d is xs = ap (λ (b : Bool). cond b (learnt d.want d.reply ∷ []) [] ++ xs) (eq-eqb d.client c is)

  in_one_order : (xs ys : List Item) → AllOwn xs → AreFronts (map (placed_service a place) xs) (map (placed_service a place_there) ys) → WantAlike xs ys → AskAlike place place_there (map exchange_of xs) (map exchange_of ys)
  in_one_order [] ys own fronts wants = tt
  in_one_order (x ∷ xs) [] own fronts wants = tt
  in_one_order (tells d ∷ xs) (tells e ∷ ys) own fronts wants = (
    (places, asked.0),
    λ same. in_one_order xs ys own.1 both.1 (later same),
  ) where
    both : ◌≡◌ {A = Service} (place d.client, None) (place_there e.client, None) × AreFronts (map (placed_service a place) xs) (map (placed_service a place_there) ys)
    both = within (place d.client, None) (place_there e.client, None) (map (placed_service a place) xs) (map (placed_service a place_there) ys) fronts

    places : place d.client ≡ place_there e.client
    places = first_place (place d.client) (place_there e.client) None None both.0

    asked : AreWantedAlike (learnt d.want d.reply ∷ learnt_by d.client xs) (learnt e.want e.reply ∷ learnt_by e.client ys)
    asked =
        subst (λ (l : List Learnt). AreWantedAlike l (learnt e.want e.reply ∷ learnt_by e.client ys)) (its_own d.client d refl (learnt_by d.client xs))
        (subst (λ (l : List Learnt). AreWantedAlike (learnt_by d.client (tells d ∷ xs)) l) (its_own e.client e refl (learnt_by e.client ys)) (wants d.client e.client places own.0))

    later : d.reply ≡ e.reply → WantAlike xs ys
    later same c i at_one mine = by (nat_eq d.client c) refl where
      by : (b : Bool) → nat_eq d.client c ≡ b → AreWantedAlike (learnt_by c xs) (learnt_by i ys)
      by true is =
          let its : d.client ≡ c = eqb-true d.client c is in
          let its_there : e.client ≡ i = apart_there e.client i (sym places ∙ ap place its ∙ at_one) in
          subst (λ (j : ℕ). AreWantedAlike (learnt_by j xs) (learnt_by i ys)) its (subst (λ (j : ℕ). AreWantedAlike (learnt_by d.client xs) (learnt_by j ys)) its_there (asked.1 same))
      by false is =
          let other : d.client ≡ c → ⊥ = λ it. let contrary : true ≡ false = sym (eq-eqb d.client c it) ∙ is in cc in
          subst (λ (l : List Learnt). AreWantedAlike (l ++ learnt_by c xs) (learnt_by i ys)) (none_of c d other)
          (subst (λ (l : List Learnt). AreWantedAlike (learnt_by c (tells d ∷ xs)) (l ++ learnt_by i ys)) (none_of i e (λ it. other (apart d.client c (places ∙ ap place_there it ∙ sym at_one)))) (wants c i at_one mine))
  in_one_order (tells d ∷ xs) (shuts c n x ∷ ys) own fronts wants =
      absurd (other_kind (place d.client) (place_there c) n (within (place d.client, None) (place_there c, Some n) (map (placed_service a place) xs) (map (placed_service a place_there) ys) fronts).0)
  in_one_order (shuts c n x ∷ xs) (tells e ∷ ys) own fronts wants =
      absurd (other_kind (place_there e.client) (place c) n (sym (within (place c, Some n) (place_there e.client, None) (map (placed_service a place) xs) (map (placed_service a place_there) ys) fronts).0))
  in_one_order (shuts c n x ∷ xs) (shuts d m y ∷ ys) own fronts wants =
      let both = within (place c, Some n) (place_there d, Some m) (map (placed_service a place) xs) (map (placed_service a place_there) ys) fronts in (
        (first_place (place c) (place_there d) (Some n) (Some m) both.0, ap (λ (i : ℕ). want.Event (event.Close i)) (closes_same (place c) (place_there d) n m both.0)),
        λ same. in_one_order xs ys own.1 both.1 wants,
      )

  all_own : (xs : List Item) → AllOwn (own_items a place xs)
  all_own [] = tt
  all_own (x ∷ xs) = by (a.clients (place (whose x))) refl (all_own xs) where
    by : (b : Bool) → a.clients (place (whose x)) ≡ b → AllOwn (own_items a place xs) → AllOwn (cond b (x ∷ own_items a place xs) (own_items a place xs))
    by true is rest = (is, rest)
    by false is rest = rest

-- ---- one client

module _ {T : Type 0} (t : TalkGhosts T) (Alike : T → T → Type 0) (speaks : SpeaksOnce t Alike)
    (front_more : (x : T) (bytes more : List ℕ) (n : ℕ) → t.front x bytes ≡ Whole n → (n ≤ length bytes) × (t.front x (bytes ++ more) ≡ Whole n))
    (bad_more : (x : T) (bytes more : List ℕ) → t.front x bytes ≡ Bad → t.front x (bytes ++ more) ≡ Bad)
    (made made_there : T → Type 0) (begin : (x y : T) → t.starts x → made x → t.starts y → made_there y → Alike x y) (xs ys : List Learnt) where
  nothing_there : (zs : List Learnt) → AreWantedAlike zs []
  nothing_there [] = tt
  nothing_there (z ∷ zs) = tt

  heard_both : (bytes bytes_there : Option (List ℕ)) (x z y u : Conversation T) (came said came_there said_there : List ℕ) → IsNew t made bytes x → IsNew t made_there bytes_there z →
      Heard t x.talk (x.held ++ came) xs said y.held y.talk → Heard t z.talk (z.held ++ came_there) ys said_there u.held u.talk → AreFronts came came_there → AreWantedAlike xs ys
  heard_both bytes bytes_there x z y u came said came_there said_there new new_there heard heard_there fronts =
      wanted_so T t Alike front_more bad_more speaks x.talk z.talk y.talk u.talk came came_there said said_there y.held u.held xs ys (begin x.talk z.talk new.starts new.is_made new_there.starts new_there.is_made)
      (subst (λ (l : List ℕ). Heard t x.talk (l ++ came) xs said y.held y.talk) new.held heard) (subst (λ (l : List ℕ). Heard t z.talk (l ++ came_there) ys said_there u.held u.talk) new_there.held heard_there) fronts

  one_client : (from to from_there to_there : ClientState T) → IsAwaited from → IsAwaited from_there → (here : Passes t made from xs to) (beyond : Passes t made_there from_there ys to_there) →
      AreFronts (came_of t made from to xs here) (came_of t made_there from_there to_there ys beyond) → AreWantedAlike xs ys
  one_client (awaited b) (awaited l) from_there to_there is is_there here it of = subst (λ (zs : List Learnt). AreWantedAlike zs ys) (sym here.0) tt
  one_client (awaited b) (there y) (awaited e) (awaited m) is is_there here it of = subst (λ (zs : List Learnt). AreWantedAlike xs zs) (sym it.0) (nothing_there xs)
  one_client (awaited b) (gone s) (awaited e) (awaited m) is is_there here it of = subst (λ (zs : List Learnt). AreWantedAlike xs zs) (sym it.0) (nothing_there xs)
  one_client (awaited b) (there y) (awaited e) (there u) is is_there (x, new, (came, said, consumes, heard, appends, limited, once)) (z, new_there, (came_there, said_there, consumes_there, heard_there, appends_there, limited_there, once_there)) of =
      heard_both b e x z y u came said came_there said_there new new_there heard heard_there of
  one_client (awaited b) (there y) (awaited e) (gone p) is is_there (x, new, (came, said, consumes, heard, appends, limited, once)) (z, new_there, (u, (came_there, said_there, consumes_there, heard_there, appends_there, limited_there, once_there), ended, sent)) of =
      heard_both b e x z y u came said came_there said_there new new_there heard heard_there of
  one_client (awaited b) (gone s) (awaited e) (there u) is is_there (x, new, (y, (came, said, consumes, heard, appends, limited, once), ended, sent)) (z, new_there, (came_there, said_there, consumes_there, heard_there, appends_there, limited_there, once_there)) of =
      heard_both b e x z y u came said came_there said_there new new_there heard heard_there of
  one_client (awaited b) (gone s) (awaited e) (gone p) is is_there (x, new, (y, (came, said, consumes, heard, appends, limited, once), ended, sent)) (z, new_there, (u, (came_there, said_there, consumes_there, heard_there, appends_there, limited_there, once_there), ended_there, sent_there)) of =
      heard_both b e x z y u came said came_there said_there new new_there heard heard_there of
  one_client (there x) to from_there to_there is is_there here it of = absurd is
  one_client (gone s) to from_there to_there is is_there here it of = absurd is
  one_client (awaited b) (there y) (there z) to_there is is_there here it of = absurd is_there
  one_client (awaited b) (there y) (gone s) to_there is is_there here it of = absurd is_there
  one_client (awaited b) (gone p) (there z) to_there is is_there here it of = absurd is_there
  one_client (awaited b) (gone p) (gone s) to_there is is_there here it of = absurd is_there

-- ---- all of them

-- where each of them wants the same
pub asked_so : (S Z X Y T C D : Type 0) (Reads : ReadingRelation) (state : S → StoreState) (state_there : Z → StoreState) (t : TalkGhosts T) (k : ClientsGhosts C T) (j : ClientsGhosts D T)
    (a : ClientsOfTenant) (place place_there : ℕ → ℕ) → IsOneToOne place → IsOneToOne place_there →
    (old : ServedMachine S X) (before : C) (us : List Turn) (new : ServedMachine S X) (after : C) (took : TakesTurns (machine_of Reads state) t k old before us new after) →
    (old_there : ServedMachine Z Y) (before_there : D) (us_there : List Turn) (new_there : ServedMachine Z Y) (after_there : D) (took_there : TakesTurns (machine_of Reads state_there) t j old_there before_there us_there new_there after_there) →
    ((c d : ℕ) → place c ≡ place_there d → a.clients (place c) ≡ true → AreWantedAlike (own_learnt c us) (own_learnt d us_there)) →
    AreFronts (own_services a place (services_of Reads state t k old before us new after took)) (own_services a place_there (services_of Reads state_there t j old_there before_there us_there new_there after_there took_there)) →
    AskAlike place place_there (own_exchanges a place (exchanges_of Reads state t k old before us new after took)) (own_exchanges a place_there (exchanges_of Reads state_there t j old_there before_there us_there new_there after_there took_there))
asked_so S Z X Y T C D Reads state state_there t k j a place place_there apart apart_there old before us new after took old_there before_there us_there new_there after_there took_there same fronts =
    subst (λ (l : List Exchange). AskAlike place place_there l (own_exchanges a place_there theirs_all)) (sym (ap (own_exchanges a place) mine.exchanges ∙ exchanges_own a place mine.items))
    (subst (λ (l : List Exchange). AskAlike place place_there (map exchange_of (own_items a place mine.items)) l) (sym (ap (own_exchanges a place_there) theirs.exchanges ∙ exchanges_own a place_there theirs.items))
    (in_one_order a place place_there apart apart_there (own_items a place mine.items) (own_items a place_there theirs.items) (all_own a place place_there apart apart_there mine.items) in_order wants))
  where
    theirs_all : List Exchange
    theirs_all = exchanges_of Reads state_there t j old_there before_there us_there new_there after_there took_there

    mine : ComesTo Reads state t k old before us new after took
    mine = comes_to Reads state t k old before us new after took

    theirs : ComesTo Reads state_there t j old_there before_there us_there new_there after_there took_there
    theirs = comes_to Reads state_there t j old_there before_there us_there new_there after_there took_there

    in_order : AreFronts (map (placed_service a place) (own_items a place mine.items)) (map (placed_service a place_there) (own_items a place_there theirs.items))
    in_order =
        subst (λ (l : List Service). AreFronts l (map (placed_service a place_there) (own_items a place_there theirs.items))) (ap (own_services a place) mine.services ∙ services_own a place mine.items)
        (subst (λ (l : List Service). AreFronts (own_services a place (services_of Reads state t k old before us new after took)) l) (ap (own_services a place_there) theirs.services ∙ services_own a place_there theirs.items) fronts)

    wants : WantAlike a place place_there apart apart_there (own_items a place mine.items) (own_items a place_there theirs.items)
    wants c d at_one own =
        subst (λ (l : List Learnt). AreWantedAlike l (learnt_by d (own_items a place_there theirs.items))) (mine.learns c ∙ sym (learnt_own a place c own mine.items))
        (subst (λ (l : List Learnt). AreWantedAlike (own_learnt c us) l) (theirs.learns d ∙ sym (learnt_own a place_there d (ap a.clients (sym at_one) ∙ own) theirs.items)) (same c d at_one own))

module _ (S Z X Y T C D : Type 0) (Reads : ReadingRelation) (state : S → StoreState) (state_there : Z → StoreState) (t : TalkGhosts T) (k : ClientsGhosts C T) (j : ClientsGhosts D T) (Alike : T → T → Type 0)
    (front_more : (x : T) (bytes more : List ℕ) (n : ℕ) → t.front x bytes ≡ Whole n → (n ≤ length bytes) × (t.front x (bytes ++ more) ≡ Whole n))
    (bad_more : (x : T) (bytes more : List ℕ) → t.front x bytes ≡ Bad → t.front x (bytes ++ more) ≡ Bad) where
  pub asked_alike : clients_ask_alike S Z X Y T C D Reads state state_there t k j Alike
  asked_alike speaks a place place_there apart apart_there old before us new after took old_there before_there us_there new_there after_there took_there begin come fronts =
      asked_so S Z X Y T C D Reads state state_there t k j a place place_there apart apart_there old before us new after took old_there before_there us_there new_there after_there took_there
      (λ c d at_one own.
      let it = come c d at_one own in
      one_client t Alike speaks front_more bad_more (k.makes (k.maker before)) (j.makes (j.maker before_there)) begin (own_learnt c us) (own_learnt d us_there) _ _ _ _ it.awaited it.awaited_there it.passes it.passes_there it.bytes)
      fronts
