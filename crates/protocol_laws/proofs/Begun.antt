-- What is said to clients whose conversations began so, and what they ask.
use Rattle.std.proofs.Common.{◌≡◌, ◌≤◌, ℕ, List, [], ◌∷◌, ◌++◌, length, Option, sym, subst}
use Rattle.store.specs.Store.{StoreState}
use Rattle.abstract_database.specs.Runs.{ReadingRelation}
use Rattle.talks.specs.Conversations.{ClientState, awaited, there, gone, IsAwaited, Conversation, IsNew, Heard, Passes}
use Rattle.talks.specs.Wants.{Learnt}
use Rattle.talks.specs.declared.talk.MessageFront.TheVariants.{Whole, Bad}
use Rattle.talks.specs.declared.talk.Talk.{Ghosts as TalkGhosts}
use Rattle.talks.specs.declared.clients.ServedClients.{Ghosts as ClientsGhosts}
use Rattle.talks.specs.Turns.{own_learnt}
use Rattle.served_tenants.specs.Saying.{AreFronts, AreWantedAlike, SpeaksOnce, HasSaidAll}
use Rattle.served_tenants.specs.SaidTenants.{WasSaidAll, came_of, said_to}
use Rattle.served_tenants.proofs.HeardAlike.{all, any_front, front_any, said_so, shorter, wanted_so}
use Rattle.served_tenants.proofs.AskingAlike.{asked_so}
use Rattle.served_tenants.proofs.SaidAlike.{both_learnt, learnt_so}
use Rattle.protocol_laws.specs.Begun.{BeganSo, ServeAlikeAsBegun, came_with}

module _ {T : Type 0} (t : TalkGhosts T) (Begin Alike : T → T → Type 0) (speaks : SpeaksOnce t Alike)
    (front_more : (x : T) (bytes more : List ℕ) (n : ℕ) → t.front x bytes ≡ Whole n → (n ≤ length bytes) × (t.front x (bytes ++ more) ≡ Whole n))
    (bad_more : (x : T) (bytes more : List ℕ) → t.front x bytes ≡ Bad → t.front x (bytes ++ more) ≡ Bad)
    (begins : (x y : T) → t.starts x → t.starts y → Begin x y → Alike x y)
    (made made_there : T → Type 0) (xs ys : List Learnt) where
  abbrev Says : (from to from_there to_there : ClientState T) → Passes t made from xs to → Passes t made_there from_there ys to_there → Type 0
  Says from to from_there to_there here beyond = BeganSo Begin (came_with t made from to xs here) (came_with t made_there from_there to_there ys beyond) →
      (AreFronts (came_of t made from to xs here) (came_of t made_there from_there to_there ys beyond) → AreFronts (said_to t made from to xs here) (said_to t made_there from_there to_there ys beyond))
      × (came_of t made from to xs here ≡ came_of t made_there from_there to_there ys beyond → WasSaidAll t made from to xs here → WasSaidAll t made_there from_there to_there ys beyond →
      said_to t made from to xs here ≡ said_to t made_there from_there to_there ys beyond)

  -- a conversation that has come, over all the bytes that came
  from_start : (x y : Conversation T) (zs : List Learnt) (came said : List ℕ) → x.held ≡ [] → Heard t x.talk (x.held ++ came) zs said y.held y.talk → Heard t x.talk came zs said y.held y.talk
  from_start x y zs came said none heard = subst (λ (l : List ℕ). Heard t x.talk (l ++ came) zs said y.held y.talk) none heard

  both_came : AreFronts xs ys → (bytes bytes_there : Option (List ℕ)) (x z y u : Conversation T) → IsNew t made bytes x → IsNew t made_there bytes_there z → (came said came_there said_there : List ℕ) →
      Heard t x.talk (x.held ++ came) xs said y.held y.talk → Heard t z.talk (z.held ++ came_there) ys said_there u.held u.talk → Begin x.talk z.talk →
      (AreFronts came came_there → AreFronts said said_there) × (came ≡ came_there → HasSaidAll t y.talk y.held → HasSaidAll t u.talk u.held → said ≡ said_there)
  both_came fronts bytes bytes_there x z y u new new_there came said came_there said_there heard heard_there began =
      let alike : Alike x.talk z.talk = begins x.talk z.talk new.starts new_there.starts began in
      let here : Heard t x.talk came xs said y.held y.talk = from_start x y xs came said new.held heard in
      let beyond : Heard t z.talk came_there ys said_there u.held u.talk = from_start z u ys came_there said_there new_there.held heard_there in (
        λ of. said_so T t Alike front_more bad_more speaks x.talk z.talk y.talk u.talk came came_there said said_there y.held u.held xs ys alike here beyond of fronts,
        λ same done done_there. all t Alike speaks (subst (λ (l : List ℕ). Heard t x.talk l xs said y.held y.talk) same here) beyond alike done done_there fronts,
      )

  says : AreFronts xs ys → (from to from_there to_there : ClientState T) → IsAwaited from → IsAwaited from_there → (here : Passes t made from xs to) (beyond : Passes t made_there from_there ys to_there) → Says from to from_there to_there here beyond
  says fronts (awaited b) (awaited l) (awaited e) to_there is is_there here it began = (λ of. any_front (said_to t made_there (awaited e) to_there ys it), λ same done done_there. absurd done)
  says fronts (awaited b) (there y) (awaited e) (awaited m) is is_there here it began = (λ of. front_any (said_to t made (awaited b) (there y) xs here), λ same done done_there. absurd done_there)
  says fronts (awaited b) (gone s) (awaited e) (awaited m) is is_there here it began = (λ of. front_any (said_to t made (awaited b) (gone s) xs here), λ same done done_there. absurd done_there)
  says fronts (awaited b) (there y) (awaited e) (there u) is is_there (x, new, (came, said, consumes, heard, appends, limited, once)) (z, new_there, (came_there, said_there, consumes_there, heard_there, appends_there, limited_there, once_there)) began =
      both_came fronts b e x z y u new new_there came said came_there said_there heard heard_there began
  says fronts (awaited b) (there y) (awaited e) (gone p) is is_there (x, new, (came, said, consumes, heard, appends, limited, once)) (z, new_there, (u, (came_there, said_there, consumes_there, heard_there, appends_there, limited_there, once_there), ended, sent)) began =
      both_came fronts b e x z y u new new_there came said came_there said_there heard heard_there began
  says fronts (awaited b) (gone s) (awaited e) (there u) is is_there (x, new, (y, (came, said, consumes, heard, appends, limited, once), ended, sent)) (z, new_there, (came_there, said_there, consumes_there, heard_there, appends_there, limited_there, once_there)) began =
      both_came fronts b e x z y u new new_there came said came_there said_there heard heard_there began
  says fronts (awaited b) (gone s) (awaited e) (gone p) is is_there (x, new, (y, (came, said, consumes, heard, appends, limited, once), ended, sent)) (z, new_there, (u, (came_there, said_there, consumes_there, heard_there, appends_there, limited_there, once_there), ended_there, sent_there)) began =
      both_came fronts b e x z y u new new_there came said came_there said_there heard heard_there began
  says fronts (there x) to from_there to_there is is_there here it began = absurd is
  says fronts (gone s) to from_there to_there is is_there here it began = absurd is
  says fronts (awaited b) to (there z) to_there is is_there here it began = absurd is_there
  says fronts (awaited b) to (gone s) to_there is is_there here it began = absurd is_there

  -- ---- what is wanted

  nothing_there : (zs : List Learnt) → AreWantedAlike zs []
  nothing_there [] = tt
  nothing_there (z ∷ zs) = tt

  both_want : (bytes bytes_there : Option (List ℕ)) (x z y u : Conversation T) → IsNew t made bytes x → IsNew t made_there bytes_there z → (came said came_there said_there : List ℕ) →
      Heard t x.talk (x.held ++ came) xs said y.held y.talk → Heard t z.talk (z.held ++ came_there) ys said_there u.held u.talk → Begin x.talk z.talk → AreFronts came came_there → AreWantedAlike xs ys
  both_want bytes bytes_there x z y u new new_there came said came_there said_there heard heard_there began of =
      wanted_so T t Alike front_more bad_more speaks x.talk z.talk y.talk u.talk came came_there said said_there y.held u.held xs ys (begins x.talk z.talk new.starts new_there.starts began)
      (from_start x y xs came said new.held heard) (from_start z u ys came_there said_there new_there.held heard_there) of

  wants : (from to from_there to_there : ClientState T) → IsAwaited from → IsAwaited from_there → (here : Passes t made from xs to) (beyond : Passes t made_there from_there ys to_there) →
      BeganSo Begin (came_with t made from to xs here) (came_with t made_there from_there to_there ys beyond) →
      AreFronts (came_of t made from to xs here) (came_of t made_there from_there to_there ys beyond) → AreWantedAlike xs ys
  wants (awaited b) (awaited l) from_there to_there is is_there here it began of = subst (λ (zs : List Learnt). AreWantedAlike zs ys) (sym here.0) tt
  wants (awaited b) (there y) (awaited e) (awaited m) is is_there here it began of = subst (λ (zs : List Learnt). AreWantedAlike xs zs) (sym it.0) (nothing_there xs)
  wants (awaited b) (gone s) (awaited e) (awaited m) is is_there here it began of = subst (λ (zs : List Learnt). AreWantedAlike xs zs) (sym it.0) (nothing_there xs)
  wants (awaited b) (there y) (awaited e) (there u) is is_there (x, new, (came, said, consumes, heard, appends, limited, once)) (z, new_there, (came_there, said_there, consumes_there, heard_there, appends_there, limited_there, once_there)) began of =
      both_want b e x z y u new new_there came said came_there said_there heard heard_there began of
  wants (awaited b) (there y) (awaited e) (gone p) is is_there (x, new, (came, said, consumes, heard, appends, limited, once)) (z, new_there, (u, (came_there, said_there, consumes_there, heard_there, appends_there, limited_there, once_there), ended, sent)) began of =
      both_want b e x z y u new new_there came said came_there said_there heard heard_there began of
  wants (awaited b) (gone s) (awaited e) (there u) is is_there (x, new, (y, (came, said, consumes, heard, appends, limited, once), ended, sent)) (z, new_there, (came_there, said_there, consumes_there, heard_there, appends_there, limited_there, once_there)) began of =
      both_want b e x z y u new new_there came said came_there said_there heard heard_there began of
  wants (awaited b) (gone s) (awaited e) (gone p) is is_there (x, new, (y, (came, said, consumes, heard, appends, limited, once), ended, sent)) (z, new_there, (u, (came_there, said_there, consumes_there, heard_there, appends_there, limited_there, once_there), ended_there, sent_there)) began of =
      both_want b e x z y u new new_there came said came_there said_there heard heard_there began of
  wants (there x) to from_there to_there is is_there here it began of = absurd is
  wants (gone s) to from_there to_there is is_there here it began of = absurd is
  wants (awaited b) (there y) (there z) to_there is is_there here it began of = absurd is_there
  wants (awaited b) (there y) (gone s) to_there is is_there here it began of = absurd is_there
  wants (awaited b) (gone p) (there z) to_there is is_there here it began of = absurd is_there
  wants (awaited b) (gone p) (gone s) to_there is is_there here it began of = absurd is_there

pub served_alike : (S Z X Y T C D : Type 0) (Reads : ReadingRelation) (state : S → StoreState) (state_there : Z → StoreState) (t : TalkGhosts T) (k : ClientsGhosts C T) (j : ClientsGhosts D T) (Begin Alike : T → T → Type 0)
    (front_more : (x : T) (bytes more : List ℕ) (n : ℕ) → t.front x bytes ≡ Whole n → (n ≤ length bytes) × (t.front x (bytes ++ more) ≡ Whole n))
    (bad_more : (x : T) (bytes more : List ℕ) → t.front x bytes ≡ Bad → t.front x (bytes ++ more) ≡ Bad)
    → SpeaksOnce t Alike → ((x y : T) → t.starts x → t.starts y → Begin x y → Alike x y) → ServeAlikeAsBegun S Z X Y T C D Reads state state_there t k j Begin
served_alike S Z X Y T C D Reads state state_there t k j Begin Alike front_more bad_more speaks begins = record {
  says = λ a place place_there apart apart_there w v old before us new after took old_there before_there us_there new_there after_there took_there alike end c d at_one own course course_there from to from_there to_there is is_there here it began.
      let mine = learnt_so Reads state t k c old before us new after took course in
      let theirs = learnt_so Reads state_there t j d old_there before_there us_there new_there after_there took_there course_there in
      says t Begin Alike speaks front_more bad_more begins (k.makes (k.maker before)) (j.makes (j.maker before_there)) (own_learnt c us) (own_learnt d us_there)
      (shorter (own_learnt c us) (own_learnt d us_there) _ _ mine.0 theirs.0 mine.1 theirs.1 (both_learnt Reads a place place_there apart apart_there c d at_one own alike end))
      from to from_there to_there is is_there here it began;
  asks = λ a place place_there apart apart_there old before us new after took old_there before_there us_there new_there after_there took_there come fronts.
      asked_so S Z X Y T C D Reads state state_there t k j a place place_there apart apart_there old before us new after took old_there before_there us_there new_there after_there took_there
      (λ c d at_one own.
      let it = come c d at_one own in
      wants t Begin Alike speaks front_more bad_more begins (k.makes (k.maker before)) (j.makes (j.maker before_there)) (own_learnt c us) (own_learnt d us_there) _ _ _ _
      it.comes.awaited it.comes.awaited_there it.comes.passes it.comes.passes_there it.began it.comes.bytes)
      fronts;
}
