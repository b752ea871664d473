-- What a recorder has kept.
use Rattle.std.proofs.Common.{◌≡◌, ◌∙◌, ℕ, List, [], ◌∷◌, ◌++◌, refl, ap, sym}
use Rattle.sql_types.specs.declared.answer.Answer.{Answer}
use Rattle.sql_types.specs.declared.event.Event.{Event}
use Rattle.store.specs.Store.{StoreState}
use Rattle.abstract_database.specs.Runs.{ReadingRelation}
use Rattle.server.specs.declared.server.Server.{Server}
use Rattle.wire.specs.declared.sink.Sink.{Ghosts}
use Rattle.wire.specs.Telling.{Told, TellsAll, TellsSome}

abbrev last_of : List ℕ → ℕ
last_of [] = 0
last_of (x ∷ []) = x
last_of (x ∷ y ∷ xs) = last_of (y ∷ xs)

last_is : (xs : List ℕ) (n : ℕ) → last_of (xs ++ n ∷ []) ≡ n
last_is [] n = refl
last_is (x ∷ []) n = refl
last_is (x ∷ y ∷ xs) n = last_is (y ∷ xs) n

-- lists that end with one number each have the same last one
pub same_last : (xs : List ℕ) (m n : ℕ) → xs ++ m ∷ [] ≡ xs ++ n ∷ [] → m ≡ n
same_last xs m n same = sym (last_is xs m) ∙ ap last_of same ∙ last_is xs n

-- where the first of one event was not told, none was
done_is : (done others : List Event) (e last : Event) → e ∷ [] ≡ done ++ last ∷ others → done ≡ []
done_is [] others e last split = refl
done_is (x ∷ []) others e last split = cc
done_is (x ∷ y ∷ done) others e last split = cc

module _ {S X K : Type 0} (Reads : ReadingRelation) (state : S → StoreState) (old new : Server S X) (first last : K) where
  untold : (k : Ghosts K) (done : List Event) (told : List Told) (server : Server S X) (between : K) → done ≡ [] → TellsAll Reads state k old first done told server between → between ≡ first
  untold k [] [] server between is all = all.1
  untold k [] (t ∷ told) server between is all = absurd all
  untold k (x ∷ done) told server between is all = cc

  pub none_recorded : (k : Ghosts K) (numbers : K → List ℕ) → ((l m : K) (s : StoreState) (session : ℕ) (answer : Answer) → k.breaks l s session answer m → numbers m ≡ numbers l)
      → (e : Event) → TellsSome Reads state k old first (e ∷ []) new last → numbers last ≡ numbers first
  none_recorded k numbers keeps e some =
      keeps some.between last _ _ some.answer some.breaks.broken
      ∙ ap numbers (untold k some.done some.told some.server some.between (done_is some.done some.others e some.last some.split) some.all)
