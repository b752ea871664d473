-- Clients that come where each conversation asks for a password.
use Rattle.std.proofs.Common.{◌≡◌, ℕ, List, [], ◌++◌, sym, subst}
use Rattle.talks.specs.Wants.{Learnt}
use Rattle.talks.specs.Conversations.{ClientState, Conversation, Continues, Heard, IsAwaited, IsNew, Passes, awaited, gone, there}
use Rattle.talks.specs.declared.talk.Talk.{Ghosts}
use Rattle.password_talks.specs.declared.login.PasswordPlace.{PasswordPlace}
use Rattle.password_talks.specs.Courses.{MightBeWanted, WasShownAll}

module _ {U : Type 0} (k : Ghosts U) (place_of : U → PasswordPlace) (drawn_of : U → List ℕ)
    (shown : (t u : U) (bytes said rest : List ℕ) (xs : List Learnt) → k.starts t → Heard k t bytes xs said rest u → MightBeWanted (place_of t) (drawn_of t) bytes [] xs)
    (place : PasswordPlace) where
  abbrev asks_there : U → Type 0
  asks_there u = place_of u ≡ place

  -- what a conversation that was made so has learnt
  shown_since : (bytes : _) (x y : Conversation U) (xs : List Learnt) → IsNew k asks_there bytes x → Continues k x xs y → WasShownAll place xs
  shown_since bytes x y xs new goes = record {
    drawn = drawn_of x.talk;
    bytes = x.held ++ goes.0;
    might = subst (λ (p : PasswordPlace). MightBeWanted p (drawn_of x.talk) (x.held ++ goes.0) [] xs) new.is_made
        (shown x.talk y.talk (x.held ++ goes.0) goes.1 y.held xs new.starts goes.3);
  }

  pub shown_passing : (old new : ClientState U) (xs : List Learnt) → IsAwaited old → Passes k asks_there old xs new → WasShownAll place xs
  shown_passing (awaited bytes) (awaited left) xs came passes =
      record { drawn = []; bytes = []; might = subst (λ (l : List Learnt). MightBeWanted place [] [] [] l) (sym passes.0) tt }
  shown_passing (awaited bytes) (there y) xs came passes = shown_since bytes passes.0 y xs passes.1 passes.2
  shown_passing (awaited bytes) (gone sent) xs came passes = shown_since bytes passes.0 passes.2.0 xs passes.1 passes.2.1
  shown_passing (there x) new xs came passes = absurd came
  shown_passing (gone old) new xs came passes = absurd came
