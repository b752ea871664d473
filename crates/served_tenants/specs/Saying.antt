-- What is said to a client goes by its bytes and by what it learns.
use Rattle.std.specs.Prelude.{◌≡◌, ◌⊎◌, ℕ, List, [], ◌∷◌, ◌++◌}
use Rattle.talks.specs.Conversations.{Heard}
use Rattle.talks.specs.Wants.{Learnt, WantsEnd}
use Rattle.talks.specs.declared.want.Want.TheVariants as want
use Rattle.talks.specs.declared.want.Reply.{Reply}
use Rattle.talks.specs.declared.talk.MessageFront.TheVariants.{Nothing}
use Rattle.talks.specs.declared.talk.Talk.{Ghosts}

-- one of two lists is a front of the other
abbrev pub AreFronts : {A : Type 0} → List A → List A → Type 0
AreFronts {A} xs ys = ((more : List A) × (xs ++ more ≡ ys)) ⊎ ((more : List A) × (ys ++ more ≡ xs))

-- Conversations that stand alike go alike: they want the same, take the same off the front of bytes, say the same to the same, and then stand
-- alike
pub record SpeaksOnce {T : Type 0} (k : Ghosts T) (Alike : T → T → Type 0) : Type 0 where
  pub wants : (t u : T) → Alike t u → k.wants t ≡ k.wants u
  pub front : (t u : T) (bytes : List ℕ) → Alike t u → k.front t bytes ≡ k.front u bytes
  pub hears : (t u v w : T) (message said also : List ℕ) → Alike t u → k.hears t message said v → k.hears u message also w → (said ≡ also) × Alike v w
  pub rejects : (t u v w : T) (said also : List ℕ) → Alike t u → k.rejects t said v → k.rejects u also w → (said ≡ also) × Alike v w
  pub learns : (t u v w : T) (r : Reply) (said also : List ℕ) → Alike t u → k.learns t r said v → k.learns u r also w → (said ≡ also) × Alike v w

-- the same is wanted, one thing after the other, for as long as the same is replied and both go on
abbrev pub AreWantedAlike : List Learnt → List Learnt → Type 0
AreWantedAlike [] ys = Unit {0}
AreWantedAlike (x ∷ xs) [] = Unit {0}
AreWantedAlike (x ∷ xs) (y ∷ ys) = (x.want ≡ y.want) × (x.reply ≡ y.reply → AreWantedAlike xs ys)

-- over these bytes it hears and says no more: it wants its end, or a message where none is left
abbrev pub HasSaidAll : {T : Type 0} (k : Ghosts T) → T → List ℕ → Type 0
HasSaidAll k t rest = WantsEnd (k.wants t) ⊎ ((k.wants t ≡ want.Message) × (k.front t rest ≡ Nothing))

-- of the same bytes, as far as they have come, and of the same that was learnt, so far, the same is said, as far as it was said
abbrev pub replies_determine_what_is_said : (T : Type 0) (k : Ghosts T) (Alike : T → T → Type 0) → Type 0
replies_determine_what_is_said T k Alike = SpeaksOnce k Alike → (t u v w : T) (bytes piece said also rest left : List ℕ) (xs ys : List Learnt) → Alike t u →
    Heard k t bytes xs said rest v → Heard k u piece ys also left w → AreFronts bytes piece → AreFronts xs ys → AreFronts said also

-- and once no more is said over the same bytes, the same was said
abbrev pub all_that_is_said : (T : Type 0) (k : Ghosts T) (Alike : T → T → Type 0) → Type 0
all_that_is_said T k Alike = SpeaksOnce k Alike → (t u v w : T) (bytes said also rest left : List ℕ) (xs ys : List Learnt) → Alike t u →
    Heard k t bytes xs said rest v → Heard k u bytes ys also left w → HasSaidAll k v rest → HasSaidAll k w left → AreFronts xs ys → said ≡ also

-- over the same bytes, as far as they have come, the same is wanted for as long as the same is replied
abbrev pub replies_determine_what_is_wanted : (T : Type 0) (k : Ghosts T) (Alike : T → T → Type 0) → Type 0
replies_determine_what_is_wanted T k Alike = SpeaksOnce k Alike → (t u v w : T) (bytes piece said also rest left : List ℕ) (xs ys : List Learnt) → Alike t u →
    Heard k t bytes xs said rest v → Heard k u piece ys also left w → AreFronts bytes piece → AreWantedAlike xs ys
