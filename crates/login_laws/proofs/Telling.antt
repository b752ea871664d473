-- What was drawn for a conversation is told in its challenge.
use Rattle.std.proofs.Common.{◌≡◌, ◌∙◌, ◌⊎◌, ℕ, List, [], ◌∷◌, ◌++◌, take, drop, inl, inr, refl, ap, sym, subst}
use Rattle.std.proofs.lemmas.List.{append-nil, append_assoc}
use Rattle.talks.specs.Wants.{Learnt, FitsWant}
use Rattle.talks.specs.Conversations.{Heard, stays, hears, rejects, learns, loses, breaks}
use Rattle.talks.specs.declared.talk.MessageFront.TheVariants.{Whole}
use Rattle.talks.specs.declared.talk.Talk.{Ghosts}
use Rattle.talks.specs.declared.want.Want.TheVariants as want
use Rattle.login_laws.proofs.Inside.{silent}

-- ---- what was said

-- once the first of these were learnt a client was challenged, so, and then the rest was said to it
pub record ToldFirst (Challenged : List Learnt → List ℕ → Type 0) (xs : List Learnt) (said : List ℕ) : Type 0 where
  pub learnt_first : List Learnt
  pub learnt_then : List Learnt
  pub learnt_is : xs ≡ learnt_first ++ learnt_then
  pub first_said : List ℕ
  pub later : List ℕ
  pub challenged : Challenged learnt_first first_said
  pub said_is : said ≡ first_said ++ later

module _ (Challenged : List Learnt → List ℕ → Type 0) where
  said_more : (xs : List Learnt) (said also : List ℕ) → ToldFirst Challenged xs said → ToldFirst Challenged xs (said ++ also)
  said_more xs said also it = record {
    learnt_first = it.learnt_first;
    learnt_then = it.learnt_then;
    learnt_is = it.learnt_is;
    first_said = it.first_said;
    later = it.later ++ also;
    challenged = it.challenged;
    said_is = ap (λ (l : List ℕ). l ++ also) it.said_is ∙ append_assoc it.first_said it.later also;
  }

  pub learnt_more : (xs ys : List Learnt) (said : List ℕ) → ToldFirst Challenged xs said → ToldFirst Challenged (xs ++ ys) said
  learnt_more xs ys said it = record {
    learnt_first = it.learnt_first;
    learnt_then = it.learnt_then ++ ys;
    learnt_is = ap (λ (l : List Learnt). l ++ ys) it.learnt_is ∙ append_assoc it.learnt_first it.learnt_then ys;
    first_said = it.first_said;
    later = it.later;
    challenged = it.challenged;
    said_is = it.said_is;
  }

  -- the challenge is the last thing that was said
  pub told_now : (xs ys : List Learnt) (said : List ℕ) → Challenged xs said → ToldFirst Challenged (xs ++ ys) said
  told_now xs ys said challenged = record { learnt_first = xs; learnt_then = ys; learnt_is = refl; first_said = said; later = []; challenged = challenged; said_is = sym (append-nil said) }

-- the two look-ups before a challenge are the first two
both_same : (p q a b : Learnt) (ls ks : List Learnt) → p ∷ q ∷ ls ≡ a ∷ b ∷ ks → p ∷ q ∷ [] ≡ a ∷ b ∷ []
both_same p q a b ls ks is = cc

pub first_two : (whole first_ones ls ks : List Learnt) (p q a b : Learnt) → whole ≡ first_ones ++ ls → first_ones ≡ p ∷ q ∷ [] → whole ≡ a ∷ b ∷ ks → first_ones ≡ a ∷ b ∷ []
first_two whole first_ones ls ks p q a b all two is = two ∙ both_same p q a b ls ks (sym (ap (λ (l : List Learnt). l ++ ls) two) ∙ (sym all ∙ is))

-- ---- look-ups

-- less than three were answered
abbrev pub AreFew : List Learnt → Type 0
AreFew [] = Unit {0}
AreFew (a ∷ []) = Unit {0}
AreFew (a ∷ b ∷ []) = Unit {0}
AreFew (a ∷ b ∷ d ∷ more) = ⊥

pub none_few : (xs more : List Learnt) (a b d : Learnt) → xs ≡ a ∷ b ∷ d ∷ more → AreFew xs → ⊥
none_few xs more a b d is few = subst (λ (l : List Learnt). AreFew l) is few

pub first_few : (xs : List Learnt) (x : Learnt) → xs ≡ [] → AreFew (xs ++ x ∷ [])
first_few xs x none = subst (λ (l : List Learnt). AreFew (l ++ x ∷ [])) (sym none) tt

pub second_few : (xs : List Learnt) (a x : Learnt) → xs ≡ a ∷ [] → AreFew (xs ++ x ∷ [])
second_few xs a x one = subst (λ (l : List Learnt). AreFew (l ++ x ∷ [])) (sym one) tt

-- what is no more than some few is few
few_first : (xs ys : List Learnt) → AreFew (xs ++ ys) → AreFew xs
few_first [] ys few = tt
few_first (a ∷ []) ys few = tt
few_first (a ∷ b ∷ []) ys few = tt
few_first (a ∷ b ∷ d ∷ more) ys few = few

-- ---- all that is heard

-- few were learnt, or the client was challenged
abbrev pub FewOrTold : (Challenged : List Learnt → List ℕ → Type 0) → List Learnt → List ℕ → Type 0
FewOrTold Challenged xs said = AreFew xs ⊎ ToldFirst Challenged xs said

-- `Stands` is how a conversation stands after what was learnt and said, over the bytes that are left
module _ {U : Type 0} (outer : Ghosts U) (Stands : U → List Learnt → List ℕ → List ℕ → Type 0) (Challenged : List Learnt → List ℕ → Type 0)
    (hears_on : (t u : U) (xs : List Learnt) (said saying bytes : List ℕ) (n : ℕ) → Stands t xs said bytes → outer.wants t ≡ want.Message → outer.front t bytes ≡ Whole n
    → outer.hears t (take n bytes) saying u → Stands u xs (said ++ saying) (drop n bytes))
    (rejects_on : (t u : U) (xs : List Learnt) (said saying bytes : List ℕ) → Stands t xs said bytes → outer.rejects t saying u → Stands u xs (said ++ saying) bytes)
    (learns_on : (t u : U) (xs : List Learnt) (said saying bytes : List ℕ) (x : Learnt) → Stands t xs said bytes → outer.wants t ≡ x.want → FitsWant x.want x.reply
    → outer.learns t x.reply saying u → Stands u (xs ++ x ∷ []) (said ++ saying) bytes)
    (told_by : (t : U) (xs : List Learnt) (said bytes : List ℕ) (x : Learnt) → Stands t xs said bytes → FewOrTold Challenged xs said → outer.wants t ≡ x.want → FitsWant x.want x.reply
    → FewOrTold Challenged (xs ++ x ∷ []) said) where
  more_told : (xs : List Learnt) (said also : List ℕ) → FewOrTold Challenged xs said → FewOrTold Challenged xs (said ++ also)
  more_told xs said also (inl few) = inl few
  more_told xs said also (inr told) = inr (said_more Challenged xs said also told)

  pub told_heard : (xs : List Learnt) (said : List ℕ) {t u : U} {bytes also rest : List ℕ} {ys : List Learnt} → Stands t xs said bytes → FewOrTold Challenged xs said → Heard outer t bytes ys also rest u
      → FewOrTold Challenged (xs ++ ys) (said ++ also)
  told_heard xs said it so stays = rw (append-nil xs, append-nil said) so
  told_heard xs said {t = t} it so (hears {u = u} {bytes = bytes} {said = saying} {also = also} {xs = ys} n wants front says later) =
      subst (λ (l : List ℕ). FewOrTold Challenged (xs ++ ys) l) (append_assoc said saying also)
      (told_heard xs (said ++ saying) (hears_on t u xs said saying bytes n it wants front says) (more_told xs said saying so) later)
  told_heard xs said {t = t} it so (rejects {u = u} {bytes = bytes} {said = saying} {also = also} {xs = ys} wants front says later) =
      subst (λ (l : List ℕ). FewOrTold Challenged (xs ++ ys) l) (append_assoc said saying also)
      (told_heard xs (said ++ saying) (rejects_on t u xs said saying bytes it says) (more_told xs said saying so) later)
  told_heard xs said {t = t} it so (learns {u = u} {bytes = bytes} {said = saying} {also = also} {xs = ys} x wants fits says later) =
      subst (λ (l : List ℕ). FewOrTold Challenged (xs ++ x ∷ ys) l) (append_assoc said saying also)
      (subst (λ (l : List Learnt). FewOrTold Challenged l ((said ++ saying) ++ also)) (append_assoc xs (x ∷ []) ys)
      (told_heard (xs ++ x ∷ []) (said ++ saying) (learns_on t u xs said saying bytes x it wants fits says) (more_told (xs ++ x ∷ []) said saying (told_by t xs said bytes x it so wants fits)) later))
  told_heard xs said {t = t} it so (loses {bytes = bytes} {also = also} {xs = ys} x wants fits gone later) =
      subst (λ (l : List Learnt). FewOrTold Challenged (xs ++ x ∷ l) (said ++ also)) (sym (silent outer later gone).0) (more_told (xs ++ x ∷ []) said also (told_by t xs said bytes x it so wants fits))
  told_heard xs said {t = t} it so (breaks {also = also} {xs = ys} gone later) =
      subst (λ (l : List Learnt). FewOrTold Challenged (xs ++ l) (said ++ also)) (sym (silent outer later gone).0) (subst (λ (l : List Learnt). FewOrTold Challenged l (said ++ also)) (sym (append-nil xs)) (more_told xs said also so))

-- ---- who was let in

-- of all that was learnt these were the first, three at least; so it was told
pub told_of_three : {Told : Type 0} (past more whole tail : List Learnt) (a b d : Learnt) → past ++ more ≡ whole → past ≡ a ∷ b ∷ d ∷ tail → AreFew whole ⊎ Told → Told
told_of_three past more whole tail a b d is three (inr told) = told
told_of_three past more whole tail a b d is three (inl few) = absurd (none_few past tail a b d three (few_first past more (subst (λ (l : List Learnt). AreFew l) (sym is) few)))
