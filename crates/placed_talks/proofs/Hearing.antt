-- What is heard by a conversation of one of four kinds.
use Rattle.std.proofs.Common.{◌≡◌, ◌∙◌, ◌⊎◌, inl, inr, ℕ, List, [], take, refl, ap, sym, subst}
use Rattle.talks.specs.Wants.{Learnt, FitsWant}
use Rattle.talks.specs.Conversations.{Heard, stays, hears, rejects, learns, loses, breaks}
use Rattle.talks.specs.declared.talk.MessageFront.{MessageFront}
use Rattle.talks.specs.declared.talk.Talk.{Ghosts}
use Rattle.talks.specs.declared.want.Want.{Want}
use Rattle.talks.specs.declared.want.Want.TheVariants as want
use Rattle.talks.specs.declared.want.Reply.{Reply}

-- `embed` makes of a conversation of a kind one of all kinds
module _ {T U : Type 0} (k : Ghosts T) (outer : Ghosts U) (embed : T → U) (same_inside : (a b : T) → embed a ≡ embed b → a ≡ b)
    (wants_is : (a : T) → outer.wants (embed a) ≡ k.wants a)
    (front_is : (a : T) (bytes : List ℕ) → outer.front (embed a) bytes ≡ k.front a bytes)
    (hears_is : (a : T) (u : U) (message said : List ℕ) → outer.hears (embed a) message said u → (b : T) × (u ≡ embed b) × k.hears a message said b)
    (rejects_is : (a : T) (u : U) (said : List ℕ) → outer.rejects (embed a) said u → (b : T) × (u ≡ embed b) × k.rejects a said b)
    (learns_is : (a : T) (u : U) (r : Reply) (said : List ℕ) → outer.learns (embed a) r said u → (b : T) × (u ≡ embed b) × k.learns a r said b) where
  -- once memory was refused nothing is heard, learnt or said
  silent : {t u : U} {bytes said rest : List ℕ} {xs : List Learnt} → Heard outer t bytes xs said rest u → outer.wants t ≡ want.OutOfMemory
      → (xs ≡ []) × (said ≡ []) × (rest ≡ bytes) × (outer.wants u ≡ want.OutOfMemory)
  silent stays lost = (refl, refl, refl, lost)
  silent (hears n wants front says later) lost = let wrong : want.Message ≡ want.OutOfMemory = sym wants ∙ lost in cc
  silent (rejects wants front says later) lost = let wrong : want.Message ≡ want.OutOfMemory = sym wants ∙ lost in cc
  silent (learns x wants fits says later) lost = absurd (subst (λ (w : Want). FitsWant w x.reply) (sym wants ∙ lost) fits)
  silent (loses x wants fits end later) lost = absurd (subst (λ (w : Want). FitsWant w x.reply) (sym wants ∙ lost) fits)
  silent (breaks end later) lost = silent later end

  wanted_inside : (t : U) (a : T) (w : Want) → t ≡ embed a → outer.wants t ≡ w → k.wants a ≡ w
  wanted_inside t a w at is = sym (wants_is a) ∙ ap (λ (x : U). outer.wants x) (sym at) ∙ is

  front_inside : (t : U) (a : T) (bytes : List ℕ) (f : MessageFront) → t ≡ embed a → outer.front t bytes ≡ f → k.front a bytes ≡ f
  front_inside t a bytes f at is = sym (front_is a bytes) ∙ ap (λ (x : U). outer.front x bytes) (sym at) ∙ is

  -- all that is heard, learnt and said is of the kind, where it is of that kind at last
  pub heard_inside : {t u : U} {bytes said rest : List ℕ} {xs : List Learnt} → Heard outer t bytes xs said rest u → (a b : T) → t ≡ embed a → u ≡ embed b → Heard k a bytes xs said rest b
  heard_inside {bytes = bytes} stays a b at last = subst (λ (c : T). Heard k a bytes [] [] bytes c) (same_inside a b (sym at ∙ last)) stays
  heard_inside {t = t} (hears {u = u} {bytes = bytes} {said = saying} n wants front says later) a b at last =
      let it = hears_is a u (take n bytes) saying (subst (λ (x : U). outer.hears x (take n bytes) saying u) at says) in
      hears n (wanted_inside t a want.Message at wants) (front_inside t a bytes _ at front) it.2 (heard_inside later it.0 b it.1 last)
  heard_inside {t = t} (rejects {u = u} {bytes = bytes} {said = saying} wants front says later) a b at last =
      let it = rejects_is a u saying (subst (λ (x : U). outer.rejects x saying u) at says) in
      rejects (wanted_inside t a want.Message at wants) (front_inside t a bytes _ at front) it.2 (heard_inside later it.0 b it.1 last)
  heard_inside {t = t} (learns {u = u} {said = saying} x wants fits says later) a b at last =
      let it = learns_is a u x.reply saying (subst (λ (y : U). outer.learns y x.reply saying u) at says) in
      learns x (wanted_inside t a x.want at wants) fits it.2 (heard_inside later it.0 b it.1 last)
  heard_inside {t = t} {u = v} {rest = rest} (loses {bytes = bytes} {also = also} {xs = ys} x wants fits end later) a b at last =
      let none = silent later end in
      rw (none.0, none.1, none.2) (loses x (wanted_inside t a x.want at wants) fits (wanted_inside v b want.OutOfMemory last none.3) stays)
  heard_inside {t = t} {u = v} {rest = rest} (breaks {bytes = bytes} {also = also} {xs = ys} end later) a b at last =
      let none = silent later end in
      rw (none.0, none.1, none.2) (breaks (wanted_inside v b want.OutOfMemory last none.3) stays)

  -- and it is of that kind, or memory was refused
  pub stays_inside : {t u : U} {bytes said rest : List ℕ} {xs : List Learnt} → Heard outer t bytes xs said rest u → (a : T) → t ≡ embed a → ((b : T) × (u ≡ embed b)) ⊎ (outer.wants u ≡ want.OutOfMemory)
  stays_inside stays a at = inl (a, at)
  stays_inside (hears {u = u} {bytes = bytes} {said = saying} n wants front says later) a at =
      let it = hears_is a u (take n bytes) saying (subst (λ (x : U). outer.hears x (take n bytes) saying u) at says) in
      stays_inside later it.0 it.1
  stays_inside (rejects {u = u} {said = saying} wants front says later) a at =
      let it = rejects_is a u saying (subst (λ (x : U). outer.rejects x saying u) at says) in
      stays_inside later it.0 it.1
  stays_inside (learns {u = u} {said = saying} x wants fits says later) a at =
      let it = learns_is a u x.reply saying (subst (λ (y : U). outer.learns y x.reply saying u) at says) in
      stays_inside later it.0 it.1
  stays_inside (loses x wants fits end later) a at = inr (silent later end).3
  stays_inside (breaks end later) a at = inr (silent later end).3
