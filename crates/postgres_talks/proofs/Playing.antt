-- What is heard is taken in, one thing after the other.
use Rattle.std.proofs.Common.{◌≡◌, ◌⊎◌, ◌∙◌, ℕ, List, [], ◌∷◌, ◌++◌, inl, inr, refl, ap, sym, subst, take, drop}
use Rattle.std.proofs.lemmas.List.{append-nil, append_assoc}
use Rattle.std.proofs.lemmas.List.Elements.{All-nil, All-append}
use Rattle.std.proofs.lemmas.Grind.{flat_map-append}
use Rattle.talks.specs.Wants.{Learnt, learnt, FitsWant}
use Rattle.talks.specs.Conversations.{Heard, stays, hears, rejects, learns, loses, breaks}
use Rattle.talks.specs.declared.talk.Talk.{Ghosts}
use Rattle.talks.specs.declared.want.Want.{Want}
use Rattle.talks.specs.declared.want.Want.TheVariants as want
use Rattle.talks.specs.declared.want.Reply.{Reply}
use Rattle.postgres_talks.specs.declared.moment.TalkMoment.{TalkMoment}
use Rattle.postgres_talks.specs.declared.postgres_talk.PostgresTalk.{PostgresTalk}
use Rattle.postgres_talks.specs.Sayings.{Saying, IsSayable, saying_bytes, said_bytes, Says}
use Rattle.postgres_talks.specs.Talks.{HearsMessage, Rejects, Learns, front_of}
use Rattle.postgres_talks.specs.Played.{Input, asked, told, bad, said_in, said_to_input, after_input, TakesIn, HasPlayed, PlayedOrGaveUp}

says_on : (xs ys : List Saying) (a b : List ℕ) → Says xs a → Says ys b → Says (xs ++ ys) (a ++ b)
says_on xs ys a b first last = record {
  each = All-append IsSayable xs ys first.each last.each;
  bytes = ap (λ (l : List ℕ). l ++ b) first.bytes ∙ ap (λ (l : List ℕ). said_bytes xs ++ l) last.bytes ∙ sym (flat_map-append saying_bytes xs ys);
}

-- one thing more at the front, with what was learnt by it
lift : (m : TalkMoment) (i : Input) (bytes left said also rest : List ℕ) (first xs : List Learnt) (v : TalkMoment) → Says (said_to_input m i) said
    → ((ys : List Learnt) (is : List Input) → TakesIn (after_input m i) left ys rest is → TakesIn m bytes (first ++ ys) rest (i ∷ is))
    → PlayedOrGaveUp (after_input m i) left xs also rest v → PlayedOrGaveUp m bytes (first ++ xs) (said ++ also) rest v
lift m i bytes left said also rest first xs v says step (inl p) = inl (record {
  inputs = i ∷ p.inputs;
  took = step xs p.inputs p.took;
  says = says_on (said_to_input m i) (said_in (after_input m i) p.inputs) said also says p.says;
  stands = p.stands;
})
lift m i bytes left said also rest first xs v says step (inr g) = inr (
  g.0,
  record {
    stood = g.1.stood;
    before = first ++ g.1.before;
    played = record {
      inputs = i ∷ g.1.played.inputs;
      took = step g.1.before g.1.played.inputs g.1.played.took;
      says = says_on (said_to_input m i) (said_in (after_input m i) g.1.played.inputs) said also says g.1.played.says;
      stands = g.1.played.stands;
    };
    lost = lost_on g.1.stood g.1.before g.1.lost;
  },
)
  where
    lost_on : (stood : TalkMoment) (before : List Learnt) → (xs ≡ before) ⊎ ((r : Reply) × FitsWant stood.want r × (xs ≡ before ++ learnt stood.want r ∷ []))
        → (first ++ xs ≡ first ++ before) ⊎ ((r : Reply) × FitsWant stood.want r × (first ++ xs ≡ (first ++ before) ++ learnt stood.want r ∷ []))
    lost_on stood before (inl same) = inl (ap (λ (l : List Learnt). first ++ l) same)
    lost_on stood before (inr one) = inr (one.0, one.1, ap (λ (l : List Learnt). first ++ l) one.2 ∙ sym (append_assoc first before (learnt stood.want one.0 ∷ [])))

module _ (k : Ghosts PostgresTalk)
    (wants_is : (t : PostgresTalk) → k.wants t ≡ t.moment.want)
    (front_is : (t : PostgresTalk) (bytes : List ℕ) → k.front t bytes ≡ front_of t.moment.stage bytes)
    (hears_is : (t u : PostgresTalk) (message said : List ℕ) → k.hears t message said u → HearsMessage t.moment message said u.moment)
    (rejects_is : (t u : PostgresTalk) (said : List ℕ) → k.rejects t said u → Rejects t.moment said u.moment)
    (learns_is : (t u : PostgresTalk) (r : Reply) (said : List ℕ) → k.learns t r said u → Learns t.moment r said u.moment) where
  -- once memory was refused nothing is heard, learnt or said
  silent : {t u : PostgresTalk} {bytes said rest : List ℕ} {xs : List Learnt} → Heard k t bytes xs said rest u → k.wants t ≡ want.OutOfMemory
      → (xs ≡ []) × (said ≡ []) × (rest ≡ bytes) × (k.wants u ≡ want.OutOfMemory)
  silent stays lost = (refl, refl, refl, lost)
  silent (hears n wants front says later) lost = let wrong : want.Message ≡ want.OutOfMemory = sym wants ∙ lost in cc
  silent (rejects wants front says later) lost = let wrong : want.Message ≡ want.OutOfMemory = sym wants ∙ lost in cc
  silent (learns x wants fits says later) lost = absurd (subst (λ (w : Want). FitsWant w x.reply) (sym wants ∙ lost) fits)
  silent (loses x wants fits end later) lost = absurd (subst (λ (w : Want). FitsWant w x.reply) (sym wants ∙ lost) fits)
  silent (breaks end later) lost = silent later end

  none_played : (m : TalkMoment) (bytes : List ℕ) → HasPlayed m bytes [] [] bytes m
  none_played m bytes = record { inputs = []; took = (refl, refl); says = record { each = All-nil IsSayable; bytes = refl }; stands = refl }

  -- memory was refused at once
  gave_up : (m : TalkMoment) {u v : PostgresTalk} {bytes also rest : List ℕ} {ys : List Learnt} (xs : List Learnt)
      → (xs ≡ []) ⊎ ((r : Reply) × FitsWant m.want r × (xs ≡ learnt m.want r ∷ [])) → Heard k u bytes ys also rest v → k.wants u ≡ want.OutOfMemory
      → PlayedOrGaveUp m bytes (xs ++ ys) also rest v.moment
  gave_up m {v = v} {bytes = bytes} {also = also} {rest = rest} {ys = ys} xs lost later end =
      let none = silent later end in
      inr (sym (wants_is v) ∙ none.3, rw (none.0, none.1, none.2, append-nil xs) (record { stood = m; before = []; played = none_played m bytes; lost = lost }))

  pub played : {t u : PostgresTalk} {bytes said rest : List ℕ} {xs : List Learnt} → Heard k t bytes xs said rest u → PlayedOrGaveUp t.moment bytes xs said rest u.moment
  played {t = t} {bytes = bytes} stays = inl (none_played t.moment bytes)
  played {u = v} {rest = rest} (hears {t = t} {u = u} {bytes = bytes} {said = said} {also = also} {xs = xs} n wants front says later) =
      let h = hears_is t u (take n bytes) said says in
      lift t.moment (asked h.asked) bytes (drop n bytes) said also rest [] xs v.moment h.says
      (λ ys is took. (n, sym (wants_is t) ∙ wants, sym (front_is t bytes) ∙ front, h.is_asked, took))
      (subst (λ (m : TalkMoment). PlayedOrGaveUp m (drop n bytes) xs also rest v.moment) h.stands (played later))
  played {u = v} {rest = rest} (rejects {t = t} {u = u} {bytes = bytes} {said = said} {also = also} {xs = xs} wants front says later) =
      let h = rejects_is t u said says in
      lift t.moment bad bytes bytes said also rest [] xs v.moment h.says
      (λ ys is took. (sym (wants_is t) ∙ wants, sym (front_is t bytes) ∙ front, took))
      (subst (λ (m : TalkMoment). PlayedOrGaveUp m bytes xs also rest v.moment) h.stands (played later))
  played {u = v} {rest = rest} (learns {t = t} {u = u} {bytes = bytes} {said = said} {also = also} {xs = xs} x wants fits says later) =
      let h = learns_is t u x.reply said says in
      lift t.moment (told x.reply) bytes bytes said also rest (x ∷ []) xs v.moment h.says
      (λ ys is took. (sym (wants_is t) ∙ wants, fits, refl, took))
      (subst (λ (m : TalkMoment). PlayedOrGaveUp m bytes xs also rest v.moment) h.stands (played later))
  played (loses {t = t} x wants fits end later) =
      let same = sym (wants_is t) ∙ wants in
      gave_up t.moment (x ∷ []) (inr (x.reply, subst (λ (w : Want). FitsWant w x.reply) (sym same) fits, ap (λ (w : Want). learnt w x.reply ∷ []) (sym same))) later end
  played (breaks {t = t} end later) = gave_up t.moment [] (inl refl) later end
