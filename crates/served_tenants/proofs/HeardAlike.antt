-- What is said goes by bytes and replies.
use Rattle.std.proofs.Common.{◌≡◌, ◌∙◌, ◌≤◌, ℕ, List, [], ◌∷◌, ◌++◌, length, take, drop, refl, sym, ap, subst, inl, inr}
use Rattle.std.proofs.lemmas.List.{append_assoc}
use Rattle.talks.specs.Conversations.{Heard, stays, hears, rejects, learns, loses, breaks}
use Rattle.talks.specs.Wants.{Learnt, FitsWant, WantsEnd}
use Rattle.talks.specs.declared.want.Want.{Want}
use Rattle.talks.specs.declared.want.Want.TheVariants as want
use Rattle.talks.specs.declared.want.Reply.{Reply}
use Rattle.talks.specs.declared.want.Reply.TheVariants as reply
use Rattle.talks.specs.declared.talk.MessageFront.{MessageFront}
use Rattle.talks.specs.declared.talk.MessageFront.TheVariants.{Nothing, Whole, Bad}
use Rattle.talks.specs.declared.talk.Talk.{Ghosts}
use Rattle.talks.proofs.Passing.{heard_more}
use Rattle.served_tenants.specs.Saying.{AreFronts, AreWantedAlike, SpeaksOnce, HasSaidAll, replies_determine_what_is_said, all_that_is_said, replies_determine_what_is_wanted}

-- ---- fronts

module _ {A : Type 0} where
  pub any_front : (xs : List A) → AreFronts [] xs
  any_front xs = inl (xs, refl)

  pub front_any : (xs : List A) → AreFronts xs []
  front_any xs = inr (xs, refl)

  heads : (x y : A) (xs ys : List A) → (x ∷ xs) ≡ (y ∷ ys) → (x ≡ y) × (xs ≡ ys)
  heads x y xs ys e = (ap first_of e, ap rest_of e) where
    first_of : List A → A
    first_of [] = x
    first_of (z ∷ zs) = z

    rest_of : List A → List A
    rest_of [] = []
    rest_of (z ∷ zs) = zs

  pub within : (x y : A) (xs ys : List A) → AreFronts (x ∷ xs) (y ∷ ys) → (x ≡ y) × AreFronts xs ys
  within x y xs ys (inl (more, is)) = let both = heads x y (xs ++ more) ys is in (both.0, inl (more, both.1))
  within x y xs ys (inr (more, is)) = let both = heads y x (ys ++ more) xs is in (sym both.0, inr (more, both.1))

  -- behind the same
  pub behind : (p q xs ys : List A) → p ≡ q → AreFronts xs ys → AreFronts (p ++ xs) (q ++ ys)
  behind p q xs ys same (inl (more, is)) = inl (more, append_assoc p xs more ∙ ap (λ (l : List A). p ++ l) is ∙ ap (λ (l : List A). l ++ ys) same)
  behind p q xs ys same (inr (more, is)) = inr (more, append_assoc q ys more ∙ ap (λ (l : List A). q ++ l) is ∙ ap (λ (l : List A). l ++ xs) (sym same))

  turned : (xs ys : List A) → AreFronts xs ys → AreFronts ys xs
  turned xs ys (inl is) = inr is
  turned xs ys (inr is) = inl is

  -- two fronts of one list
  of_one : (xs ys more also : List A) → xs ++ more ≡ ys ++ also → AreFronts xs ys
  of_one [] ys more also is = any_front ys
  of_one (x ∷ xs) [] more also is = front_any (x ∷ xs)
  of_one (x ∷ xs) (y ∷ ys) more also is =
      let both = heads x y (xs ++ more) (ys ++ also) is in
      behind (x ∷ []) (y ∷ []) xs ys (ap (λ (z : A). z ∷ []) both.0) (of_one xs ys more also both.1)

  -- fronts of fronts
  pub shorter : (xs ys p q more also : List A) → xs ++ more ≡ p → ys ++ also ≡ q → AreFronts p q → AreFronts xs ys
  shorter xs ys p q more also is is_there (inl (rest, e)) =
      of_one xs ys (more ++ rest) also (sym (append_assoc xs more rest) ∙ ap (λ (l : List A). l ++ rest) is ∙ e ∙ sym is_there)
  shorter xs ys p q more also is is_there (inr (rest, e)) =
      turned ys xs (of_one ys xs (also ++ rest) more (sym (append_assoc ys also rest) ∙ ap (λ (l : List A). l ++ rest) is_there ∙ e ∙ sym is))

  pub nothing_said : (s q : List A) → s ≡ [] → AreFronts s q
  nothing_said s q none = subst (λ (l : List A). AreFronts l q) (sym none) (any_front q)

  pub nothing_said_there : (s q : List A) → q ≡ [] → AreFronts s q
  nothing_said_there s q none = subst (λ (l : List A). AreFronts s l) (sym none) (front_any s)

-- ---- wants that no reply fits

fits_message : (r : Reply) → FitsWant want.Message r → ⊥
fits_message (reply.Answer a) fits = fits
fits_message (reply.Standing b) fits = fits
fits_message (reply.Description d) fits = fits
fits_message (reply.Verifier v) fits = fits

fits_memory : (r : Reply) → FitsWant want.OutOfMemory r → ⊥
fits_memory (reply.Answer a) fits = fits
fits_memory (reply.Standing b) fits = fits
fits_memory (reply.Description d) fits = fits
fits_memory (reply.Verifier v) fits = fits

fits_end : (x : Want) (r : Reply) → WantsEnd x → FitsWant x r → ⊥
fits_end (want.End late) (reply.Answer a) ends fits = fits
fits_end (want.End late) (reply.Standing b) ends fits = fits
fits_end (want.End late) (reply.Description d) ends fits = fits
fits_end (want.End late) (reply.Verifier v) ends fits = fits
fits_end want.Message r ends fits = absurd ends
fits_end (want.Event e) r ends fits = absurd ends
fits_end (want.Open n login entry) r ends fits = absurd ends
fits_end (want.Standing n) r ends fits = absurd ends
fits_end (want.Description n text) r ends fits = absurd ends
fits_end (want.Verifier table role) r ends fits = absurd ends
fits_end want.OutOfMemory r ends fits = absurd ends

no_message : (x : Learnt) → want.Message ≡ x.want → FitsWant x.want x.reply → ⊥
no_message x is fits = fits_message x.reply (subst (λ (w : Want). FitsWant w x.reply) (sym is) fits)

module _ {T : Type 0} (k : Ghosts T) (Alike : T → T → Type 0) (speaks : SpeaksOnce k Alike) where
  -- after memory was refused nothing is said
  lost : {t v : T} {bytes said rest : List ℕ} {xs : List Learnt} → Heard k t bytes xs said rest v → k.wants t ≡ want.OutOfMemory → (said ≡ []) × (k.wants v ≡ want.OutOfMemory)
  lost stays is = (refl, is)
  lost (hears n wants front says later) is = let contrary : want.Message ≡ want.OutOfMemory = sym wants ∙ is in cc
  lost (rejects wants front says later) is = let contrary : want.Message ≡ want.OutOfMemory = sym wants ∙ is in cc
  lost (learns x wants fits says later) is = absurd (fits_memory x.reply (subst (λ (w : Want). FitsWant w x.reply) (sym wants ∙ is) fits))
  lost (loses x wants fits end later) is = absurd (fits_memory x.reply (subst (λ (w : Want). FitsWant w x.reply) (sym wants ∙ is) fits))
  lost (breaks end later) is = lost later end

  number_of : (n m : ℕ) → Whole n ≡ Whole m → n ≡ m
  number_of n m is = cc

  not_bad : (n : ℕ) → Whole n ≡ Bad → ⊥
  not_bad n is = cc

  same_wants : (t u : T) → Alike t u → (x y : Want) → k.wants t ≡ x → k.wants u ≡ y → x ≡ y
  same_wants t u alike x y is is_there = sym is ∙ speaks.wants t u alike ∙ is_there

  same_front : (t u : T) (bytes : List ℕ) → Alike t u → (x y : MessageFront) → k.front t bytes ≡ x → k.front u bytes ≡ y → x ≡ y
  same_front t u bytes alike x y is is_there = sym is ∙ speaks.front t u bytes alike ∙ is_there

  -- ---- so far

  pub goes : {t u v w : T} {bytes said also rest left : List ℕ} {xs ys : List Learnt} → Heard k t bytes xs said rest v → Heard k u bytes ys also left w → Alike t u → AreFronts xs ys → AreFronts said also
  goes {also = also} stays second alike fronts = any_front also
  goes {said = said} (breaks end later) second alike fronts = nothing_said said _ (lost later end).0
  goes {said = said} (loses x wants fits end later) second alike fronts = nothing_said said _ (lost later end).0
  goes {said = said} (hears n wants front says later) stays alike fronts = front_any said
  goes {said = said} {also = also} (hears n wants front says later) (breaks end later_there) alike fronts = nothing_said_there said also (lost later_there end).0
  goes {t = t} {u = u} (hears n wants front says later) (loses x wants_there fits end later_there) alike fronts = absurd (no_message x (same_wants t u alike want.Message x.want wants wants_there) fits)
  goes {t = t} {u = u} (hears n wants front says later) (learns x wants_there fits says_there later_there) alike fronts = absurd (no_message x (same_wants t u alike want.Message x.want wants wants_there) fits)
  goes {t = t} {u = u} {bytes = bytes} (hears n wants front says later) (rejects wants_there front_there says_there later_there) alike fronts = absurd (not_bad n (same_front t u bytes alike (Whole n) Bad front front_there))
  goes {t = t} {u = u} {bytes = bytes} (hears {u = v} {said = said} {also = more} n wants front says later) (hears {u = w} {v = end} {said = said_there} {also = more_there} {rest = left} {xs = ys} m wants_there front_there says_there later_there) alike fronts =
      let same : n ≡ m = number_of n m (same_front t u bytes alike (Whole n) (Whole m) front front_there) in
      let both = speaks.hears t u v w (take n bytes) said said_there alike says (subst (λ (i : ℕ). k.hears u (take i bytes) said_there w) (sym same) says_there) in
      behind said said_there more more_there both.0 (goes later (subst (λ (i : ℕ). Heard k w (drop i bytes) ys more_there left end) (sym same) later_there) both.1 fronts)
  goes {said = said} (rejects wants front says later) stays alike fronts = front_any said
  goes {said = said} {also = also} (rejects wants front says later) (breaks end later_there) alike fronts = nothing_said_there said also (lost later_there end).0
  goes {t = t} {u = u} (rejects wants front says later) (loses x wants_there fits end later_there) alike fronts = absurd (no_message x (same_wants t u alike want.Message x.want wants wants_there) fits)
  goes {t = t} {u = u} (rejects wants front says later) (learns x wants_there fits says_there later_there) alike fronts = absurd (no_message x (same_wants t u alike want.Message x.want wants wants_there) fits)
  goes {t = t} {u = u} {bytes = bytes} (rejects wants front says later) (hears m wants_there front_there says_there later_there) alike fronts = absurd (not_bad m (sym (same_front t u bytes alike Bad (Whole m) front front_there)))
  goes {t = t} {u = u} {bytes = bytes} (rejects {u = v} {said = said} {also = more} wants front says later) (rejects {u = w} {said = said_there} {also = more_there} wants_there front_there says_there later_there) alike fronts =
      let both = speaks.rejects t u v w said said_there alike says says_there in
      behind said said_there more more_there both.0 (goes later later_there both.1 fronts)
  goes {said = said} (learns x wants fits says later) stays alike fronts = front_any said
  goes {said = said} {also = also} (learns x wants fits says later) (breaks end later_there) alike fronts = nothing_said_there said also (lost later_there end).0
  goes {said = said} {also = also} (learns x wants fits says later) (loses y wants_there fits_there end later_there) alike fronts = nothing_said_there said also (lost later_there end).0
  goes {t = t} {u = u} (learns x wants fits says later) (hears m wants_there front_there says_there later_there) alike fronts = absurd (no_message x (sym (same_wants t u alike x.want want.Message wants wants_there)) fits)
  goes {t = t} {u = u} (learns x wants fits says later) (rejects wants_there front_there says_there later_there) alike fronts = absurd (no_message x (sym (same_wants t u alike x.want want.Message wants wants_there)) fits)
  goes {t = t} {u = u} (learns {u = v} {said = said} {also = more} {xs = xs} x wants fits says later) (learns {u = w} {said = said_there} {also = more_there} {xs = ys} y wants_there fits_there says_there later_there) alike fronts =
      let both = within x y xs ys fronts in
      let then = speaks.learns t u v w x.reply said said_there alike says (subst (λ (z : Learnt). k.learns u z.reply said_there w) (sym both.0) says_there) in
      behind said said_there more more_there then.0 (goes later later_there then.1 both.1)

  -- ---- what is wanted

  none_there : (xs : List Learnt) → AreWantedAlike xs []
  none_there [] = tt
  none_there (x ∷ xs) = tt

  -- after memory was refused nothing is learnt
  learns_none : {t v : T} {bytes said rest : List ℕ} {xs : List Learnt} → Heard k t bytes xs said rest v → k.wants t ≡ want.OutOfMemory → xs ≡ []
  learns_none stays is = refl
  learns_none (hears n wants front says later) is = let contrary : want.Message ≡ want.OutOfMemory = sym wants ∙ is in cc
  learns_none (rejects wants front says later) is = let contrary : want.Message ≡ want.OutOfMemory = sym wants ∙ is in cc
  learns_none (learns x wants fits says later) is = absurd (fits_memory x.reply (subst (λ (w : Want). FitsWant w x.reply) (sym wants ∙ is) fits))
  learns_none (loses x wants fits end later) is = absurd (fits_memory x.reply (subst (λ (w : Want). FitsWant w x.reply) (sym wants ∙ is) fits))
  learns_none (breaks end later) is = learns_none later end

  none_here : (xs ys : List Learnt) → xs ≡ [] → AreWantedAlike xs ys
  none_here xs ys none = subst (λ (l : List Learnt). AreWantedAlike l ys) (sym none) tt

  none_beyond : (xs ys : List Learnt) → ys ≡ [] → AreWantedAlike xs ys
  none_beyond xs ys none = subst (λ (l : List Learnt). AreWantedAlike xs l) (sym none) (none_there xs)

  pub wanted : {t u v w : T} {bytes said also rest left : List ℕ} {xs ys : List Learnt} → Heard k t bytes xs said rest v → Heard k u bytes ys also left w → Alike t u → AreWantedAlike xs ys
  wanted stays second alike = tt
  wanted {xs = xs} {ys = ys} (breaks end later) second alike = none_here xs ys (learns_none later end)
  wanted {xs = xs} first stays alike = none_there xs
  wanted {xs = xs} {ys = ys} first (breaks end later) alike = none_beyond xs ys (learns_none later end)
  wanted {t = t} {u = u} (hears n wants front says later) (loses x wants_there fits end later_there) alike = absurd (no_message x (same_wants t u alike want.Message x.want wants wants_there) fits)
  wanted {t = t} {u = u} (hears n wants front says later) (learns x wants_there fits says_there later_there) alike = absurd (no_message x (same_wants t u alike want.Message x.want wants wants_there) fits)
  wanted {t = t} {u = u} {bytes = bytes} (hears n wants front says later) (rejects wants_there front_there says_there later_there) alike = absurd (not_bad n (same_front t u bytes alike (Whole n) Bad front front_there))
  wanted {t = t} {u = u} {bytes = bytes} (hears {u = v} {said = said} n wants front says later) (hears {u = w} {v = end} {said = said_there} {also = more_there} {rest = left} {xs = ys} m wants_there front_there says_there later_there) alike =
      let same : n ≡ m = number_of n m (same_front t u bytes alike (Whole n) (Whole m) front front_there) in
      let both = speaks.hears t u v w (take n bytes) said said_there alike says (subst (λ (i : ℕ). k.hears u (take i bytes) said_there w) (sym same) says_there) in
      wanted later (subst (λ (i : ℕ). Heard k w (drop i bytes) ys more_there left end) (sym same) later_there) both.1
  wanted {t = t} {u = u} (rejects wants front says later) (loses x wants_there fits end later_there) alike = absurd (no_message x (same_wants t u alike want.Message x.want wants wants_there) fits)
  wanted {t = t} {u = u} (rejects wants front says later) (learns x wants_there fits says_there later_there) alike = absurd (no_message x (same_wants t u alike want.Message x.want wants wants_there) fits)
  wanted {t = t} {u = u} {bytes = bytes} (rejects wants front says later) (hears m wants_there front_there says_there later_there) alike = absurd (not_bad m (sym (same_front t u bytes alike Bad (Whole m) front front_there)))
  wanted {t = t} {u = u} (rejects {u = v} {said = said} wants front says later) (rejects {u = w} {said = said_there} wants_there front_there says_there later_there) alike =
      wanted later later_there (speaks.rejects t u v w said said_there alike says says_there).1
  wanted {t = t} {u = u} (learns x wants fits says later) (hears m wants_there front_there says_there later_there) alike = absurd (no_message x (sym (same_wants t u alike x.want want.Message wants wants_there)) fits)
  wanted {t = t} {u = u} (learns x wants fits says later) (rejects wants_there front_there says_there later_there) alike = absurd (no_message x (sym (same_wants t u alike x.want want.Message wants wants_there)) fits)
  wanted {t = t} {u = u} (learns {xs = xs} x wants fits says later) (loses {xs = ys} y wants_there fits_there end later_there) alike = (same_wants t u alike x.want y.want wants wants_there, λ same. none_beyond xs ys (learns_none later_there end))
  wanted {t = t} {u = u} (learns {u = v} {said = said} {xs = xs} x wants fits says later) (learns {u = w} {said = said_there} {xs = ys} y wants_there fits_there says_there later_there) alike = (
    same_wants t u alike x.want y.want wants wants_there,
    λ same. wanted later later_there (speaks.learns t u v w x.reply said said_there alike says (subst (λ (r : Reply). k.learns u r said_there w) (sym same) says_there)).1,
  )
  wanted {t = t} {u = u} (loses x wants fits end later) (hears m wants_there front_there says_there later_there) alike = absurd (no_message x (sym (same_wants t u alike x.want want.Message wants wants_there)) fits)
  wanted {t = t} {u = u} (loses x wants fits end later) (rejects wants_there front_there says_there later_there) alike = absurd (no_message x (sym (same_wants t u alike x.want want.Message wants wants_there)) fits)
  wanted {t = t} {u = u} (loses {xs = xs} x wants fits end later) (loses {xs = ys} y wants_there fits_there end_there later_there) alike = (same_wants t u alike x.want y.want wants wants_there, λ same. none_here xs ys (learns_none later end))
  wanted {t = t} {u = u} (loses {xs = xs} x wants fits end later) (learns {xs = ys} y wants_there fits_there says_there later_there) alike = (same_wants t u alike x.want y.want wants wants_there, λ same. none_here xs ys (learns_none later end))

  -- ---- at the end

  no_memory : (w : T) (left : List ℕ) → k.wants w ≡ want.OutOfMemory → HasSaidAll k w left → ⊥
  no_memory w left is (inl ends) = subst WantsEnd is ends
  no_memory w left is (inr said) = let contrary : want.Message ≡ want.OutOfMemory = sym said.0 ∙ is in cc

  -- whoever stands like one that has said all has no message, and learns nothing
  no_whole : (t u : T) (bytes : List ℕ) → Alike t u → HasSaidAll k t bytes → k.wants u ≡ want.Message → (n : ℕ) → k.front u bytes ≡ Whole n → ⊥
  no_whole t u bytes alike (inl ends) wants n front = subst WantsEnd (speaks.wants t u alike ∙ wants) ends
  no_whole t u bytes alike (inr said) wants n front = let contrary : Nothing ≡ Whole n = same_front t u bytes alike Nothing (Whole n) said.1 front in cc

  no_bad : (t u : T) (bytes : List ℕ) → Alike t u → HasSaidAll k t bytes → k.wants u ≡ want.Message → k.front u bytes ≡ Bad → ⊥
  no_bad t u bytes alike (inl ends) wants front = subst WantsEnd (speaks.wants t u alike ∙ wants) ends
  no_bad t u bytes alike (inr said) wants front = let contrary : Nothing ≡ Bad = same_front t u bytes alike Nothing Bad said.1 front in cc

  no_more : (t u : T) (bytes : List ℕ) → Alike t u → HasSaidAll k t bytes → (x : Learnt) → k.wants u ≡ x.want → FitsWant x.want x.reply → ⊥
  no_more t u bytes alike (inl ends) x wants fits = fits_end x.want x.reply (subst WantsEnd (speaks.wants t u alike ∙ wants) ends) fits
  no_more t u bytes alike (inr said) x wants fits = no_message x (same_wants t u alike want.Message x.want said.0 wants) fits

  -- and from the other side
  no_whole_here : (t u : T) (bytes : List ℕ) → Alike t u → HasSaidAll k u bytes → k.wants t ≡ want.Message → (n : ℕ) → k.front t bytes ≡ Whole n → ⊥
  no_whole_here t u bytes alike (inl ends) wants n front = subst WantsEnd (sym (speaks.wants t u alike) ∙ wants) ends
  no_whole_here t u bytes alike (inr said) wants n front = let contrary : Whole n ≡ Nothing = same_front t u bytes alike (Whole n) Nothing front said.1 in cc

  no_bad_here : (t u : T) (bytes : List ℕ) → Alike t u → HasSaidAll k u bytes → k.wants t ≡ want.Message → k.front t bytes ≡ Bad → ⊥
  no_bad_here t u bytes alike (inl ends) wants front = subst WantsEnd (sym (speaks.wants t u alike) ∙ wants) ends
  no_bad_here t u bytes alike (inr said) wants front = let contrary : Bad ≡ Nothing = same_front t u bytes alike Bad Nothing front said.1 in cc

  no_more_here : (t u : T) (bytes : List ℕ) → Alike t u → HasSaidAll k u bytes → (x : Learnt) → k.wants t ≡ x.want → FitsWant x.want x.reply → ⊥
  no_more_here t u bytes alike (inl ends) x wants fits = fits_end x.want x.reply (subst WantsEnd (sym (speaks.wants t u alike) ∙ wants) ends) fits
  no_more_here t u bytes alike (inr said) x wants fits = no_message x (sym (same_wants t u alike x.want want.Message wants said.0)) fits

  joins : (p q xs ys : List ℕ) → p ≡ q → xs ≡ ys → p ++ xs ≡ q ++ ys
  joins p q xs ys same more = ap (λ (l : List ℕ). l ++ xs) same ∙ ap (λ (l : List ℕ). q ++ l) more

  pub all : {t u v w : T} {bytes said also rest left : List ℕ} {xs ys : List Learnt} → Heard k t bytes xs said rest v → Heard k u bytes ys also left w → Alike t u → HasSaidAll k v rest → HasSaidAll k w left → AreFronts xs ys → said ≡ also
  all {v = v} {rest = rest} (breaks end later) second alike done done_there fronts = absurd (no_memory v rest (lost later end).1 done)
  all {v = v} {rest = rest} (loses x wants fits end later) second alike done done_there fronts = absurd (no_memory v rest (lost later end).1 done)
  all stays stays alike done done_there fronts = refl
  all {w = w} {left = left} stays (breaks end later) alike done done_there fronts = absurd (no_memory w left (lost later end).1 done_there)
  all {t = t} {u = u} {bytes = bytes} stays (loses x wants fits end later) alike done done_there fronts = absurd (no_more t u bytes alike done x wants fits)
  all {t = t} {u = u} {bytes = bytes} stays (learns x wants fits says later) alike done done_there fronts = absurd (no_more t u bytes alike done x wants fits)
  all {t = t} {u = u} {bytes = bytes} stays (hears n wants front says later) alike done done_there fronts = absurd (no_whole t u bytes alike done wants n front)
  all {t = t} {u = u} {bytes = bytes} stays (rejects wants front says later) alike done done_there fronts = absurd (no_bad t u bytes alike done wants front)
  all {t = t} {u = u} {bytes = bytes} (hears n wants front says later) stays alike done done_there fronts = absurd (no_whole_here t u bytes alike done_there wants n front)
  all {w = w} {left = left} (hears n wants front says later) (breaks end later_there) alike done done_there fronts = absurd (no_memory w left (lost later_there end).1 done_there)
  all {t = t} {u = u} (hears n wants front says later) (loses x wants_there fits end later_there) alike done done_there fronts = absurd (no_message x (same_wants t u alike want.Message x.want wants wants_there) fits)
  all {t = t} {u = u} (hears n wants front says later) (learns x wants_there fits says_there later_there) alike done done_there fronts = absurd (no_message x (same_wants t u alike want.Message x.want wants wants_there) fits)
  all {t = t} {u = u} {bytes = bytes} (hears n wants front says later) (rejects wants_there front_there says_there later_there) alike done done_there fronts = absurd (not_bad n (same_front t u bytes alike (Whole n) Bad front front_there))
  all {t = t} {u = u} {bytes = bytes} (hears {u = v} {said = said} {also = more} n wants front says later) (hears {u = w} {v = end} {said = said_there} {also = more_there} {rest = left} {xs = ys} m wants_there front_there says_there later_there) alike done done_there fronts =
      let same : n ≡ m = number_of n m (same_front t u bytes alike (Whole n) (Whole m) front front_there) in
      let both = speaks.hears t u v w (take n bytes) said said_there alike says (subst (λ (i : ℕ). k.hears u (take i bytes) said_there w) (sym same) says_there) in
      joins said said_there more more_there both.0 (all later (subst (λ (i : ℕ). Heard k w (drop i bytes) ys more_there left end) (sym same) later_there) both.1 done done_there fronts)
  all {t = t} {u = u} {bytes = bytes} (rejects wants front says later) stays alike done done_there fronts = absurd (no_bad_here t u bytes alike done_there wants front)
  all {w = w} {left = left} (rejects wants front says later) (breaks end later_there) alike done done_there fronts = absurd (no_memory w left (lost later_there end).1 done_there)
  all {t = t} {u = u} (rejects wants front says later) (loses x wants_there fits end later_there) alike done done_there fronts = absurd (no_message x (same_wants t u alike want.Message x.want wants wants_there) fits)
  all {t = t} {u = u} (rejects wants front says later) (learns x wants_there fits says_there later_there) alike done done_there fronts = absurd (no_message x (same_wants t u alike want.Message x.want wants wants_there) fits)
  all {t = t} {u = u} {bytes = bytes} (rejects wants front says later) (hears m wants_there front_there says_there later_there) alike done done_there fronts = absurd (not_bad m (sym (same_front t u bytes alike Bad (Whole m) front front_there)))
  all {t = t} {u = u} (rejects {u = v} {said = said} {also = more} wants front says later) (rejects {u = w} {said = said_there} {also = more_there} wants_there front_there says_there later_there) alike done done_there fronts =
      let both = speaks.rejects t u v w said said_there alike says says_there in
      joins said said_there more more_there both.0 (all later later_there both.1 done done_there fronts)
  all {t = t} {u = u} {bytes = bytes} (learns x wants fits says later) stays alike done done_there fronts = absurd (no_more_here t u bytes alike done_there x wants fits)
  all {w = w} {left = left} (learns x wants fits says later) (breaks end later_there) alike done done_there fronts = absurd (no_memory w left (lost later_there end).1 done_there)
  all {w = w} {left = left} (learns x wants fits says later) (loses y wants_there fits_there end later_there) alike done done_there fronts = absurd (no_memory w left (lost later_there end).1 done_there)
  all {t = t} {u = u} (learns x wants fits says later) (hears m wants_there front_there says_there later_there) alike done done_there fronts = absurd (no_message x (sym (same_wants t u alike x.want want.Message wants wants_there)) fits)
  all {t = t} {u = u} (learns x wants fits says later) (rejects wants_there front_there says_there later_there) alike done done_there fronts = absurd (no_message x (sym (same_wants t u alike x.want want.Message wants wants_there)) fits)
  all {t = t} {u = u} (learns {u = v} {said = said} {also = more} {xs = xs} x wants fits says later) (learns {u = w} {said = said_there} {also = more_there} {xs = ys} y wants_there fits_there says_there later_there) alike done done_there fronts =
      let both = within x y xs ys fronts in
      let then = speaks.learns t u v w x.reply said said_there alike says (subst (λ (z : Learnt). k.learns u z.reply said_there w) (sym both.0) says_there) in
      joins said said_there more more_there then.0 (all later later_there then.1 done done_there both.1)

-- ---- the laws

module _ (T : Type 0) (k : Ghosts T) (Alike : T → T → Type 0)
    (front_more : (t : T) (bytes more : List ℕ) (n : ℕ) → k.front t bytes ≡ Whole n → (n ≤ length bytes) × (k.front t (bytes ++ more) ≡ Whole n))
    (bad_more : (t : T) (bytes more : List ℕ) → k.front t bytes ≡ Bad → k.front t (bytes ++ more) ≡ Bad) where
  pub said_so : replies_determine_what_is_said T k Alike
  said_so speaks t u v w bytes piece said also rest left xs ys alike first second (inl (more, is)) fronts =
      goes k Alike speaks (subst (λ (b : List ℕ). Heard k t b xs said (rest ++ more) v) is (heard_more k front_more bad_more more first)) second alike fronts
  said_so speaks t u v w bytes piece said also rest left xs ys alike first second (inr (more, is)) fronts =
      goes k Alike speaks first (subst (λ (b : List ℕ). Heard k u b ys also (left ++ more) w) is (heard_more k front_more bad_more more second)) alike fronts

  pub wanted_so : replies_determine_what_is_wanted T k Alike
  wanted_so speaks t u v w bytes piece said also rest left xs ys alike first second (inl (more, is)) =
      wanted k Alike speaks (subst (λ (b : List ℕ). Heard k t b xs said (rest ++ more) v) is (heard_more k front_more bad_more more first)) second alike
  wanted_so speaks t u v w bytes piece said also rest left xs ys alike first second (inr (more, is)) =
      wanted k Alike speaks first (subst (λ (b : List ℕ). Heard k u b ys also (left ++ more) w) is (heard_more k front_more bad_more more second)) alike

pub all_said : (T : Type 0) (k : Ghosts T) (Alike : T → T → Type 0) → all_that_is_said T k Alike
all_said T k Alike speaks t u v w bytes said also rest left xs ys alike first second done done_there fronts = all k Alike speaks first second alike done done_there fronts
