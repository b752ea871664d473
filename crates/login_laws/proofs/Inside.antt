-- What a conversation of one of several kinds hears, as one of its kind, and whether its client is entitled to what it wants.
use Rattle.std.proofs.Common.{◌≡◌, ◌∙◌, ◌⊎◌, ℕ, List, [], ◌∷◌, ◌++◌, take, refl, ap, sym, subst, inl, inr}
use Rattle.std.proofs.lemmas.List.{append-nil, append_assoc}
use Rattle.std.specs.List.{AllByRecursion}
use Rattle.store.specs.Store.{StoreState}
use Rattle.abstract_database.specs.Lists.{TheName}
use Rattle.talks.specs.Wants.{Learnt, FitsWant}
use Rattle.talks.specs.Conversations.{Heard, stays, hears, rejects, learns, loses, breaks}
use Rattle.talks.specs.declared.talk.MessageFront.{MessageFront}
use Rattle.talks.specs.declared.talk.Talk.{Ghosts}
use Rattle.talks.specs.declared.want.Want.{Want}
use Rattle.talks.specs.declared.want.Want.TheVariants as want
use Rattle.talks.specs.declared.want.Reply.{Reply}
use Rattle.login_laws.specs.Done.{Done, told_in}
use Rattle.login_laws.specs.Entitled.{WantsAsEntitled, WantedAsEntitled}
use Rattle.login_laws.proofs.Doing.{FindsKeptText}

-- once memory was refused nothing is learnt or said
pub silent : {U : Type 0} (outer : Ghosts U) {t u : U} {bytes said rest : List ℕ} {xs : List Learnt} → Heard outer t bytes xs said rest u → outer.wants t ≡ want.OutOfMemory
    → (xs ≡ []) × (said ≡ []) × (outer.wants u ≡ want.OutOfMemory)
silent outer stays lost = (refl, refl, lost)
silent outer (hears n wants front says later) lost = let wrong : want.Message ≡ want.OutOfMemory = sym wants ∙ lost in cc
silent outer (rejects wants front says later) lost = let wrong : want.Message ≡ want.OutOfMemory = sym wants ∙ lost in cc
silent outer (learns x wants fits says later) lost = absurd (subst (λ (w : Want). FitsWant w x.reply) (sym wants ∙ lost) fits)
silent outer (loses x wants fits end later) lost = absurd (subst (λ (w : Want). FitsWant w x.reply) (sym wants ∙ lost) fits)
silent outer (breaks end later) lost = silent outer later end

-- ---- of its kind

-- the last thing that was told may be lost, where a conversation that stands so wanted it
abbrev pub IsLost : {T : Type 0} → Ghosts T → T → List Learnt → Type 0
IsLost k last [] = Unit {0}
IsLost k last (x ∷ []) = k.wants last ≡ x.want
IsLost k last (x ∷ y ∷ more) = ⊥

-- a conversation heard this by itself, but for what was lost in the end; then its end is wanted next, and else what it wants
pub record HeardInside {T : Type 0} (k : Ghosts T) (t : T) (bytes : List ℕ) (xs : List Learnt) (said : List ℕ) (next : Want) : Type 0 where
  pub last : T
  pub rest : List ℕ
  pub known : List Learnt
  pub heard : Heard k t bytes known said rest last
  pub lost : List Learnt
  pub all : xs ≡ known ++ lost
  pub is_lost : IsLost k last lost
  pub next_is : ((next ≡ k.wants last) × (lost ≡ [])) ⊎ (next ≡ want.OutOfMemory)

-- `embed` makes of a conversation of a kind one of all kinds
module _ {T U : Type 0} (k : Ghosts T) (outer : Ghosts U) (embed : T → U)
    (wants_is : (a : T) → outer.wants (embed a) ≡ k.wants a)
    (front_is : (a : T) (bytes : List ℕ) → outer.front (embed a) bytes ≡ k.front a bytes)
    (hears_is : (a : T) (u : U) (message said : List ℕ) → outer.hears (embed a) message said u → (b : T) × (u ≡ embed b) × k.hears a message said b)
    (rejects_is : (a : T) (u : U) (said : List ℕ) → outer.rejects (embed a) said u → (b : T) × (u ≡ embed b) × k.rejects a said b)
    (learns_is : (a : T) (u : U) (r : Reply) (said : List ℕ) → outer.learns (embed a) r said u → (b : T) × (u ≡ embed b) × k.learns a r said b) where
  wanted_inside : (t : U) (a : T) (w : Want) → t ≡ embed a → outer.wants t ≡ w → k.wants a ≡ w
  wanted_inside t a w at is = sym (wants_is a) ∙ ap (λ (x : U). outer.wants x) (sym at) ∙ is

  front_inside : (t : U) (a : T) (bytes : List ℕ) (f : MessageFront) → t ≡ embed a → outer.front t bytes ≡ f → k.front a bytes ≡ f
  front_inside t a bytes f at is = sym (front_is a bytes) ∙ ap (λ (x : U). outer.front x bytes) (sym at) ∙ is

  ends_here : (a : T) (bytes : List ℕ) (lost : List Learnt) (next : Want) → IsLost k a lost → ((next ≡ k.wants a) × (lost ≡ [])) ⊎ (next ≡ want.OutOfMemory) → HeardInside k a bytes lost [] next
  ends_here a bytes lost next is next_is = record { last = a; rest = bytes; known = []; heard = stays; lost = lost; all = refl; is_lost = is; next_is = next_is }

  pub heard_inside : {t u : U} {bytes said rest : List ℕ} {xs : List Learnt} → Heard outer t bytes xs said rest u → (a : T) → t ≡ embed a → HeardInside k a bytes xs said (outer.wants u)
  heard_inside {t = t} {bytes = bytes} stays a at = ends_here a bytes [] (outer.wants t) tt (inl (sym (wanted_inside t a (outer.wants t) at refl), refl))
  heard_inside {t = t} (hears {u = u} {bytes = bytes} {said = saying} n wants front says later) a at =
      let it = hears_is a u (take n bytes) saying (subst (λ (x : U). outer.hears x (take n bytes) saying u) at says) in
      let on = heard_inside later it.0 it.1 in record {
        last = on.last;
        rest = on.rest;
        known = on.known;
        heard = hears n (wanted_inside t a want.Message at wants) (front_inside t a bytes _ at front) it.2 on.heard;
        lost = on.lost;
        all = on.all;
        is_lost = on.is_lost;
        next_is = on.next_is;
      }
  heard_inside {t = t} (rejects {u = u} {bytes = bytes} {said = saying} wants front says later) a at =
      let it = rejects_is a u saying (subst (λ (x : U). outer.rejects x saying u) at says) in
      let on = heard_inside later it.0 it.1 in record {
        last = on.last;
        rest = on.rest;
        known = on.known;
        heard = rejects (wanted_inside t a want.Message at wants) (front_inside t a bytes _ at front) it.2 on.heard;
        lost = on.lost;
        all = on.all;
        is_lost = on.is_lost;
        next_is = on.next_is;
      }
  heard_inside {t = t} (learns {u = u} {said = saying} x wants fits says later) a at =
      let it = learns_is a u x.reply saying (subst (λ (y : U). outer.learns y x.reply saying u) at says) in
      let on = heard_inside later it.0 it.1 in record {
        last = on.last;
        rest = on.rest;
        known = x ∷ on.known;
        heard = learns x (wanted_inside t a x.want at wants) fits it.2 on.heard;
        lost = on.lost;
        all = ap (λ (l : List Learnt). x ∷ l) on.all;
        is_lost = on.is_lost;
        next_is = on.next_is;
      }
  heard_inside {t = t} {u = v} (loses {bytes = bytes} {also = also} {xs = ys} x wants fits end later) a at =
      let none = silent outer later end in
      rw (none.0, none.1) (ends_here a bytes (x ∷ []) (outer.wants v) (wanted_inside t a x.want at wants) (inr none.2))
  heard_inside {t = t} {u = v} (breaks {bytes = bytes} {also = also} {xs = ys} end later) a at =
      let none = silent outer later end in
      rw (none.0, none.1) (ends_here a bytes [] (outer.wants v) tt (inr none.2))

-- ---- what was done

pub first_same : (a b : Learnt) (ls ks : List Learnt) → a ∷ ls ≡ b ∷ ks → a ≡ b
first_same a b ls ks is = cc

pub rest_same : (a b : Learnt) (ls ks : List Learnt) → a ∷ ls ≡ b ∷ ks → ls ≡ ks
rest_same a b ls ks is = cc

-- what was done, in two parts, as it was told
record Parted {S X : Type 0} (xs : List (Done S X)) (known lost : List Learnt) : Type 0 where
  pub ks : List (Done S X)
  pub ls : List (Done S X)
  pub is_all : xs ≡ ks ++ ls
  pub first : told_in ks ≡ known
  pub last : told_in ls ≡ lost

parted : {S X : Type 0} (xs : List (Done S X)) (known lost : List Learnt) → told_in xs ≡ known ++ lost → Parted xs known lost
parted xs [] lost is = record { ks = []; ls = xs; is_all = refl; first = refl; last = is }
parted [] (l ∷ known) lost is = absurd (let no : ⊥ = cc in no)
parted {S} {X} (x ∷ xs) (l ∷ known) lost is =
    let it = parted xs known lost (rest_same _ _ _ _ is) in record {
      ks = x ∷ it.ks;
      ls = it.ls;
      is_all = ap (λ (ds : List (Done S X)). x ∷ ds) it.is_all;
      first = ap (λ (m : Learnt). m ∷ told_in it.ks) (first_same _ _ _ _ is) ∙ ap (λ (ms : List Learnt). l ∷ ms) it.first;
      last = it.last;
    }

first_all : {A : Type 0} (P : A → Type 0) (xs ys : List A) → AllByRecursion P (xs ++ ys) → AllByRecursion P xs
first_all P [] ys all = tt
first_all P (x ∷ xs) ys all = (all.0, first_all P xs ys all.1)

module _ {S X T : Type 0} (state : S → StoreState) (E : List (Done S X) → TheName → Type 0) (k : Ghosts T) (t : T) (sent said : List ℕ)
    (law : (u : T) (rest : List ℕ) (ks : List (Done S X)) → Heard k t sent (told_in ks) said rest u → AllByRecursion (FindsKeptText state) ks → WantedAsEntitled E [] ks × WantsAsEntitled E ks (k.wants u)) where
  one_more : (before ks : List (Done S X)) (x : Done S X) → WantedAsEntitled E before ks → WantsAsEntitled E (before ++ ks) x.exchange.want → WantedAsEntitled E before (ks ++ x ∷ [])
  one_more before [] x all next = (subst (λ (l : List (Done S X)). WantsAsEntitled E l x.exchange.want) (append-nil before) next, tt)
  one_more before (y ∷ ks) x all next =
      (all.0, one_more (before ++ y ∷ []) ks x all.1 (subst (λ (l : List (Done S X)). WantsAsEntitled E l x.exchange.want) (sym (append_assoc before (y ∷ []) ks)) next))

  with_lost : (last : T) (ks ls : List (Done S X)) → WantedAsEntitled E [] ks × WantsAsEntitled E ks (k.wants last) → IsLost k last (told_in ls) → WantedAsEntitled E [] (ks ++ ls)
  with_lost last ks [] it lost = subst (λ (l : List (Done S X)). WantedAsEntitled E [] l) (sym (append-nil ks)) it.0
  with_lost last ks (x ∷ []) it lost = one_more [] ks x it.0 (subst (λ (w : Want). WantsAsEntitled E ks w) lost it.1)
  with_lost last ks (x ∷ y ∷ ls) it lost = absurd lost

  none_done : (ls : List (Done S X)) → told_in ls ≡ [] → ls ≡ []
  none_done [] is = refl
  none_done (x ∷ ls) is = absurd (let no : ⊥ = cc in no)

  wants_next : (last : T) (next : Want) (xs ks ls : List (Done S X)) (lost : List Learnt) → xs ≡ ks ++ ls → told_in ls ≡ lost → WantsAsEntitled E ks (k.wants last)
      → ((next ≡ k.wants last) × (lost ≡ [])) ⊎ (next ≡ want.OutOfMemory) → WantsAsEntitled E xs next
  wants_next last next xs ks ls lost all told it (inl same) =
      let none = none_done ls (told ∙ same.1) in
      subst (λ (w : Want). WantsAsEntitled E xs w) (sym same.0)
      (subst (λ (l : List (Done S X)). WantsAsEntitled E l (k.wants last)) (sym (all ∙ (ap (λ (l : List (Done S X)). ks ++ l) none ∙ append-nil ks))) it)
  wants_next last next xs ks ls lost all told it (inr over) = subst (λ (w : Want). WantsAsEntitled E xs w) (sym over) tt

  pub entitled_inside : (xs : List (Done S X)) {next : Want} → HeardInside k t sent (told_in xs) said next → AllByRecursion (FindsKeptText state) xs → WantedAsEntitled E [] xs × WantsAsEntitled E xs next
  entitled_inside xs {next} it finds =
      let parts = parted xs it.known it.lost it.all in
      let both = law it.last it.rest parts.ks (subst (λ (l : List Learnt). Heard k t sent l said it.rest it.last) (sym parts.first) it.heard)
      (first_all (FindsKeptText state) parts.ks parts.ls (subst (λ (l : List (Done S X)). AllByRecursion (FindsKeptText state) l) parts.is_all finds)) in (
        subst (λ (l : List (Done S X)). WantedAsEntitled E [] l) (sym parts.is_all) (with_lost it.last parts.ks parts.ls both (subst (λ (l : List Learnt). IsLost k it.last l) (sym parts.last) it.is_lost)),
        wants_next it.last next xs parts.ks parts.ls it.lost parts.is_all parts.last both.1 it.next_is,
      )
