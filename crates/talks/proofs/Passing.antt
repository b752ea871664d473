-- One thing after the other, for one client.
use Rattle.std.proofs.Common.{◌≡◌, ◌∙◌, ◌≤◌, ℕ, List, [], ◌∷◌, ◌++◌, length, Option, Some, None, refl, ap, sym, subst}
use Rattle.std.proofs.lemmas.List.{append-nil, append_assoc, take-append-le, drop-append-le}
use Rattle.std.proofs.KnownBytes.{Consumes-nil, Consumes-trans, Appends-nil, Appends-trans}
use Rattle.talks.specs.declared.talk.Talk.{Ghosts}
use Rattle.talks.specs.declared.talk.MessageFront.TheVariants.{Whole, Bad}
use Rattle.talks.specs.declared.clients.EndCause.{EndCause}
use Rattle.talks.specs.Wants.{Learnt}
use Rattle.talks.specs.Conversations.{Heard, stays, hears, rejects, learns, loses, breaks, Conversation, told, ClientState, awaited, there, gone, EndsOnce, Continues, Passes}

ends_stay : (a : Option EndCause) → EndsOnce a [] a
ends_stay None = tt
ends_stay (Some w) = (refl, refl)

ends_on : (a b d : Option EndCause) (xs ys : List Learnt) → EndsOnce a xs b → EndsOnce b ys d → EndsOnce a (xs ++ ys) d
ends_on None b d xs ys first next = tt
ends_on (Some w) b d xs ys first next =
    let then : EndsOnce (Some w) ys d = subst (λ (o : Option EndCause). EndsOnce o ys d) first.1 next in
    (ap (λ (l : List Learnt). l ++ ys) first.0 ∙ then.0, then.1)

module _ {T : Type 0} (k : Ghosts T)
    (front_more : (t : T) (bytes more : List ℕ) (n : ℕ) → k.front t bytes ≡ Whole n → (n ≤ length bytes) × (k.front t (bytes ++ more) ≡ Whole n))
    (bad_more : (t : T) (bytes more : List ℕ) → k.front t bytes ≡ Bad → k.front t (bytes ++ more) ≡ Bad) where
  pub heard_more : (more : List ℕ) {t u : T} {bytes said rest : List ℕ} {xs : List Learnt} → Heard k t bytes xs said rest u → Heard k t (bytes ++ more) xs said (rest ++ more) u
  heard_more more stays = stays
  heard_more more (hears {t = t} {u = u} {v = v} {bytes = bytes} {said = said} {also = also} {rest = rest} {xs = xs} n wants front says later) =
      let whole = front_more t bytes more n front in
      hears n wants whole.1 (subst (λ (m : List ℕ). k.hears t m said u) (sym (take-append-le n bytes more whole.0)) says)
      (subst (λ (m : List ℕ). Heard k u m xs also (rest ++ more) v) (sym (drop-append-le n bytes more whole.0)) (heard_more more later))
  heard_more more (rejects {t = t} {bytes = bytes} wants front says later) = rejects wants (bad_more t bytes more front) says (heard_more more later)
  heard_more more (learns x wants fits says later) = learns x wants fits says (heard_more more later)
  heard_more more (loses x wants fits end later) = loses x wants fits end (heard_more more later)
  heard_more more (breaks end later) = breaks end (heard_more more later)

  -- one after the other, over the same bytes
  pub heard_on : {t u v : T} {bytes said rest also left : List ℕ} {xs ys : List Learnt} → Heard k t bytes xs said rest u → Heard k u rest ys also left v → Heard k t bytes (xs ++ ys) (said ++ also) left v
  heard_on stays next = next
  heard_on {t = t} {v = w} {also = also} {left = left} {ys = ys} (hears {u = u} {bytes = bytes} {said = said} {also = more} {xs = xs} n wants front says later) next =
      subst (λ (s : List ℕ). Heard k t bytes (xs ++ ys) s left w) (sym (append_assoc said more also)) (hears n wants front says (heard_on later next))
  heard_on {t = t} {v = w} {also = also} {left = left} {ys = ys} (rejects {bytes = bytes} {said = said} {also = more} {xs = xs} wants front says later) next =
      subst (λ (s : List ℕ). Heard k t bytes (xs ++ ys) s left w) (sym (append_assoc said more also)) (rejects wants front says (heard_on later next))
  heard_on {t = t} {v = w} {also = also} {left = left} {ys = ys} (learns {bytes = bytes} {said = said} {also = more} {xs = xs} x wants fits says later) next =
      subst (λ (s : List ℕ). Heard k t bytes (x ∷ (xs ++ ys)) s left w) (sym (append_assoc said more also)) (learns x wants fits says (heard_on later next))
  heard_on (loses x wants fits end later) next = loses x wants fits end (heard_on later next)
  heard_on (breaks end later) next = breaks end (heard_on later next)

  continues_stay : (x : Conversation T) → Continues k x [] x
  continues_stay x =
      ([], [], Consumes-nil x.remaining, subst (λ (b : List ℕ). Heard k x.talk b [] [] x.held x.talk) (sym (append-nil x.held)) stays, Appends-nil (told x), refl, ends_stay x.end_cause)

  continues_on : (x y z : Conversation T) (xs ys : List Learnt) → Continues k x xs y → Continues k y ys z → Continues k x (xs ++ ys) z
  continues_on x y z xs ys (came, said, consumes, heard, appends, limited, ends) (came2, said2, consumes2, heard2, appends2, limited2, ends2) = (
    came ++ came2,
    said ++ said2,
    Consumes-trans x.remaining y.remaining z.remaining came came2 consumes consumes2,
    subst (λ (b : List ℕ). Heard k x.talk b (xs ++ ys) (said ++ said2) z.held z.talk) (append_assoc x.held came came2) (heard_on (heard_more came2 heard) heard2),
    Appends-trans (told x) (told y) (told z) said said2 appends appends2,
    limited2 ∙ limited,
    ends_on x.end_cause y.end_cause z.end_cause xs ys ends ends2,
  )

  pub passes_stay : (made : T → Type 0) (a : ClientState T) → Passes k made a [] a
  passes_stay made (awaited bytes) = (refl, refl)
  passes_stay made (there x) = continues_stay x
  passes_stay made (gone sent) = (refl, refl)

  pub passes_on : (made : T → Type 0) (a b d : ClientState T) (xs ys : List Learnt) → Passes k made a xs b → Passes k made b ys d → Passes k made a (xs ++ ys) d
  passes_on made (awaited p) (awaited q) (awaited r) xs ys first next = (ap (λ (l : List Learnt). l ++ ys) first.0 ∙ next.0, next.1 ∙ first.1)
  passes_on made (awaited p) (awaited q) (there z) xs ys first next =
      rw (first.0) (subst (λ (o : Option (List ℕ)). Passes k made (awaited o) ys (there z)) first.1 next)
  passes_on made (awaited p) (awaited q) (gone sent) xs ys first next =
      rw (first.0) (subst (λ (o : Option (List ℕ)). Passes k made (awaited o) ys (gone sent)) first.1 next)
  passes_on made (awaited p) (there y) (awaited r) xs ys first next = absurd next
  passes_on made (awaited p) (there y) (there z) xs ys first next = (first.0, first.1, continues_on first.0 y z xs ys first.2 next)
  passes_on made (awaited p) (there y) (gone sent) xs ys first next = (first.0, first.1, (next.0, continues_on first.0 y next.0 xs ys first.2 next.1, next.2, next.3))
  passes_on made (awaited p) (gone said) (awaited r) xs ys first next = absurd next
  passes_on made (awaited p) (gone said) (there z) xs ys first next = absurd next
  passes_on made (awaited p) (gone said) (gone sent) xs ys first next = rw (next.0, next.1, append-nil xs) first
  passes_on made (there x) (awaited q) d xs ys first next = absurd first
  passes_on made (there x) (there y) (awaited r) xs ys first next = absurd next
  passes_on made (there x) (there y) (there z) xs ys first next = continues_on x y z xs ys first next
  passes_on made (there x) (there y) (gone sent) xs ys first next = (next.0, continues_on x y next.0 xs ys first next.1, next.2, next.3)
  passes_on made (there x) (gone said) (awaited r) xs ys first next = absurd next
  passes_on made (there x) (gone said) (there z) xs ys first next = absurd next
  passes_on made (there x) (gone said) (gone sent) xs ys first next = rw (next.0, next.1, append-nil xs) first
  passes_on made (gone p) (awaited q) d xs ys first next = absurd first
  passes_on made (gone p) (there y) d xs ys first next = absurd first
  passes_on made (gone p) (gone said) (awaited r) xs ys first next = absurd next
  passes_on made (gone p) (gone said) (there z) xs ys first next = absurd next
  passes_on made (gone p) (gone said) (gone sent) xs ys first next = (ap (λ (l : List Learnt). l ++ ys) first.0 ∙ next.0, next.1 ∙ first.1)
