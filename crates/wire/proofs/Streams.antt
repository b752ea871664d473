-- What a stream spells: one reading, however it is cut.
use Rattle.std.proofs.Common.{◌≡◌, ◌≤◌, ◌+◌, ℕ, zero, suc, Bool, true, false, List, [], ◌∷◌, ◌++◌, length, drop, refl, sym, ap, ◌∙◌, subst, append_assoc, arith}
use Rattle.std.proofs.lemmas.List.{drop-append-le, length-drop, append-nil, drop-drop}
use Rattle.sql_types.specs.declared.event.Event.{Event}
use Rattle.wire.specs.Frame.{NextFrame, incomplete, bad, whole, next_frame}
use Rattle.wire.specs.Stream.{ending, Spells, Reading, IsStream, IsFed}
use Rattle.wire.proofs.NextFrames.{incomplete_bad, incomplete_whole, bad_whole, more_bad, more_whole, whole_size, incomplete_bound}

-- ---- one reading

one_ending : (f : NextFrame) (b c : Bool) → f ≡ ending b → f ≡ ending c → b ≡ c
one_ending f true true p q = refl
one_ending f false false p q = refl
one_ending f true false p q = absurd (incomplete_bad q p)
one_ending f false true p q = absurd (incomplete_bad p q)

ending_whole : {X : Type 0} (f : NextFrame) (b : Bool) (e : Event) (n : ℕ) → f ≡ ending b → f ≡ whole e n → X
ending_whole f true e n p q = absurd (bad_whole p q)
ending_whole f false e n p q = absurd (incomplete_whole p q)

pub one_reading : (bytes : List ℕ) (es fs : List Event) (b c : Bool) (rest other : List ℕ) → Spells bytes es b rest → Spells bytes fs c other
    → (es ≡ fs) × (b ≡ c) × (rest ≡ other)
one_reading bytes [] [] b c rest other p q = (refl, one_ending (next_frame bytes) b c p.0 q.0, p.1 ∙ sym q.1)
one_reading bytes [] (f ∷ fs) b c rest other p q = ending_whole (next_frame bytes) b f q.0 p.0 q.1
one_reading bytes (e ∷ es) [] b c rest other p q = ending_whole (next_frame bytes) c e p.0 q.0 p.1
one_reading bytes (e ∷ es) (f ∷ fs) b c rest other p q =
    let same : whole e p.0 ≡ whole f q.0 = sym p.1 ∙ q.1 in
    let event : e ≡ f = cc in
    let size : p.0 ≡ q.0 = cc in
    let later = one_reading (drop p.0 bytes) es fs b c rest other p.2 (subst (λ (n : ℕ). Spells (drop n bytes) fs c other) (sym size) q.2) in
    let tails : es ≡ fs = later.0 in
    (cc, later.1, later.2)

-- ---- there is one

stop : (bytes : List ℕ) (b : Bool) → next_frame bytes ≡ ending b → Reading bytes
stop bytes b e = record { events = []; is_bad = b; rest = bytes; spelled = (e, refl) }

grown : (bytes : List ℕ) (e : Event) (size : ℕ) → next_frame bytes ≡ whole e size → Reading (drop size bytes) → Reading bytes
grown bytes e size is later = record { events = e ∷ later.events; is_bad = later.is_bad; rest = later.rest; spelled = (size, is, later.spelled) }

pub reading_within : (bound : ℕ) (bytes : List ℕ) → length bytes ≤ bound → Reading bytes
reading_within zero bytes le = go (next_frame bytes) refl
  where
    go : (f : NextFrame) → next_frame bytes ≡ f → Reading bytes
    go incomplete is = stop bytes false is
    go bad is = stop bytes true is
    go (whole e size) is = let s = whole_size bytes e size is in absurd (omega (arith, s.0, s.1, le))
reading_within (suc n) bytes le = go (next_frame bytes) refl (λ (size : ℕ) (h : length (drop size bytes) ≤ n). reading_within n (drop size bytes) h)
  where
    go : (f : NextFrame) → next_frame bytes ≡ f → ((size : ℕ) → length (drop size bytes) ≤ n → Reading (drop size bytes)) → Reading bytes
    go incomplete is later = stop bytes false is
    go bad is later = stop bytes true is
    go (whole e size) is later =
        let s = whole_size bytes e size is in
        grown bytes e size is (later size (omega (arith, s.0, s.1, le, length-drop size bytes)))

pub reading : (bytes : List ℕ) → Reading bytes
reading bytes = reading_within (length bytes) bytes (omega arith)

-- ---- any cutting

-- events that follow those of a beginning
pub spells_on : (bytes more : List ℕ) (es fs : List Event) (b : Bool) (rest last : List ℕ) → Spells bytes es false rest → Spells (rest ++ more) fs b last
    → Spells (bytes ++ more) (es ++ fs) b last
spells_on bytes more [] fs b rest last p q = subst (λ (r : List ℕ). Spells (r ++ more) fs b last) p.1 q
spells_on bytes more (e ∷ es) fs b rest last p q =
    let s = whole_size bytes e p.0 p.1 in
    let later = spells_on (drop p.0 bytes) more es fs b rest last p.2 q in
    (p.0, more_whole bytes more e p.0 p.1, subst (λ (r : List ℕ). Spells r (es ++ fs) b last) (sym (drop-append-le p.0 bytes more s.1)) later)

-- behind a bad frame nothing is read
pub spells_bad : (bytes more : List ℕ) (es : List Event) (rest : List ℕ) → Spells bytes es true rest → Spells (bytes ++ more) es true (rest ++ more)
spells_bad bytes more [] rest p = (more_bad bytes more p.0, ap (λ (r : List ℕ). r ++ more) p.1)
spells_bad bytes more (e ∷ es) rest p =
    let s = whole_size bytes e p.0 p.1 in
    let later = spells_bad (drop p.0 bytes) more es rest p.2 in
    (p.0, more_whole bytes more e p.0 p.1, subst (λ (r : List ℕ). Spells r es true (rest ++ more)) (sym (drop-append-le p.0 bytes more s.1)) later)

-- events that were read at the front of bytes, and what follows them
pub record Behind (bytes : List ℕ) (es : List Event) (rest : List ℕ) : Type 0 where
  pub then : (fs : List Event) (b : Bool) (last : List ℕ) → Spells rest fs b last → Spells bytes (es ++ fs) b last

pub nothing_read : (bytes : List ℕ) → Behind bytes [] bytes
nothing_read bytes = record { then = λ fs b last p. p }

-- one event more
pub event_read : (bytes : List ℕ) (es : List Event) (e : Event) (end size : ℕ) → Behind bytes es (drop end bytes) → next_frame (drop end bytes) ≡ whole e size
    → Behind bytes (es ++ (e ∷ [])) (drop (end + size) bytes)
event_read bytes es e end size so_far is = record {
  then = λ fs b last p.
      let rest : Spells (drop size (drop end bytes)) fs b last = subst (λ (r : List ℕ). Spells r fs b last) (sym (drop-drop size end bytes)) p in
      subst (λ (gs : List Event). Spells bytes gs b last) (sym (append_assoc es (e ∷ []) fs)) (so_far.then (e ∷ fs) b last (size, is, rest));
}

-- the end of the events
pub all_read : (bytes : List ℕ) (es : List Event) (end : ℕ) (b : Bool) → Behind bytes es (drop end bytes) → next_frame (drop end bytes) ≡ ending b → Spells bytes es b (drop end bytes)
all_read bytes es end b so_far is = subst (λ (gs : List Event). Spells bytes gs b (drop end bytes)) (append-nil es) (so_far.then [] b (drop end bytes) (is, refl))

-- ---- pieces

-- what follows the events
pub rest_front : (bytes : List ℕ) (es : List Event) (b : Bool) (rest : List ℕ) → Spells bytes es b rest → next_frame rest ≡ ending b
rest_front bytes [] b rest p = ap next_frame p.1 ∙ p.0
rest_front bytes (e ∷ es) b rest p = rest_front (drop p.0 bytes) es b rest p.2

-- what follows the events where no bad frame does
pub rest_bound : (bytes : List ℕ) (es : List Event) (b : Bool) (rest : List ℕ) → Spells bytes es b rest → b ≡ false → length rest ≤ 131075
rest_bound bytes es true rest p good = absurd cc
rest_bound bytes es false rest p good = incomplete_bound rest (rest_front bytes es false rest p)

stream_of : (bytes : List ℕ) (es : List Event) (b : Bool) (rest : List ℕ) → Spells bytes es b rest → IsStream bytes es b rest
stream_of bytes es false rest p = p
stream_of bytes es true rest p = (rest_front bytes es true rest p, (rest, p))

ended_stream : (bytes : List ℕ) (es fs : List Event) (c : Bool) (held new : List ℕ) → fs ≡ [] → c ≡ true → new ≡ held → IsStream bytes es true held → IsStream bytes (es ++ fs) c new
ended_stream bytes es fs c held new none ended same was = rw (none, ended, same, append-nil es) was

-- a stream goes on by a piece
pub stream_fed : (bytes piece : List ℕ) (es fs : List Event) (b c : Bool) (held new : List ℕ) → IsStream bytes es b held → IsFed held piece fs c new → IsStream (bytes ++ piece) (es ++ fs) c new
stream_fed bytes piece es fs false c held new was fed =
    stream_of (bytes ++ piece) (es ++ fs) c new (spells_on bytes piece es fs c held new was (fed.1 (λ is. incomplete_bad (rest_front bytes es false held was) is)))
stream_fed bytes piece es fs true c held new was fed =
    let ended = fed.0 was.0 in
    ended_stream (bytes ++ piece) es fs c held new ended.0 ended.1 ended.2 (was.0, (was.1.0 ++ piece, spells_bad bytes piece es was.1.0 was.1.1))

pub stream_spelled : (bytes : List ℕ) (es : List Event) (b : Bool) (held : List ℕ) → IsStream bytes es b held → (rest : List ℕ) × Spells bytes es b rest
stream_spelled bytes es false held is = (held, is)
stream_spelled bytes es true held is = is.1

-- what is held back and a piece were read
pub spells_fed : (bytes old piece whole_piece : List ℕ) (es fs : List Event) (b c : Bool) (new : List ℕ) → IsStream bytes es b old → (next_frame old ≡ bad → ⊥) → whole_piece ≡ old ++ piece
    → Spells whole_piece fs c new → IsStream (bytes ++ piece) (es ++ fs) c new
spells_fed bytes old piece whole_piece es fs b c new was open_yet joins p =
    stream_fed bytes piece es fs b c old new was ((λ is. absurd (open_yet is)), (λ open_still. subst (λ (r : List ℕ). Spells r fs c new) joins p))
