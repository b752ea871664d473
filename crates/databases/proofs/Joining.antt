-- Runs with their moments, one after the other.
use Rattle.std.proofs.Common.{◌≡◌, ◌≤◌, ℕ, List, [], ◌∷◌, ◌++◌, Option, refl, ap, subst, arith}
use Rattle.sector_device.specs.Timeline.{Timeline}
use Rattle.sql_types.specs.declared.answer.Answer.{Answer}
use Rattle.sql_types.specs.declared.event.Event.{Event}
use Rattle.store.specs.Store.{StoreState, Contents}
use Rattle.abstract_database.specs.Runs.{ReadingRelation, RanBy, Stops, At, Happens}
use Rattle.server.specs.declared.server.Server.{Server}
use Rattle.server.specs.Standing.{Represents, event_of, events_of, stops_of}
use Rattle.server.specs.Runs.{Runs}
use Rattle.databases.specs.Lives.{ClientEvent, all_of_client, RanAt, RunsAt}
use Rattle.databases.proofs.Living.{happens_past}

module _ (Reads : ReadingRelation) where
  -- moments do not go back
  pub ran_later : (Leave : Stops) (w end : At) (events : List ClientEvent) (told : List Answer) (moments : List ℕ) → RanAt Reads Leave w events told moments end → w.moment ≤ end.moment
  ran_later Leave w end [] [] [] ran = let same : end.moment ≡ w.moment = ap (λ (z : At). z.moment) ran in omega (arith, same)
  ran_later Leave w end (e ∷ events) (answer ∷ told) (m ∷ moments) ran =
      let first = ran.2.later in
      let rest = ran_later Leave ran.0 end events told moments ran.3 in
      omega (arith, first, rest)
  ran_later Leave w end events told moments ran = absurd ran

  -- what is said of earlier moments does not grow
  ran_past : (t u : Timeline (Option Contents)) (w end : At) (events : List ClientEvent) (told : List Answer) (moments : List ℕ)
      → ((a b : ℕ) (x : Option Contents) → b ≤ t.moment → u.stops a b x → t.stops a b x) → end.moment ≤ t.moment
      → RanAt Reads (stops_of t) w events told moments end → RanAt Reads (stops_of u) w events told moments end
  ran_past t u w end [] [] [] past le ran = ran
  ran_past t u w end (e ∷ events) (answer ∷ told) (m ∷ moments) past le ran =
      let rest = ran_later (stops_of t) ran.0 end events told moments ran.3 in
      (ran.0, ran.1, happens_past Reads t u w ran.0 (event_of e.client e.event) answer past (omega (arith, le, rest)) ran.2, ran_past t u ran.0 end events told moments past le ran.3)
  ran_past t u w end events told moments past le ran = absurd ran

  -- two runs are one
  ran_joined : (Leave : Stops) (w mid end : At) (events more : List ClientEvent) (told others : List Answer) (moments later : List ℕ)
      → RanAt Reads Leave w events told moments mid → RanAt Reads Leave mid more others later end
      → RanAt Reads Leave w (events ++ more) (told ++ others) (moments ++ later) end
  ran_joined Leave w mid end [] more [] others [] later ran rest = subst (λ (z : At). RanAt Reads Leave z more others later end) ran rest
  ran_joined Leave w mid end (e ∷ events) more (answer ∷ told) others (m ∷ moments) later ran rest =
      (ran.0, ran.1, ran.2, ran_joined Leave ran.0 mid end events more told others moments later ran.3 rest)
  ran_joined Leave w mid end events more told others moments later ran rest = absurd ran

  -- a run has moments
  ran_at : (Leave : Stops) (client : ℕ) (w end : At) (events : List Event) (told : List Answer) → RanBy (Happens Reads Leave) w (events_of client events) told end
      → (moments : List ℕ) × RanAt Reads Leave w (all_of_client client events) told moments end
  ran_at Leave client w end [] [] ran = ([], ran)
  ran_at Leave client w end (e ∷ events) (answer ∷ told) ran =
      let rest = ran_at Leave client ran.0 end events told ran.2 in
      (ran.0.moment ∷ rest.0, (ran.0, refl, ran.1, rest.1))
  ran_at Leave client w end [] (answer ∷ told) ran = absurd ran
  ran_at Leave client w end (e ∷ events) [] ran = absurd ran

module _ {S X : Type 0} (Reads : ReadingRelation) (state : S → StoreState) where
  -- nothing was done
  pub runs_none : (server : Server S X) (w : At) → Represents state server w → RunsAt Reads state server w [] [] [] server
  runs_none server w here = (w, here, refl, λ a b x le stop. stop)

  -- a run of a server has moments
  pub runs_at : (client : ℕ) (first last : Server S X) (w : At) (events : List Event) (told : List Answer) → Runs Reads state client first events told last → (state first.store).sound
      → Represents state first w → (moments : List ℕ) × RunsAt Reads state first w (all_of_client client events) told moments last
  runs_at client first last w events told runs sound here =
      let ran = runs sound w here in
      let it = ran_at Reads (stops_of (state last.store).time) client w ran.0 events told ran.2 in
      (it.0, (ran.0, ran.1, it.1, ran.3))

  -- a run, and another that begins where it ends
  pub runs_joined : (first mid last : Server S X) (w : At) (events more : List ClientEvent) (told others : List Answer) (moments later : List ℕ) → Represents state first w
      → (ran : RunsAt Reads state first w events told moments mid) → RunsAt Reads state mid ran.0 more others later last
      → RunsAt Reads state first w (events ++ more) (told ++ others) (moments ++ later) last
  runs_joined first mid last w events more told others moments later here ran rest =
      let began = here.moment in
      let stands = ran.1.moment in
      let since = ran_later Reads (stops_of (state mid.store).time) w ran.0 events told moments ran.2 in (
        rest.0,
        rest.1,
        ran_joined Reads (stops_of (state last.store).time) w ran.0 rest.0 events more told others moments later
            (ran_past Reads (state mid.store).time (state last.store).time w ran.0 events told moments rest.3 (omega (arith, stands)) ran.2) rest.2,
        λ a b x le stop. ran.3 a b x le (rest.3 a b x (omega (arith, le, began, stands, since)) stop),
      )
