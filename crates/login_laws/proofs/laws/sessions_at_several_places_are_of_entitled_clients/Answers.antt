use Rattle.std.proofs.Common.{refl}
use Rattle.login_laws.specs.Places.{EntitledAt, drawn_of, place_of}
use Rattle.login_laws.proofs.Entitling.{wanted_so, opened_as, answered_so}
use Rattle.login_laws.proofs.Entries.{all_barred, entered_entitled, none_let_in}
use Rattle.login_laws.proofs.Placed.{all_kinds, placed_entitled, placed_front_more, placed_bad_more}
use Rattle.login_laws.proofs.laws.sessions_at_several_places_are_of_entitled_clients.Goals as goal

pub returns-clause-wanted : goal.returns-clause-wanted
returns-clause-wanted g c =
    let met = g.met in
    let state = g.S.Map.state in
    wanted_so g.X.EventHandler.Reads state _ g.C.ServedClients (λ talk. place_of talk.talk) (λ talk. drawn_of talk.talk) (EntitledAt state)
    (λ t bytes more n is. placed_front_more g.F.Talk g.P.Talk g.V.Talk g.W.Talk met.F.Talk.front_more met.P.Talk.front_more met.V.Talk.front_more met.W.Talk.front_more t.talk bytes more n is)
    (λ t bytes more is. placed_bad_more g.F.Talk g.P.Talk g.V.Talk g.W.Talk met.F.Talk.bad_more met.P.Talk.bad_more met.V.Talk.bad_more met.W.Talk.bad_more t.talk bytes more is)
    (λ talk last sent said rest xs starts heard finds.
    entered_entitled state (all_kinds g.F.Talk g.P.Talk g.V.Talk g.W.Talk) _ (λ u. place_of u) (λ u. drawn_of u) (λ t. refl) (λ t bytes. refl) (λ t u message saying it. it) (λ t u saying it. it) (λ t u r saying it. it)
    (λ t u came saying left ys begun it found. placed_entitled state g.F.Talk g.P.Talk g.V.Talk g.W.Talk t u came saying left ys begun it found) talk last sent said rest xs starts heard finds)

pub returns-clause-opened : goal.returns-clause-opened
returns-clause-opened g c =
    let met = g.met in
    let state = g.S.Map.state in
    opened_as g.X.EventHandler.Reads state _ g.C.ServedClients (λ talk. place_of talk.talk) (λ talk. drawn_of talk.talk) (EntitledAt state)
    (λ t bytes more n is. placed_front_more g.F.Talk g.P.Talk g.V.Talk g.W.Talk met.F.Talk.front_more met.P.Talk.front_more met.V.Talk.front_more met.W.Talk.front_more t.talk bytes more n is)
    (λ t bytes more is. placed_bad_more g.F.Talk g.P.Talk g.V.Talk g.W.Talk met.F.Talk.bad_more met.P.Talk.bad_more met.V.Talk.bad_more met.W.Talk.bad_more t.talk bytes more is)
    (λ talk last sent said rest xs starts heard finds.
    entered_entitled state (all_kinds g.F.Talk g.P.Talk g.V.Talk g.W.Talk) _ (λ u. place_of u) (λ u. drawn_of u) (λ t. refl) (λ t bytes. refl) (λ t u message saying it. it) (λ t u saying it. it) (λ t u r saying it. it)
    (λ t u came saying left ys begun it found. placed_entitled state g.F.Talk g.P.Talk g.V.Talk g.W.Talk t u came saying left ys begun it found) talk last sent said rest xs starts heard finds)

pub returns-clause-answered : goal.returns-clause-answered
returns-clause-answered g c =
    let met = g.met in
    let state = g.S.Map.state in
    answered_so g.X.EventHandler.Reads state _ g.C.ServedClients (λ talk. place_of talk.talk) (λ talk. drawn_of talk.talk) (EntitledAt state)
    (λ t bytes more n is. placed_front_more g.F.Talk g.P.Talk g.V.Talk g.W.Talk met.F.Talk.front_more met.P.Talk.front_more met.V.Talk.front_more met.W.Talk.front_more t.talk bytes more n is)
    (λ t bytes more is. placed_bad_more g.F.Talk g.P.Talk g.V.Talk g.W.Talk met.F.Talk.bad_more met.P.Talk.bad_more met.V.Talk.bad_more met.W.Talk.bad_more t.talk bytes more is)
    (λ talk last sent said rest xs starts heard finds.
    entered_entitled state (all_kinds g.F.Talk g.P.Talk g.V.Talk g.W.Talk) _ (λ u. place_of u) (λ u. drawn_of u) (λ t. refl) (λ t bytes. refl) (λ t u message saying it. it) (λ t u saying it. it) (λ t u r saying it. it)
    (λ t u came saying left ys begun it found. placed_entitled state g.F.Talk g.P.Talk g.V.Talk g.W.Talk t u came saying left ys begun it found) talk last sent said rest xs starts heard finds)

pub returns-clause-barred : goal.returns-clause-barred
returns-clause-barred g c = λ old before turns new after took client talk sent said came.
    all_barred (all_kinds g.F.Talk g.P.Talk g.V.Talk g.W.Talk) _ (λ t. refl) (λ t bytes. refl) (λ t u message saying it. it) (λ t u saying it. it) (λ t u r saying it. it) talk came.last sent said came.rest _ came.heard

pub returns-clause-superusers : goal.returns-clause-superusers
returns-clause-superusers g c = λ old before turns new after took client talk sent said came so.
    none_let_in g.S.Map.state talk.no_superuser so _
    (all_barred (all_kinds g.F.Talk g.P.Talk g.V.Talk g.W.Talk) _ (λ t. refl) (λ t bytes. refl) (λ t u message saying it. it) (λ t u saying it. it) (λ t u r saying it. it) talk came.last sent said came.rest _ came.heard)
