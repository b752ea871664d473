-- The exchanges of two servers that look alike to a tenant.
use Rattle.std.proofs.Common.{◌≡◌, ◌∙◌, ℕ, Bool, true, false, cond, List, [], ◌∷◌, Option, Some, None, refl, sym, subst}
use Rattle.store.specs.Records.{Records}
use Rattle.store.specs.Store.{StoreState}
use Rattle.abstract_database.specs.Database.{Database}
use Rattle.abstract_database.specs.Whole.{IsWhole}
use Rattle.abstract_database.specs.Machine.{Holder, Machine, machine_over}
use Rattle.abstract_database.specs.Runs.{ReadingRelation, At}
use Rattle.stored_database.specs.Definitions.{Definitions}
use Rattle.stored_database.specs.Records.{Shows, StandsFor}
use Rattle.database_laws.specs.HiddenRuns.{AreSound}
use Rattle.database_laws.specs.Invariants.{HoldsOfHolder, IsSound}
use Rattle.database_laws.specs.Runs.{ReadsOnce}
use Rattle.database_laws.specs.Told.{IsAlikeTo}
use Rattle.database_laws.specs.WholeDatabases.{whole_databases_are_sound}
use Rattle.database_laws.proofs.ToldRuns.{turned}
use Rattle.client_laws.specs.Renumbered.{IsOneToOne, renumbered_machine}
use Rattle.server.specs.declared.server.Server.{Server}
use Rattle.server.specs.declared.writer.Writer.{Writer}
use Rattle.server.specs.Standing.{HolderShows, Represents}
use Rattle.talks.specs.declared.want.Want.{Want}
use Rattle.talks.specs.declared.talk.Talk.{Ghosts as TalkGhosts}
use Rattle.talks.specs.declared.clients.ServedClients.{Ghosts as ClientsGhosts}
use Rattle.talks.specs.Turns.{Exchange}
use Rattle.served_tenants.specs.Exchanges.{Replies, Exchanges, exchanges_of}
use Rattle.served_tenants.specs.ServedTenants.{ClientsOfTenant, tenant_of, SeemAlike, is_own, own_exchanges, OthersOutOfSight, AskAlike, TellAlike, over_here, over_there, told_alike, told_apart, untold_here, untold_there, failed_here, failed_there, servers_tell_clients, opened_servers_look_alike}
use Rattle.served_tenants.proofs.Renumbering.{sound_so}
use Rattle.served_tenants.proofs.Parting.{Unseen, unseen, fails, other_reply, Outcome, parts, agrees, own_reply}

module _ (Reads : ReadingRelation) (once : ReadsOnce Reads) (a : ClientsOfTenant) (place place_there : ℕ → ℕ) (apart : IsOneToOne place) (apart_there : IsOneToOne place_there) where
  abbrev Sound : At → Type 0
  Sound w = AreSound (renumbered_machine place w.standing.machine)

  abbrev SoundThere : At → Type 0
  SoundThere v = AreSound (renumbered_machine place_there v.standing.machine)

  abbrev Look : At → At → Type 0
  Look w v = SeemAlike a place place_there w v

  abbrev Tells : At → At → List Exchange → List Exchange → Type 0
  Tells = TellAlike Reads a place place_there

  abbrev own_here : List Exchange → List Exchange
  own_here xs = own_exchanges a place xs

  abbrev own_there : List Exchange → List Exchange
  own_there ys = own_exchanges a place_there ys

  abbrev Asks : List Exchange → List Exchange → Type 0
  Asks xs ys = AskAlike place place_there xs ys

  -- the same from the other side
  over_way : (w v : At) → Look w v → SeemAlike a place_there place v w
  over_way w v st = turned (tenant_of a) (renumbered_machine place w.standing.machine) (renumbered_machine place_there v.standing.machine) st

  way_back : (w v : At) → SeemAlike a place_there place v w → Look w v
  way_back w v st = turned (tenant_of a) (renumbered_machine place_there v.standing.machine) (renumbered_machine place w.standing.machine) st

  abbrev Goes : List Exchange → At → Type 0
  Goes xs end = (w v end_there : At) (ys : List Exchange) → Look w v → Sound w → SoundThere v → (made : Exchanges Reads w xs end) (made_there : Exchanges Reads v ys end_there) →
      OthersOutOfSight a place Reads w xs end made → OthersOutOfSight a place_there Reads v ys end_there made_there → Asks (own_here xs) (own_there ys) → Tells w v xs ys

  module _ (w n end : At) (x : Exchange) (xs : List Exchange) (on : Sound w) (own : is_own a place x ≡ true) (here : Replies Reads w x.client x.want x.reply n) (made : Exchanges Reads n xs end)
      (keep : OthersOutOfSight a place Reads w (x ∷ xs) end (n, here, made)) (go : Goes xs end) where
    abbrev Reaches : List Exchange → Type 0
    Reaches ys = (v end_there : At) → Look w v → SoundThere v → (made_there : Exchanges Reads v ys end_there) → OthersOutOfSight a place_there Reads v ys end_there made_there →
        Asks (x ∷ own_here xs) (own_there ys) → Tells w v (x ∷ xs) ys

    to_own : (ys : List Exchange) → Reaches ys
    to_own [] v end_there st on_there made_there keep_there asks = over_there st
    to_own (y ∷ ys) v end_there st on_there (j, it, its) keep_there asks = by (is_own a place_there y) refl (to_own ys) where
      cut : (b : Bool) → is_own a place_there y ≡ b → Asks (x ∷ own_here xs) (cond b (y ∷ own_there ys) (own_there ys))
      cut b is = subst (λ (c : Bool). Asks (x ∷ own_here xs) (cond c (y ∷ own_there ys) (own_there ys))) is asks

      by : (b : Bool) → is_own a place_there y ≡ b → Reaches ys → Tells w v (x ∷ xs) (y ∷ ys)
      by true own_y more = at
          (own_reply Reads once a place place_there apart apart_there w n v j x.client y.client st on on_there own (cut true own_y).0.0 x.want x.reply y.reply (keep.0.0 own) here
          (subst (λ (z : Want). Replies Reads v y.client z y.reply j) (sym (cut true own_y).0.1) it))
        where
          at : Outcome Reads once a place place_there apart apart_there w n v j (place x.client) x.want x.reply y.reply → Tells w v (x ∷ xs) (y ∷ ys)
          at (parts may) = told_apart n j own (cut true own_y).0 here it may
          at (agrees same next on_n on_j) = told_alike n j own (cut true own_y).0 same here it (go n j end_there ys next on_n on_j made its keep.1 keep_there.1 ((cut true own_y).1 same))
      by false other more = at (other_reply Reads once a place_there place apart_there v j w y.client (over_way w v st) on_there other (keep_there.0.1 other) y.want y.reply it) where
        at : Unseen Reads once a place_there place apart_there j w y.reply → Tells w v (x ∷ xs) (y ∷ ys)
        at (unseen next on_j) = untold_there j other it (more j end_there (way_back w j next) on_j its keep_there.1 (cut false other))
        at (fails io) = failed_there other io

  runs : (xs : List Exchange) (end : At) → Goes xs end
  runs [] end w v end_there ys st on on_there made made_there keep keep_there asks = over_here st
  runs (x ∷ xs) end w v end_there ys st on on_there (n, it, its) made_there keep keep_there asks = by (is_own a place x) refl (runs xs end) where
    cut : (b : Bool) → is_own a place x ≡ b → Asks (cond b (x ∷ own_here xs) (own_here xs)) (own_there ys)
    cut b is = subst (λ (c : Bool). Asks (cond c (x ∷ own_here xs) (own_here xs)) (own_there ys)) is asks

    by : (b : Bool) → is_own a place x ≡ b → Goes xs end → Tells w v (x ∷ xs) ys
    by true own go = to_own w n end x xs on own it its keep go ys v end_there st on_there made_there keep_there (cut true own)
    by false other go = at (other_reply Reads once a place place_there apart w n v x.client st on other (keep.0.1 other) x.want x.reply it) where
      at : Unseen Reads once a place place_there apart n v x.reply → Tells w v (x ∷ xs) ys
      at (unseen next on_n) = untold_here n other it (go n v end_there ys next on_n on_there its made_there keep.1 keep_there (cut false other))
      at (fails io) = failed_here other io

  pub told : (xs : List Exchange) (end : At) → Goes xs end
  told xs end = runs xs end

-- ---- what a server shows is sound

module _ (whole : (records : Records) (db : Database) → StandsFor records db → IsWhole db) (sound : whole_databases_are_sound) where
  shown_sound : (records : Records) (d : Definitions) (db : Database) → Shows records d db → IsSound db
  shown_sound records d db shows = sound db (whole records db (d, shows))

  holder_sound : (records : Records) (d : Definitions) (writer : Option Writer) (h : Option Holder) → HolderShows records d writer h → HoldsOfHolder IsSound h
  holder_sound records d None None held = tt
  holder_sound records d None (Some h) held = absurd held
  holder_sound records d (Some writer) None held = tt
  holder_sound records d (Some writer) (Some h) held = shown_sound _ _ h.database held.1

  machine_sound : {S X : Type 0} (state : S → StoreState) (server : Server S X) (w : At) → Represents state server w → w.standing.machine.stopped ≡ false → AreSound w.standing.machine
  machine_sound state server w stands on =
      let works = (stands.works (sym stands.stopped ∙ on)).1 in record {
        committed = shown_sound _ _ w.standing.machine.committed works.committed;
        holder = holder_sound _ _ server.writer w.standing.machine.holder works.held;
      }

  pub told_by_servers : (S Z X Y T U C D : Type 0) (Reads : ReadingRelation) (state : S → StoreState) (state_there : Z → StoreState) (t : TalkGhosts T) (u : TalkGhosts U) (k : ClientsGhosts C T) (j : ClientsGhosts D U) →
      servers_tell_clients S Z X Y T U C D Reads state state_there t u k j
  told_by_servers S Z X Y T U C D Reads state state_there t u k j once a place place_there apart apart_there w v st old before turns new after took old_there before_there turns_there new_there after_there took_there here there keep keep_there asks =
      told Reads once a place place_there apart apart_there (exchanges_of Reads state t k old before turns new after took) here.end w v there.end (exchanges_of Reads state_there u j old_there before_there turns_there new_there after_there took_there) st
      (sound_so place w.standing.machine (machine_sound state old.server w here.stood here.works)) (sound_so place_there v.standing.machine (machine_sound state_there old_there.server v there.stood there.works))
      here.made there.made keep keep_there asks

pub opened_alike : opened_servers_look_alike
opened_alike a place place_there w v d e is is_there all =
    subst (λ (m : Machine). IsAlikeTo (tenant_of a) (renumbered_machine place m) (renumbered_machine place_there v.standing.machine)) (sym is)
    (subst (λ (k : Machine). IsAlikeTo (tenant_of a) (renumbered_machine place (machine_over d)) (renumbered_machine place_there k)) (sym is_there)
    (record { sessions = λ number own. refl; opened_for = λ number own. tt; stopped = refl; lock = λ number own. refl; committed = all; seen = λ number own. all }))
