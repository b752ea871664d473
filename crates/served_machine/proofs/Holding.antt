-- Whose session holds the writer lock.
use Rattle.std.proofs.Common.{◌≡◌, Option, Some, None, refl}
use Rattle.std.specs.Option.{option_map}
use Rattle.abstract_database.specs.Machine.{Holder, client_of}
use Rattle.server.specs.Clients.{client_session}
use Rattle.server.specs.declared.numbers.ClientSession.{ClientSession}

pub whose : (h : Option Holder) (s : Option ClientSession) → s ≡ option_map (λ x. client_session x.session) h → option_map (λ (x : ClientSession). x.client) s ≡ option_map (λ (x : Holder). client_of x.session) h
whose None s is = rw (is) refl
whose (Some x) s is = rw (is) refl
