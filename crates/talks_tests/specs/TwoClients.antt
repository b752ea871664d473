-- Two clients.
use Rattle.std.specs.Prelude.{◌≡◌, ◌==◌, ℕ, false, List, [], ◌∷◌, Option, Some, None, if◌then◌else◌}
use Rattle.talks.specs.declared.clients.Next.{Next}
use Rattle.talks.specs.declared.clients.Next.TheVariants as next
use Rattle.talks.specs.Clients.{Contention}
use Rattle.talks.specs.Conversations.{ClientState, awaited}
use Rattle.talks_tests.specs.declared.line.Wish.{Wish}
use Rattle.talks_tests.specs.declared.line.Wish.TheVariants as wish
use Rattle.talks_tests.specs.declared.clients.Queue.{Queue}
use Rattle.talks_tests.specs.declared.clients.Queue.TheVariants as queue
use Rattle.talks_tests.specs.declared.clients.TwoClients.{TwoClients}
use Rattle.talks_tests.specs.Memory.{state_of}

-- who waits
abbrev pub waiting_of : Queue → List ℕ
waiting_of queue.Nobody = []
waiting_of queue.First = 0 ∷ []
waiting_of queue.Second = 1 ∷ []
waiting_of queue.FirstSecond = 0 ∷ 1 ∷ []
waiting_of queue.SecondFirst = 1 ∷ 0 ∷ []

-- nobody is cut off, and nobody goes since its role was dropped
abbrev pub contention_of : Option ℕ → Contention
contention_of holder = record { holder = holder; cut_off = None; is_limited = false; expelled = None }

-- the first at 0, the second at 1; no other is to come
abbrev pub at_two : {T : Type 0} → ClientState T → ClientState T → ℕ → ClientState T
at_two a b c = if 0 == c then a else if 1 == c then b else awaited (Some [])

abbrev pub states : {T : Type 0} → TwoClients T → ℕ → ClientState T
states x c = at_two (state_of x.first) (state_of x.second) c

-- what is to be done for a client that has a wish
abbrev pub NextOf : ℕ → Wish → Option Next → Type 0
NextOf c wish.Nothing r = r ≡ None
NextOf c wish.Step r = r ≡ Some (next.Step c)
NextOf c wish.Question r = r ≡ Some (next.Question c)
NextOf c (wish.Left w) r = r ≡ Some (next.Left c w)
