-- Who holds the writer lock that others want.
use Rattle.std.specs.Prelude.{◌-◌, ◌==◌, ◌&&◌, not, ℕ, Bool, false, Option, Some, None, is_some, is_none, nat_le, if◌then◌else◌}
use Rattle.std.specs.Duration.{as_nanos}
use Rattle.std.specs.declared.time.Duration.{Duration}
use Rattle.talks.specs.Clients.{Contention}
use Rattle.polled_clients.specs.declared.lock_watch.HoldTime.{HoldTime}
use Rattle.polled_clients.specs.declared.lock_watch.HoldTime.TheVariants.{New, Since, Over}
use Rattle.polled_clients.specs.declared.lock_watch.WantedHolder.{WantedHolder}
use Rattle.polled_clients.specs.declared.lock_watch.LockWatch.{LockWatch}

abbrev pub client_held : Option WantedHolder → Option ℕ
client_held None = None
client_held (Some h) = Some h.client

-- the same, as it is told of
abbrev pub contention_of : LockWatch → Contention
contention_of x = record { holder = client_held x.holder; cut_off = x.cut_off; is_limited = is_some x.limit; expelled = x.expelled }

abbrev pub is_holding : ℕ → Option WantedHolder → Bool
is_holding c None = false
is_holding c (Some h) = h.client == c

-- where the lock is held so: who was wanted already stays so, for as long as it was; who is wanted now is so anew; else nobody is
abbrev pub holder_after : Option ℕ → ℕ → Bool → Option WantedHolder → Option WantedHolder
holder_after None c wants old = None
holder_after (Some h) c wants old = if is_holding h old then old else if wants && not (h == c) then Some (record { client = h; time = New }) else None

-- from one moment to the other it was as long as it may
abbrev pub is_over : Duration → Option Duration → Duration → Bool
is_over asked None since = false
is_over asked (Some limit) since = nat_le (as_nanos limit) (as_nanos asked - as_nanos since)

-- for how long it is held at a look that is made now; it was asked before who had sent something
abbrev pub time_after : Duration → Duration → Option Duration → HoldTime → HoldTime
time_after asked now limit New = Since now
time_after asked now limit (Since moment) = if is_over asked limit moment then Over else Since moment
time_after asked now limit Over = Over

-- with who has held it for as long as it may cut off, unless another is
abbrev pub cut_off_by : ℕ → LockWatch → LockWatch
cut_off_by c x = if is_some x.limit && is_none x.cut_off then record x { cut_off = Some c } else x

abbrev pub looked_by : Duration → Duration → LockWatch → ℕ → HoldTime → LockWatch
looked_by asked now x c New = record x { holder = Some (record { client = c; time = time_after asked now x.limit New }) }
looked_by asked now x c (Since moment) = record x { holder = Some (record { client = c; time = time_after asked now x.limit (Since moment) }) }
looked_by asked now x c Over = cut_off_by c x

abbrev pub looked_for : Duration → Duration → LockWatch → Option WantedHolder → LockWatch
looked_for asked now x None = x
looked_for asked now x (Some h) = looked_by asked now x h.client h.time

-- after a look
abbrev pub looked : Duration → Duration → LockWatch → LockWatch
looked asked now x = looked_for asked now x x.holder

abbrev pub without_holder : ℕ → Option WantedHolder → Option WantedHolder
without_holder c h = if is_holding c h then None else h
