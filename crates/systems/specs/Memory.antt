-- A system in memory, as its callers see it.
use Rattle.std.specs.Prelude.{◌==◌, ◌≡◌, if◌then◌else◌, ℕ, List, [], replicate, Option, Some, None}
use Rattle.systems.specs.declared.entries.NamedContent.{NamedContent}
use Rattle.systems.specs.declared.listener.MemListener.{MemListener}
use Rattle.systems.specs.Places.{ThePlace, ThePort, TheSocket, TheEach}
use Rattle.systems.specs.Systems.{At, Absent, Free, Shared, Open, Reading, Taken, SystemState}
use Rattle.systems.specs.Entries.{content_of, device_in, text_in, is_something}

-- a listener, or none where it is bound
abbrev pub listener_in : Option MemListener → At MemListener
listener_in None = Open
listener_in (Some listener) = Free listener

-- its one port has a listener; somebody else has every other place
abbrev pub listener_at : ℕ → Option MemListener → ThePlace → At MemListener
listener_at port listener (ThePort asked) = if asked == port then listener_in listener else Taken
listener_at port listener (TheSocket path) = Taken
listener_at port listener (TheEach places) = Taken

-- a stop leaves the device that nobody has open to write it; of one that is open nothing is said
abbrev pub LeavesThere : {D : Type 0} → At D → D → Type 0
LeavesThere Absent device = ⊥
LeavesThere (Free there) device = device ≡ there
LeavesThere (Shared there) device = device ≡ there
LeavesThere Open device = ⊥
LeavesThere Reading device = ⊥
LeavesThere Taken device = ⊥

-- what its entries name, with a listener at a port; nothing is on its standard input, and it draws zeros
abbrev pub memory_state : {D : Type 0} → List (NamedContent D) → ℕ → Option MemListener → ℕ → SystemState D MemListener
memory_state entries port listener failures = record {
  faithful = Unit {0};
  devices = λ path. device_in (content_of entries path);
  texts = λ path. text_in (content_of entries path);
  is_named = λ path. is_something (content_of entries path);
  left = λ path device. LeavesThere (device_in (content_of entries path)) device;
  listeners = listener_at port listener;
  input = [];
  draws = λ n. replicate 32 0;
  failures = failures;
}
