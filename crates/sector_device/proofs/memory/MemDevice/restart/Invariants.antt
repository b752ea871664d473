use Rattle.std.proofs.Common.{◌≡◌, ℕ, ◌<◌, ◌≤◌, [], length, get_or, if◌then◌else◌, false}
use Rattle.sector_device.proofs.memory.MemDevice.restart.Given as goal

abbrev pub invariant-loop-sector : goal.invariant-loop-sector
invariant-loop-sector l = record {
  last : (k : ℕ) → k < l.sector → get_or l.self.last.items k [] ≡ (if get_or l.new k false then get_or l.fn.self.last.items k [] else get_or l.fn.self.synced.items k []);
  synced : (k : ℕ) → k < l.sector → get_or l.self.synced.items k [] ≡ get_or l.self.last.items k [];
  last_rest : (k : ℕ) → l.sector ≤ k → get_or l.self.last.items k [] ≡ get_or l.fn.self.last.items k [];
  synced_rest : (k : ℕ) → l.sector ≤ k → get_or l.self.synced.items k [] ≡ get_or l.fn.self.synced.items k [];
  last_count : length l.self.last.items ≡ l.self.sectors;
  synced_count : length l.self.synced.items ≡ l.self.sectors;
  sectors : l.self.sectors ≡ l.fn.self.sectors;
  failures : l.self.failures ≡ l.fn.self.failures;
}
