-- The file in memory, as its callers see it.
use Rattle.sector_device.specs.RawFile.{FileState}
use Rattle.sector_device.specs.MemoryFile.{file_in_memory}
use Rattle.sector_device.specs.declared.memory_file.MemFile.{MemFile}

-- its state
abbrev pub mem_file_state : MemFile → FileState
mem_file_state f = file_in_memory f.bytes.items f.synced.items
