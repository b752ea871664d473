-- Why the system refused a call.
use Rattle.std.specs.Prelude.{ℕ, List, codes}
use Rattle.std.specs.declared.io.ErrorKind.{ErrorKind}
use Rattle.std.specs.declared.io.ErrorKind.TheVariants as kind
use Rattle.sector_device.specs.declared.system_cause.SystemCause.{SystemCause}
use Rattle.sector_device.specs.declared.system_cause.SystemCause.TheVariants.{NotFound, PermissionDenied, IsFolder, NotAFolder, ReadOnly, NoSpace, AddressInUse, Other}

-- the cause that an error of this kind is
abbrev pub cause_of : ErrorKind → SystemCause
cause_of kind.NotFound = NotFound
cause_of kind.PermissionDenied = PermissionDenied
cause_of kind.IsADirectory = IsFolder
cause_of kind.NotADirectory = NotAFolder
cause_of kind.ReadOnlyFilesystem = ReadOnly
cause_of kind.StorageFull = NoSpace
cause_of kind.QuotaExceeded = NoSpace
cause_of kind.AddrInUse = AddressInUse
cause_of _ = Other

-- what a message says of it
abbrev pub cause_text : SystemCause → List ℕ
cause_text NotFound = codes "no such file or folder"
cause_text PermissionDenied = codes "permission denied"
cause_text IsFolder = codes "it is a folder"
cause_text NotAFolder = codes "a part of the path is not a folder"
cause_text ReadOnly = codes "the file system is read-only"
cause_text NoSpace = codes "no room on the disk"
cause_text AddressInUse = codes "the address is in use"
cause_text Other = codes "a call of the system failed"
