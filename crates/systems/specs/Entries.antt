-- What the names of a system in memory name.
use Rattle.std.specs.Prelude.{if◌then◌else◌, ℕ, Bool, true, false, List, [], ◌∷◌, Option, Some, None, string_bytes, bytes_eq}
use Rattle.systems.specs.declared.entries.Content.{Content}
use Rattle.systems.specs.declared.entries.Content.TheVariants as content
use Rattle.systems.specs.declared.entries.NamedContent.{NamedContent}
use Rattle.systems.specs.Systems.{At, Absent, Free, Shared, Open, Reading, Taken}

-- what the first entry of this name is
abbrev pub content_of : {D : Type 0} → List (NamedContent D) → List ℕ → Option (Content D)
content_of [] path = None
content_of (entry ∷ entries) path = if bytes_eq (string_bytes entry.path) path then Some entry.content else content_of entries path

-- the device of a name
abbrev pub device_in : {D : Type 0} → Option (Content D) → At D
device_in None = Absent
device_in (Some (content.Device device)) = Free device
device_in (Some (content.Shared device)) = Shared device
device_in (Some content.Open) = Open
device_in (Some content.Reading) = Reading
device_in (Some content.Taken) = Taken
device_in (Some (content.Text text)) = Absent
device_in (Some content.Removed) = Absent

-- the text of a name
abbrev pub text_in : {D : Type 0} → Option (Content D) → Option (List ℕ)
text_in None = None
text_in (Some (content.Device device)) = None
text_in (Some (content.Shared device)) = None
text_in (Some content.Open) = None
text_in (Some content.Reading) = None
text_in (Some content.Taken) = None
text_in (Some (content.Text text)) = Some text.items
text_in (Some content.Removed) = None

-- whether there is something of a name
abbrev pub is_something : {D : Type 0} → Option (Content D) → Bool
is_something None = false
is_something (Some (content.Device device)) = true
is_something (Some (content.Shared device)) = true
is_something (Some content.Open) = true
is_something (Some content.Reading) = true
is_something (Some content.Taken) = true
is_something (Some (content.Text text)) = true
is_something (Some content.Removed) = false
