-- The word of `--at`, and the places that words name.
use Rattle.std.specs.Prelude.{◌≡◌, ◌≢◌, ◌≤◌, ◌++◌, ◌∷◌, ◌⊎◌, ℕ, Bool, true, false, List, Option, Some, None, length, codes, All}
use Rattle.systems.specs.declared.place.ListenPlace.{ListenPlace}
use Rattle.systems.specs.declared.place.ListenPlace.TheVariants as listen
use Rattle.systems.specs.declared.place.SocketAccess.{SocketAccess}
use Rattle.systems.specs.declared.place.SocketAccess.TheVariants.{Owner, Group}
use Rattle.systems.specs.Places.{postgres_socket}
use Rattle.sql_types.specs.Name.{IsName}
use Rattle.cli.specs.declared.number.NumberOption.TheVariants as option
use Rattle.cli.specs.declared.place_words.PlaceKind.{PlaceKind}
use Rattle.cli.specs.declared.place_words.PlaceKind.TheVariants.{Port, Socket, PostgresPort, PostgresFolder}
use Rattle.cli.specs.declared.served_place.PlaceDoor.{PlaceDoor}
use Rattle.cli.specs.declared.served_place.PlaceDoor.TheVariants.{Anyone, Only, Passwords}
use Rattle.cli.specs.declared.served_place.Protocol.{Protocol}
use Rattle.cli.specs.declared.served_place.Protocol.TheVariants.{Frames, Postgres}
use Rattle.cli.specs.declared.served_place.ServedPlace.{ServedPlace}
use Rattle.cli.specs.Numbers.{IsNumberFor}

-- the word for a place: its kind, and what stands behind the colon
abbrev pub place_word : PlaceKind → List ℕ → List ℕ
place_word Port rest = codes "port:" ++ rest
place_word Socket rest = codes "socket:" ++ rest
place_word PostgresPort rest = codes "pgport:" ++ rest
place_word PostgresFolder rest = codes "pgsocket:" ++ rest

abbrev pub HasNoComma : List ℕ → Type 0
HasNoComma word = All (λ byte. byte ≢ 44) word

-- a word up to its first comma, and what stands behind that, if there is one
abbrev pub with_options : List ℕ → Option (List ℕ) → List ℕ
with_options place None = place
with_options place (Some options) = place ++ 44 ∷ options

-- it is no such word, whatever stands behind its first comma
abbrev pub NoPlaceWord : List ℕ → Type 0
NoPlaceWord word = (kind : PlaceKind) (rest : List ℕ) (options : Option (List ℕ)) → word ≡ with_options (place_word kind rest) options → HasNoComma (place_word kind rest) → ⊥

-- a path that the system takes for a socket's
pub record IsSocketPath (path : List ℕ) : Type 0 where
  pub filled : 1 ≤ length path
  pub short : length path ≤ 107

-- a folder that has a name, whose socket has such a path
pub record IsSocketFolder (folder : List ℕ) : Type 0 where
  pub filled : 1 ≤ length folder
  pub short : length (postgres_socket folder) ≤ 107

-- ---- what a word names

-- the port of this number
abbrev pub IsPortOf : List ℕ → ListenPlace → Type 0
IsPortOf word (listen.Port port) = IsNumberFor option.Port word port
IsPortOf word (listen.Socket path) = ⊥
IsPortOf word (listen.Each places) = ⊥
IsPortOf word (listen.PostgresFolder folder) = ⊥

-- the socket of this path
abbrev pub IsSocketOf : List ℕ → ListenPlace → Type 0
IsSocketOf word (listen.Port port) = ⊥
IsSocketOf word (listen.Socket path) = (word ≡ path.now) × IsSocketPath path.now
IsSocketOf word (listen.Each places) = ⊥
IsSocketOf word (listen.PostgresFolder folder) = ⊥

-- the socket of this folder
abbrev pub IsFolderOf : List ℕ → ListenPlace → Type 0
IsFolderOf word (listen.Port port) = ⊥
IsFolderOf word (listen.Socket path) = ⊥
IsFolderOf word (listen.Each places) = ⊥
IsFolderOf word (listen.PostgresFolder folder) = (word ≡ folder.now) × IsSocketFolder folder.now

-- ---- whom a place lets in

-- a place of this kind is a socket, which has a file
abbrev pub has_file : PlaceKind → Bool
has_file Port = false
has_file Socket = true
has_file PostgresPort = false
has_file PostgresFolder = true

-- a name that can stand before a comma
abbrev pub IsNameBefore : List ℕ → Type 0
IsNameBefore name = IsName name × HasNoComma name

-- `role=NAME`: one comes in as the role of this name alone
abbrev pub IsRoleWord : List ℕ → PlaceDoor → Type 0
IsRoleWord word Anyone = ⊥
IsRoleWord word (Only role) = (word ≡ codes "role=" ++ role.now) × IsNameBefore role.now
IsRoleWord word (Passwords table mock) = ⊥

-- `passwords=TABLE` and `mock=ROLE`: whoever shows a password comes in
abbrev pub ArePasswordWords : List ℕ → List ℕ → PlaceDoor → Type 0
ArePasswordWords first second Anyone = ⊥
ArePasswordWords first second (Only role) = ⊥
ArePasswordWords first second (Passwords table mock) =
    (first ≡ codes "passwords=" ++ table.now) × IsNameBefore table.now × (second ≡ codes "mock=" ++ mock.now) × IsNameBefore mock.now

-- these two in either order
abbrev pub AskForPasswords : List ℕ → List ℕ → PlaceDoor → Type 0
AskForPasswords first second door = ArePasswordWords first second door ⊎ ArePasswordWords second first door

-- `mode=600` or `mode=660`: whom the file of a socket lets connect
abbrev pub mode_word : SocketAccess → List ℕ
mode_word Owner = codes "mode=600"
mode_word Group = codes "mode=660"

abbrev pub IsModeWord : PlaceKind → List ℕ → SocketAccess → Type 0
IsModeWord kind word access = (has_file kind ≡ true) × (word ≡ mode_word access)

-- one such word; what the others would say is as without them
abbrev pub SaysOne : PlaceKind → List ℕ → PlaceDoor → SocketAccess → Type 0
SaysOne kind word door access = (IsRoleWord word door × (access ≡ Owner)) ⊎ (IsModeWord kind word access × (door ≡ Anyone))

-- a role and a mode, in this order
abbrev pub SaysRoleAndMode : PlaceKind → List ℕ → List ℕ → PlaceDoor → SocketAccess → Type 0
SaysRoleAndMode kind first second door access = IsRoleWord first door × IsModeWord kind second access

-- two words: a role and a mode in either order, or those that ask for passwords
abbrev pub SaysTwo : PlaceKind → List ℕ → List ℕ → PlaceDoor → SocketAccess → Type 0
SaysTwo kind first second door access = SaysRoleAndMode kind first second door access ⊎ SaysRoleAndMode kind second first door access ⊎ (AskForPasswords first second door × (access ≡ Owner))

-- a mode, and two words that ask for passwords
abbrev pub SaysModeBeside : PlaceKind → List ℕ → List ℕ → List ℕ → PlaceDoor → SocketAccess → Type 0
SaysModeBeside kind mode first second door access = IsModeWord kind mode access × AskForPasswords first second door

-- three words: these in any order
abbrev pub SaysThree : PlaceKind → List ℕ → List ℕ → List ℕ → PlaceDoor → SocketAccess → Type 0
SaysThree kind first second third door access =
    SaysModeBeside kind first second third door access ⊎ SaysModeBeside kind second first third door access ⊎ SaysModeBeside kind third first second door access

-- two words, or three
abbrev pub SaysTwoOrThree : PlaceKind → List ℕ → List ℕ → Option (List ℕ) → PlaceDoor → SocketAccess → Type 0
SaysTwoOrThree kind first second None door access = SaysTwo kind first second door access
SaysTwoOrThree kind first second (Some third) door access = SaysThree kind first second third door access

-- what stands behind the comma after a word is cut at its first comma
pub record SaysMore (kind : PlaceKind) (first rest : List ℕ) (door : PlaceDoor) (access : SocketAccess) : Type 0 where
  pub second : List ℕ
  pub third : Option (List ℕ)
  pub cut : rest ≡ with_options second third
  pub is_second : HasNoComma second
  pub says : SaysTwoOrThree kind first second third door access

-- a word, and what stands behind the comma after it
abbrev pub SaysParts : PlaceKind → List ℕ → Option (List ℕ) → PlaceDoor → SocketAccess → Type 0
SaysParts kind first None door access = SaysOne kind first door access
SaysParts kind first (Some rest) door access = SaysMore kind first rest door access

-- what stands behind the comma of a place says whom it lets in, and whom the file lets connect
pub record SaysOptions (kind : PlaceKind) (words : List ℕ) (door : PlaceDoor) (access : SocketAccess) : Type 0 where
  pub first : List ℕ
  pub rest : Option (List ℕ)
  pub cut : words ≡ with_options first rest
  pub is_first : HasNoComma first
  pub says : SaysParts kind first rest door access

-- nothing is said of the kind
abbrev pub SayNothing : (PlaceDoor → SocketAccess → Type 0) → Type 0
SayNothing Says = (door : PlaceDoor) (access : SocketAccess) → Says door access → ⊥

abbrev pub NoOptions : PlaceKind → List ℕ → Type 0
NoOptions kind words = SayNothing (SaysOptions kind words)

-- the same of a place behind which there may be no comma: then one comes in as any role, and the owner alone connects
abbrev pub SaysGuard : PlaceKind → Option (List ℕ) → PlaceDoor → SocketAccess → Type 0
SaysGuard kind None door access = (door ≡ Anyone) × (access ≡ Owner)
SaysGuard kind (Some words) door access = SaysOptions kind words door access

-- ---- what a word names, and by which protocol clients are spoken to there

abbrev pub IsPortServed : Protocol → List ℕ → ServedPlace → Type 0
IsPortServed protocol word served = (served.protocol ≡ protocol) × IsPortOf word served.place

abbrev pub IsSocketServed : List ℕ → ServedPlace → Type 0
IsSocketServed word served = (served.protocol ≡ Frames) × IsSocketOf word served.place

abbrev pub IsFolderServed : List ℕ → ServedPlace → Type 0
IsFolderServed word served = (served.protocol ≡ Postgres) × IsFolderOf word served.place
