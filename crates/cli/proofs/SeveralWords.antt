-- Words of `--at` that are several, and the places that they name.
use Rattle.std.proofs.Common.{arith, ◌≡◌, ◌≢◌, ◌≤◌, ◌<◌, ◌∙◌, ⊎_elim, inl, inr, ap, subst, sym, refl, ℕ, Bool, true, false, List, [], ◌∷◌, ◌++◌, length, drop, Option, Some, None, codes, is_some, slice_index, append_assoc, append-nil}
use Rattle.std.specs.Prelude.{◌↔◌, IsTrue, MatchOption, slice_index_or}
use Rattle.std.specs.Borrow.{Bor}
use Rattle.std.specs.Option.{unwrap_or}
use Rattle.std.proofs.lemmas.List.{append_cancel_left, append_cancel_right, length-map}
use Rattle.systems.specs.declared.place.ListenPlace.{ListenPlace}
use Rattle.systems.specs.declared.place.ListenPlace.TheVariants as listen
use Rattle.systems.specs.declared.place.SocketAccess.{SocketAccess}
use Rattle.cli.specs.declared.command.UsageFault.{UsageFault}
use Rattle.cli.specs.declared.command.UsageFault.TheVariants as usage
use Rattle.cli.specs.declared.number.NumberOption.{NumberOption}
use Rattle.cli.specs.declared.number.NumberOption.TheVariants as option
use Rattle.cli.specs.declared.place_words.PlaceKind.{PlaceKind}
use Rattle.cli.specs.declared.place_words.PlaceKind.TheVariants as kinds
use Rattle.cli.specs.declared.served_place.NamedPlace.{NamedPlace}
use Rattle.cli.specs.declared.served_place.PlaceDoor.{PlaceDoor}
use Rattle.cli.specs.declared.served_place.ServedPlace.{ServedPlace}
use Rattle.cli.specs.Numbers.{IsNumberFor}
use Rattle.cli.specs.PlaceWords.{HasNoComma, IsFolderOf, IsPortOf, IsSocketFolder, IsSocketOf, IsSocketPath, SaysGuard, place_word, with_options}
use Rattle.cli.specs.CommandLine.{ArePlacesNamed, AtEach, BarsSuperusers, Given, GivenCounts, HasFixedPort, IsAmongWords, IsNoCount, IsNoFolder, IsNoNumber, IsNoOptions, IsNoPath, IsNoPlaceAs, IsNoPlaceOf, IsPlaceAs, IsPlaceNamed, IsPlaceWord, IsSeveral, IsUnfit, NamesNoPlace, ServeClients, TheWord, count_in, lent_words, number_in}
use Rattle.cli.proofs.PlaceCommas.{one_cut}

-- a word ends so, or not
pub barred_so : (word : TheWord) (r : Option (Bor TheWord)) (b : Bool) → b ≡ is_some r → MatchOption r ((rest : List ℕ) → word ≢ rest ++ codes ",no-superuser") (λ rest. word ≡ rest.now ++ codes ",no-superuser") → IsTrue b ↔ BarsSuperusers word
barred_so word None b is none = (λ yes. let bad : IsTrue false = subst IsTrue is yes in cc, λ barred. absurd (none barred.0 barred.1))
barred_so word (Some x) b is found = (λ yes. (x.now, found), λ barred. subst IsTrue (sym is) refl)

-- ---- a word names one place

other_at : (n : ℕ) (a b : TheWord) → a ≡ b → (slice_index a n ≡ slice_index b n → ⊥) → ⊥
other_at n a b same differ = differ (ap (λ (t : TheWord). slice_index t n) same)

same_place : (k l : PlaceKind) (r s : TheWord) → place_word k r ≡ place_word l s → (k ≡ l) × (r ≡ s)
same_place kinds.Port kinds.Port r s is = (refl, append_cancel_left (codes "port:") r s is)
same_place kinds.Port kinds.Socket r s is = absurd (other_at 0 _ _ is (λ e. omega (arith, e)))
same_place kinds.Port kinds.PostgresPort r s is = absurd (other_at 1 _ _ is (λ e. omega (arith, e)))
same_place kinds.Port kinds.PostgresFolder r s is = absurd (other_at 1 _ _ is (λ e. omega (arith, e)))
same_place kinds.Socket kinds.Port r s is = absurd (other_at 0 _ _ is (λ e. omega (arith, e)))
same_place kinds.Socket kinds.Socket r s is = (refl, append_cancel_left (codes "socket:") r s is)
same_place kinds.Socket kinds.PostgresPort r s is = absurd (other_at 0 _ _ is (λ e. omega (arith, e)))
same_place kinds.Socket kinds.PostgresFolder r s is = absurd (other_at 0 _ _ is (λ e. omega (arith, e)))
same_place kinds.PostgresPort kinds.Port r s is = absurd (other_at 1 _ _ is (λ e. omega (arith, e)))
same_place kinds.PostgresPort kinds.Socket r s is = absurd (other_at 0 _ _ is (λ e. omega (arith, e)))
same_place kinds.PostgresPort kinds.PostgresPort r s is = (refl, append_cancel_left (codes "pgport:") r s is)
same_place kinds.PostgresPort kinds.PostgresFolder r s is = absurd (other_at 2 _ _ is (λ e. omega (arith, e)))
same_place kinds.PostgresFolder kinds.Port r s is = absurd (other_at 1 _ _ is (λ e. omega (arith, e)))
same_place kinds.PostgresFolder kinds.Socket r s is = absurd (other_at 0 _ _ is (λ e. omega (arith, e)))
same_place kinds.PostgresFolder kinds.PostgresPort r s is = absurd (other_at 2 _ _ is (λ e. omega (arith, e)))
same_place kinds.PostgresFolder kinds.PostgresFolder r s is = (refl, append_cancel_left (codes "pgsocket:") r s is)

same_some : (x y : TheWord) → Some x ≡ Some y → x ≡ y
same_some x y is = ap (λ (o : Option TheWord). unwrap_or o x) is

-- where a word is cut so, and that names no place, it names none
pub none_placed : (word : TheWord) (kind : PlaceKind) (rest : TheWord) (options : Option TheWord) → word ≡ with_options (place_word kind rest) options → HasNoComma (place_word kind rest)
    → ((served : ServedPlace) → IsPlaceAs kind rest options served → HasFixedPort served.place → ⊥) → (served : ServedPlace) → IsPlaceWord word served → ⊥
none_placed word kind rest options cut first none served placed =
    let same = one_cut (place_word kind rest) (place_word placed.kind placed.rest) options placed.options first placed.is_first (sym cut ∙ placed.cut) in
    let parts = same_place kind placed.kind rest placed.rest same.0 in
    let with_rest : IsPlaceAs placed.kind rest options served =
    subst (λ (r : TheWord). IsPlaceAs placed.kind r options served) (sym parts.1) (subst (λ (o : Option TheWord). IsPlaceAs placed.kind placed.rest o served) (sym same.1) placed.named) in
    none served (subst (λ (k : PlaceKind). IsPlaceAs k rest options served) (sym parts.0) with_rest) placed.fixed

-- ---- what is refused names none

port_number : (word : TheWord) (place : ListenPlace) → IsPortOf word place → (n : ℕ) × IsNumberFor option.Port word n
port_number word (listen.Port port) is = (port, is)
port_number word (listen.Socket path) is = absurd is
port_number word (listen.PostgresFolder folder) is = absurd is
port_number word (listen.Each places) is = absurd is

socket_path : (word : TheWord) (place : ListenPlace) → IsSocketOf word place → IsSocketPath word
socket_path word (listen.Port port) is = absurd is
socket_path word (listen.Socket path) is = subst IsSocketPath (sym is.0) is.1
socket_path word (listen.PostgresFolder folder) is = absurd is
socket_path word (listen.Each places) is = absurd is

socket_folder : (word : TheWord) (place : ListenPlace) → IsFolderOf word place → IsSocketFolder word
socket_folder word (listen.Port port) is = absurd is
socket_folder word (listen.Socket path) is = absurd is
socket_folder word (listen.PostgresFolder folder) is = subst IsSocketFolder (sym is.0) is.1
socket_folder word (listen.Each places) is = absurd is

no_number : (word : TheWord) (u : UsageFault) → IsNoNumber option.Port (Some word) u → (n : ℕ) → IsNumberFor option.Port word n → ⊥
no_number word usage.Form none n is = absurd none
no_number word usage.Serving none n is = absurd none
no_number word usage.ServingClients none n is = absurd none
no_number word usage.ServingAt none n is = absurd none
no_number word (usage.Number o wrong) none n is = none.2 n (subst (λ (w : TheWord). IsNumberFor option.Port w n) (same_some word wrong.now none.1) is)
no_number word (usage.Path path) none n is = absurd none
no_number word (usage.Folder folder) none n is = absurd none
no_number word (usage.Options words) none n is = absurd none
no_number word (usage.Name name) none n is = absurd none
no_number word (usage.Switch named) none n is = absurd none
no_number word usage.Describing none n is = absurd none
no_number word (usage.Grammar e) none n is = absurd none
no_number word usage.Making none n is = absurd none
no_number word usage.Encoding none n is = absurd none
no_number word (usage.Place wrong) none n is = absurd none
no_number word usage.Places none n is = absurd none
no_number word usage.Memory none n is = absurd none

no_path : (word : TheWord) (u : UsageFault) → IsNoPath word u → IsSocketPath word → ⊥
no_path word usage.Form none is = absurd none
no_path word usage.Serving none is = absurd none
no_path word usage.ServingClients none is = absurd none
no_path word usage.ServingAt none is = absurd none
no_path word (usage.Number o wrong) none is = absurd none
no_path word (usage.Path path) none is = none.1 (subst IsSocketPath none.0 is)
no_path word (usage.Folder folder) none is = absurd none
no_path word (usage.Options words) none is = absurd none
no_path word (usage.Name name) none is = absurd none
no_path word (usage.Switch named) none is = absurd none
no_path word usage.Describing none is = absurd none
no_path word (usage.Grammar e) none is = absurd none
no_path word usage.Making none is = absurd none
no_path word usage.Encoding none is = absurd none
no_path word (usage.Place wrong) none is = absurd none
no_path word usage.Places none is = absurd none
no_path word usage.Memory none is = absurd none

no_folder : (word : TheWord) (u : UsageFault) → IsNoFolder word u → IsSocketFolder word → ⊥
no_folder word usage.Form none is = absurd none
no_folder word usage.Serving none is = absurd none
no_folder word usage.ServingClients none is = absurd none
no_folder word usage.ServingAt none is = absurd none
no_folder word (usage.Number o wrong) none is = absurd none
no_folder word (usage.Path path) none is = absurd none
no_folder word (usage.Folder folder) none is = none.1 (subst IsSocketFolder none.0 is)
no_folder word (usage.Options words) none is = absurd none
no_folder word (usage.Name name) none is = absurd none
no_folder word (usage.Switch named) none is = absurd none
no_folder word usage.Describing none is = absurd none
no_folder word (usage.Grammar e) none is = absurd none
no_folder word usage.Making none is = absurd none
no_folder word usage.Encoding none is = absurd none
no_folder word (usage.Place wrong) none is = absurd none
no_folder word usage.Places none is = absurd none
no_folder word usage.Memory none is = absurd none

no_options : (kind : PlaceKind) (options : Option TheWord) (u : UsageFault) → IsNoOptions kind options u → (door : PlaceDoor) (access : SocketAccess) → SaysGuard kind options door access → ⊥
no_options kind options usage.Form none door access says = absurd none
no_options kind options usage.Serving none door access says = absurd none
no_options kind options usage.ServingClients none door access says = absurd none
no_options kind options usage.ServingAt none door access says = absurd none
no_options kind options (usage.Number o wrong) none door access says = absurd none
no_options kind options (usage.Path path) none door access says = absurd none
no_options kind options (usage.Folder folder) none door access says = absurd none
no_options kind options (usage.Options words) none door access says = none.1 door access (subst (λ (o : Option TheWord). SaysGuard kind o door access) none.0 says)
no_options kind options (usage.Name name) none door access says = absurd none
no_options kind options (usage.Switch named) none door access says = absurd none
no_options kind options usage.Describing none door access says = absurd none
no_options kind options (usage.Grammar e) none door access says = absurd none
no_options kind options usage.Making none door access says = absurd none
no_options kind options usage.Encoding none door access says = absurd none
no_options kind options (usage.Place wrong) none door access says = absurd none
no_options kind options usage.Places none door access says = absurd none
no_options kind options usage.Memory none door access says = absurd none

pub not_placed : (kind : PlaceKind) (rest : TheWord) (options : Option TheWord) (u : UsageFault) → IsNoPlaceAs kind rest options u → (served : ServedPlace) → IsPlaceAs kind rest options served → ⊥
not_placed kinds.Port rest options u none served is = ⊎_elim (λ n. let p = port_number rest served.place is.placed.1 in no_number rest u n p.0 p.1) (λ n. no_options kinds.Port options u n served.door served.access is.guarded) none
not_placed kinds.Socket rest options u none served is = ⊎_elim (λ n. no_path rest u n (socket_path rest served.place is.placed.1)) (λ n. no_options kinds.Socket options u n served.door served.access is.guarded) none
not_placed kinds.PostgresPort rest options u none served is = ⊎_elim (λ n. let p = port_number rest served.place is.placed.1 in no_number rest u n p.0 p.1) (λ n. no_options kinds.PostgresPort options u n served.door served.access is.guarded) none
not_placed kinds.PostgresFolder rest options u none served is = ⊎_elim (λ n. no_folder rest u n (socket_folder rest served.place is.placed.1)) (λ n. no_options kinds.PostgresFolder options u n served.door served.access is.guarded) none

-- ---- whether a word admits superusers

module _ (word : TheWord) (r : Option NamedPlace) where
  pub named_barred : (rest : TheWord) → word ≡ rest ++ codes ",no-superuser" → MatchOption r ((served : ServedPlace) → IsPlaceWord rest served → ⊥) (λ named. (named.no_superuser ≡ true) × IsPlaceWord rest named.served)
      → MatchOption r (NamesNoPlace word) (IsPlaceNamed word)
  named_barred rest ends found = go r found
    where
      go : (o : Option NamedPlace) → MatchOption o ((served : ServedPlace) → IsPlaceWord rest served → ⊥) (λ named. (named.no_superuser ≡ true) × IsPlaceWord rest named.served) → MatchOption o (NamesNoPlace word) (IsPlaceNamed word)
      go None none = λ named placed.
          ⊎_elim (λ barred. none named.served (subst (λ (w : TheWord). IsPlaceWord w named.served) (append_cancel_right barred.1.0 rest (codes ",no-superuser") (sym barred.1.1 ∙ ends)) barred.1.2)) (λ plain. plain.1 (rest, ends)) placed
      go (Some named) is = inl (is.0, (rest, ends, is.1))

  pub named_plain : ((rest : TheWord) → word ≢ rest ++ codes ",no-superuser") → MatchOption r ((served : ServedPlace) → IsPlaceWord word served → ⊥) (λ named. (named.no_superuser ≡ false) × IsPlaceWord word named.served)
      → MatchOption r (NamesNoPlace word) (IsPlaceNamed word)
  named_plain not_so found = go r found
    where
      go : (o : Option NamedPlace) → MatchOption o ((served : ServedPlace) → IsPlaceWord word served → ⊥) (λ named. (named.no_superuser ≡ false) × IsPlaceWord word named.served) → MatchOption o (NamesNoPlace word) (IsPlaceNamed word)
      go None none = λ named placed. ⊎_elim (λ barred. not_so barred.1.0 barred.1.1) (λ plain. none named.served plain.2) placed
      go (Some named) is = inr (is.0, λ barred. not_so barred.0 barred.1, is.1)

-- ---- one word more of several

module _ (all : List TheWord) (left after : List (Bor TheWord)) (d : Bor TheWord) (some : 1 ≤ length left) (is : after ≡ drop 1 left) where
  pub named_more : (done : List NamedPlace) (p : NamedPlace) → ((ps : List NamedPlace) → ArePlacesNamed (lent_words left) ps → ArePlacesNamed all (done ++ ps)) → IsPlaceNamed (slice_index_or left 0 d).now p
      → (ps : List NamedPlace) → ArePlacesNamed (lent_words after) ps → ArePlacesNamed all ((done ++ p ∷ []) ++ ps)
  named_more done p so named ps rest = go left some is so named
    where
      go : (z : List (Bor TheWord)) → 1 ≤ length z → after ≡ drop 1 z → ((qs : List NamedPlace) → ArePlacesNamed (lent_words z) qs → ArePlacesNamed all (done ++ qs)) → IsPlaceNamed (slice_index_or z 0 d).now p
          → ArePlacesNamed all ((done ++ p ∷ []) ++ ps)
      go [] few e first it = absurd (omega (arith, few))
      go (w ∷ ws) few e first it =
          let same : after ≡ ws = e in
          subst (λ (l : List NamedPlace). ArePlacesNamed all l) (sym (append_assoc done (p ∷ []) ps)) (first (p ∷ ps) (it, subst (λ (l : List (Bor TheWord)). ArePlacesNamed (lent_words l) ps) same rest))

module _ (all : List TheWord) (left after : List (Bor TheWord)) (some : 1 ≤ length left) (is : after ≡ drop 1 left) where
  pub standing_more : (before : List TheWord) × (all ≡ before ++ lent_words left) → (before : List TheWord) × (all ≡ before ++ lent_words after)
  standing_more stands = go left some is stands
    where
      go : (z : List (Bor TheWord)) → 1 ≤ length z → after ≡ drop 1 z → (before : List TheWord) × (all ≡ before ++ lent_words z) → (before : List TheWord) × (all ≡ before ++ lent_words after)
      go [] few e so = absurd (omega (arith, few))
      go (w ∷ ws) few e so =
          let same : after ≡ ws = e in
          (so.0 ++ w.now ∷ [], so.1 ∙ sym (append_assoc so.0 (w.now ∷ []) (lent_words ws)) ∙ ap (λ (l : List (Bor TheWord)). (so.0 ++ w.now ∷ []) ++ lent_words l) (sym same))

-- a word at which reading ends is one of them
pub among_them : (all : List TheWord) (left : List (Bor TheWord)) (d : Bor TheWord) → 1 ≤ length left → (before : List TheWord) × (all ≡ before ++ lent_words left) → IsAmongWords (slice_index_or left 0 d).now all
among_them all [] d some stands = absurd (omega (arith, some))
among_them all (w ∷ ws) d some stands = (stands.0, lent_words ws, stands.1)

-- all were read
pub all_named : (all : List TheWord) (done : List NamedPlace) (left : List (Bor TheWord)) → length left < 1 → ((ps : List NamedPlace) → ArePlacesNamed (lent_words left) ps → ArePlacesNamed all (done ++ ps)) → ArePlacesNamed all done
all_named all done [] none so = subst (λ (l : List NamedPlace). ArePlacesNamed all l) (append-nil done) (so [] tt)
all_named all done (w ∷ ws) none so = absurd (omega (arith, none))

-- ---- what is said of a command that is given several places

pub lent_length : (words : List (Bor TheWord)) → length (lent_words words) ≡ length words
lent_length words = length-map words (λ (word : Bor TheWord). word.now)

pub several_parts : (words : List TheWord) → IsSeveral words → (first : TheWord) × (others : List TheWord) × (words ≡ first ∷ others)
several_parts [] several = absurd (⊎_elim (λ two. omega (arith, two)) (λ barred. let bad : [] ≡ barred.0 ∷ [] = barred.1 in cc) several)
several_parts (w ∷ ws) several = (w, ws, refl)

count_each : (file first : TheWord) (others : List TheWord) (counts : GivenCounts) (w : TheWord) (o : NumberOption) → count_in o counts ≡ Some w → number_in o (ServeClients file (AtEach first others) counts) ≡ Some w
count_each file first others counts w option.Pages is = is
count_each file first others counts w option.Port is = is
count_each file first others counts w option.Connections is = is
count_each file first others counts w option.Idle is = is
count_each file first others counts w option.Clients is = is
count_each file first others counts w option.Wait is = is
count_each file first others counts w option.Block is = is

module _ (G : Given → Type 0) (file first : TheWord) (others : List TheWord) (counts : GivenCounts) (gives : G (ServeClients file (AtEach first others) counts)) where
  -- a word that names none of several places is unfit
  pub no_place_of_so : (words : List TheWord) → words ≡ first ∷ others → (u : UsageFault) → IsNoPlaceOf words u → IsUnfit G u
  no_place_of_so words is usage.Form none = absurd none
  no_place_of_so words is usage.Serving none = absurd none
  no_place_of_so words is usage.ServingClients none = absurd none
  no_place_of_so words is usage.ServingAt none = absurd none
  no_place_of_so words is (usage.Number o wrong) none = absurd none
  no_place_of_so words is (usage.Path path) none = absurd none
  no_place_of_so words is (usage.Folder folder) none = absurd none
  no_place_of_so words is (usage.Options said) none = absurd none
  no_place_of_so words is (usage.Name name) none = absurd none
  no_place_of_so words is (usage.Switch named) none = absurd none
  no_place_of_so words is usage.Describing none = absurd none
  no_place_of_so words is (usage.Grammar e) none = absurd none
  no_place_of_so words is usage.Making none = absurd none
  no_place_of_so words is usage.Encoding none = absurd none
  no_place_of_so words is (usage.Place wrong) none = (ServeClients file (AtEach first others) counts, gives, subst (λ (ws : List TheWord). IsAmongWords wrong.now ws) is none.0, none.1)
  no_place_of_so words is usage.Places none = absurd none
  no_place_of_so words is usage.Memory none = tt

  -- and so is a word for a number that gives none
  pub no_count_each_so : (u : UsageFault) → IsNoCount counts u → IsUnfit G u
  no_count_each_so usage.Form none = absurd none
  no_count_each_so usage.Serving none = absurd none
  no_count_each_so usage.ServingClients none = absurd none
  no_count_each_so usage.ServingAt none = absurd none
  no_count_each_so (usage.Number o wrong) none = (ServeClients file (AtEach first others) counts, gives, count_each file first others counts wrong.now o none.0, none.1)
  no_count_each_so (usage.Path path) none = absurd none
  no_count_each_so (usage.Folder folder) none = absurd none
  no_count_each_so (usage.Options words) none = absurd none
  no_count_each_so (usage.Name name) none = absurd none
  no_count_each_so (usage.Switch named) none = absurd none
  no_count_each_so usage.Describing none = absurd none
  no_count_each_so (usage.Grammar e) none = absurd none
  no_count_each_so usage.Making none = absurd none
  no_count_each_so usage.Encoding none = absurd none
  no_count_each_so (usage.Place wrong) none = absurd none
  no_count_each_so usage.Places none = absurd none
  no_count_each_so usage.Memory none = absurd none

-- ---- how many words there are

-- one alone
pub alone_words : (words after : List (Bor TheWord)) (d : Bor TheWord) → 1 ≤ length words → after ≡ drop 1 words → length after ≡ 0 → lent_words words ≡ (slice_index_or words 0 d).now ∷ []
alone_words [] after d some is none = absurd (omega (arith, some))
alone_words (w ∷ []) after d some is none = refl
alone_words (w ∷ v ∷ vs) after d some is none = let e : after ≡ v ∷ vs = is in absurd (omega (arith, ap length e, none))

-- none
pub no_words : (words : List (Bor TheWord)) → length words < 1 → lent_words words ≡ []
no_words [] few = refl
no_words (w ∷ ws) few = absurd (omega (arith, few))

-- more than one
pub more_words : (words after : List (Bor TheWord)) → after ≡ drop 1 words → (length after ≡ 0 → ⊥) → IsSeveral (lent_words words)
more_words [] after is some = absurd (some (ap length is))
more_words (w ∷ []) after is some = absurd (some (ap length is))
more_words (w ∷ v ∷ vs) after is some = inl (omega (arith, lent_length (w ∷ v ∷ vs)))

-- one alone that says that no superuser is admitted
pub barred_words : (words after : List (Bor TheWord)) (d : Bor TheWord) → 1 ≤ length words → after ≡ drop 1 words → length after ≡ 0 → BarsSuperusers (slice_index_or words 0 d).now → IsSeveral (lent_words words)
barred_words words after d some is none barred = inr ((slice_index_or words 0 d).now, alone_words words after d some is none, barred)
