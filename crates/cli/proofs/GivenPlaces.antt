-- What is said of the word of `--at` is said of a command that is given it.
use Rattle.std.proofs.Common.{◌≡◌, ⊎_elim, ap, refl, sym, subst, Option, Some, None}
use Rattle.cli.specs.declared.command.UsageFault.{UsageFault}
use Rattle.cli.specs.declared.command.UsageFault.TheVariants as usage
use Rattle.cli.specs.declared.number.NumberOption.{NumberOption}
use Rattle.cli.specs.declared.number.NumberOption.TheVariants as option
use Rattle.cli.specs.declared.place_words.PlaceKind.{PlaceKind}
use Rattle.cli.specs.declared.place_words.PlaceKind.TheVariants as kinds
use Rattle.cli.specs.CommandLine.{At, GivenCounts, IsNoCount, IsNoFolder, IsNoOptions, IsNoPath, IsNoPlace, IsNoPlaceAs, IsUnfit, ServeClients, TheWord, count_in, number_in, options_in}
use Rattle.cli.proofs.GivenSo.{no_number_so}

-- the numbers of a server are those of its counts, but for a port
count_so : (kind : PlaceKind) (word file : TheWord) (options : Option TheWord) (counts : GivenCounts) (w : TheWord) (o : NumberOption) → count_in o counts ≡ Some w → number_in o (ServeClients file (At kind word options) counts) ≡ Some w
count_so kind word file options counts w option.Pages is = is
count_so kind word file options counts w option.Port is =
    let bad : None ≡ Some w = is in
    cc
count_so kind word file options counts w option.Connections is = is
count_so kind word file options counts w option.Idle is = is
count_so kind word file options counts w option.Clients is = is
count_so kind word file options counts w option.Wait is = is
count_so kind word file options counts w option.Block is = is

module _ (word file : TheWord) (options : Option TheWord) (counts : GivenCounts) where
  pub no_count_so : (kind : PlaceKind) (u : UsageFault) → IsNoCount counts u → IsUnfit (λ g. g ≡ ServeClients file (At kind word options) counts) u
  no_count_so kind (usage.Number o wrong) none = (ServeClients file (At kind word options) counts, refl, count_so kind word file options counts wrong.now o none.0, none.1)
  no_count_so kind usage.Form none = absurd none
  no_count_so kind usage.Serving none = absurd none
  no_count_so kind usage.ServingClients none = absurd none
  no_count_so kind usage.ServingAt none = absurd none
  no_count_so kind (usage.Path path) none = absurd none
  no_count_so kind (usage.Folder folder) none = absurd none
  no_count_so kind (usage.Options words) none = absurd none
  no_count_so kind (usage.Name name) none = absurd none
  no_count_so kind (usage.Switch named) none = absurd none
  no_count_so kind usage.Describing none = absurd none
  no_count_so kind (usage.Grammar e) none = absurd none
  no_count_so kind usage.Making none = absurd none
  no_count_so kind usage.Encoding none = absurd none
  no_count_so kind (usage.Place wrong) none = absurd none
  no_count_so kind usage.Places none = absurd none
  no_count_so kind usage.Memory none = absurd none

  no_path_so : (u : UsageFault) → IsNoPath word u → IsUnfit (λ g. g ≡ ServeClients file (At kinds.Socket word options) counts) u
  no_path_so (usage.Path path) none = (ServeClients file (At kinds.Socket word options) counts, refl, ap Some none.0, none.1)
  no_path_so (usage.Number o wrong) none = absurd none
  no_path_so usage.Form none = absurd none
  no_path_so usage.Serving none = absurd none
  no_path_so usage.ServingClients none = absurd none
  no_path_so usage.ServingAt none = absurd none
  no_path_so (usage.Folder folder) none = absurd none
  no_path_so (usage.Options words) none = absurd none
  no_path_so (usage.Name name) none = absurd none
  no_path_so (usage.Switch named) none = absurd none
  no_path_so usage.Describing none = absurd none
  no_path_so (usage.Grammar e) none = absurd none
  no_path_so usage.Making none = absurd none
  no_path_so usage.Encoding none = absurd none
  no_path_so (usage.Place wrong) none = absurd none
  no_path_so usage.Places none = absurd none
  no_path_so usage.Memory none = absurd none

  no_folder_so : (u : UsageFault) → IsNoFolder word u → IsUnfit (λ g. g ≡ ServeClients file (At kinds.PostgresFolder word options) counts) u
  no_folder_so (usage.Folder folder) none = (ServeClients file (At kinds.PostgresFolder word options) counts, refl, ap Some none.0, none.1)
  no_folder_so (usage.Number o wrong) none = absurd none
  no_folder_so usage.Form none = absurd none
  no_folder_so usage.Serving none = absurd none
  no_folder_so usage.ServingClients none = absurd none
  no_folder_so usage.ServingAt none = absurd none
  no_folder_so (usage.Path path) none = absurd none
  no_folder_so (usage.Options words) none = absurd none
  no_folder_so (usage.Name name) none = absurd none
  no_folder_so (usage.Switch named) none = absurd none
  no_folder_so usage.Describing none = absurd none
  no_folder_so (usage.Grammar e) none = absurd none
  no_folder_so usage.Making none = absurd none
  no_folder_so usage.Encoding none = absurd none
  no_folder_so (usage.Place wrong) none = absurd none
  no_folder_so usage.Places none = absurd none
  no_folder_so usage.Memory none = absurd none

  -- a word that names no place of its kind is unfit
  no_place_so : (kind : PlaceKind) (u : UsageFault) → IsNoPlace kind word u → IsUnfit (λ g. g ≡ ServeClients file (At kind word options) counts) u
  no_place_so kinds.Port u none = no_number_so option.Port (ServeClients file (At kinds.Port word options) counts) (Some word) refl u none
  no_place_so kinds.Socket u none = no_path_so u none
  no_place_so kinds.PostgresPort u none = no_number_so option.Port (ServeClients file (At kinds.PostgresPort word options) counts) (Some word) refl u none
  no_place_so kinds.PostgresFolder u none = no_folder_so u none

  no_options_so : (kind : PlaceKind) (u : UsageFault) → IsNoOptions kind options u → IsUnfit (λ g. g ≡ ServeClients file (At kind word options) counts) u
  no_options_so kind (usage.Options words) none = (ServeClients file (At kind word options) counts, kind, refl, kept none.0, none.1)
    where
      kept : options ≡ Some words.now → options_in (ServeClients file (At kind word options) counts) ≡ Some (kind, words.now)
      kept is = subst (λ (o : Option TheWord). options_in (ServeClients file (At kind word o) counts) ≡ Some (kind, words.now)) (sym is) refl
  no_options_so kind (usage.Path path) none = absurd none
  no_options_so kind (usage.Number o wrong) none = absurd none
  no_options_so kind usage.Form none = absurd none
  no_options_so kind usage.Serving none = absurd none
  no_options_so kind usage.ServingClients none = absurd none
  no_options_so kind usage.ServingAt none = absurd none
  no_options_so kind (usage.Folder folder) none = absurd none
  no_options_so kind (usage.Name name) none = absurd none
  no_options_so kind (usage.Switch named) none = absurd none
  no_options_so kind usage.Describing none = absurd none
  no_options_so kind (usage.Grammar e) none = absurd none
  no_options_so kind usage.Making none = absurd none
  no_options_so kind usage.Encoding none = absurd none
  no_options_so kind (usage.Place wrong) none = absurd none
  no_options_so kind usage.Places none = absurd none
  no_options_so kind usage.Memory none = absurd none

  -- a word that names no place of its kind, or does not say whom it lets in, is unfit
  pub no_place_as_so : (kind : PlaceKind) (u : UsageFault) → IsNoPlaceAs kind word options u → IsUnfit (λ g. g ≡ ServeClients file (At kind word options) counts) u
  no_place_as_so kind u none = ⊎_elim (no_place_so kind u) (no_options_so kind u) none
