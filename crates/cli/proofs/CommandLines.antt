-- The words of a command line, read by the grammar.
use Rattle.std.proofs.Common.{◌≡◌, ◌∙◌, ap, subst, sym, refl, true, List, [], Option, Some, None, Result, option_map, inl, inr}
use Rattle.std.specs.Prelude.{Ok, Err, Box, IfOk, IfErr}
use Rattle.std.specs.Box.{box_value}
use Rattle.clap.specs.Words.{App, FailsBy, HasKind, HasMatchesOf, Row, fault_of, is_simple, is_simple_and_free, kind_of, subcommand_name_of, subcommand_of, subcommand_rows, subcommand_rows_of}
use Rattle.clap.proofs.OnLiterals.{clap_on_literals}
use Rattle.clap.specs.declared.parser.matches.ArgMatches.{ArgMatches}
use Rattle.clap.specs.declared.parser.matches.ArgMatches.TheViews.{out-ArgMatches, out-SubCommand}
use Rattle.clap.specs.declared.parser.matches.SubCommand.{SubCommand}
use Rattle.clap.specs.declared.error.Error.{Error}
use Rattle.clap.specs.declared.error.kind.ErrorKind.TheVariants as kind
use Rattle.cli.specs.declared.command.Invocation.{Invocation}
use Rattle.cli.specs.declared.command.Invocation.TheVariants as order
use Rattle.cli.specs.declared.command.UsageFault.{UsageFault}
use Rattle.cli.specs.declared.command.UsageFault.TheVariants as usage
use Rattle.cli.specs.CommandGrammar.{program_app}
use Rattle.cli.specs.CommandLine.{TheWord, TheWords, Given, command_of, HasWords, GivesAs, Gives, IsOrdered, IsUnfit, Asks, Refuses, EndsReading, IsReadFrom}

grammar_is_simple : is_simple program_app ≡ true
unfolding clap_on_literals
grammar_is_simple = refl

grammar_is_free : is_simple_and_free program_app ≡ true
unfolding clap_on_literals
grammar_is_free = refl

-- ---- what a parse gives

module _ {Z : Type 0} where
  named_rows : (s : Option (Box SubCommand Z)) (name : TheWord) (rows : List Row) → option_map (λ b. (out-SubCommand (box_value b)).name.now) s ≡ Some name
      → option_map (λ p. p.1) (subcommand_rows s) ≡ Some rows → subcommand_rows s ≡ Some (name, rows)
  named_rows None name rows named has = cc
  named_rows (Some b) name rows named has = cc

-- the command that was met, with what follows it
pub met_command : (words : TheWords) (m : ArgMatches) (name : TheWord) (rows : List Row) → subcommand_rows_of m ≡ subcommand_of program_app words → subcommand_name_of m ≡ Some name
    → option_map (λ p. p.1) (subcommand_rows_of m) ≡ Some rows → subcommand_of program_app words ≡ Some (name, rows)
met_command words m name rows same named has = sym same ∙ named_rows (out-ArgMatches m).subcommand name rows named has

abbrev named_in : Option (TheWord × List Row) → TheWord
named_in None = []
named_in (Some p) = p.0

abbrev rows_in : Option (TheWord × List Row) → List Row
rows_in None = []
rows_in (Some p) = p.1

-- a parse fails by the grammar's faults alone
fails_by : (a : App) (words lent : TheWords) (result : Result ArgMatches Error) → a ≡ program_app → lent ≡ words → (is_simple_and_free a ≡ true → FailsBy (fault_of a lent) result) → FailsBy (fault_of program_app words) result
fails_by a words lent result by same fails =
    let free : is_simple_and_free a ≡ true = ap is_simple_and_free by ∙ grammar_is_free in
    subst (λ b. FailsBy (fault_of b words) result) by (subst (λ w. FailsBy (fault_of a w) result) same (fails free))

-- a parse that succeeds fits the grammar, and met what the words name
pub parsed_fits : (a : App) (words lent : TheWords) (result : Result ArgMatches Error) (m : ArgMatches) → a ≡ program_app → lent ≡ words → result ≡ Ok m
    → IfOk result (HasMatchesOf a lent) → (is_simple_and_free a ≡ true → FailsBy (fault_of a lent) result)
    → (fault_of program_app words ≡ []) × (subcommand_rows_of m ≡ subcommand_of program_app words)
parsed_fits a words lent result m by same is has fails =
    let matches : HasMatchesOf program_app words m = subst (λ r. IfOk r (HasMatchesOf program_app words)) is (subst (λ b. IfOk result (HasMatchesOf b words)) by (subst (λ w. IfOk result (HasMatchesOf a w)) same has)) in
    let fits : FailsBy (fault_of program_app words) (Ok m) = subst (λ r. FailsBy (fault_of program_app words) r) is (fails_by a words lent result by same fails) in
    (fits, (matches grammar_is_simple).1)

module _ (words : TheWords) (name : TheWord) (rows : List Row) (fits : fault_of program_app words ≡ []) (met : subcommand_of program_app words ≡ Some (name, rows)) where
  gives_of : (given : Given) → GivesAs name rows given → Gives words given
  gives_of given shown = record { fits = fits; rows = rows; command = met ∙ ap (λ n. Some (n, rows)) shown.named; words = shown.words }

  given_as : (given : Given) → Gives words given → GivesAs name rows given
  given_as given gives =
      let same : Some (command_of given, gives.rows) ≡ Some (name, rows) = sym gives.command ∙ met in
      record { named = sym (ap named_in same); words = subst (λ rs. HasWords rs given) (ap rows_in same) gives.words }

  -- words that give an order ask for it
  pub order_asks : (o : Invocation) → IsOrdered (GivesAs name rows) o → Asks words o
  order_asks (order.Format file pages admin journal) has = (has.0, gives_of _ has.1, has.2, has.3)
  order_asks (order.Copy file new pages journal) has = (has.0, gives_of _ has.1, has.2)
  order_asks (order.Dump file out) has = gives_of _ has
  order_asks (order.Restore dump new pages journal) has = (has.0, gives_of _ has.1, has.2)
  order_asks (order.Journal file on) has = gives_of _ has
  order_asks (order.Password whose) has = (has.0, has.1, gives_of _ has.2, has.3)
  order_asks (order.Run file script on) has = (has.0, has.1, gives_of _ has.2, has.3)
  order_asks (order.RunMemory admin script on) has = (has.0, has.1, gives_of _ has.2, has.3, has.4)
  order_asks (order.Serve file port connections idle) has = (has.0, has.1, has.2, gives_of _ has.3, has.4, has.5, has.6)
  order_asks (order.ServeSocket file socket connections idle) has = (has.0, has.1, gives_of _ has.2, has.3, has.4, has.5)
  order_asks (order.ServeClients file place many) has = (has.0, has.1, gives_of _ has.2, has.3, has.4)
  order_asks (order.ServePlaces file places many) has = (has.0, has.1, has.2, gives_of _ has.3, has.4, has.5)
  order_asks (order.Check file) has = gives_of _ has
  order_asks (order.Describe file asked json) has = (gives_of _ has.0, has.1)
  order_asks (order.Explain file asked) has = gives_of _ has
  order_asks order.Help has = absurd has
  order_asks order.Version has = absurd has

  -- words that give none are refused
  pub order_refuses : (u : UsageFault) → IsUnfit (GivesAs name rows) u → Refuses words u
  order_refuses usage.Form none = (fits, λ given gives. none given (given_as given gives))
  order_refuses usage.Serving none = (fits, λ given gives. none given (given_as given gives))
  order_refuses usage.ServingClients none = (fits, λ given gives. none given (given_as given gives))
  order_refuses usage.ServingAt none = (fits, λ given gives. none given (given_as given gives))
  order_refuses (usage.Number option word) unfit = (unfit.0, gives_of _ unfit.1, unfit.2, unfit.3)
  order_refuses (usage.Path path) unfit = (unfit.0, gives_of _ unfit.1, unfit.2, unfit.3)
  order_refuses (usage.Folder folder) unfit = (unfit.0, gives_of _ unfit.1, unfit.2, unfit.3)
  order_refuses (usage.Options words) unfit = (unfit.0, unfit.1, gives_of _ unfit.2, unfit.3, unfit.4)
  order_refuses (usage.Name named) unfit = (unfit.0, gives_of _ unfit.1, unfit.2, unfit.3)
  order_refuses (usage.Switch word) unfit = (unfit.0, gives_of _ unfit.1, unfit.2, unfit.3)
  order_refuses usage.Making unfit = gives_of _ unfit
  order_refuses usage.Describing unfit = (unfit.0, gives_of _ unfit.1, unfit.2)
  order_refuses (usage.Grammar e) unfit = absurd unfit
  order_refuses usage.Encoding unfit = absurd unfit
  order_refuses (usage.Place wrong) unfit = (unfit.0, gives_of _ unfit.1, unfit.2, unfit.3)
  order_refuses usage.Places none = (fits, λ given gives. none given (given_as given gives))
  order_refuses usage.Memory unfit = tt

-- ---- errors

among : (words : TheWords) (e : Error) → HasKind (fault_of program_app words) e → (kind_of e ≡ kind.OutOfMemory → ⊥) → EndsReading (kind_of e) words
among words e kinds other = elim kinds [ inl memory ↦ absurd (other memory) | inr is ↦ is ]

asks_by : (words : TheWords) (e : Error) (r : Result Invocation UsageFault) → HasKind (fault_of program_app words) e → IsReadFrom e r → IfOk r (Asks words)
asks_by words e (Ok order.Help) kinds read = subst (λ k. EndsReading k words) read (among words e kinds (λ m. let bad : kind.OutOfMemory ≡ kind.DisplayHelp = sym m ∙ read in cc))
asks_by words e (Ok order.Version) kinds read = subst (λ k. EndsReading k words) read (among words e kinds (λ m. let bad : kind.OutOfMemory ≡ kind.DisplayVersion = sym m ∙ read in cc))
asks_by words e (Ok (order.Format file pages admin journal)) kinds read = absurd read
asks_by words e (Ok (order.Copy file new pages journal)) kinds read = absurd read
asks_by words e (Ok (order.Dump file out)) kinds read = absurd read
asks_by words e (Ok (order.Restore dump new pages journal)) kinds read = absurd read
asks_by words e (Ok (order.Journal file on)) kinds read = absurd read
asks_by words e (Ok (order.Password whose)) kinds read = absurd read
asks_by words e (Ok (order.Run file script on)) kinds read = absurd read
asks_by words e (Ok (order.RunMemory admin script on)) kinds read = absurd read
asks_by words e (Ok (order.Serve file port connections idle)) kinds read = absurd read
asks_by words e (Ok (order.ServeSocket file socket connections idle)) kinds read = absurd read
asks_by words e (Ok (order.ServeClients file place many)) kinds read = absurd read
asks_by words e (Ok (order.ServePlaces file places many)) kinds read = absurd read
asks_by words e (Ok (order.Check file)) kinds read = absurd read
asks_by words e (Ok (order.Describe file asked json)) kinds read = absurd read
asks_by words e (Ok (order.Explain file asked)) kinds read = absurd read
asks_by words e (Err u) kinds read = tt

refuses_by : (words : TheWords) (e : Error) (r : Result Invocation UsageFault) → HasKind (fault_of program_app words) e → IsReadFrom e r → IfErr r (Refuses words)
refuses_by words e (Ok o) kinds read = tt
refuses_by words e (Err (usage.Grammar mistake)) kinds read =
    subst (λ f. Refuses words (usage.Grammar f)) (sym read.0) (read.1, among words e kinds read.1.not_memory)
refuses_by words e (Err usage.Form) kinds read = absurd read
refuses_by words e (Err usage.Serving) kinds read = absurd read
refuses_by words e (Err usage.ServingClients) kinds read = absurd read
refuses_by words e (Err usage.ServingAt) kinds read = absurd read
refuses_by words e (Err (usage.Number option word)) kinds read = absurd read
refuses_by words e (Err (usage.Path path)) kinds read = absurd read
refuses_by words e (Err (usage.Folder folder)) kinds read = absurd read
refuses_by words e (Err (usage.Options behind)) kinds read = absurd read
refuses_by words e (Err (usage.Name name)) kinds read = absurd read
refuses_by words e (Err (usage.Switch word)) kinds read = absurd read
refuses_by words e (Err usage.Making) kinds read = absurd read
refuses_by words e (Err usage.Describing) kinds read = absurd read
refuses_by words e (Err usage.Encoding) kinds read = absurd read
refuses_by words e (Err (usage.Place wrong)) kinds read = absurd read
refuses_by words e (Err usage.Places) kinds read = absurd read
refuses_by words e (Err usage.Memory) kinds read = tt

-- an error of the parse is read as what the words ask for, or are refused for
pub error_read : (a : App) (words lent : TheWords) (result : Result ArgMatches Error) (e : Error) (r : Result Invocation UsageFault) → a ≡ program_app → lent ≡ words → result ≡ Err e
    → (is_simple_and_free a ≡ true → FailsBy (fault_of a lent) result) → IsReadFrom e r → IfOk r (Asks words) × IfErr r (Refuses words)
error_read a words lent result e r by same is fails read =
    let kinds : HasKind (fault_of program_app words) e = subst (λ x. FailsBy (fault_of program_app words) x) is (fails_by a words lent result by same fails) in
    (asks_by words e r kinds read, refuses_by words e r kinds read)
