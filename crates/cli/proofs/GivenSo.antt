-- What is said of words that are given so is said of a command that gives them so.
use Rattle.std.proofs.Common.{◌≡◌, ◌∙◌, ap, sym, refl, subst, Option, Result, Ok, Err}
use Rattle.std.specs.Prelude.{IfErr, IsErrAnd}
use Rattle.cli.specs.declared.command.Invocation.{Invocation}
use Rattle.cli.specs.declared.command.Invocation.TheVariants as order
use Rattle.cli.specs.declared.command.UsageFault.{UsageFault}
use Rattle.cli.specs.declared.command.UsageFault.TheVariants as usage
use Rattle.cli.specs.declared.number.NumberOption.{NumberOption}
use Rattle.cli.specs.CommandLine.{Given, TheWord, IsNoNumber, IsOrdered, IsUnfit, number_in}
use Rattle.cli.specs.Numbers.{NoNumberFor}

module _ (G : Given → Type 0) (words : Given) (gives : G words) where
  so : (given : Given) → given ≡ words → G given
  so given is = subst G (sym is) gives

  pub ordered_so : (o : Invocation) → IsOrdered (λ given. given ≡ words) o → IsOrdered G o
  ordered_so (order.Format file pages admin journal) has = (has.0, so _ has.1, has.2, has.3)
  ordered_so (order.Copy file new pages journal) has = (has.0, so _ has.1, has.2)
  ordered_so (order.Dump file out) has = so _ has
  ordered_so (order.Restore dump new pages journal) has = (has.0, so _ has.1, has.2)
  ordered_so (order.Journal file on) has = so _ has
  ordered_so (order.Password whose) has = (has.0, has.1, so _ has.2, has.3)
  ordered_so (order.Run file script on) has = (has.0, has.1, so _ has.2, has.3)
  ordered_so (order.RunMemory admin script on) has = (has.0, has.1, so _ has.2, has.3, has.4)
  ordered_so (order.Serve file port connections idle) has = (has.0, has.1, has.2, so _ has.3, has.4, has.5, has.6)
  ordered_so (order.ServeSocket file socket connections idle) has = (has.0, has.1, so _ has.2, has.3, has.4, has.5)
  ordered_so (order.ServeClients file place many) has = (has.0, has.1, so _ has.2, has.3, has.4)
  ordered_so (order.ServePlaces file places many) has = (has.0, has.1, has.2, so _ has.3, has.4, has.5)
  ordered_so (order.Check file) has = so _ has
  ordered_so (order.Describe file asked json) has = (so _ has.0, has.1)
  ordered_so (order.Explain file asked) has = so _ has
  ordered_so order.Help has = absurd has
  ordered_so order.Version has = absurd has

  pub unfit_so : (u : UsageFault) → IsUnfit (λ given. given ≡ words) u → IsUnfit G u
  unfit_so usage.Form none = absurd (none words refl)
  unfit_so usage.Serving none = absurd (none words refl)
  unfit_so usage.ServingClients none = absurd (none words refl)
  unfit_so usage.ServingAt none = absurd (none words refl)
  unfit_so (usage.Number option word) unfit = (unfit.0, so _ unfit.1, unfit.2, unfit.3)
  unfit_so (usage.Path path) unfit = (unfit.0, so _ unfit.1, unfit.2, unfit.3)
  unfit_so (usage.Folder folder) unfit = (unfit.0, so _ unfit.1, unfit.2, unfit.3)
  unfit_so (usage.Options words) unfit = (unfit.0, unfit.1, so _ unfit.2, unfit.3, unfit.4)
  unfit_so (usage.Name named) unfit = (unfit.0, so _ unfit.1, unfit.2, unfit.3)
  unfit_so (usage.Switch word) unfit = (unfit.0, so _ unfit.1, unfit.2, unfit.3)
  unfit_so usage.Making unfit = so _ unfit
  unfit_so usage.Describing unfit = (unfit.0, so _ unfit.1, unfit.2)
  unfit_so (usage.Grammar e) unfit = absurd unfit
  unfit_so usage.Encoding unfit = absurd unfit
  unfit_so (usage.Place word) unfit = (unfit.0, so _ unfit.1, unfit.2, unfit.3)
  unfit_so usage.Places none = absurd (none words refl)
  unfit_so usage.Memory unfit = tt

-- what holds of a fault holds where it is handed on
pub handed_on : {T : Type 0} (P : UsageFault → Type 0) (r : Result T UsageFault) (u : UsageFault) → IsErrAnd r (λ y. y ≡ u) → P u → IfErr r P
handed_on P (Ok x) u is holds = absurd is
handed_on P (Err y) u is holds = subst P (sym is) holds

-- a word that gives its option no number is unfit wherever it is given to that option
pub no_number_so : (option : NumberOption) (given : Given) (word : Option TheWord) → number_in option given ≡ word → (u : UsageFault) → IsNoNumber option word u → IsUnfit (λ g. g ≡ given) u
no_number_so option given word is (usage.Number asked wrong) none =
    (given, refl, ap (λ o. number_in o given) none.0 ∙ is ∙ none.1, subst (λ o. NoNumberFor o wrong.now) (sym none.0) none.2)
no_number_so option given word is usage.Form none = absurd none
no_number_so option given word is usage.Serving none = absurd none
no_number_so option given word is usage.ServingClients none = absurd none
no_number_so option given word is usage.ServingAt none = absurd none
no_number_so option given word is (usage.Path path) none = absurd none
no_number_so option given word is (usage.Folder folder) none = absurd none
no_number_so option given word is (usage.Options words) none = absurd none
no_number_so option given word is (usage.Name name) none = absurd none
no_number_so option given word is (usage.Switch named) none = absurd none
no_number_so option given word is usage.Making none = absurd none
no_number_so option given word is usage.Describing none = absurd none
no_number_so option given word is (usage.Grammar e) none = absurd none
no_number_so option given word is usage.Encoding none = absurd none
no_number_so option given word is (usage.Place wrong) none = absurd none
no_number_so option given word is usage.Places none = absurd none
no_number_so option given word is usage.Memory none = absurd none
