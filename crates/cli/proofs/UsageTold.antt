-- What a fault of usage is told with.
use Rattle.std.proofs.Common.{◌≡◌, ℕ, Bool, true, false, List, Option, Some, None, Result, Ok, Err, refl, sym, ◌∙◌, subst}
use Rattle.std.specs.Prelude.{is_ok, OnOk, IfSome}
use Rattle.std.specs.Option.{option_map}
use Rattle.std.specs.Io.KnownBytes.{Appends}
use Rattle.wire.specs.ScriptRun.{Known}
use Rattle.cli.specs.declared.command.UsageFault.{UsageFault}
use Rattle.cli.specs.declared.command.UsageFault.TheVariants as usage
use Rattle.cli.specs.declared.command_name.CommandName.{CommandName}
use Rattle.cli.specs.CommandNames.{usage_for}
use Rattle.cli.specs.Usage.{fault_told, usage_reason}
use Rattle.cli.specs.Program.{usage_message, usage_status, usage_text}

-- what was written where the write succeeded is what is owed
told_of : {A E : Type 0} (command : Option CommandName) (called : List ℕ) (reason : Option (List ℕ)) (written : Result A E) (told : Bool) (before after : Known) → called ≡ usage_for command → told ≡ is_ok written →
    OnOk written (IfSome reason (λ r. Appends before after (usage_message called r))) → IfSome (option_map (usage_message (usage_for command)) reason) (λ text. told ≡ true → Appends before after text)
told_of command called None written told before after is so appends = tt
told_of command called (Some r) (Ok x) told before after is so appends = λ all. subst (λ (u : List ℕ). Appends before after (usage_message u r)) is appends
told_of command called (Some r) (Err e) told before after is so appends = λ all. let none : false ≡ true = sym so ∙ all in cc

-- of a fault that is none of memory
pub usage_told : {A E : Type 0} (command : Option CommandName) (called : List ℕ) (u : UsageFault) (written : Result A E) (told : Bool) (before after : Known) → (u ≡ usage.Memory → ⊥) → called ≡ usage_for command → told ≡ is_ok written →
    OnOk written (IfSome (usage_reason (fault_told command u)) (λ r. Appends before after (usage_message called r))) → (2 ≡ usage_status u) × IfSome (usage_text command u) (λ text. told ≡ true → Appends before after text)
usage_told command called (usage.Grammar e) written told before after other is so appends = (refl, told_of command called (usage_reason (fault_told command (usage.Grammar e))) written told before after is so appends)
usage_told command called usage.Form written told before after other is so appends = (refl, told_of command called (usage_reason usage.Form) written told before after is so appends)
usage_told command called usage.Serving written told before after other is so appends = (refl, told_of command called (usage_reason usage.Serving) written told before after is so appends)
usage_told command called usage.ServingClients written told before after other is so appends = (refl, told_of command called (usage_reason usage.ServingClients) written told before after is so appends)
usage_told command called usage.ServingAt written told before after other is so appends = (refl, told_of command called (usage_reason usage.ServingAt) written told before after is so appends)
usage_told command called (usage.Number option word) written told before after other is so appends = (refl, told_of command called (usage_reason (usage.Number option word)) written told before after is so appends)
usage_told command called (usage.Path path) written told before after other is so appends = (refl, told_of command called (usage_reason (usage.Path path)) written told before after is so appends)
usage_told command called (usage.Folder folder) written told before after other is so appends = (refl, told_of command called (usage_reason (usage.Folder folder)) written told before after is so appends)
usage_told command called (usage.Options words) written told before after other is so appends = (refl, told_of command called (usage_reason (usage.Options words)) written told before after is so appends)
usage_told command called (usage.Place word) written told before after other is so appends = (refl, told_of command called (usage_reason (usage.Place word)) written told before after is so appends)
usage_told command called usage.Places written told before after other is so appends = (refl, told_of command called (usage_reason usage.Places) written told before after is so appends)
usage_told command called (usage.Name name) written told before after other is so appends = (refl, told_of command called (usage_reason (usage.Name name)) written told before after is so appends)
usage_told command called (usage.Switch word) written told before after other is so appends = (refl, told_of command called (usage_reason (usage.Switch word)) written told before after is so appends)
usage_told command called usage.Making written told before after other is so appends = (refl, told_of command called (usage_reason usage.Making) written told before after is so appends)
usage_told command called usage.Describing written told before after other is so appends = (refl, told_of command called (usage_reason usage.Describing) written told before after is so appends)
usage_told command called usage.Encoding written told before after other is so appends = (refl, told_of command called (usage_reason usage.Encoding) written told before after is so appends)
usage_told command called usage.Memory written told before after other is so appends = absurd (other refl)
