use Rattle.std.proofs.Common.{rules, ◌≡◌, ◌≢◌, ◌∙◌, ℕ, List, Some, true, false, refl, sym, ap}
use Rattle.systems.specs.declared.entries.Content.TheVariants as content
use Rattle.systems.specs.declared.entries.NamedContent.{NamedContent}
use Rattle.systems.specs.Entries.{content_of, device_in, is_something, text_in}
use Rattle.systems.proofs.Renaming.{free_is_other}
use Rattle.systems.proofs.memory.MemSystemWriteProtectedHistoryDeviceSystem.rename.Goals as goal

pub rename_open-requires-clause-open : goal.rename_open-requires-clause-open
rename_open-requires-clause-open c =
    let entries = c.args.self.now.entries.items in
    let was_open : c.is_open.result ≡ true = search rules in
    let was_free : c.is_named.result ≡ false = search rules in
    let was_there : content_of entries c.args.from.now ≡ Some content.Open = ap (λ (es : List (NamedContent _)). content_of es c.args.from.now) (sym c.as_slice-2.ensures.value) ∙ c.is_open.ensures was_open in
    let free : is_something (content_of entries c.args.to.now) ≡ false = ap (λ (es : List (NamedContent _)). is_something (content_of es c.args.to.now)) (sym c.as_slice.ensures.value) ∙ sym c.is_named.ensures ∙ was_free in
    c.in-Ok.ensures.others c.args.from.now (free_is_other entries c.args.from.now c.args.to.now was_there free) ∙ was_there

pub returns-clause-others : goal.returns-clause-others
returns-clause-others c = λ is.
    let beside : (p : List ℕ) → p ≢ c.args.from.now → p ≢ c.args.to.now → content_of c.rename_open.new.entries.items p ≡ content_of c.args.self.now.entries.items p = λ p one other. c.rename_open.ensures.others p one other ∙ c.in-Ok.ensures.others p other in
    record {
      faithful = λ f. f;
      devices = λ p one other. ap device_in (beside p one other);
      texts = λ p one other. ap text_in (beside p one other);
      names = λ p one other. ap is_something (beside p one other);
      listeners = λ place. refl;
    }
