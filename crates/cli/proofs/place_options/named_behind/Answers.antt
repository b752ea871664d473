use Rattle.std.proofs.Common.{rules, ◌≡◌, ◌∙◌, ◌++◌, List, ℕ, sym, subst}
use Rattle.std.proofs.lemmas.List.{append_cancel_left}
use Rattle.cli.specs.PlaceWords.{IsNameBefore}
use Rattle.cli.proofs.place_options.named_behind.Goals as goal

pub returns-else-is_name_before : goal.returns-else-is_name_before
returns-else-is_name_before c = none
  where
    found : c.args.word.now ≡ c.args.beginning.now ++ c.in_ok-name.name.now
    found = search rules

    no_name : IsNameBefore c.in_ok-name.name.now → ⊥
    no_name = search rules

    none : (name : List ℕ) → c.args.word.now ≡ c.args.beginning.now ++ name → IsNameBefore name → ⊥
    none name is named = no_name (subst IsNameBefore (append_cancel_left c.args.beginning.now name c.in_ok-name.name.now (sym is ∙ found)) named)
