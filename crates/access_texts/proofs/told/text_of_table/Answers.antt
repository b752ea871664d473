use Rattle.std.proofs.Common.{◌≡◌, ◌∙◌, ◌∷◌, [], ap, map}
use Rattle.std.proofs.lemmas.Result.{IfOk-weaker}
use Rattle.access_texts.specs.Told.{printed, table_sections}
use Rattle.access_texts.proofs.told.text_of_table.Goals as goal

pub returns : goal.returns
returns c =
    let first : map (λ t. t.now) c.as_slice.result.now ≡ c.args.table.now ∷ [] = ap (map (λ t. t.now)) (c.as_slice.ensures.value ∙ c.in_ok-tables.ensures.items) in
    let second : map (λ t. t.now) c.as_slice-2.result.now ≡ c.args.table.now ∷ [] = ap (map (λ t. t.now)) (c.as_slice-2.ensures.value ∙ c.in_ok-tables.ensures.items) in
    IfOk-weaker c.print_table.result _ _ (λ text told. record {
      found = c.in_ok-found.found.items;
      table = c.in_ok-found.ensures.tables ∙ first;
      access = c.in_ok-found.ensures.found;
      told = told ∙ ap (λ ts. printed c.args.json (table_sections ts c.as_slice-3.result.now)) second ∙ ap (λ xs. printed c.args.json (table_sections (c.args.table.now ∷ []) xs)) c.as_slice-3.ensures.value;
    }) c.print_table.ensures
