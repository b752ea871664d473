use Rattle.std.proofs.Common.{◌≡◌, ◌∙◌, ap, sym, subst, map, Result, Ok, Err}
use Rattle.std.specs.Prelude.{IfOk}
use Rattle.entry_differences.specs.Differences.{differences, applied_in_turn}
use Rattle.store.specs.Records.{IsOrdered}
use Rattle.line_differences.specs.Lines.{lines_of, changes_of}
use Rattle.section_texts.specs.Sections.{section_of}
use Rattle.section_texts.specs.LineTexts.{texts_of}
use Rattle.access_texts.specs.Lines.{lines_in}
use Rattle.access_texts.specs.Told.{are_some, printed_differences}
use Rattle.access_texts.proofs.Ordered.{lines_ordered}
use Rattle.access_texts.proofs.told.tell_differences.Goals as goal

both : {T E : Type 0} (r : Result T E) (P Q R : T → Type 0) → IfOk r P → IfOk r Q → ((x : T) → P x → Q x → R x) → IfOk r R
both (Ok x) P Q R p q f = f x p q
both (Err e) P Q R p q f = tt

pub returns : goal.returns
returns c =
    let before = map section_of c.args.before.now in
    let after = map section_of c.args.after.now in
    let old : lines_of c.as_slice-3.result.now ≡ lines_in before = ap lines_of c.as_slice-3.ensures.value ∙ c.in_ok-old.ensures ∙ ap (map texts_of) c.as_slice.ensures.value ∙ c.in_ok-before.ensures.lines in
    let new : lines_of c.as_slice-4.result.now ≡ lines_in after = ap lines_of c.as_slice-4.ensures.value ∙ c.in_ok-new.ensures ∙ ap (map texts_of) c.as_slice-2.ensures.value ∙ c.in_ok-after.ensures.lines in
    let found = c.in_ok-found.found.items in
    both c.print_differences.result _ _ _ c.print_differences.ensures.text c.print_differences.ensures.differs (λ told text differs. record {
      found = found;
      exact = c.in_ok-found.ensures.exact ∙ ap (λ es. differences es (lines_of c.as_slice-4.result.now)) old ∙ ap (differences (lines_in before)) new;
      leads = ap (applied_in_turn (changes_of found)) (sym old) ∙ c.in_ok-found.ensures.leads (subst IsOrdered (sym old) (lines_ordered before)) (subst IsOrdered (sym new) (lines_ordered after)) ∙ new;
      text = text ∙ ap (printed_differences c.args.json) c.as_slice-5.ensures.value;
      differs = differs ∙ ap are_some c.as_slice-5.ensures.value;
    })
