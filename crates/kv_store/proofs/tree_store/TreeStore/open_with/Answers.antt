use Rattle.std.proofs.Common.{◌≡◌, Bool, true, false, Ok, refl, ap, sym, subst, ◌∙◌}
use mathlib.Core.Bool.{not, beq}
use Rattle.cow_pages.specs.Cow.{working_array}
use Rattle.cow_pages.specs.declared.cow.CowPages.{CowPages}
use Rattle.cow_pages.specs.declared.open.OpenFault.TheVariants.{Damaged}
use Rattle.page_roots.specs.declared.format.Format.{Format}
use Rattle.page_roots.specs.Formats.{has_journal}
use Rattle.page_tree.specs.Check.{IsChecked}
use Rattle.kv_store.specs.Contents.{is_journaled}
use Rattle.kv_store.specs.Opening.{CannotOpenWith}
use Rattle.kv_store.proofs.SameKind.{same_kind}
use Rattle.kv_store.proofs.Opened.{kind_refused, store_opened, store_damaged, store_refused, not_full}
use Rattle.kv_store.proofs.tree_store.TreeStore.open_with.Goals as goal

-- two words that are compared
agree : (a b : Bool) → not (beq a b) ≡ false → a ≡ b
agree true true is = refl
agree true false is = absurd cc
agree false true is = absurd cc
agree false false is = refl

differ : (a b : Bool) → not (beq a b) ≡ true → a ≡ b → ⊥
differ true true is same = absurd cc
differ true false is same = let bad : true ≡ false = same in cc
differ false true is same = let bad : false ≡ true = same in cc
differ false false is same = absurd cc

-- what the root of the pages says
kind_is : (kind : Bool) (format own : Format) → kind ≡ has_journal format → format ≡ own → kind ≡ has_journal own
kind_is kind format own is same = is ∙ ap (λ (f : Format). has_journal f) same

pub returns-then-kind-journal : goal.returns-then-kind-journal
returns-then-kind-journal g c = record {
  opens =
      subst (λ (x : g.row.D.Denot). CannotOpenWith c.args.journal (g.D.Device.state c.args.device) Damaged (g.D.Device.state x)) (sym c.into_device.ensures)
      (kind_refused c.args.journal (g.D.Device.state c.args.device) c.in_ok-pages.pages c.in_ok-pages.ensures
      (λ same. differ c.has_journal-kind.result c.args.journal c.if-kind-journal.true (kind_is c.has_journal-kind.result c.format.result _ c.has_journal-kind.ensures c.format.ensures ∙ same)));
  kind = tt;
}

pub returns-in-Ok-true : goal.returns-in-Ok-true
returns-in-Ok-true g c =
    let d = g.D.Device.state c.args.device in
    let p = c.in_ok-pages.pages in
    let q = c.check_tree-checked.new.pages in
    let opened = c.in_ok-pages.ensures in
    let is = c.in-Ok-true.ensures in
    let works = is.works (ap (λ (b : Bool). Ok b) c.in-Ok-true.field-0-test) in
    let kind : is_journaled p ≡ c.args.journal = sym (kind_is c.has_journal-kind.result c.format.result _ c.has_journal-kind.ensures c.format.ensures) ∙ agree c.has_journal-kind.result c.args.journal c.if-kind-journal.false in
    record {
      opens = store_opened d p q opened is.reads.preserved is.reads.nothing c.args.journal kind c.new.result c.new.ensures.pages c.new.ensures.works c.new.ensures.counts c.new.ensures.sound
          (λ faithful.
          let was = (opened.holds faithful).is_open in (
            c.preserved_stays.ensures.open p was is.reads.preserved works,
            c.preserved_stays.ensures.stays p was is.reads.preserved,
            subst (λ (b : Bool). IsChecked (working_array p) b) c.in-Ok-true.field-0-test (is.checked (opened.history.faithful faithful)),
          ));
      kind = ap (λ (x : CowPages g.row.D.Denot g.D.Device). is_journaled x) c.new.ensures.pages ∙ (same_kind p q is.reads.preserved.preserved.root ∙ kind);
    }

pub returns-in-Ok-false : goal.returns-in-Ok-false
returns-in-Ok-false g c =
    let d = g.D.Device.state c.args.device in
    let p = c.in_ok-pages.pages in
    let q = c.check_tree-checked.new.pages in
    let opened = c.in_ok-pages.ensures in
    let is = c.in-Ok-false.ensures in
    record {
      opens =
          subst (λ (x : g.row.D.Denot). CannotOpenWith c.args.journal d Damaged (g.D.Device.state x)) (sym c.into_device-in-Ok-false.ensures)
          (store_damaged d p q opened is.reads.preserved is.reads.nothing c.args.journal
          (λ faithful. subst (λ (b : Bool). IsChecked (working_array p) b) c.in-Ok-false.field-0-test (is.checked (opened.history.faithful faithful))));
      kind = tt;
    }

pub returns-in-Err : goal.returns-in-Err
returns-in-Err g c =
    let d = g.D.Device.state c.args.device in
    let p = c.in_ok-pages.pages in
    let q = c.check_tree-checked.new.pages in
    let opened = c.in_ok-pages.ensures in
    let is = c.in-Err.ensures in
    record {
      opens =
          subst (λ (x : g.row.D.Denot). CannotOpenWith c.args.journal d c.refuse_open-refused.result (g.D.Device.state x)) (sym c.into_device-in-Err.ensures)
          (store_refused d p q opened is.reads.preserved is.reads.nothing c.args.journal c.in-Err.fault c.has_failed.result c.refuse_open-refused.result c.has_failed.ensures
          (λ faithful. is.checked (opened.history.faithful faithful)) (not_full c.in-Err.fault is.faults) c.refuse_open-refused.ensures);
      kind = tt;
    }
