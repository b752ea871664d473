-- A text with values has the tokens of the written one, less its labels.
use Rattle.std.proofs.Common.{◌≡◌, ◌∙◌, ◌∷◌, [], ℕ, Bool, true, false, List, length, drop, map, refl, sym, ap, subst, Option, Some, None, Result, Ok, Err}
use Rattle.std.specs.Prelude.{nat_lt}
use Rattle.std.specs.Option.{ok_or, option_map}
use Rattle.sql_types.specs.declared.state.SqlState.{SqlState}
use Rattle.sql_types.specs.declared.value.Value.{Value}
use Rattle.sql_lexer.specs.Lexeme.{Lexeme, end_of}
use Rattle.sql_lexer.specs.Lexing.{Lexes}
use Rattle.select_labels.specs.declared.unlabelled.Unlabelled.{Unlabelled}
use Rattle.select_labels.specs.Labels.{TheLabel, label_tokens}
use Rattle.select_labels.specs.Marks.{LeavesOutLabels, marked, unmarked}
use Rattle.select_labels.specs.Unlabelled.{IsUnlabelledUnless, IsWithoutLabels, label_names, labels_of, without_labels, without_labels_if}
use Rattle.statement_parameters.specs.declared.fault.TemplateFault.{TemplateFault}
use Rattle.statement_parameters.specs.declared.fault.TemplateFault.TheVariants as fault
use Rattle.statement_parameters.specs.declared.template.LabelledTemplate.{LabelledTemplate}
use Rattle.statement_parameters.specs.Bindings.{IsBoundText}
use Rattle.statement_parameters.specs.Masks.{masked}
use Rattle.statement_parameters.specs.Parts.{StatementPart}
use Rattle.statement_parameters.specs.Readings.{IsShownReading, IsTemplateReading, IsTemplateWith, IsTemplateWithout, labelled}
use Rattle.statement_parameters.specs.Templates.{Fragment, IsTemplateOf, fragment_behind, fragments_from, number_behind, part_by, parts_of, template_of, with_fragment}
use Rattle.statement_parameters.specs.Written.{AreMarksOf, IsWrittenWith, parts_by, with_part}

-- what is known of tokens: a text has one list of them, and without its labels it has the others
pub record KnownTokens : Type 0 where
  pub one : (source : List ℕ) (r s : Result (List Lexeme) SqlState) → Lexes source r → Lexes source s → r ≡ s
  pub out : (text : List ℕ) (ts : List Lexeme) (u : Unlabelled) → Lexes text (Ok ts) → without_labels text ts ≡ Some u → LeavesOutLabels text ts u

-- ---- the parts of a template

one_more : (p : Option StatementPart) (blanks : List ℕ) (r : Option (List Fragment)) (ps : Option (List StatementPart)) → option_map parts_of r ≡ ps
    → option_map parts_of (with_fragment (fragment_behind blanks p) r) ≡ with_part p ps
one_more None blanks r ps e = refl
one_more (Some p) blanks None ps e = ap (with_part (Some p)) e
one_more (Some p) blanks (Some fs) ps e = ap (with_part (Some p)) e

same_parts : (text shown : List ℕ) (from : ℕ) (ts : List Lexeme) → option_map parts_of (fragments_from text shown from ts) ≡ parts_by text ts
same_parts text shown from [] = refl
same_parts text shown from (t ∷ ts) =
    one_more (part_by (number_behind text t) t.bytes) _ (fragments_from text shown (end_of t) ts) (parts_by text ts) (same_parts text shown (end_of t) ts)

-- what is known of a template that was read with these labels
record Told (text shown : List ℕ) (ls : List (Option (List ℕ))) (read : LabelledTemplate) : Type 0 where
  pub tokens : List Lexeme
  pub lexes : Lexes shown (Ok tokens)
  pub parts : parts_by text tokens ≡ Some (parts_of read.template)
  pub labels : read.labels ≡ ls

some_fragments : (fs : List Fragment) (o : Option (List Fragment)) → Ok fs ≡ ok_or o fault.UnknownParameter → o ≡ Some fs
some_fragments fs None e = absurd (cc)
some_fragments fs (Some gs) e = cc

told_by : (text shown : List ℕ) (ls : List (Option (List ℕ))) (read : LabelledTemplate) (r : Result (List Lexeme) SqlState) → Lexes shown r
    → Ok read.template ≡ template_of text shown r → read.labels ≡ ls → Told text shown ls read
told_by text shown ls read (Err s) lexes is labels = absurd (cc)
told_by text shown ls read (Ok ts) lexes is labels = record {
  tokens = ts;
  lexes = lexes;
  parts = sym (same_parts text shown 0 ts) ∙ ap (option_map parts_of) (some_fragments read.template (fragments_from text shown 0 ts) is);
  labels = labels;
}

same_read : (read other : LabelledTemplate) (r : Result LabelledTemplate TemplateFault) → r ≡ Ok read → r ≡ Ok other → read ≡ other
same_read read other r e f = cc

told_of : (text shown : List ℕ) (ls : List (Option (List ℕ))) (read : LabelledTemplate) (o : Result (List Fragment) TemplateFault) → IsTemplateOf text shown o
    → Ok read ≡ labelled ls o → Told text shown ls read
told_of text shown ls read (Err f) k e = absurd (cc)
told_of text shown ls read (Ok fs) k e =
    let other : LabelledTemplate = record { template = fs; labels = ls } in
    let same : read ≡ other = same_read read other (Ok other) (sym e) refl in
    told_by text shown ls read k.tokens k.lexes (ap (λ (r : LabelledTemplate). Ok r.template) same ∙ k.template_is) (ap (λ (r : LabelledTemplate). r.labels) same)

told : (text shown : List ℕ) (ls : List (Option (List ℕ))) (read : LabelledTemplate) → IsTemplateWith text shown ls (Ok read) → Told text shown ls read
told text shown ls read k = told_of text shown ls read k.template k.is_of k.is

-- ---- labels

marks_of : (names : List (Option (List ℕ))) (ls : List (Option TheLabel)) (ts : List Lexeme) (marks : List Bool) → labels_of (drop 1 ts) ≡ Some ls → names ≡ label_names ls
    → marked marks ts ≡ label_tokens ls → AreMarksOf names ts marks
marks_of [] [] ts marks found names_are left = left
marks_of [] (l ∷ ls) ts marks found names_are left = absurd (cc)
marks_of (n ∷ ns) ls ts marks found names_are left = record { labels = ls; found = found; names_are = names_are; left_out = left }

-- the tokens of a text that has labels, and of the one without them
record Taken (shown : List ℕ) (u : Unlabelled) : Type 0 where
  pub tokens : List Lexeme
  pub lexes : Lexes shown (Ok tokens)
  pub leaves : LeavesOutLabels shown tokens u

taken_of : KnownTokens → (shown : List ℕ) (u : Unlabelled) (r : Result (List Lexeme) SqlState) → Lexes shown r → Some u ≡ without_labels_if shown r → Taken shown u
taken_of known shown u (Err s) lexes is = absurd (cc)
taken_of known shown u (Ok ts) lexes is = record { tokens = ts; lexes = lexes; leaves = known.out shown ts u lexes (sym is) }

taken_if : KnownTokens → (shown : List ℕ) (u : Unlabelled) (b : Bool) → IsUnlabelledUnless b shown (Some u) → Taken shown u
taken_if known shown u true k = absurd (cc)
taken_if known shown u false k = taken_of known shown u k.tokens k.lexes k.is

taken : KnownTokens → (shown : List ℕ) (u : Unlabelled) → IsWithoutLabels shown (Some u) → Taken shown u
taken known shown u k = taken_if known shown u (nat_lt 65536 (length shown)) k

same_tokens : (ts us : List Lexeme) (r : Result (List Lexeme) SqlState) → r ≡ Ok ts → r ≡ Ok us → ts ≡ us
same_tokens ts us r e f = cc

-- ---- the text with values

with_labels : (text : List ℕ) (read : LabelledTemplate) (values : List Value) (bound : List ℕ) (u : Unlabelled) → Taken (masked text) u
    → Told text u.text u.labels read → KnownTokens → IsBoundText read.template values bound → IsWrittenWith text read.labels values bound
with_labels text read values bound u k t known b =
    let others : List Lexeme = unmarked k.leaves.marks k.tokens in
    let same : t.tokens ≡ others = same_tokens t.tokens others (Ok others) (known.one u.text (Ok others) (Ok t.tokens) k.leaves.kept t.lexes) refl in
    record {
      tokens = k.tokens;
      lexes = k.lexes;
      marks = k.leaves.marks;
      left_out = marks_of read.labels k.leaves.labels k.tokens k.leaves.marks k.leaves.found (t.labels ∙ k.leaves.names) k.leaves.left_out;
      parts = parts_of read.template;
      kept = ap (parts_by text) (sym same) ∙ t.parts;
      expected = b.expected;
      replaced = b.bound;
      has = b.has;
    }

without : (text : List ℕ) (read : LabelledTemplate) (values : List Value) (bound : List ℕ) → Told text (masked text) [] read → IsBoundText read.template values bound
    → IsWrittenWith text read.labels values bound
without text read values bound t b = record {
  tokens = t.tokens;
  lexes = t.lexes;
  marks = [];
  left_out = subst (λ (names : List (Option (List ℕ))). AreMarksOf names t.tokens []) (sym t.labels) refl;
  parts = parts_of read.template;
  kept = t.parts;
  expected = b.expected;
  replaced = b.bound;
  has = b.has;
}

by_labels : KnownTokens → (text : List ℕ) (read : LabelledTemplate) (values : List Value) (bound : List ℕ) (o : Option Unlabelled) → IsWithoutLabels (masked text) o
    → IsTemplateWithout o text (masked text) (Ok read) → IsBoundText read.template values bound → IsWrittenWith text read.labels values bound
by_labels known text read values bound None w k b = without text read values bound (told text (masked text) [] read k) b
by_labels known text read values bound (Some u) w k b = with_labels text read values bound u (taken known (masked text) u w) (told text u.text u.labels read k) known b

pub written : KnownTokens → (text : List ℕ) (read : LabelledTemplate) (values : List Value) (bound : List ℕ) → IsTemplateReading text (Ok read) → IsBoundText read.template values bound
    → IsWrittenWith text read.labels values bound
written known text read values bound k b = by_labels known text read values bound k.1.unlabelled k.1.without k.1.template_is b
