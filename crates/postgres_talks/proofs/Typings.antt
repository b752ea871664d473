-- While types are found the block stays as it is, and nothing is said but that a statement is kept, or a fatal error.
use Rattle.std.proofs.Common.{◌≡◌, ℕ, suc, false, List, [], ◌∷◌, length, Option, Some, None, refl}
use Rattle.std.specs.List.{list_any}
use Rattle.sql_ast.specs.declared.description.StatementDescription.{StatementDescription}
use Rattle.postgres_messages.specs.Backend.{TheColumn, parse_complete}
use Rattle.statement_parameters.specs.declared.types.ParameterKind.{ParameterKind}
use Rattle.statement_parameters.specs.declared.types.ParameterKind.TheVariants as kind
use Rattle.statement_parameters.specs.Samples.{sample_text}
use Rattle.postgres_talks.specs.declared.fault.TalkFault.{TalkFault}
use Rattle.postgres_talks.specs.declared.moment.TalkMoment.{TalkMoment}
use Rattle.postgres_talks.specs.declared.outcome.Outcome.{Outcome}
use Rattle.postgres_talks.specs.declared.outcome.Outcome.TheVariants as outcome
use Rattle.postgres_talks.specs.declared.parameters.TypedTemplate.{TypedTemplate}
use Rattle.postgres_talks.specs.declared.piece.StatementPiece.TheVariants as piece
use Rattle.postgres_talks.specs.Blocks.{Seen, seen_all}
use Rattle.postgres_talks.specs.Fitting.{RowsFit}
use Rattle.postgres_talks.specs.Named.{find}
use Rattle.postgres_talks.specs.Sayings.{Saying, fatal_said, message}
use Rattle.postgres_talks.specs.Typing.{after_typing, asks_first, asks_of, begins_typing, candidate_behind, goes_on_typing, keeps, said_behind, said_tried, said_typed, said_types, said_typing, template_in, tries, typed, types_by, types_found, typing_outcome, unknown_from}
use Rattle.postgres_talks.specs.Units.{is_error}

-- ---- the block

asks_block : (at : ℕ) (c : ParameterKind) (o : Option (List ℕ)) (m : TalkMoment) → (asks_of at c o m).block ≡ m.block
asks_block at c None m = refl
asks_block at c (Some text) m = refl

first_block : (o : Option ℕ) (t : TypedTemplate) (m : TalkMoment) → (asks_first o t m).block ≡ m.block
first_block (Some at) t m = asks_block at kind.Text (sample_text at kind.Text t.types t.template) m
first_block None t m = asks_block (length t.types) kind.Text (sample_text (length t.types) kind.Text t.types t.template) m

pub begins_block : (t : TypedTemplate) (m : TalkMoment) → (begins_typing t m).block ≡ m.block
begins_block t m = first_block (unknown_from 0 t.types) t m

next_block : (o : Option ℕ) (t : TypedTemplate) (d : StatementDescription) (m : TalkMoment) → (goes_on_typing o t d m).block ≡ m.block
next_block (Some at) t d m = asks_block at kind.Text (sample_text at kind.Text t.types t.template) (keeps piece.Empty t m)
next_block None t d m = refl

types_block : (o : Outcome) (at : ℕ) (c : ParameterKind) (t : TypedTemplate) (d : StatementDescription) (m : TalkMoment) → (types_by o at c t d m).block ≡ m.block
types_block outcome.Done at c t d m = next_block (unknown_from (suc at) t.types) (typed at c t) d m
types_block (outcome.Refused f) at c t d m = refl
types_block (outcome.Breaks f) at c t d m = refl

tries_block : (o : Option ParameterKind) (at : ℕ) (c : ParameterKind) (t : TypedTemplate) (d : StatementDescription) (m : TalkMoment) → (tries o at c t d m).block ≡ m.block
tries_block (Some next) at c t d m = asks_block at next (sample_text at next t.types t.template) m
tries_block None at c t d m = types_block (typing_outcome at t d) at c t d m

found_block : (o : Option TypedTemplate) (at : ℕ) (c : ParameterKind) (d : StatementDescription) (m : TalkMoment) → (types_found o at c d m).block ≡ m.block
found_block None at c d m = refl
found_block (Some t) at c d m = tries_block (candidate_behind at c t.types d) at c t d m

pub typing_block : (at : ℕ) (c : ParameterKind) (m : TalkMoment) (d : StatementDescription) → (after_typing at c m d).block ≡ m.block
typing_block at c m d = found_block (template_in (find m.name m.statements)) at c d m

-- ---- what is said

-- it is nothing, that a statement is kept, or a fatal error
all_typing : (P : List Saying → Type 0) → P [] → P (message parse_complete ∷ []) → ((f : TalkFault) → P (fatal_said f ∷ [])) → (at : ℕ) (c : ParameterKind) (m : TalkMoment) (d : StatementDescription) → P (said_typing at c m d)
all_typing P none kept fatal at c m d = of_types (template_in (find m.name m.statements))
  where
    of_next : (o : Option ℕ) → P (said_behind o)
    of_next (Some i) = none
    of_next None = kept

    of_outcome : (o : Outcome) (next : Option ℕ) → P (said_typed o next)
    of_outcome outcome.Done next = of_next next
    of_outcome (outcome.Refused f) next = none
    of_outcome (outcome.Breaks f) next = fatal f

    of_tried : (o : Option ParameterKind) (p : Outcome) (next : Option ℕ) → P (said_tried o p next)
    of_tried (Some k) p next = none
    of_tried None p next = of_outcome p next

    of_types : (o : Option TypedTemplate) → P (said_types o at c d)
    of_types None = none
    of_types (Some t) = of_tried (candidate_behind at c t.types d) (typing_outcome at t d) (unknown_from (suc at) t.types)

pub typing_seen : (b : Seen) (at : ℕ) (c : ParameterKind) (m : TalkMoment) (d : StatementDescription) → seen_all b (said_typing at c m d) ≡ Some b
typing_seen b at c m d = all_typing (λ said. seen_all b said ≡ Some b) refl refl (λ f. refl) at c m d

pub typing_quiet : (at : ℕ) (c : ParameterKind) (m : TalkMoment) (d : StatementDescription) → list_any is_error (said_typing at c m d) ≡ false
typing_quiet at c m d = all_typing (λ said. list_any is_error said ≡ false) refl refl (λ f. refl) at c m d

pub typing_fits : (h : Option (List TheColumn)) (at : ℕ) (c : ParameterKind) (m : TalkMoment) (d : StatementDescription) → RowsFit h (said_typing at c m d)
typing_fits h at c m d = all_typing (RowsFit h) tt tt (λ f. tt) at c m d
