-- A message asks one thing, where a connection stands.
use Rattle.std.proofs.Common.{◌≡◌, ◌∙◌, ℕ, Bool, true, false, List, length, map, refl, sym, ap, subst, Option, Some, None, Result, Ok, Err}
use Rattle.std.specs.Prelude.{◌==◌}
use Rattle.sql_types.specs.declared.state.SqlState.{SqlState}
use Rattle.sql_types.specs.declared.value.Value.{Value}
use Rattle.sql_lexer.specs.Lexeme.{Lexeme}
use Rattle.sql_lexer.specs.Lexing.{Lexes}
use Rattle.postgres_messages.specs.Frontend.{TheBinding, TheMessage, bind, parse, query, is_text}
use Rattle.postgres_messages.proofs.Starts.{one_packet}
use Rattle.postgres_messages.proofs.Whole.{one_message}
use Rattle.statement_parameters.specs.declared.fault.BindFault.{BindFault}
use Rattle.statement_parameters.specs.declared.fault.TemplateFault.{TemplateFault}
use Rattle.statement_parameters.specs.declared.fault.TemplateFault.TheVariants as unread
use Rattle.statement_parameters.specs.declared.received.ValueFault.{ValueFault}
use Rattle.statement_parameters.specs.declared.types.ParameterKind.TheVariants as kind
use Rattle.statement_parameters.specs.declared.types.ParameterType.{ParameterType}
use Rattle.statement_parameters.specs.Masks.{is_plain}
use Rattle.statement_parameters.specs.Samples.{sample_text}
use Rattle.statement_parameters.specs.declared.template.LabelledTemplate.{LabelledTemplate}
use Rattle.statement_parameters.specs.Templates.{parameter_count}
use Rattle.statement_parameters.proofs.OneReading.{once}
use Rattle.postgres_talks.specs.declared.fault.TalkFault.{TalkFault}
use Rattle.postgres_talks.specs.declared.moment.TalkMoment.{TalkMoment}
use Rattle.postgres_talks.specs.declared.moment.TalkStage.{TalkStage}
use Rattle.postgres_talks.specs.declared.moment.TalkStage.TheVariants as stage
use Rattle.postgres_talks.specs.declared.named_pieces.NamedPiece.{NamedPiece}
use Rattle.postgres_talks.specs.declared.parameters.TypedTemplate.{TypedTemplate}
use Rattle.postgres_talks.specs.declared.piece.StatementPiece.{StatementPiece}
use Rattle.postgres_talks.specs.declared.requests.Request.{Request}
use Rattle.postgres_talks.specs.declared.requests.Request.TheVariants as request
use Rattle.postgres_talks.specs.Formats.{are_format_codes, format_of}
use Rattle.postgres_talks.specs.Named.{find}
use Rattle.postgres_talks.specs.Parameters.{IsBoundByValues, IsBoundFrom, IsBoundPiece, IsBoundUnless, IsPieceOfBound, count_fault, declared_types, only_piece, received_values, with_labels_of}
use Rattle.postgres_talks.specs.Requests.{IsAskedBy, IsBind, IsBindBy, IsCountedParse, IsMessageRequest, IsParse, IsParseBy, IsParseOf, IsPlainParse, IsReadParse, IsRequest, IsRequestAt, IsSampledParse, IsStartRequest, IsTemplateParse, IsTypedParse, a_message, a_packet, no_message, no_packet, no_text, prepare_request, start_request, template_fault, template_request}
use Rattle.protocol_laws.proofs.OneBinding.{one_binding}
use Rattle.protocol_laws.proofs.OnePiece.{one_list}

module _ (one_lexing : (text : List ℕ) (r s : Result (List Lexeme) SqlState) → Lexes text r → Lexes text s → r ≡ s) where
  -- ---- what is bound

  one_of_bound : (ls : List (Option (List ℕ))) (bound : Result (List ℕ) BindFault) (r s : Result StatementPiece TalkFault) → IsPieceOfBound ls bound r → IsPieceOfBound ls bound s → r ≡ s
  one_of_bound ls (Err f) r s one other = one ∙ sym other
  one_of_bound ls (Ok text) r s one other = one.2 ∙ ap (λ (ps : List StatementPiece). with_labels_of ls (only_piece ps)) (one_list one_lexing false text one.0 other.0 one.1 other.1) ∙ sym other.2

  one_by_values : (t : TypedTemplate) (values : Result (List Value) ValueFault) (r s : Result StatementPiece TalkFault) → IsBoundByValues t values r → IsBoundByValues t values s → r ≡ s
  one_by_values t (Err f) r s one other = one ∙ sym other
  one_by_values t (Ok values) r s one other =
      one_of_bound t.labels other.0 r s (subst (λ (b : Result (List ℕ) BindFault). IsPieceOfBound t.labels b r) (one_binding t.template values one.0 other.0 one.1 other.1) one.2) other.2

  one_unless : (f : Option TalkFault) (t : TypedTemplate) (b : TheBinding) (r s : Result StatementPiece TalkFault) → IsBoundUnless f t b r → IsBoundUnless f t b s → r ≡ s
  one_unless (Some f) t b r s one other = one ∙ sym other
  one_unless None t b r s one other = one_by_values t (received_values t.types b.formats b.values) r s one other

  one_bound_from : (o : Option TypedTemplate) (p : StatementPiece) (b : TheBinding) (r s : Result StatementPiece TalkFault) → IsBoundFrom o p b r → IsBoundFrom o p b s → r ≡ s
  one_bound_from None p b r s one other = one ∙ sym other
  one_bound_from (Some t) p b r s one other = one_unless (count_fault t b) t b r s one other

  one_bound : (found : Option NamedPiece) (b : TheBinding) (r s : Result StatementPiece TalkFault) → IsBoundPiece found b r → IsBoundPiece found b s → r ≡ s
  one_bound None b r s one other = one ∙ sym other
  one_bound (Some n) b r s one other = one_bound_from n.parameters n.piece b r s one other

  one_bind_by : (fit : Bool) (found : Option NamedPiece) (p s : List ℕ) (b : TheBinding) (r q : Request) → IsBindBy fit found p s b r → IsBindBy fit found p s b q → r ≡ q
  one_bind_by true found p s b r q one other = one.2 ∙ ap (λ (x : Result StatementPiece TalkFault). request.Bind p s x (map format_of b.results)) (one_bound found b one.0 other.0 one.1 other.1) ∙ sym other.2
  one_bind_by false found p s b r q one other = one ∙ sym other

  one_bind : (ns : List NamedPiece) (p s : List ℕ) (b : TheBinding) (r q : Request) → IsBind ns p s b r → IsBind ns p s b q → r ≡ q
  one_bind ns p s b r q one other = one_bind_by (are_format_codes b.results) (find s ns) p s b r q one other

  -- ---- what is prepared

  one_plain : (name text : List ℕ) (r q : Request) → IsPlainParse name text r → IsPlainParse name text q → r ≡ q
  one_plain name text r q one other = one.2 ∙ ap (prepare_request name) (one_list one_lexing true text one.0 other.0 one.1 other.1) ∙ sym other.2

  one_sampled : (name : List ℕ) (t : TypedTemplate) (o : Option (List ℕ)) (r q : Request) → IsSampledParse name t o r → IsSampledParse name t o q → r ≡ q
  one_sampled name t None r q one other = one ∙ sym other
  one_sampled name t (Some text) r q one other = one.2 ∙ ap (template_request name t) (one_list one_lexing false text one.0 other.0 one.1 other.1) ∙ sym other.2

  one_typed : (name : List ℕ) (t : LabelledTemplate) (o : Option (List ParameterType)) (r q : Request) → IsTypedParse name t o r → IsTypedParse name t o q → r ≡ q
  one_typed name t None r q one other = one ∙ sym other
  one_typed name t (Some types) r q one other =
      one_sampled name (record { template = t.template; labels = t.labels; types = types }) (sample_text (length types) kind.Text types t.template) r q one other

  one_template : (f : Option TalkFault) (name : List ℕ) (t : LabelledTemplate) (oids : List ℕ) (r q : Request) → IsTemplateParse f name t oids r → IsTemplateParse f name t oids q → r ≡ q
  one_template (Some f) name t oids r q one other = one ∙ sym other
  one_template None name t oids r q one other = one_typed name t (declared_types t.template oids) r q one other

  one_counted : (none : Bool) (name text : List ℕ) (t : LabelledTemplate) (oids : List ℕ) (r q : Request) → IsCountedParse none name text t oids r → IsCountedParse none name text t oids q → r ≡ q
  one_counted true name text t oids r q one other = one_plain name text r q one other
  one_counted false name text t oids r q one other = one_template (template_fault t.template oids) name t oids r q one other

  one_of_read : (read : Result LabelledTemplate TemplateFault) (name text oids : List ℕ) (r q : Request) → IsParseOf read name text oids r → IsParseOf read name text oids q → r ≡ q
  one_of_read (Ok t) name text oids r q one other = one_counted (parameter_count t.template == 0) name text t oids r q one other
  one_of_read (Err unread.UnknownParameter) name text oids r q one other = one ∙ sym other
  one_of_read (Err f) name text oids r q one other = one_plain name text r q one other

  one_read : (name text oids : List ℕ) (r q : Request) → IsReadParse name text oids r → IsReadParse name text oids q → r ≡ q
  one_read name text oids r q one other =
      one_of_read other.0 name text oids r q (subst (λ (x : Result LabelledTemplate TemplateFault). IsParseOf x name text oids r) (once (record { one = one_lexing }) text one.0 other.0 one.1 other.1) one.2) other.2

  one_parse_by : (plain : Bool) (name text oids : List ℕ) (r q : Request) → IsParseBy plain name text oids r → IsParseBy plain name text oids q → r ≡ q
  one_parse_by true name text oids r q one other = one_plain name text r q one other
  one_parse_by false name text oids r q one other = one_read name text oids r q one other

  one_parse : (name text oids : List ℕ) (r q : Request) → IsParse name text oids r → IsParse name text oids q → r ≡ q
  one_parse name text oids r q one other = one_parse_by (is_plain text) name text oids r q one other

  -- ---- what a message asks

  one_asked : (ns : List NamedPiece) (m : TheMessage) (r q : Request) → IsAskedBy ns m r → IsAskedBy ns m q → r ≡ q
  one_asked ns (query text) r q one other = one.2 ∙ ap request.Statements (one_list one_lexing true text one.0 other.0 one.1 other.1) ∙ sym other.2
  one_asked ns (parse name text oids) r q one other = one_parse name text oids r q one other
  one_asked ns (bind p s b) r q one other = one_bind ns p s b r q one other
  one_asked ns m r q one other = one ∙ sym other

  text_and_none : (m n : TheMessage) → m ≡ n → is_text m ≡ true → is_text n ≡ false → ⊥
  text_and_none m n same text none = let both : true ≡ false = sym text ∙ ap is_text same ∙ none in cc

  one_of_message : (ns : List NamedPiece) (bytes : List ℕ) {r q : Request} → IsMessageRequest ns bytes r → IsMessageRequest ns bytes q → r ≡ q
  one_of_message ns bytes (a_message {r = r} m is text asks) (a_message {r = q} n it also asked) = one_asked ns n r q (subst (λ (x : TheMessage). IsAskedBy ns x r) (one_message bytes m n is it) asks) asked
  one_of_message ns bytes (a_message m is text asks) (no_text n it none) = absurd (text_and_none m n (one_message bytes m n is it) text none)
  one_of_message ns bytes (a_message m is text asks) (no_message none) = absurd (none m is)
  one_of_message ns bytes (no_text m is none) (a_message n it text asks) = absurd (text_and_none n m (one_message bytes n m it is) text none)
  one_of_message ns bytes (no_text m is none) (no_text n it other) = refl
  one_of_message ns bytes (no_text m is none) (no_message never) = absurd (never m is)
  one_of_message ns bytes (no_message none) (a_message m is text asks) = absurd (none m is)
  one_of_message ns bytes (no_message none) (no_text m is other) = absurd (none m is)
  one_of_message ns bytes (no_message none) (no_message other) = refl

  one_of_packet : (bytes : List ℕ) {r q : Request} → IsStartRequest bytes r → IsStartRequest bytes q → r ≡ q
  one_of_packet bytes (a_packet p is) (a_packet q it) = ap start_request (one_packet bytes p q is it)
  one_of_packet bytes (a_packet p is) (no_packet none) = absurd (none p is)
  one_of_packet bytes (no_packet none) (a_packet p is) = absurd (none p is)
  one_of_packet bytes (no_packet none) (no_packet other) = refl

  one_at : (s : TalkStage) (ns : List NamedPiece) (bytes : List ℕ) (r q : Request) → IsRequestAt s ns bytes r → IsRequestAt s ns bytes q → r ≡ q
  one_at stage.Starting ns bytes r q one other = one_of_packet bytes one other
  one_at s ns bytes r q one other = one_of_message ns bytes one other

  pub one_request : (m n : TalkMoment) (bytes : List ℕ) (r q : Request) → m ≡ n → IsRequest m bytes r → IsRequest n bytes q → r ≡ q
  one_request m n bytes r q same one other = one_at n.stage n.statements bytes r q (subst (λ (x : TalkMoment). IsRequest x bytes r) same one) other
