-- What the program has read, as what stands there.
use Rattle.std.specs.Prelude.{◌≡◌, Bool, true, false, ℕ, List, map, Option, Some, None, Result, Ok, Err}
use Rattle.postgres_messages.specs.declared.read_error.ReadError.{ReadError}
use Rattle.postgres_messages.specs.declared.read_error.ReadError.TheVariants as errors
use Rattle.postgres_messages.specs.declared.fields.FieldBytes.{FieldBytes}
use Rattle.postgres_messages.specs.declared.fields.FieldBytes.TheVariants as values
use Rattle.postgres_messages.specs.declared.frontend.NamedObject.{NamedObject}
use Rattle.postgres_messages.specs.declared.frontend.NamedObject.TheVariants as targets
use Rattle.postgres_messages.specs.declared.frontend.BoundValues.{BoundValues}
use Rattle.postgres_messages.specs.declared.frontend.FrontendMessage.{FrontendMessage}
use Rattle.postgres_messages.specs.declared.frontend.FrontendMessage.TheVariants as messages
use Rattle.postgres_messages.specs.Frontend.{TheTarget, statement, portal, TheBinding, TheMessage, bind, close, copy_data, copy_done, copy_fail, describe, execute, flush, function_call, parse, password, query, sync, terminate, is_text}

abbrev pub viewed_value : FieldBytes → Option (List ℕ)
viewed_value values.Null = None
viewed_value (values.Bytes b) = Some b.now

abbrev pub viewed_target : NamedObject → TheTarget
viewed_target (targets.Statement name) = statement name.now
viewed_target (targets.Portal name) = portal name.now

abbrev pub viewed_binding : BoundValues → TheBinding
viewed_binding b = record { formats = b.formats.items; values = map viewed_value b.values.items; results = b.result_formats.items }

abbrev pub viewed_message : FrontendMessage → TheMessage
viewed_message (messages.Bind p s b) = bind p.now s.now (viewed_binding b)
viewed_message (messages.Close t) = close (viewed_target t)
viewed_message (messages.CopyData b) = copy_data b.now
viewed_message (messages.CopyDone b) = copy_done b.now
viewed_message (messages.CopyFail b) = copy_fail b.now
viewed_message (messages.Describe t) = describe (viewed_target t)
viewed_message (messages.Execute p n) = execute p.now n
viewed_message messages.Flush = flush
viewed_message (messages.FunctionCall b) = function_call b.now
viewed_message (messages.Parse s t types) = parse s.now t.now types.items
viewed_message (messages.Password b) = password b.now
viewed_message (messages.Query t) = query t.now
viewed_message messages.Sync = sync
viewed_message messages.Terminate = terminate

-- What a function returned, seen by view, is what reading gives, unless memory ran out.
abbrev pub FailsReading : {Y : Type 0} → ReadError → Option Y → Type 0
FailsReading errors.Memory read = Unit {0}
FailsReading errors.Malformed read = read ≡ None
FailsReading errors.NotText read = ⊥

abbrev pub GivesPart : {X Y : Type 0} → (X → Y) → Result X ReadError → Option Y → Type 0
GivesPart view (Ok x) read = read ≡ Some (view x)
GivesPart view (Err e) read = FailsReading e read

-- The same of texts, which have to be UTF-8.
abbrev pub FailsGivingText : {Y : Type 0} → (Y → Bool) → ReadError → Option Y → Type 0
FailsGivingText is_text errors.Memory read = Unit {0}
FailsGivingText is_text errors.Malformed read = read ≡ None
FailsGivingText {Y} is_text errors.NotText read = (y : Y) × (read ≡ Some y) × (is_text y ≡ false)

abbrev pub GivesText : {X Y : Type 0} → (Y → Bool) → (X → Y) → Result X ReadError → Option Y → Type 0
GivesText is_text view (Ok x) read = (read ≡ Some (view x)) × (is_text (view x) ≡ true)
GivesText is_text view (Err e) read = FailsGivingText is_text e read
