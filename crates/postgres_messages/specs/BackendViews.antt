-- What the program writes, as the message of a server that it is.
use Rattle.std.specs.Prelude.{◌≡◌, ◌++◌, ℕ, List, map, Result, Ok, Err}
use Rattle.postgres_messages.specs.declared.backend.DescribedColumn.{DescribedColumn}
use Rattle.postgres_messages.specs.declared.backend.Report.{Report}
use Rattle.postgres_messages.specs.declared.backend.BackendMessage.{BackendMessage}
use Rattle.postgres_messages.specs.declared.backend.BackendMessage.TheVariants as messages
use Rattle.postgres_messages.specs.declared.message_writer.WriteError.{WriteError}
use Rattle.postgres_messages.specs.declared.message_writer.WriteError.TheVariants.{Memory, Unfit}
use Rattle.postgres_messages.specs.Backend.{TheColumn, TheReport, TheReply, authentication_ok, authentication_sasl, authentication_continue, authentication_final, backend_key_data, bind_complete, close_complete, command_complete, data_row, empty_query_response, error_response, no_data, notice_response, parameter_description, parameter_status, parse_complete, portal_suspended, ready_for_query, row_description, reply_bytes, IsWritable}
use Rattle.postgres_messages.specs.Views.{viewed_value}

abbrev pub viewed_column : DescribedColumn → TheColumn
viewed_column c = record { name = c.name.now; data_type = c.data_type; format = c.format }

abbrev pub viewed_report : Report → TheReport
viewed_report r = record { severity = r.severity; code = r.code.now; message = r.message.now; position = r.position }

abbrev pub viewed_reply : BackendMessage → TheReply
viewed_reply messages.AuthenticationOk = authentication_ok
viewed_reply (messages.AuthenticationSasl mechanism) = authentication_sasl mechanism.now
viewed_reply (messages.AuthenticationContinue challenge) = authentication_continue challenge.now
viewed_reply (messages.AuthenticationFinal outcome) = authentication_final outcome.now
viewed_reply (messages.BackendKeyData process key) = backend_key_data process key
viewed_reply messages.BindComplete = bind_complete
viewed_reply messages.CloseComplete = close_complete
viewed_reply (messages.CommandComplete tag) = command_complete tag.now
viewed_reply (messages.DataRow values) = data_row (map viewed_value values.now)
viewed_reply messages.EmptyQueryResponse = empty_query_response
viewed_reply (messages.ErrorResponse r) = error_response (viewed_report r)
viewed_reply messages.NoData = no_data
viewed_reply (messages.NoticeResponse r) = notice_response (viewed_report r)
viewed_reply (messages.ParameterDescription types) = parameter_description types.now
viewed_reply (messages.ParameterStatus name value) = parameter_status name.now value.now
viewed_reply messages.ParseComplete = parse_complete
viewed_reply messages.PortalSuspended = portal_suspended
viewed_reply (messages.ReadyForQuery status) = ready_for_query status
viewed_reply (messages.RowDescription columns) = row_description (map viewed_column columns.now)

-- The message was written behind the bytes, or they are as they were. Unfit: it cannot be written.
abbrev pub IsReplyWritten : {T : Type 0} → TheReply → List ℕ → List ℕ → Result T WriteError → Type 0
IsReplyWritten m old new (Ok done) = IsWritable m × (new ≡ old ++ reply_bytes m)
IsReplyWritten m old new (Err Memory) = new ≡ old
IsReplyWritten m old new (Err Unfit) = (IsWritable m → ⊥) × (new ≡ old)
