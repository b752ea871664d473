-- A server over another store.
use Rattle.server.specs.declared.server.Server.{Server}

-- all but the store is as it was
abbrev pub over_store : {S T X : Type 0} → T → Server S X → Server T X
over_store store server = record {
  alloc = server.alloc;
  store = store;
  handler = server.handler;
  catalogue = server.catalogue;
  writer = server.writer;
  sessions = server.sessions;
  stopped = server.stopped;
  may_have_dropped = server.may_have_dropped;
}
