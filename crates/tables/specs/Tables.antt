-- What the tables say in the words of the model.
use Rattle.std.specs.Prelude.{vec_items}
use Rattle.checkpoint.specs.Logs.{Logs}
use Rattle.peer.specs.Records.{Documents, Record}
use Rattle.entries.specs.Entries.{documents_in, logs_in}
use Rattle.tables.specs.declared.Tables.{Tables}

-- the documents of the tables
abbrev pub documents_of : Tables → Documents
documents_of t = documents_in (vec_items t.documents) (vec_items t.revisions) (vec_items t.contents) t.highest

-- the logs of the tables
abbrev pub logs_of : Tables → Logs
logs_of t = logs_in (vec_items t.logs)

-- the record of the tables
abbrev pub record_of : Tables → Record
record_of t = record { docs = documents_of t; logs = logs_of t }
