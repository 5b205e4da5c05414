-- Laws of view and put.
use Rattle.logfile.specs.declared.Log.{Log}
use Rattle.logfile.specs.Journal.{Journal, fresh_or, some}

-- the log with the journal's pending part, its entries as they are
abbrev pub beside : Log → Journal → Log
beside l j = record { slots = l.slots; place = l.place; count = l.count; entry = fresh_or l.entry j.fresh; adds = some j.fresh; clears = j.clears }
