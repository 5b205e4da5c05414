use Rattle.logfile.proofs.Settling.{dropped_log}
use mathlib.Core.Path.{sym}
use Rattle.logfile.proofs.Log.drop_pending.Goals as goal

pub returns : goal.returns
returns c = sym (dropped_log c.args.self)
