-- What a card holds, as the rules speak of it.
use Rattle.std.specs.Prelude.{Bool, ◌||◌}
use Rattle.datafiles.specs.declared.Files.{Files}
use Rattle.purse.specs.declared.Purse.{Purse}
use Rattle.logfile.specs.Journal.{Journal, some}
use Rattle.logfile.specs.declared.Log.{Log}
use Rattle.logfile.specs.View as log
use Rattle.keys.specs.declared.Keys.{Keys}
use Rattle.channel.specs.declared.Channel.{Channel}
use Rattle.settings.specs.declared.Settings.{Settings}

-- all but the data files: whatever a refusal can depend on
pub record Core : Type 0 where
  pub settings : Settings
  pub keys : Keys
  pub purse : Purse
  pub journal : Journal
  pub channel : Channel

-- of these parts as the program holds them
abbrev pub core_of : Settings → Keys → Purse → Log → Channel → Core
core_of s ks p l c = record { settings = s; keys = ks; purse = p; journal = log.view l; channel = c }

pub record State : Type 0 where
  pub core : Core
  pub files : Files

-- something is pending on the log
unfoldable pub log_pending : Journal → Bool
log_pending j = some j.fresh || j.clears
