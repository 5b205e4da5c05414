-- The same rules as the code asks them, part by part.
use Rattle.std.specs.Prelude.{List, [], ◌∷◌, Bool, not, ◌&&◌, ◌||◌, ltb, eqb}
use Rattle.tables.specs.Choice.{any}
use Rattle.limits.specs.declared.Limits.{Limits}
use Rattle.limits.specs.Limits.{crossed, within}
use Rattle.purse.specs.declared.Purse.{Purse}
use Rattle.purse.specs.Purse.{largest}
use Rattle.logfile.specs.declared.Log.{Log}
use Rattle.logfile.specs.Journal.{most_entries}
use Rattle.chains.specs.declared.Chain.{Chain}
use Rattle.chains.specs.Chain.{is_open, chain_sound}
use Rattle.channel.specs.declared.Stage.{Stage}
use Rattle.channel.specs.Channel.{stage_sound, is_waiting}
use Rattle.settings.specs.declared.Settings.{Settings}
use Rattle.settings.specs.Settings.{rights_broken, number_above, number_twice}
use Rattle.standing.specs.Rules.{unequal}

-- of the value file; log_pending: a new entry or a clear is pending
abbrev pub value_rules : Limits → Purse → Bool → List Bool
value_rules l p log_pending =
    not (within l p.value)
    ∷ not (within l p.pending)
    ∷ ltb largest p.allowance
    ∷ ltb p.allowance p.left
    ∷ ltb largest p.debits
    ∷ (not p.debited && not (eqb p.debits 0))
    ∷ (not (p.moved || log_pending) && unequal p)
    ∷ []

unfoldable pub value_broken : Limits → Purse → Bool → Bool
value_broken l p log_pending = any (value_rules l p log_pending)

-- of the log
unfoldable pub log_broken : Log → Bool
log_broken l = ltb most_entries l.count || not (ltb l.place most_entries) || (l.adds && l.clears)

-- of a chain
unfoldable pub chain_broken : Stage → Chain → Bool
chain_broken g k = not (chain_sound k) || (is_open k && is_waiting g)

-- of a card
abbrev pub parts : Settings → Purse → Log → Stage → Chain → List Bool
parts s p l g k =
    rights_broken s
    ∷ crossed s.limits
    ∷ number_above s
    ∷ number_twice s
    ∷ not (stage_sound g)
    ∷ log_broken l
    ∷ value_broken s.limits p (l.adds || l.clears)
    ∷ chain_broken g k
    ∷ []
