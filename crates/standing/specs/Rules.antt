-- The standing rules, which bench refusal 6 tests, and bench refusals 1 to 3, 7 and 8 of an order.
use Rattle.std.specs.Prelude.{List, [], ◌∷◌, Bool, not, ◌&&◌, ◌||◌, ltb, eqb, ℤ, Option, Some, None}
use Rattle.std.specs.Int.{w32}
use Rattle.std.proofs.Common.{of_z}
use Rattle.tables.specs.Choice.{pick, any}
use Rattle.refusals.specs.declared.Refusal.{Refusal}
use Rattle.refusals.specs.declared.Refusal.TheVariants.{WrongRights, CrossedLimits, ValueOutside, NumberAbove, NumberTwice}
use Rattle.limits.specs.Limits.{crossed, within}
use Rattle.purse.specs.declared.Purse.{Purse}
use Rattle.purse.specs.Purse.{largest}
use Rattle.logfile.specs.declared.Log.{Log}
use Rattle.logfile.specs.Journal.{most_entries}
use Rattle.chains.specs.declared.Chain.{Chain}
use Rattle.chains.specs.Chain.{is_open, chain_sound}
use Rattle.channel.specs.declared.Stage.{Stage}
use Rattle.channel.specs.Channel.{stage_sound, is_waiting}
use Rattle.settings.specs.declared.Settings.{Settings}
use Rattle.settings.specs.Settings.{rights_broken, number_above, number_twice}

-- two figures of 32 bits are the same where their bits are
abbrev pub same : ℤ → ℤ → Bool
same a b = eqb (of_z w32 a) (of_z w32 b)

-- pending and committed figures differ, or a Debit is noted
unfoldable pub unequal : Purse → Bool
unequal p =
    any
    (not (same p.value p.pending)
    ∷ not (eqb p.left p.allowance)
    ∷ p.debited
    ∷ [])

-- in the paper's order, those behind bench refusals 1 to 3, 7 and 8 first, those of a chain last; each line says that one rule is broken
abbrev pub rules : Settings → Purse → Log → Stage → Chain → List Bool
rules s p l g k =
    rights_broken s
    ∷ crossed s.limits
    ∷ not (within s.limits p.value)
    ∷ number_above s
    ∷ number_twice s
    ∷ not (within s.limits p.pending)
    ∷ ltb most_entries l.count
    ∷ not (ltb l.place most_entries)
    ∷ not (stage_sound g)
    ∷ ltb largest p.allowance
    ∷ ltb p.allowance p.left
    ∷ (l.adds && l.clears)
    ∷ ltb largest p.debits
    ∷ (not p.debited && not (eqb p.debits 0))
    ∷ (not (p.moved || (l.adds || l.clears)) && unequal p)
    ∷ not (chain_sound k)
    ∷ (is_open k && is_waiting g)
    ∷ []

-- a card of these parts breaks a standing rule
unfoldable pub broken_by : Settings → Purse → Log → Stage → Chain → Bool
broken_by s p l g k = any (rules s p l g k)

-- ---- personalisation

-- the bench refusal by the first of an order's faults, if any
unfoldable pub first_fault : Bool → Bool → Bool → Bool → Bool → Option Refusal
first_fault rights crossed outside above twice =
    pick rights (Some WrongRights) (pick crossed (Some CrossedLimits) (pick outside (Some ValueOutside) (pick above (Some NumberAbove) (pick twice (Some NumberTwice) None))))

-- of an order with the starting value v: a rights nibble is 5 to Dh; lower limit above upper; starting value outside the limits; a
-- file's number above 1Fh; two files of the same number
unfoldable pub order_refusal : Settings → ℤ → Option Refusal
order_refusal s v = first_fault (rights_broken s) (crossed s.limits) (not (within s.limits v)) (number_above s) (number_twice s)
