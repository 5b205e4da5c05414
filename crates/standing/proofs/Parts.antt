-- The same rules as the code asks them, part by part.
use Rattle.std.specs.Prelude.{◌≤◌, ◌<◌, false, not, ◌&&◌, ◌||◌, ◌≡◌, ltb}
use Rattle.std.proofs.Common.{ltb-false, ltb-true}
use Rattle.std.proofs.lemmas.Bool.{not-false}
use Rattle.tables.specs.Choice.{any, None, none, no_any, or_no, or_none, fail_alike}
use Rattle.purse.specs.declared.Purse.{Purse}
use Rattle.logfile.specs.declared.Log.{Log}
use Rattle.logfile.specs.Journal.{most_entries}
use Rattle.chains.specs.declared.Chain.{Chain}
use Rattle.channel.specs.declared.Stage.{Stage}
use Rattle.settings.specs.declared.Settings.{Settings}
use Rattle.standing.specs.Rules.{rules, broken_by}
use Rattle.standing.specs.Parts.{chain_broken, log_broken, parts, value_broken, value_rules}

pub log_few : (l : Log) → log_broken l ≡ false → l.count ≤ most_entries
unfolding log_broken
log_few l e = ltb-false _ _ (or_no _ _ (or_no _ _ e).0).0

pub log_placed : (l : Log) → log_broken l ≡ false → l.place < most_entries
unfolding log_broken
log_placed l e = ltb-true _ _ (not-false _ (or_no (ltb most_entries l.count) (not (ltb l.place most_entries)) (or_no (ltb most_entries l.count || not (ltb l.place most_entries)) (l.adds && l.clears) e).0).1)

pub log_apart : (l : Log) → log_broken l ≡ false → (l.adds && l.clears) ≡ false
unfolding log_broken
log_apart l e = (or_no (ltb most_entries l.count || not (ltb l.place most_entries)) (l.adds && l.clears) e).1

module _ (s : Settings) (p : Purse) (l : Log) (g : Stage) (k : Chain) where
  pub parted : broken_by s p l g k ≡ false → None (parts s p l g k)
  unfolding broken_by log_broken value_broken chain_broken
  parted e =
      let (rights, (limits, (value, (above, (twice, (pending, (few, (placed, (session, (allowance, (left, (apart, (debits, (noted, (equal, (chain, (free, t))))))))))))))))) = none (rules s p l g k) e in
      (rights, (limits, (above, (twice, (session, (or_none _ _ (or_none _ _ few placed) apart, (no_any (value_rules s.limits p (l.adds || l.clears)) (value, (pending, (allowance, (left, (debits, (noted, (equal, tt))))))), (or_none _ _ chain free, tt))))))))

  pub joined : None (parts s p l g k) → broken_by s p l g k ≡ false
  unfolding broken_by log_broken value_broken chain_broken
  joined (rights, (limits, (above, (twice, (session, (log, (figures, (open-chain, t)))))))) =
      let (low, apart) = or_no _ _ log in
      let (few, placed) = or_no _ _ low in
      let (value, (pending, (allowance, (left, (debits, (noted, (equal, u))))))) = none (value_rules s.limits p (l.adds || l.clears)) figures in
      let (chain, free) = or_no _ _ open-chain in
      no_any (rules s p l g k) (rights, (limits, (value, (above, (twice, (pending, (few, (placed, (session, (allowance, (left, (apart, (debits, (noted, (equal, (chain, (free, tt)))))))))))))))))

  pub by_parts : any (parts s p l g k) ≡ broken_by s p l g k
  by_parts = fail_alike _ _ (λ e. joined (none (parts s p l g k) e)) (λ e. no_any (parts s p l g k) (parted e))
