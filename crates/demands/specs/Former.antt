-- The card with the former log, whose commits moved the older entries. No code is behind it: it is what the ring is held against.
use Rattle.std.specs.Prelude.{ℕ, ◌*◌, Bool, false, List, [], ℤ, length, replicate, None, Option, Some}
use Rattle.refusals.specs.declared.Refusal.{Refusal}
use Rattle.refusals.specs.declared.Refusal.TheVariants.{BrokenRule}
use Rattle.tables.specs.Choice.{pick}
use Rattle.datafiles.specs.declared.Files.{Files}
use Rattle.datafiles.specs.Files as files
use Rattle.purse.specs.declared.Purse.{Purse}
use Rattle.purse.specs.Purse as purse
use Rattle.logfile.specs.Journal as journal
use Rattle.logfile.specs.Former as former
use Rattle.keys.specs.declared.Keys.{Keys}
use Rattle.channel.specs.declared.Channel.{Channel}
use Rattle.channel.specs.Channel.{closed}
use Rattle.settings.specs.declared.Settings.{Settings}
use Rattle.standing.specs.Rules.{broken_by}
use Rattle.rows.specs.State.{State}
use Rattle.card.specs.Events.{Played}
use Rattle.demands.specs.History.{Event, plays, Said}

pub record FormerCard : Type 0 where
  pub settings : Settings
  pub keys : Keys
  pub files : Files
  pub purse : Purse
  pub log : former.Former
  pub channel : Channel

-- the state that it stands for
unfoldable pub viewed : FormerCard → State
viewed c =
    record {
      core = record { settings = c.settings; keys = c.keys; purse = c.purse; journal = former.viewed c.log; channel = c.channel };
      files = c.files;
    }

-- a state laid into it
unfoldable pub moved : FormerCard → State → FormerCard
moved c s =
    record {
      settings = s.core.settings;
      keys = s.core.keys;
      files = s.files;
      purse = s.core.purse;
      log = former.moved c.log s.core.journal;
      channel = s.core.channel;
    }

-- the standing rules but that of the place, which it has not
unfoldable pub was_broken : FormerCard → Bool
was_broken c =
    broken_by c.settings c.purse
    (record { slots = c.log.slots; place = 0; count = c.log.count; entry = c.log.entry; adds = c.log.adds; clears = c.log.clears })
    c.channel.stage c.channel.chain

-- what it answered: the card, the bench refusal, if any, and the bytes of the reply
pub record Answer : Type 0 where
  pub card : FormerCard
  pub refusal : Option Refusal
  pub out : List ℕ

abbrev pub moved_into : FormerCard → Played → Answer
moved_into c p = record { card = moved c p.state; refusal = None; out = p.out }

-- by the same rules
unfoldable pub answer : FormerCard → Event → Answer
answer c e = pick (was_broken c) (record { card = c; refusal = Some BrokenRule; out = [] }) (moved_into c (plays (viewed c) e))

abbrev pub former_next : FormerCard → Event → FormerCard
former_next c e = (answer c e).card

abbrev pub former_said : FormerCard → Event → Said
former_said c e = record { refusal = (answer c e).refusal; bytes = (answer c e).out; len = length (answer c e).out }

-- a personalisation
unfoldable pub former_issued : Settings → Keys → ℤ → FormerCard
former_issued s ks v =
    record {
      settings = s;
      keys = ks;
      files = files.zeros;
      purse = purse.resting v 0;
      log = record { slots = replicate (journal.entry_size * journal.most_entries) 0; count = 0; entry = journal.blank; adds = false; clears = false };
      channel = closed;
    }
