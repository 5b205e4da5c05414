-- The card as the program holds it, and the state that it stands for. They differ in the log alone.
use Rattle.std.specs.Prelude.{ℕ, Bool}
use Rattle.rows.specs.State.{State, core_of}
use Rattle.logfile.specs.View as log
use Rattle.channel.specs.declared.Channel.{Channel}
use Rattle.standing.specs.Rules.{broken_by}
use Rattle.card.specs.declared.Card.{Card}

unfoldable pub view : Card → State
view c = record { core = core_of c.settings c.keys c.purse c.log c.channel; files = c.files }

-- the state s laid into the card c, with n slot bytes stored: bytes of its log that the rules do not speak of stay
unfoldable pub put : Card → ℕ → State → Card
put c n s =
    record {
      settings = s.core.settings;
      keys = s.core.keys;
      files = s.files;
      purse = s.core.purse;
      log = log.put c.log n s.core.journal;
      channel = s.core.channel;
    }

-- the card breaks a standing rule
abbrev pub broken : Card → Bool
broken c = broken_by c.settings c.purse c.log c.channel.stage c.channel.chain

-- the card with another channel
unfoldable pub on_channel : Card → Channel → Card
on_channel c k = record { settings = c.settings; keys = c.keys; files = c.files; purse = c.purse; log = c.log; channel = k }
