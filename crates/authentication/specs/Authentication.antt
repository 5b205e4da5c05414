-- AuthenticateEV2First on the card: what an accepted part leaves of the channel, and the data of its reply.
use Rattle.std.specs.Prelude.{ℕ, List, replicate}
use Rattle.keys.specs.declared.Keys.{Keys}
use Rattle.keys.specs.Keys.{key_at}
use Rattle.chains.specs.Chain.{unchained}
use Rattle.channel.specs.declared.Channel.{Channel}
use Rattle.channel.specs.declared.Inputs.{Inputs}
use Rattle.channel.specs.declared.Stage.TheVariants.{Waiting, Real}
use Rattle.channel.specs.Channel.{stage_key}
use Rattle.frames.specs.Frame.{key_in}
use Rattle.derivation.specs.Derivation.{mac_key}
use Rattle.handshake.specs.Handshake.{caps_of, first_reply, brought_a, second_reply}

-- the first part ends the old session; the card's random number is RndB
unfoldable pub begun : Inputs → List ℕ → Channel
begun u d = record { stage = Waiting (key_in d); secret = u.random; ti = u.ti; caps = caps_of d; chain = unchained }

unfoldable pub first_shown : Keys → Inputs → List ℕ → List ℕ
first_shown ks u d = first_reply (key_at ks (key_in d)) u.random

-- the key that a waiting first part named
abbrev pub part_key : Keys → Channel → List ℕ
part_key ks c = key_at ks (stage_key c.stage)

-- the second part opens the session, at command counter 0
unfoldable pub opened : Keys → Channel → List ℕ → Channel
opened ks c d =
    record {
      stage = Real (stage_key c.stage) 0;
      secret = mac_key (part_key ks c) (brought_a (part_key ks c) d) c.secret;
      ti = c.ti;
      caps = replicate 6 0;
      chain = unchained;
    }

unfoldable pub second_shown : Keys → Channel → List ℕ → List ℕ
second_shown ks c d = second_reply (part_key ks c) c.ti c.caps (brought_a (part_key ks c) d)
