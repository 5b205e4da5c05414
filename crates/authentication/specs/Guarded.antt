-- What the functions answer to any data field: the same as Authentication where a second part has its 32 bytes.
use Rattle.std.specs.Prelude.{ℕ, ◌≡◌, length}
use mathlib.Core.List.{List}
use Rattle.std.proofs.Math.Path.{ap}
use Rattle.std.proofs.Math.ListN.{replicate}
use Rattle.keys.specs.declared.Keys.{Keys}
use Rattle.chains.specs.Chain.{unchained}
use Rattle.channel.specs.declared.Channel.{Channel}
use Rattle.channel.specs.declared.Stage.TheVariants.{Real}
use Rattle.channel.specs.Channel.{stage_key}
use Rattle.handshake.specs.Guarded as handshake
use Rattle.authentication.specs.Authentication.{part_key, opened, second_shown}

unfoldable pub opened_in : Keys → Channel → List ℕ → Channel
opened_in ks c d = record { stage = Real (stage_key c.stage) 0; secret = handshake.key_in (part_key ks c) c.secret d; ti = c.ti; caps = replicate 6 0; chain = unchained }

unfoldable pub second_in : Keys → Channel → List ℕ → List ℕ
second_in ks c d = handshake.reply_in (part_key ks c) c.ti c.caps d

module _ (ks : Keys) (c : Channel) (d : List ℕ) (e : length d ≡ 32) where
  pub opens_whole : opened_in ks c d ≡ opened ks c d
  unfolding opened_in opened
  opens_whole = ap (λ (x : List ℕ). record { stage = Real (stage_key c.stage) 0; secret = x; ti = c.ti; caps = replicate 6 0; chain = unchained }) (handshake.key_whole (part_key ks c) c.secret d e)

  pub second_whole : second_in ks c d ≡ second_shown ks c d
  unfolding second_in second_shown
  second_whole = handshake.reply_whole (part_key ks c) c.ti c.caps d e
