-- What the standing rules say of a channel, with the sizes of its bytes, and that every step keeps it.
use Rattle.std.specs.Prelude.{true, false, ◌&&◌, ◌≡◌, length}
use Rattle.chains.specs.Chain.{is_open, chain_sound}
use Rattle.channel.specs.declared.Channel.{Channel}
use Rattle.channel.specs.Channel.{stage_sound, is_waiting}

-- the key of a session is 0 to 4, its bytes have their sizes, and an open chain lies inside its file, with no first part waiting
pub record Fitting (k : Channel) : Type 0 where
  pub known : stage_sound k.stage ≡ true
  pub secret : length k.secret ≡ 16
  pub ti : length k.ti ≡ 4
  pub caps : length k.caps ≡ 6
  pub chain : chain_sound k.chain ≡ true
  pub free : (is_open k.chain && is_waiting k.stage) ≡ false
