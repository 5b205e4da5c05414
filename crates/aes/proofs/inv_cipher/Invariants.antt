use Rattle.std.proofs.Common.{◌≡◌}
use Rattle.std.specs.List.{fold}
use Rattle.fips197.specs.Cipher.{inv_round}
use Rattle.aes.proofs.inv_cipher.Given as goal

abbrev pub invariant-loop-k : goal.invariant-loop-k
invariant-loop-k l = l.s ≡ fold (λ s k. inv_round s k.now) l.initial.s l.yielded
