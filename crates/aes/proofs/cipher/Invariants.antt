use Rattle.std.proofs.Common.{◌≡◌, take}
use Rattle.std.specs.List.{fold}
use Rattle.fips197.specs.Cipher.{round}
use Rattle.aes.proofs.cipher.Given as goal

abbrev pub invariant-loop-k : goal.invariant-loop-k
invariant-loop-k l = l.s ≡ fold round l.initial.s (take l.k-index l.k-items)
