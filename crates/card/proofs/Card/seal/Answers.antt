use Rattle.card.specs.Sealing.{sealed_plain, sealed_maced}
use lib.ListN.{length, take}
use Rattle.sealing.specs.Sealing.{seal_of}
use native.Mathlib.Nat.{sub-zero}
use mathlib.Core.Path.{◌≡◌, ap, ◌∙◌}
use native.Mathlib.Omega.{arith}
use Prim.Native.Nat.{ℕ, ◌+◌, ◌≤◌}
use Rattle.tables.specs.Choice.{pick}
use borrow.Author.Rules.{rules}
use Rattle.card.proofs.Card.seal.Goals as goal
use Rattle.card.proofs.Card.seal.Goals.{After-seal-mac, Then-maced}

-- with a MAC there is room for it
maced_room : (s : Then-maced) → s.args.n + 8 ≤ 256
unfolding pick
maced_room s = let h = s.requires.0 in rw s.if-maced.true at h

long : (s : After-seal-mac) → length s.seal-mac.result ≡ 8
long s = search rules

pub close-requires : goal.close-requires
close-requires c = let h = maced_room (goal.at.close-requires c).Then-maced in omega arith

pub returns-then-maced : goal.returns-then-maced
returns-then-maced c = let l : length c.seal-mac.result ≡ 8 = long (goal.at.returns-then-maced c).After-seal-mac in sealed_maced c.args.channel c.args.n c.args.reply.now c.requires.1 c.if-maced.true (maced_room (goal.at.returns-then-maced c).Then-maced) c.counter.ensures l (c.seal-mac.ensures ∙ ap (λ (k : ℕ). seal_of c.args.channel.secret 0x00 c.counter.result c.args.channel.ti (take k c.args.reply.now)) (sub-zero c.args.n)) c.lay.ensures c.close.ensures.0 c.close.ensures.1

pub returns : goal.returns
returns c = sealed_plain c.args.channel c.args.n c.args.reply.now c.requires.1 c.if-maced.false (omega arith) c.close-2.ensures.0 c.close-2.ensures.1
