use borrow.Author.Rules.{rules}
use mathlib.Core.Path.{◌∙◌}
use Prim.Native.Nat.{◌+◌}
use lib.ListN.{get_or}
use Rattle.lookup.proofs.Made.{made}
use Rattle.handshake.proofs.Laying.{caps_listed}
use Rattle.handshake.proofs.caps.Goals as goal

pub returns : goal.returns
returns c = made _ _ (λ i. get_or c.args.d.now (2 + i) 0) 6 _ (λ i y f l k. search rules) c.from_fn.ensures.items ∙ caps_listed c.args.d.now
