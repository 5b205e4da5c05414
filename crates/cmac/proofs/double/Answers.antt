use Rattle.std.proofs.Common.{rules, ◌+◌, ◌*◌, ◌/◌, ◌%◌, get_or}
use Rattle.tables.specs.Choice.{pick}
use lib.Dec.{ltb}
use Rattle.field.specs.Field.{◌⊕◌, only_if}
use Rattle.lookup.proofs.Made.{made}
use Rattle.cmac.specs.Cmac.{doubled}
use Rattle.cmac.proofs.double.Goals as goal

pub returns : goal.returns
unfolding doubled pick
returns c =
    let l = c.args.l in
    made _ _ (λ i. get_or l i 0 * 2 % 256 ⊕ pick (ltb i 15) (get_or l (i + 1) 0 / 128) (only_if (get_or l 0 0 / 128) 0x87)) 16 _ (λ i y f l k. search rules) c.from_fn.ensures.items
