use Rattle.checks.proofs.Order.{bytes_told}
use Rattle.checks.proofs.check_bytes.Goals as goal

pub returns : goal.returns
returns c = bytes_told c.args.chain c.args.bytes.now c.is_wrong.ensures c.first.ensures
