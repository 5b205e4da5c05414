use Rattle.standing.proofs.Parts.{by_parts}
use Rattle.standing.proofs.breaks.Goals as goal

pub returns : goal.returns
returns c =
    let a = c.args in
    rw (c.has_wrong_rights-rights.ensures, c.are_crossed-crossed.ensures, c.has_number_above-above.ensures, c.has_number_twice-twice.ensures, c.is_sound-known.ensures, c.log_breaks-in_log.ensures, c.value_breaks-in_value.ensures, c.chain_breaks-in_chain.ensures) (by_parts a.settings a.purse a.log a.stage a.chain)
