use Rattle.commands.specs.PlacesLaws.{asked_by}
use Rattle.commands.proofs.Places.asked.Goals as goal

pub returns : goal.returns
returns c =
    let a = c.args in
    asked_by a.opening a.settings a.keys a.purse a.log a.channel a.ins a.x.now c.named-named.ensures c.acting.ensures c.access_by-access.ensures c.is_maced-sealed.ensures c.carries-maced.ensures c.plain-d.ensures c.unknown_command.ensures c.interrupts.ensures c.wrong_length.ensures c.lacks_mac.ensures c.unknown_file.ensures c.other_kind_or_never.ensures c.not_granted.ensures c.part_fails.ensures c.is_forged.ensures c.used_up.ensures c.switched_off.ensures c.bad_parameter.ensures c.is_outside.ensures c.is_long_read.ensures c.nothing_pending.ensures
