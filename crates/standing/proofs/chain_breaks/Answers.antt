use Rattle.standing.specs.Parts.{chain_broken}
use Rattle.standing.proofs.chain_breaks.Goals as goal

pub returns : goal.returns
unfolding chain_broken
returns c = simp (c.is_sound-sound.ensures, c.is_waiting-waits.ensures)
