use Rattle.frames.specs.Faults.{faults_of}
use Rattle.frames.specs.Frame.{wrong_size, wrong_class, wrong_parameters, wrong_frame}
use Rattle.frames.proofs.Faults.asked.Goals as goal

pub returns : goal.returns
unfolding faults_of wrong_size wrong_class wrong_parameters wrong_frame
returns c = simp (c.last-le.ensures, c.byte_at-lc.ensures, c.byte_at-p2.ensures, c.byte_at-p1.ensures, c.byte_at-cla.ensures)
