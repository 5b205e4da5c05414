-- Which of places 1 to 4 apply, as the code asks them: the tests of the table's rows, one by one.
use Rattle.std.specs.Prelude.{ℕ, List}
use Rattle.frames.specs.declared.Faults.{Faults}
use Rattle.frames.specs.Frame.{wrong_size, wrong_class, wrong_parameters, wrong_frame}

unfoldable pub faults_of : List ℕ → Faults
faults_of f =
    record {
      size = wrong_size f;
      class = wrong_class f;
      parameters = wrong_parameters f;
      frame = wrong_frame f;
    }
