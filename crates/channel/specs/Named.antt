-- Whether access is decided by the key that a stage names, as the code asks it.
use Rattle.std.specs.Prelude.{◌≡◌, refl, Bool, true, false, None, Some}
use Rattle.std.proofs.Common.{true≢false}
use Rattle.std.proofs.lemmas.Bool.{false≢true}
use Rattle.channel.specs.declared.Stage.{Stage}
use Rattle.channel.specs.declared.Stage.TheVariants.{Closed, Bench, Waiting, Real}
use Rattle.channel.specs.Channel.{acting_of, named}

abbrev pub acts : Stage → Bool
acts Closed = false
acts (Bench k) = true
acts (Waiting k) = false
acts (Real k n) = true

pub acts_as : (g : Stage) → acts g ≡ true → Some (named g) ≡ acting_of g
acts_as Closed e = absurd (false≢true e)
acts_as (Bench k) e = refl
acts_as (Waiting k) e = absurd (false≢true e)
acts_as (Real k n) e = refl

pub acts_not : (g : Stage) → acts g ≡ false → None ≡ acting_of g
acts_not Closed e = refl
acts_not (Bench k) e = absurd (true≢false e)
acts_not (Waiting k) e = refl
acts_not (Real k n) e = absurd (true≢false e)
