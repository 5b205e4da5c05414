-- A MAC is eight bytes long.
use Rattle.std.specs.Prelude.{ℕ, List, ◌≡◌, length}
use Rattle.cmac.specs.Laws.{length_truncated}
use Rattle.sealing.specs.Sealing.{seal_of}

pub length_seal : (key : List ℕ) (first counter : ℕ) (ti x : List ℕ) → length (seal_of key first counter ti x) ≡ 8
unfolding seal_of
length_seal key first counter ti x = length_truncated _
