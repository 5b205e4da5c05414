-- The MAC of a message under a session.
use Rattle.std.specs.Prelude.{ℕ, ◌/◌, ◌%◌, List, ◌∷◌, ◌++◌}
use Rattle.cmac.specs.Cmac.{cmac, truncated}

-- over INS, or 00h for a reply, then the command counter least significant byte first, the transaction identifier, the data
unfoldable pub seal_of : List ℕ → ℕ → ℕ → List ℕ → List ℕ → List ℕ
seal_of key first counter ti x = truncated (cmac key (first ∷ counter % 256 ∷ counter / 256 ∷ ti ++ x))
