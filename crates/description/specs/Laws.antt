-- How long a description is.
use Rattle.std.specs.Prelude.{ℕ, ◌≤◌, List, length}
use Rattle.std.proofs.Common.{arith}
use Rattle.tables.specs.Choice.{pick_both}
use Rattle.roles.specs.declared.Role.{Role}
use Rattle.settings.specs.declared.Settings.{Settings}
use Rattle.description.specs.Description.{described}

pub described_small : (s : Settings) (allowance entries : ℕ) (r : Role) → length (described s allowance entries r) ≤ 17
unfolding described
described_small s allowance entries r =
    let small : List ℕ → Type 0 = λ x. length x ≤ 17 in
    pick_both small _ _ _ (omega arith) (pick_both small _ _ _ (omega arith) (omega arith))
