-- How many characters a block has.
use Rattle.std.specs.Prelude.{ℕ}
use Rattle.input.specs.declared.Block.{Block}
use Rattle.input.specs.declared.Block.TheVariants.{More, Last}

abbrev pub end_of : Block → ℕ
end_of (More end) = end
end_of (Last end) = end
