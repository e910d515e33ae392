-- What is known of a job that is to be located, where it is told apart whether a cell is declared.
use Rattle.std.specs.Prelude.{◌≡◌, true, false, List, ℕ}
use Rattle.frame.specs.DeclaredCells.{nothing_declared}
use Rattle.job.specs.Job.{counts_empty}
use Rattle.job.specs.declared.Head.{Head}

-- a job that is not empty, and no cell declared
pub record LocatedWhole (j : Head) (declared : List ℕ) : Type 0 where
  pub full : counts_empty j ≡ false
  pub nothing : nothing_declared declared ≡ true

-- a job that is not empty, and some cell declared
pub record LocatedRead (j : Head) (declared : List ℕ) : Type 0 where
  pub full : counts_empty j ≡ false
  pub some : nothing_declared declared ≡ false
