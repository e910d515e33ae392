-- `heads::sound::marks_below` meets its contract.
use mathlib.Core.Path.{ap, ◌∙◌}
use Prim.Native.Nat.{ℕ}
use lib.Dec.{eqb}
use Rattle.columns.proofs.Outside.{next-none}
use Rattle.heads.proofs.sound.marks_below.Goals as goal

pub returns : goal.returns
returns c = ap (λ (k : ℕ). eqb k 256) c.next.ensures ∙ next-none _ _
