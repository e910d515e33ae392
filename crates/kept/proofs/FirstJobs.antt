-- Heads of zeros are those of eight empty jobs.
use mathlib.Core.Path.{◌≡◌, refl, sym, ap, ◌∙◌}
use mathlib.Core.List.{[]}
use Prim.Native.Nat.{ℕ, ◌<◌}
use lib.ListN.{replicate, get_or-replicate}
use Rattle.job.specs.Job.{beside, empty_head}
use Rattle.job.specs.declared.Head.{Head}
use Rattle.mirror.specs.Mirror.{head_of}
use Rattle.mirror.proofs.RoundTrip.{empty_mirror, there_and_back}
use Rattle.kept.specs.Kept.{kept, head_at, arrays_at}
use Rattle.kept.specs.Runs.{empty_heads, StartsEmpty}
use Rattle.kept.proofs.Written.{numbers_of}

-- the same rows of zeros are read at each place
empty-head : (k : ℕ) → k < 8 → head_at empty_heads k ≡ empty_head
empty-head k b =
    ap head_of
    (λ i.
    numbers_of (get_or-replicate 8 k (replicate 3 0) [] b i) (get_or-replicate 8 k (replicate 3 0) [] b i) (get_or-replicate 8 k (replicate 8 0) [] b i)
    (get_or-replicate 8 k (replicate 4 0) [] b i))
    ∙ ap head_of (sym empty_mirror)
    ∙ there_and_back empty_head

pub starts-empty : StartsEmpty
starts-empty sums taps declared x =
    record { each = λ k b. ap (λ (h : Head). beside h (arrays_at (kept empty_heads sums taps declared x 7) k)) (empty-head k b); last = refl }
