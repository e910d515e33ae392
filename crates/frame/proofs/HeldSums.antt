-- The check sums of a frame as they are held: 512 entries below 257, which tell the sequences.
use mathlib.Core.Path.{◌≡◌, refl, sym, ap, ap₂, ◌∙◌}
use mathlib.Core.Bool.{true}
use mathlib.Core.List.{List, ◌++◌}
use Prim.Native.Nat.{ℕ, ◌+◌, ◌-◌, ◌<◌}
use native.Mathlib.Nat.{mod-lt}
use native.Mathlib.Omega.{arith}
use lib.ListN.{length, get_or, take, drop, replicate, length-append, length-replicate}
use Rattle.lists.specs.Tabulate.{tabulate, joined}
use Rattle.lists.proofs.Joined.{joined-part, length-joined, length-joined-total, tabulate-each, replicate-each, append-each, joined-each}
use Rattle.lists.proofs.Tabulated.{length-tabulate, tabulate_ext}
use Rattle.frame.specs.Frame.{check_sum, check_sums, row_sums, sequences, held_sums, sums_before, held_sequences}
use Rattle.frame.specs.Shape.{checks_of, is_shape}
use Rattle.frame.specs.declared.Shape.{Shape}
use Rattle.frame.proofs.Shapes.{shape-ranges}

pub length-row_sums : (s : Shape) (f : List ℕ) (h : ℕ) → length (row_sums s f h) ≡ checks_of s h
unfolding row_sums check_sums
length-row_sums s f h = length-tabulate (checks_of s h) _

row_sums-below : (s : Shape) (f : List ℕ) (h i : ℕ) → get_or (row_sums s f h) i 0 < 257
unfolding row_sums check_sums check_sum
row_sums-below s f h i = tabulate-each (λ x. x < 257) 0 (omega arith) (checks_of s h) _ (λ j. mod-lt _ (omega arith)) i

-- the sums before the zeros
joined_sums : (s : Shape) (f : List ℕ) → List ℕ
joined_sums s f = joined (tabulate s.rows (row_sums s f))

held-sums : (s : Shape) (f : List ℕ) → held_sums s f ≡ joined_sums s f ++ replicate (512 - length (joined_sums s f)) 0
unfolding held_sums sequences joined_sums
held-sums s f = refl

pub held-length : (s : Shape) (f : List ℕ) → is_shape s ≡ true → length (held_sums s f) ≡ 512
unfolding joined_sums
held-length s f e =
    let r = shape-ranges s e in
    let m = length-joined 64 s.rows (row_sums s f) (λ h l. let n = length-row_sums s f h in let c = (r.checks h l).most in omega arith) in
    let k = r.rows-most in
    ap length (held-sums s f) ∙ length-append (joined_sums s f) _ ∙ ap (λ n. length (joined_sums s f) + n) (length-replicate _ 0)
    ∙ (let n : length (joined_sums s f) + (512 - length (joined_sums s f)) ≡ 512 = omega arith in n)

pub held_below : (s : Shape) (f : List ℕ) (k : ℕ) → get_or (held_sums s f) k 0 < 257
unfolding joined_sums
held_below s f k =
    rw (held-sums s f)
    (append-each (λ x. x < 257) 0 (joined_sums s f) (replicate (512 - length (joined_sums s f)) 0)
    (joined-each (λ x. x < 257) 0 (omega arith) s.rows (row_sums s f) (row_sums-below s f))
    (replicate-each (λ x. x < 257) 0 (omega arith) (512 - length (joined_sums s f))) k)

-- ---- the sequences of held sums

pub length-sequences : (s : Shape) (f : List ℕ) → length (sequences s f) ≡ s.rows
unfolding sequences
length-sequences s f = length-tabulate s.rows _

pub sums-before : (s : Shape) (f : List ℕ) (h : ℕ) → length (joined (tabulate h (row_sums s f))) ≡ sums_before s h
sums-before s f h = length-joined-total (checks_of s) h (row_sums s f) (λ k l. length-row_sums s f k)

-- the check sums of row h stand at their place among those that are held
pub held-row : (s : Shape) (f : List ℕ) (h : ℕ) → h < s.rows → take (checks_of s h) (drop (sums_before s h) (held_sums s f)) ≡ row_sums s f h
unfolding joined_sums
held-row s f h l =
    ap₂ (λ (m a : ℕ). take m (drop a (held_sums s f))) (sym (length-row_sums s f h)) (sym (sums-before s f h))
    ∙ ap (λ (x : List ℕ). take (length (row_sums s f h)) (drop (length (joined (tabulate h (row_sums s f)))) x)) (held-sums s f)
    ∙ joined-part (row_sums s f) h s.rows l _

-- the sums that a frame is held with tell its sequences
pub held-sequences : (s : Shape) (f : List ℕ) → held_sequences s (held_sums s f) ≡ sequences s f
unfolding held_sequences sequences
held-sequences s f = tabulate_ext s.rows _ (row_sums s f) (held-row s f)
