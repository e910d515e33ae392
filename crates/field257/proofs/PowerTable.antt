-- The table of the powers of 3 holds them.
use mathlib.Core.Path.{◌≡◌, refl, sym, ap, ◌∙◌}
use Prim.Native.Nat.{ℕ, zero, suc, ◌*◌, ◌%◌, ◌^◌, ◌<◌}
use native.Mathlib.Nat.{mul_comm, pow-suc}
use lib.ListN.{get_or}
use Rattle.field.proofs.Remainders.{mul-mod-mod}
use Rattle.lists.proofs.Tabulated.{get_d_tabulate}
use Rattle.field257.specs.Powers.{power_of3}
use Rattle.field257.specs.Table.{entry_of, table}

-- the next power
pub power-suc : (k : ℕ) → (3 * power_of3 k) % 257 ≡ power_of3 (suc k)
power-suc k = mul-mod-mod 3 (3 ^ k) 257 ∙ ap (λ (x : ℕ). x % 257) (mul_comm 3 (3 ^ k) ∙ sym (pow-suc 3 k))

entry-power : (k : ℕ) → entry_of k ≡ power_of3 k
unfolding entry_of
entry-power zero = refl
entry-power (suc k) = ap (λ (x : ℕ). (3 * x) % 257) (entry-power k) ∙ power-suc k

pub table-power : (k : ℕ) → k < 256 → get_or table k 0 ≡ power_of3 k
unfolding table
table-power k h = get_d_tabulate 256 entry_of k 0 h ∙ entry-power k
