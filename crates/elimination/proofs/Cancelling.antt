-- Taking an unknown out of an equation: from `lead` times the equation, x times a row is taken. Whatever solves the row solves the
-- equation after this exactly where it did before. At the end no unknown is left, and the constant decides.
use mathlib.Core.Path.{◌≡◌, sym, ap, ap₂, ◌∙◌}
use mathlib.Core.Logic.{◌↔◌}
use Prim.Native.Nat.{ℕ, zero, suc, ◌+◌, ◌*◌, ◌≤◌, ◌<◌}
use native.Mathlib.Nat.{add_comm, le_step, lt-suc_self, mul-one, zero-mul}
use native.Mathlib.Omega.{arith}
use Rattle.field.specs.Prime.{Prime}
use Rattle.plain.proofs.Congruences.{equal, rem-small, same_sum, same-product, zero-product, zero-added, cancel-term, zero-factor}
use Rattle.plain.proofs.Remainders.{rem-none}
use Rattle.plain.proofs.Sums.{sum-zero, sum-suc}
use Rattle.plain.proofs.Terms.{sum_first}
use Rattle.elimination.specs.Equations.{Solves}
use Rattle.plain.specs.Plain.{rem, sum}

-- each value of `new` is that of `old` times `lead`, less that of `row` times x
abbrev pub Crossed : (p n : ℕ) (old row new : ℕ → ℕ) (lead x : ℕ) → Type 0
Crossed p n old row new lead x = (j : ℕ) → j < n → rem (new j + row j * x) p ≡ rem (old j * lead) p

-- what the values of an equation, times the numbers, add up to
abbrev side : (n : ℕ) (e t : ℕ → ℕ) → ℕ
side n e t = sum n (λ j. e j * t j)

sides_crossed : (p n : ℕ) (old row new t : ℕ → ℕ) (lead x : ℕ) → Crossed p n old row new lead x →
    rem (side n new t + side n row t * x) p ≡ rem (side n old t * lead) p
sides_crossed p zero old row new t lead x c =
    let a = sum-zero (λ j. new j * t j) in let b = sum-zero (λ j. row j * t j) in let d = sum-zero (λ j. old j * t j) in
    equal p (ap₂ (λ (y z : ℕ). y + z * x) a b ∙ (let z : 0 + 0 * x ≡ 0 * lead = omega arith in z) ∙ sym (ap (λ (y : ℕ). y * lead) d))
sides_crossed p (suc n) old row new t lead x c =
    let a = sum-suc n (λ j. new j * t j) in let b = sum-suc n (λ j. row j * t j) in let d = sum-suc n (λ j. old j * t j) in
    equal p (ap₂ (λ (y z : ℕ). y + z * x) a b ∙ apart (side n new t) (side n row t) (new n) (row n) (t n))
    ∙ same_sum p (side n new t + side n row t * x) (side n old t * lead) ((new n + row n * x) * t n) (old n * lead * t n)
    (sides_crossed p n old row new t lead x (λ j h. c j (le_step h)))
    (same-product p (new n + row n * x) (old n * lead) (t n) (c n (lt-suc_self n)))
    ∙ equal p (together (side n old t) (old n) (t n) ∙ sym (ap (λ (y : ℕ). y * lead) d))
  where
    apart : (a b e r u : ℕ) → a + e * u + (b + r * u) * x ≡ a + b * x + (e + r * x) * u
    apart a b e r u = omega arith

    together : (a e u : ℕ) → a * lead + e * lead * u ≡ (a + e * u) * lead
    together a e u = omega arith

module _ (p n : ℕ) (old row new : ℕ → ℕ) (lead x : ℕ) (crossed : Crossed p n old row new lead x) where
  pub cancelling : Prime p → (rem lead p ≡ 0 → ⊥) → (t : ℕ → ℕ) → Solves p n row t → Solves p n new t ↔ Solves p n old t
  cancelling prime some t solved = (λ e. zero-factor p prime (side n old t) lead some (sym same ∙ e), λ e. same ∙ zero-product p (side n old t) lead e)
    where
      same : rem (side n new t) p ≡ rem (side n old t * lead) p
      same =
          sym (zero-added p (side n new t) (side n row t * x) (zero-product p (side n row t) x solved))
          ∙ sides_crossed p n old row new t lead x crossed

  -- the unknown falls out
  pub falls_out : (k : ℕ) → k < n → new k < p → x ≡ old k → lead ≡ row k → new k ≡ 0
  falls_out k less small ex el =
      sym (rem-small (new k) p small)
      ∙ cancel-term p (row k * x) (new k) 0
      (equal p (add_comm (row k * x) (new k)) ∙ crossed k less
      ∙ equal p (ap₂ ◌*◌ (sym ex) el ∙ (let z : x * row k ≡ row k * x + 0 = omega arith in z)))
      ∙ rem-none p

  -- an unknown that neither has does not come back
  pub stays_out : (j : ℕ) → j < n → new j < p → old j ≡ 0 → row j ≡ 0 → new j ≡ 0
  stays_out j less small eo er =
      let none : new j + row j * x ≡ new j = ap (λ (y : ℕ). new j + y * x) er ∙ (let z : new j + 0 * x ≡ new j = omega arith in z) in
      let gone : old j * lead ≡ 0 = ap (λ (y : ℕ). y * lead) eo ∙ zero-mul lead in
      sym (rem-small (new j) p small) ∙ equal p (sym none) ∙ crossed j less ∙ equal p gone ∙ rem-none p

-- an equation without unknowns is solved exactly where its constant is 0
pub constant-left : (p n : ℕ) (e t : ℕ → ℕ) → 1 ≤ n → ((j : ℕ) → 1 ≤ j → j < n → e j ≡ 0) → t 0 ≡ 1 → Solves p n e t ↔ (rem (e 0) p ≡ 0)
constant-left p n e t some zeros one = (λ s. sym same ∙ s, λ s. same ∙ s)
  where
    same : rem (side n e t) p ≡ rem (e 0) p
    same =
        equal p (sum_first n (λ j. e j * t j) some (λ j l h. ap (λ (y : ℕ). y * t j) (zeros j l h) ∙ zero-mul (t j))
        ∙ ap (λ (y : ℕ). e 0 * y) one ∙ mul-one (e 0))
