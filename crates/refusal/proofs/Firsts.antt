-- The first reason of an order: there is one, or none holds; orders one after the other.
use mathlib.Core.Path.{◌≡◌, sym, ◌∙◌}
use mathlib.Core.Logic.{inl, inr}
use mathlib.Core.List.{List, [], ◌∷◌, ◌++◌}
use Prim.Native.Nat.{ℕ, ◌<◌}
use Rattle.refusal.specs.Order.{Reason, First, None}

pub first-same : (rs : List Reason) (m k : ℕ) → First m rs → First k rs → m ≡ k
first-same [] m k f g = absurd f
first-same (r ∷ rs) m k (inl (h, e)) (inl (i, d)) = e ∙ sym d
first-same (r ∷ rs) m k (inl (h, e)) (inr (n, g)) = absurd (n h)
first-same (r ∷ rs) m k (inr (n, f)) (inl (i, d)) = absurd (n i)
first-same (r ∷ rs) m k (inr (n, f)) (inr (l, g)) = first-same rs m k f g

pub first_or_none : (rs : List Reason) (k : ℕ) → First k rs → None rs → ⊥
first_or_none [] k f n = f
first_or_none (r ∷ rs) k (inl (h, e)) (n, ns) = n h
first_or_none (r ∷ rs) k (inr (n, f)) (l, ns) = first_or_none rs k f ns

pub first-before : (rs qs : List Reason) (k : ℕ) → First k rs → First k (rs ++ qs)
first-before [] qs k f = absurd f
first-before (r ∷ rs) qs k (inl h) = inl h
first-before (r ∷ rs) qs k (inr (n, f)) = inr (n, first-before rs qs k f)

pub first-after : (rs qs : List Reason) (k : ℕ) → None rs → First k qs → First k (rs ++ qs)
first-after [] qs k n f = f
first-after (r ∷ rs) qs k (n, ns) f = inr (n, first-after rs qs k ns f)

-- where no reason of the later order comes first
pub first-front : (rs qs : List Reason) (k : ℕ) → (First k qs → ⊥) → First k (rs ++ qs) → First k rs
first-front [] qs k never f = absurd (never f)
first-front (r ∷ rs) qs k never (inl h) = inl h
first-front (r ∷ rs) qs k never (inr (n, f)) = inr (n, first-front rs qs k never f)

pub none-append : (rs qs : List Reason) → None rs → None qs → None (rs ++ qs)
none-append [] qs n m = m
none-append (r ∷ rs) qs (n, ns) m = (n, none-append rs qs ns m)

-- each number of the order is below n
abbrev pub Below : ℕ → List Reason → Type 0
Below n [] = Unit {0}
Below n (r ∷ rs) = (r.number < n) × Below n rs

pub below-append : (n : ℕ) (rs qs : List Reason) → Below n rs → Below n qs → Below n (rs ++ qs)
below-append n [] qs b c = c
below-append n (r ∷ rs) qs (b, bs) c = (b, below-append n rs qs bs c)

pub first_below : (n : ℕ) (rs : List Reason) (k : ℕ) → Below n rs → First k rs → k < n
first_below n [] k b f = absurd f
first_below n (r ∷ rs) k (b, bs) (inl (h, e)) = rw e b
first_below n (r ∷ rs) k (b, bs) (inr (l, f)) = first_below n rs k bs f
