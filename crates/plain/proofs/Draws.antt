-- The state of the generator after one draw more, and in which range a draw lies.
use Rattle.std.proofs.Common.{◌≡◌, ℕ, suc, ◌+◌, ◌/◌, ◌<◌, sym, refl, ap, ◌∙◌, add-one, arith}
use Rattle.plain.proofs.Remainders.{rem_lt}
use Rattle.plain.specs.Drawn.{advanced, drawn, drawn_from, later}

pub later-zero : (s : ℕ) → s ≡ later 0 s
unfolding later
later-zero s = refl

later-suc : (n s : ℕ) → later (suc n) s ≡ advanced (later n s)
unfolding later
later-suc n s = refl

pub later_more : (n s : ℕ) {now next : ℕ} → now ≡ later n s → next ≡ advanced now → next ≡ later (n + 1) s
later_more n s h e = e ∙ ap advanced h ∙ sym (later-suc n s) ∙ ap (λ (k : ℕ). later k s) (sym (add-one n))

pub drawn-more : (n s least p : ℕ) {now v : ℕ} → now ≡ later n s → v ≡ drawn_from (advanced now) least p → v ≡ drawn_from (later (suc n) s) least p
drawn-more n s least p h e = e ∙ ap (λ (x : ℕ). drawn_from x least p) (ap advanced h ∙ sym (later-suc n s))

pub drawn-below : (s n : ℕ) {r : ℕ} → 0 < n → r ≡ drawn s n → r < n
drawn-below s n some e = omega (arith, rem_lt (s / 65536) n some)
