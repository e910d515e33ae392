-- What a call on one of the jobs answers and leaves.
use mathlib.Core.Path.{◌≡◌, refl, ap, ◌∙◌}
use mathlib.Core.Bool.{Bool, true, false, cond}
use Prim.Native.Nat.{ℕ, ◌≤◌, ◌<◌}
use lib.Dec.{ltb}
use borrow.Author.Tests.{lt-ltb, le-ltb}
use Rattle.turns.specs.Dispatcher.{Kind, Jobs, on, Reply, says, refused_33, after, reply, put}
use Rattle.turns.specs.Turning.{Calling}
use Rattle.turns.proofs.Putting.{put-there, put_elsewhere}

module _ (K : Kind) (d : Jobs K) (k : ℕ) (c : K.call) where
  -- the jobs after the call by whether the number is one of the eight
  abbrev pub left : Bool → Jobs K
  left t = cond t (record { at = put K d k (K.leaves (d.at k) c); last = d.last }) d

  others : (i : ℕ) → (i ≡ k → ⊥) → (after K d (on k c)).at i ≡ d.at i
  unfolding after
  others i n = pick (ltb k 8)
    where
      pick : (t : Bool) → (left t).at i ≡ d.at i
      pick true = put_elsewhere K d k (K.leaves (d.at k) c) i n
      pick false = refl

  no_service : (after K d (on k c)).last ≡ d.last
  unfolding after
  no_service = pick (ltb k 8)
    where
      pick : (t : Bool) → (left t).last ≡ d.last
      pick true = refl
      pick false = refl

  -- what is answered, by the same
  abbrev said : Bool → Reply K
  said t = cond t (says k (K.answers (d.at k) c)) refused_33

  answer : k < 8 → reply K d (on k c) ≡ says k (K.answers (d.at k) c)
  unfolding reply
  answer b = ap said (lt-ltb k 8 b)

  job : k < 8 → (after K d (on k c)).at k ≡ K.leaves (d.at k) c
  unfolding after
  job b = ap (λ (t : Bool). (left t).at k) (lt-ltb k 8 b) ∙ put-there K d k (K.leaves (d.at k) c)

  outside : 8 ≤ k → (reply K d (on k c) ≡ refused_33) × (after K d (on k c) ≡ d)
  unfolding reply after
  outside b = (ap said (le-ltb k 8 b), ap left (le-ltb k 8 b))

  pub calling : Calling K d k c
  calling = record { answer = answer; job = job; others = others; no_service = no_service; outside = outside }
