-- Jobs that agree from 0 to 7 are served, left and answered alike: nothing looks at a job of another number.
use mathlib.Core.Path.{◌≡◌, refl, sym, ap, ap₂, ◌∙◌}
use mathlib.Core.Bool.{Bool, true, false, cond}
use mathlib.Core.Option.{Option, none, some}
use Prim.Native.Nat.{ℕ, zero, suc, ◌%◌, ◌<◌}
use native.Mathlib.Decide.{dec_lt}
use native.Mathlib.Omega.{arith}
use lib.Dec.{ltb, eqb}
use borrow.Author.Tests.{ltb-true}
use Rattle.turns.specs.Dispatcher.{Kind, Jobs, Event, on, turn, says, seek, served, put, after, turned, reply, turn_reply}
use Rattle.turns.proofs.Calling.{left, calling}
use Rattle.turns.proofs.Seeking.{Looked, looked, found_below}

seek_agrees : (u v : ℕ → Bool) → ((k : ℕ) → k < 8 → u k ≡ v k) → (from n : ℕ) → seek u from n ≡ seek v from n
unfolding seek
seek_agrees u v same from zero = refl
seek_agrees u v same from (suc n) =
    ap₂ (λ (t : Bool) (r : Option ℕ). cond t (some (from % 8)) r) (same (from % 8) (omega arith)) (seek_agrees u v same (suc from) n)

module _ (K : Kind) (d x : Jobs K) (each : (k : ℕ) → k < 8 → d.at k ≡ x.at k) (last : d.last ≡ x.last) where
  served_agrees : served K d ≡ served K x
  unfolding served
  served_agrees =
      seek_agrees (λ k. K.unfinished (d.at k)) (λ k. K.unfinished (x.at k)) (λ k b. ap K.unfinished (each k b)) (suc d.last) 8
      ∙ ap (λ (l : ℕ). seek (λ k. K.unfinished (x.at k)) (suc l) 8) last

  pub reply_agrees : (e : Event K) → reply K d e ≡ reply K x e
  unfolding reply
  reply_agrees (on k c) = pick (dec_lt k 8)
    where
      pick : Dec (k < 8) → reply K d (on k c) ≡ reply K x (on k c)
      pick (yes b) = (calling K d k c).answer b ∙ ap (λ j. says k (K.answers j c)) (each k b) ∙ sym ((calling K x k c).answer b)
      pick (no n) = ((calling K d k c).outside (omega arith)).0 ∙ sym ((calling K x k c).outside (omega arith)).0
  reply_agrees turn = pick (served K d) (looked K d) ∙ ap (turn_reply K x) served_agrees
    where
      pick : (r : Option ℕ) → Looked K d r → turn_reply K d r ≡ turn_reply K x r
      pick none f = refl
      pick (some k) f = ap (λ j. says k (K.answers j K.step)) (each k (found_below K d k f))

  put_agrees : (k : ℕ) (c : K.call) → k < 8 → (i : ℕ) → i < 8 → put K d k (K.leaves (d.at k) c) i ≡ put K x k (K.leaves (x.at k) c) i
  unfolding put
  put_agrees k c b i below = ap₂ (λ j o. cond (eqb i k) (K.leaves j c) o) (each k b) (each i below)

  pub jobs-agree : (e : Event K) (i : ℕ) → i < 8 → (after K d e).at i ≡ (after K x e).at i
  unfolding after
  jobs-agree (on k c) i below = pick (ltb k 8) refl
    where
      pick : (t : Bool) → ltb k 8 ≡ t → (left K d k c t).at i ≡ (left K x k c t).at i
      pick true e = put_agrees k c (ltb-true k 8 e) i below
      pick false e = each i below
  jobs-agree turn i below = pick (served K d) (looked K d) ∙ ap (λ (r : Option ℕ). (turned K x r).at i) served_agrees
    where
      pick : (r : Option ℕ) → Looked K d r → (turned K d r).at i ≡ (turned K x r).at i
      pick none f = each i below
      pick (some k) f = put_agrees k K.step (found_below K d k f) i below

  pub last_agrees : (e : Event K) → (after K d e).last ≡ (after K x e).last
  unfolding after
  last_agrees (on k c) = (calling K d k c).no_service ∙ last ∙ sym (calling K x k c).no_service
  last_agrees turn = pick (served K d) ∙ ap (λ (r : Option ℕ). (turned K x r).last) served_agrees
    where
      pick : (r : Option ℕ) → (turned K d r).last ≡ (turned K x r).last
      pick none = last
      pick (some k) = refl
