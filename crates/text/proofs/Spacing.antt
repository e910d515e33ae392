-- Numbers written one after another, each after a space.
use mathlib.Core.Path.{◌≡◌, sym, ap, ◌∙◌}
use mathlib.Core.List.{List, [], ◌∷◌, ◌++◌}
use Prim.Native.Nat.{ℕ, ◌+◌, ◌*◌, ◌^◌, ◌≤◌, ◌<◌}
use native.Mathlib.Numerals.{add-one}
use native.Mathlib.Omega.{arith}
use lib.ListN.{length, take, get_or}
use lib.Seq.{take-suc, take-length}
use Rattle.text.specs.Text.{spaced}
use Rattle.text.specs.Written.{Written}
use Rattle.text.proofs.Digits.{decimal-length, spaced-one, spaced-append}
use Rattle.text.proofs.Writing as Writing
use Rattle.text.proofs.Writing.{written-nothing, written_as, written_then}

module _ (xs l : List ℕ) (at : ℕ) where
  -- the first d of the numbers are written into l from `at` on
  pub record Spaced (d : ℕ) (m : List ℕ) (e : ℕ) : Type 0 where
    pub within : d ≤ length xs
    pub near : e ≤ at + 6 * d
    pub written : Written l at (spaced (take d xs)) m e

  pub spaced-none : Spaced 0 l at
  unfolding spaced
  spaced-none = record { within = omega arith; near = omega arith; written = written-nothing l at }

  module _ (room : at + 6 * length xs ≤ length l) (d : ℕ) (m : List ℕ) (e : ℕ) (s : Spaced d m e) where
    pub same_length : length m ≡ length l
    same_length = let n = s.near in let w = s.within in Writing.same_length l at (spaced (take d xs)) m e s.written (omega arith)

    pub spaced-room : d < length xs → e + 6 ≤ length m
    spaced-room h = let n = s.near in let k = same_length in omega arith

    pub spaced-next : (x : ℕ) (q : List ℕ) (f : ℕ) → d < length xs → get_or xs d 0 ≡ x → x < 2 ^ 16
        → Written m e (spaced (x ∷ [])) q f → Spaced (d + 1) q f
    spaced-next x q f h g small v =
        let n = s.near in let p = v.place in let k = decimal-length x small in let j = ap length (spaced-one x) in
        record {
          within = omega arith;
          near = omega arith;
          written =
              written_as l at (spaced (take d xs) ++ spaced (x ∷ [])) (spaced (take (d + 1) xs)) q f (sym longer)
              (written_then l at (spaced (take d xs)) m e s.written (omega arith) (spaced (x ∷ [])) q f v);
        }
      where
        longer : spaced (take (d + 1) xs) ≡ spaced (take d xs) ++ spaced (x ∷ [])
        longer =
            ap (λ (k : ℕ). spaced (take k xs)) (add-one d) ∙
            ap spaced (take-suc xs d 0 h ∙ ap (λ (y : ℕ). take d xs ++ (y ∷ [])) g) ∙ spaced-append (take d xs) (x ∷ [])

    pub spaced-all : d ≡ length xs → Written l at (spaced xs) m e
    spaced-all h = written_as l at (spaced (take d xs)) (spaced xs) m e (ap spaced (ap (λ (k : ℕ). take k xs) h ∙ take-length xs)) s.written
