-- Legal frames are the codewords with two different symbols. Where the register is alone and no row has fewer checks left than its length, a legal frame lies
-- at a distance of that length exactly where as many columns are named, every row can be completed, and the mended frame is not uniform.
use mathlib.Core.Path.{◌≡◌, subst}
use mathlib.Core.Bool.{true, false}
use mathlib.Core.List.{List}
use mathlib.Core.Logic.{◌↔◌}
use Prim.Native.Nat.{ℕ}
use native.Mathlib.Omega.{arith}
use Rattle.decoding.specs.Locating.{size_of, taps_of, alone_of, names_all, named_columns}
use Rattle.decoding.specs.Remaining.{sums_read, read_sequences, left_reach, completable, mended}
use Rattle.decoding.proofs.MendedFrame.{Read}
use Rattle.decoding.proofs.SoleNearest.{mended-coded, mended-distance, coded-at-size, nearest-only}
use Rattle.frame.specs.DeclaredCells.{Declared, distance_read}
use Rattle.frame.specs.Frame.{Coded, Legal, uniform}
use Rattle.frame.specs.Shape.{is_shape}
use Rattle.frame.specs.declared.Shape.{Shape}
use Rattle.frame.proofs.Uniform.{varied-says}

-- a codeword that is not uniform is legal
pub coded-legal : (s : Shape) (f : List ℕ) → Coded s f → uniform f ≡ false → Legal s f
coded-legal s f coded mixed = record { coded = coded; varied = (varied-says f).1 mixed }

pub legal_mixed : (s : Shape) (f : List ℕ) → Legal s f → uniform f ≡ false
legal_mixed s f legal = (varied-says f).0 legal.varied

module _ (s : Shape) (shape : is_shape s ≡ true) (D : Declared) (f : List ℕ) (read : Read s D f)
    (alone : alone_of (read_sequences s D f) ≡ true) (reaches : left_reach s D (size_of (read_sequences s D f)) ≡ true) where
  pub legal-at-size : ((names_all s (taps_of (read_sequences s D f)) (size_of (read_sequences s D f)) ≡ true)
      × (completable s D (named_columns s (taps_of (read_sequences s D f))) (sums_read s D f) ≡ true)
      × (uniform (mended s D (named_columns s (taps_of (read_sequences s D f))) f) ≡ false))
      ↔ ((g : List ℕ) × Legal s g × (distance_read s D g f ≡ size_of (read_sequences s D f)))
  legal-at-size = (
    λ (enough, fits, mixed). (
      mended s D (named_columns s (taps_of (read_sequences s D f))) f,
      coded-legal s _ (mended-coded s shape D f read enough fits) mixed,
      mended-distance s shape D f read enough fits,
    ),
    λ (g, legal, at).
        let (enough, fits) = (coded-at-size s shape D f read alone).1 (g, legal.coded, at) in (
          enough,
          fits,
          subst (λ e. uniform e ≡ false) (nearest-only s shape D f read alone reaches g legal.coded (omega arith)) (legal_mixed s g legal),
        ),
  )
