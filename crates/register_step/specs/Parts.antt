-- How the code keeps the state of Algorithm 4 between steps, and what a step makes of it. Kept are the length of the register; for each of eight sequences the
-- place, the length and the discrepancy of the register saved for it, and 2^16 over that discrepancy, in four arrays; the taps in an array of 144 entries; and
-- the saved registers one after the other in one flat array of 8 × 144.
use Rattle.std.specs.Prelude.{◌≡◌, cond, List, ℕ, suc, ◌+◌, ◌-◌, ◌*◌, ◌%◌, ◌≤◌, ◌<◌, max, ltb, eqb, length, get_or, set, take}
use Rattle.field.specs.Coefficients.{reduced}
use Rattle.field.specs.Residue.{quotient}
use Rattle.lists.specs.Parts.{replaced}
use Rattle.register.specs.Algorithm4.{State}
use Rattle.discrepancy.specs.Discrepancies.{InReach, due_at}
use Rattle.reduction.specs.Reductions.{ZerosAfter, block}

pub record Parts : Type 0 where
  pub length : ℕ
  pub places : List ℕ
  pub sizes : List ℕ
  pub discs : List ℕ
  pub quotients : List ℕ
  pub taps : List ℕ
  pub saved : List ℕ

-- the same of a length and six arrays
abbrev pub parts : (l : ℕ) (places sizes discs quotients taps saved : List ℕ) → Parts
parts l places sizes discs quotients taps saved =
    record { length = l; places = places; sizes = sizes; discs = discs; quotients = quotients; taps = taps; saved = saved }

-- the state of Algorithm 4 that they hold
unfoldable pub state_of : Parts → State
state_of x =
    record {
      size = x.length;
      taps = take (suc x.length) x.taps;
      saved = λ h.
          record {
            place = get_or x.places h 0;
            size = get_or x.sizes h 0;
            disc = get_or x.discs h 0;
            taps = take (suc (get_or x.sizes h 0)) (block h x.saved);
          };
    }

-- ---- a step on whatever the arrays hold

-- the taps less the multiple of those saved for h that a discrepancy d at (n, h) asks for, at the whole width of the array
abbrev pub reduced_taps : (p n h d : ℕ) → Parts → List ℕ
reduced_taps p n h d x =
    reduced p 143 x.taps (quotient p d (get_or x.discs h 0)) (n - get_or x.places h 0) (take (suc (get_or x.sizes h 0)) (block h x.saved))

-- the register changed, and no longer
abbrev pub stayed_parts : (p n h d : ℕ) → Parts → Parts
stayed_parts p n h d x = parts x.length x.places x.sizes x.discs x.quotients (reduced_taps p n h d x) x.saved

-- the register changed and longer: what the taps were, all 144 entries, takes the place of what was saved for h
abbrev pub grown_parts : (p n h d : ℕ) → Parts → Parts
grown_parts p n h d x =
    parts (n + get_or x.sizes h 0 - get_or x.places h 0) (set x.places h n) (set x.sizes h x.length) (set x.discs h d)
    (set x.quotients h (quotient p (65536 % p) d)) (reduced_taps p n h d x) (replaced (h * 144) 144 x.saved x.taps)

-- the change by a discrepancy d at (n, h), as `changed` of Algorithm 4 makes it
unfoldable pub changed_parts : (p n h d : ℕ) → Parts → Parts
changed_parts p n h d x =
    cond (ltb (get_or x.places h 0 + x.length) (n + get_or x.sizes h 0)) (grown_parts p n h d x) (stayed_parts p n h d x)

-- one step (n, h), s being sequence h, by the discrepancy that is due
unfoldable pub step_parts : (p N : ℕ) (s : List ℕ) (n h : ℕ) → Parts → Parts
step_parts p N s n h x =
    let d : ℕ = due_at p N x.length x.taps s n in
    cond (eqb d 0) x (changed_parts p n h d x)

-- what a step at sequence h reads can be read: the taps are residues, zeros follow the register and the one saved for h, as far as loops over a multiple of
-- 8 entries can go, and beside the discrepancy of h stands 2^16 over it
pub record Readable (p h : ℕ) (x : Parts) : Type 0 where
  pub sequence : h < 8
  pub width : length x.taps ≡ 144
  pub saved-width : length x.saved ≡ 1152
  pub residues : (i : ℕ) → get_or x.taps i 0 < p
  pub zeros : (i : ℕ) → x.length < i → i < x.length + 8 → get_or x.taps i 0 ≡ 0
  pub saved-size : get_or x.sizes h 0 ≤ get_or x.places h 0
  pub saved-zeros : ZerosAfter x.saved h (get_or x.sizes h 0)
  pub quotient : get_or x.quotients h 0 ≡ quotient p (65536 % p) (get_or x.discs h 0)

-- a discrepancy d at (n, h) can change them
pub record Changeable (p n h d : ℕ) (x : Parts) : Type 0 where
  pub readable : Readable p h x
  pub round : n ≤ 128
  pub discrepancy : d < p
  pub size : x.length ≤ n
  pub place : get_or x.places h 0 ≤ n

-- a step (n, h) can be made, `long` symbols of sequence h standing backwards in its block
pub record Steppable (p N h long n : ℕ) (symbols : List ℕ) (x : Parts) : Type 0 where
  pub readable : Readable p h x
  pub reach : InReach p N x.length h long n symbols
  pub place : get_or x.places h 0 ≤ max n (N - long)

-- ---- arrays that hold a state

-- the arrays have a place for each of eight sequences
pub record Whole (x : Parts) : Type 0 where
  pub places : length x.places ≡ 8
  pub sizes : length x.sizes ≡ 8
  pub discs : length x.discs ≡ 8
  pub quotients : length x.quotients ≡ 8
  pub taps : length x.taps ≡ 144
  pub saved : length x.saved ≡ 1152

-- the arrays are whole, only zeros follow the register, a few follow each of the saved ones, and beside each discrepancy stands 2^16 over it
pub record Ended (p : ℕ) (x : Parts) : Type 0 where
  pub whole : Whole x
  pub zeros : (i : ℕ) → x.length < i → get_or x.taps i 0 ≡ 0
  pub short : (h : ℕ) → h < 8 → get_or x.sizes h 0 ≤ 128
  pub saved-zeros : (h : ℕ) → h < 8 → ZerosAfter x.saved h (get_or x.sizes h 0)
  pub quotients : (h : ℕ) → h < 8 → get_or x.quotients h 0 ≡ quotient p (65536 % p) (get_or x.discs h 0)

-- what holds of the state whenever a step (n, h) is made: nothing overflows and no index is out of range
pub record Ready (p N : ℕ) (s : List ℕ) (n h : ℕ) (st : State) : Type 0 where
  pub longest : N ≤ 128
  pub shorter : length s ≤ N
  pub round : n ≤ N
  pub sequence : h < 8
  pub size : st.size ≤ n
  pub place : (st.saved h).place ≤ max n (N - length s)
  pub saved-size : (st.saved h).size ≤ (st.saved h).place
  pub residues : (i : ℕ) → get_or st.taps i 0 < p

-- the arrays hold the state st, and are as they have to be
pub record Stepped (p : ℕ) (st : State) (x : Parts) : Type 0 where
  pub state : state_of x ≡ st
  pub ended : Ended p x
