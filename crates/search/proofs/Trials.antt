-- A block of 64 columns, tried column after column up to the last one to find.
use mathlib.Core.Path.{◌≡◌, refl, sym, ap, subst⁻¹, ◌∙◌}
use mathlib.Core.Bool.{true, false, ◌||◌}
use mathlib.Core.List.{List, [], ◌∷◌}
use Prim.Native.Nat.{ℕ, ◌+◌, ◌-◌, ◌%◌, ◌≤◌, ◌<◌, min}
use native.Mathlib.Omega.{arith}
use lib.Dec.{eqb}
use lib.ListN.{length, get_or, take, drop, length-drop}
use lib.Seq.{length-take-le}
use borrow.Author.Tests.{eq-eqb, ne_eqb}
use Rattle.columns.specs.Columns.{has, marking, columns_of, Sound}
use Rattle.columns.proofs.Marks.{none-marked, columns_of-sound}
use Rattle.decoding.specs.Locating.{is_root}
use Rattle.decoding.specs.Search.{tried_for}
use Rattle.decoding.specs.Searching.{searched, Trying}
use Rattle.decoding.proofs.Searching.{search-none, search-root, search-other}
use Rattle.decoding.proofs.Searching.{trying-starts, trying-root, trying-other, trying-ends}
use Rattle.field257.specs.Powers.{locator_of}
use Rattle.field257.specs.Table.{table}
use Rattle.field257.proofs.PowerTable.{table-power}
use Rattle.lists.proofs.Entries.{get_d_part}
use Rattle.lists.proofs.Tabulated.{length-tabulate}
use Rattle.search.specs.Block.{Searching, Blockable, Tried}
use Rattle.search.specs.Values.{Points}
use Rattle.weights.specs.Weights.{carried}
use Rattle.weights.proofs.CarriedRoot.{carried-root}

-- Columns below i are tried: the search is over, or it goes on.
pub record SoFar (σ : List ℕ) (n i left : ℕ) (words : List ℕ) : Type 0 where
  pub marked : marking words ≡ searched σ i
  pub ends : left ≡ 0 → i ≡ tried_for n σ
  pub goes_on : 0 < left → Searching σ n i left words

-- the search starts with no column tried
pub searching-starts : (σ : List ℕ) (n : ℕ) → 2 ≤ length σ → Searching σ n 0 (length σ - 1) (0 ∷ 0 ∷ 0 ∷ 0 ∷ [])
searching-starts σ n long = record {
  within = omega arith;
  whole = λ _. refl;
  marked = none-marked ∙ search-none σ;
  trying = trying-starts σ n long;
}

module _ (σ : List ℕ) (n from : ℕ) where
  -- the block ends before `to`: it is whole, or has the last columns
  pub record Block (to : ℕ) : Type 0 where
    pub aligned : from % 64 ≡ 0
    pub some : from < to
    pub end : to ≤ from + 64
    pub last : to ≤ n
    pub whole : to < n → to ≡ from + 64

  -- the columns of the block below i are tried
  pub record InBlock (to i left : ℕ) (words : List ℕ) : Type 0 where
    pub block : Block to
    pub started : from ≤ i
    pub within : i ≤ to
    pub marked : marking words ≡ searched σ i
    pub trying : Trying σ n i left

  module _ (powers : List ℕ) (most : ℕ) (words₀ : List ℕ) (asked : Blockable powers σ n from most words₀) where
    pub room : from + 64 ≤ 256
    room = let w = asked.searching.whole asked.more in omega (arith, asked.few, asked.more)

    -- it ends after 64 columns, or with the last
    pub block-starts : (to : ℕ) → to ≡ min (from + 64) n → InBlock to from most words₀
    block-starts to e =
        let more = asked.more in
        record {
          block =
              record { aligned = asked.searching.whole more; some = omega arith; end = omega arith; last = omega arith; whole = λ less. omega arith };
          started = omega arith;
          within = omega arith;
          marked = asked.searching.marked;
          trying = asked.searching.trying;
        }

    -- ---- the locators of the block

    abbrev lent : List ℕ
    lent = take (from + 64 - from) (drop from powers)

    pub size_powers : length powers ≡ 256
    unfolding table
    size_powers = ap length asked.powers_known ∙ length-tabulate 256 _

    size-lent : length lent ≡ 64
    size-lent =
        length-take-le (from + 64 - from) (drop from powers) (let r = room in let d = length-drop from powers in omega (arith, size_powers)) ∙ omega arith

    locator-at : (j : ℕ) → j < 64 → get_or lent j 0 ≡ locator_of (from + j)
    locator-at j l =
        get_d_part from (from + 64 - from) powers j 0 (omega arith)
        ∙ ap (λ (y : List ℕ). get_or y (from + j) 0) asked.powers_known ∙ table-power (from + j) (let r = room in omega arith)

    pub factors : Points lent
    factors = record { size = size-lent; small = λ j l. (let e = locator-at j l in omega arith) }

    -- v has the values there
    module _ (v : List ℕ) (valued : (j : ℕ) → j < 64 → get_or v j 0 % 257 ≡ carried σ (get_or lent j 0) (length σ))
        (to i left : ℕ) (words : List ℕ) (so_far : InBlock to i left words) (inside : i < to) where
      here : get_or v (i - from) 0 % 257 ≡ carried σ (locator_of i) (length σ)
      here =
          let s = so_far.started in
          let l : i - from < 64 = omega (arith, so_far.block.end) in
          valued (i - from) l
          ∙ ap (λ (y : ℕ). carried σ y (length σ)) (locator-at (i - from) l ∙ ap locator_of (let e : from + (i - from) ≡ i = omega arith in e))

      pub root-here : get_or v (i - from) 0 % 257 ≡ 0 → is_root σ i ≡ true
      root-here e = eq-eqb _ 0 ((carried-root i σ).0 (sym here ∙ e))

      pub other-here : (get_or v (i - from) 0 % 257 ≡ 0 → ⊥) → is_root σ i ≡ false
      other-here other = ne_eqb _ 0 (λ e. other (here ∙ (carried-root i σ).1 e))

  -- ---- column i is tried

  module _ (to i left : ℕ) (words : List ℕ) (so_far : InBlock to i left words) where
    pub sound-words : Sound (marking words)
    sound-words = subst⁻¹ Sound so_far.marked (columns_of-sound _)

    module _ (inside : i < to) where
      below : i < n
      below = omega (arith, so_far.block.last)

      pub block-other : (left' : ℕ) (words' : List ℕ) → is_root σ i ≡ false → words' ≡ words → left' ≡ left → InBlock to (i + 1) left' words'
      block-other left' words' other ew el = rw (ew, el) (record {
        block = so_far.block;
        started = (let s = so_far.started in omega arith);
        within = omega arith;
        marked = search-other σ i so_far.marked other;
        trying = trying-other σ n i left so_far.trying below other;
      })

      module _ (root : is_root σ i ≡ true) (words' : List ℕ) (added : marking words' ≡ columns_of (λ k. has (marking words) k || eqb k i)) where
        marked_next : marking words' ≡ searched σ (i + 1)
        marked_next = added ∙ search-root σ i so_far.marked root

        pub block-root : (left' : ℕ) → 0 < left - 1 → left' ≡ left - 1 → InBlock to (i + 1) left' words'
        block-root left' more el = rw el (record {
          block = so_far.block;
          started = (let s = so_far.started in omega arith);
          within = omega arith;
          marked = marked_next;
          trying = trying-root σ n i left so_far.trying below root more;
        })

        -- it is the last one to find
        pub block-ends : left - 1 ≡ 0 → Tried σ n from words' (record { left = left - 1; tried = i + 1 })
        block-ends none = record {
          marked = marked_next;
          ends = λ _. trying-ends σ n i left so_far.trying below root none;
          goes_on = λ more. absurd (let z : ⊥ = omega arith in z);
        }

    pub block-all : to ≤ i → Tried σ n from words (record { left = left; tried = to })
    block-all all =
        let here : i ≡ to = omega (arith, so_far.within) in
        let block = so_far.block in
        let found = so_far.marked ∙ ap (searched σ) here in
        record {
          marked = found;
          ends = λ none. absurd (let more = so_far.trying.more in let z : ⊥ = omega arith in z);
          goes_on = λ more. (
            block.some,
            record {
              within = block.last;
              whole = λ l. (let e = block.whole l in let a = block.aligned in omega arith);
              marked = found;
              trying = rw here at so_far.trying;
            },
          );
        }
