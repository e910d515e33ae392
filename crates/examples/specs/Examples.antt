-- The marked examples (SPECIFICATION.md, "Examples") as one table, with everything that is said of them. An entry holds what is given and what comes of
-- it; `computed` makes anew what comes of it, by the definitions of the finder and of the calls. The theorem, in proofs/Examples.antt, is that the table stays
-- as it is.
use Rattle.std.specs.Prelude.{◌≡◌, Bool, true, false, List, [], ◌∷◌, ◌++◌, map, ℕ, suc, length, replicate, take}
use Rattle.columns.specs.Columns.{members}
use Rattle.decoding.specs.Locating.{size_of, taps_of, alone_of}
use Rattle.decoding.specs.Remaining.{sums_read, read_sequences}
use Rattle.examples.specs.Enumeration.{registers}
use Rattle.finder.specs.Finder as Finder
use Rattle.finder.specs.Finder.{answer, taps_left}
use Rattle.frame.specs.DeclaredCells.{Declared, declared_by}
use Rattle.frame.specs.Frame.{sequences}
use Rattle.frame.specs.Shape.{shape_of}
use Rattle.frame.specs.declared.Shape.{Shape}
use Rattle.job.specs.Calls as Calls
use Rattle.job.specs.Calls.{Outcome, step}
use Rattle.job.specs.Job.{empty_job, no_arrays}
use Rattle.job.specs.NothingDeclared.{no_words}
use Rattle.lists.specs.Tabulate.{tabulate, joined}
use Rattle.register.specs.Sequences.{longest}

pub data Example : Type 0 where
  -- modulus and sequences; the finder's answer and taps; all registers of each length up to that one, so that none is shorter
  register : (p : ℕ) (ss : List (List ℕ)) (found : Finder.Answer) (taps : List ℕ) (all : List (List (List ℕ))) → Example
  -- columns, check counts, exponent and frame; the check sums, the register's length, taps and alone mark; what locate answers, and the columns
  frame :
      (n : ℕ) (checks : List ℕ) (b : ℕ) (f : List ℕ) (sums : List (List ℕ)) (c : ℕ) (taps : List ℕ) (alone : Bool) (said : Calls.Answer)
      (marked : List ℕ) → Example
  -- columns, check counts, exponent, declared cells and frame; the check sums of the frame as read, what is left of them, the register's length, taps and
  -- alone mark; what locate answers, the columns, and the frame that repair leaves after it
  declared :
      (n : ℕ) (checks : List ℕ) (b : ℕ) (words f : List ℕ) (sums sequences : List (List ℕ)) (c : ℕ) (taps : List ℕ) (alone : Bool) (said : Calls.Answer)
      (marked left : List ℕ) → Example
  -- columns, check counts, exponent and frame; what encode answers, and the frame that it leaves
  encoded : (n : ℕ) (checks : List ℕ) (b : ℕ) (f : List ℕ) (said : Calls.Answer) (left : List ℕ) → Example

unfoldable pub length_of : Finder.Answer → ℕ
length_of (Finder.register l a) = l
length_of (Finder.refused k) = 0

unfoldable pub computed : Example → Example
computed (register p ss found taps all) =
    let lengths : List ℕ = map length ss in
    let said : Finder.Answer = answer p lengths (joined ss) (suc (longest ss)) in
    register p ss said (take (suc (length_of said)) (taps_left p lengths (joined ss) (replicate (suc (longest ss)) 0)))
    (tabulate (suc (length_of said)) (λ l. registers p l ss))
computed (frame n checks b f sums c taps alone said marked) =
    let ss : List (List ℕ) = sequences (shape_of n checks b) f in
    let o : Outcome = step (step (empty_job no_arrays) (Calls.shape n checks b)).job (Calls.locate no_words f) in
    frame n checks b f ss (size_of ss) (taps_of ss) (alone_of ss) o.answer (members o.marks)
computed (declared n checks b words f sums ss c taps alone said marked left) =
    let s : Shape = shape_of n checks b in
    let D : Declared = declared_by words in
    let xs : List (List ℕ) = read_sequences s D f in
    let o : Outcome = step (step (empty_job no_arrays) (Calls.shape n checks b)).job (Calls.locate words f) in
    declared n checks b words f (sums_read s D f) xs (size_of xs) (taps_of xs) (alone_of xs) o.answer (members o.marks)
    (step o.job (Calls.repair f)).frame
computed (encoded n checks b f said left) =
    let o : Outcome = step (step (empty_job no_arrays) (Calls.shape n checks b)).job (Calls.encode f) in
    encoded n checks b f o.answer o.frame

unfoldable pub table : List Example
table =
    -- A
    register 5 ((1 ∷ 2 ∷ 4 ∷ 3 ∷ []) ∷ []) (Finder.register 1 true) (1 ∷ 3 ∷ [])
    ([] ∷ ((1 ∷ 3 ∷ []) ∷ []) ∷ []) ∷
    -- B, with its five registers
    register 5 ((1 ∷ 2 ∷ 4 ∷ 3 ∷ []) ∷ (1 ∷ 1 ∷ []) ∷ []) (Finder.register 2 false) (1 ∷ 3 ∷ 0 ∷ [])
    ([] ∷ [] ∷ ((1 ∷ 0 ∷ 1 ∷ []) ∷ (1 ∷ 1 ∷ 4 ∷ []) ∷ (1 ∷ 2 ∷ 2 ∷ []) ∷ (1 ∷ 3 ∷ 0 ∷ []) ∷ (1 ∷ 4 ∷ 3 ∷ []) ∷ []) ∷ []) ∷
    -- C
    register 2 ((0 ∷ 0 ∷ 1 ∷ []) ∷ []) (Finder.register 3 false) (1 ∷ 0 ∷ 0 ∷ 0 ∷ [])
    ([] ∷ [] ∷ [] ∷ ((1 ∷ 0 ∷ 0 ∷ 0 ∷ []) ∷ (1 ∷ 0 ∷ 0 ∷ 1 ∷ []) ∷ (1 ∷ 0 ∷ 1 ∷ 0 ∷ []) ∷ (1 ∷ 0 ∷ 1 ∷ 1 ∷ []) ∷
    (1 ∷ 1 ∷ 0 ∷ 0 ∷ []) ∷ (1 ∷ 1 ∷ 0 ∷ 1 ∷ []) ∷ (1 ∷ 1 ∷ 1 ∷ 0 ∷ []) ∷ (1 ∷ 1 ∷ 1 ∷ 1 ∷ []) ∷ []) ∷ []) ∷
    -- D
    register 7 ((0 ∷ 0 ∷ 0 ∷ []) ∷ [] ∷ []) (Finder.register 0 true) (1 ∷ [])
    (((1 ∷ []) ∷ []) ∷ []) ∷
    -- E
    register 5 ((3 ∷ []) ∷ []) (Finder.register 1 false) (1 ∷ 0 ∷ [])
    ([] ∷ ((1 ∷ 0 ∷ []) ∷ (1 ∷ 1 ∷ []) ∷ (1 ∷ 2 ∷ []) ∷ (1 ∷ 3 ∷ []) ∷ (1 ∷ 4 ∷ []) ∷ []) ∷ []) ∷
    -- F
    register 2 ((1 ∷ 0 ∷ 1 ∷ 1 ∷ 0 ∷ 1 ∷ []) ∷ (0 ∷ 1 ∷ 1 ∷ 0 ∷ []) ∷ []) (Finder.register 2 true) (1 ∷ 1 ∷ 1 ∷ [])
    ([] ∷ [] ∷ ((1 ∷ 1 ∷ 1 ∷ []) ∷ []) ∷ []) ∷
    -- the shorter sequence given first: taken in this order the taps would be 1 1 0 0
    register 2 ((1 ∷ 1 ∷ []) ∷ (0 ∷ 0 ∷ 1 ∷ []) ∷ []) (Finder.register 3 false) (1 ∷ 0 ∷ 0 ∷ 0 ∷ [])
    ([] ∷ [] ∷ [] ∷ ((1 ∷ 0 ∷ 0 ∷ 0 ∷ []) ∷ (1 ∷ 0 ∷ 0 ∷ 1 ∷ []) ∷ (1 ∷ 0 ∷ 1 ∷ 0 ∷ []) ∷ (1 ∷ 0 ∷ 1 ∷ 1 ∷ []) ∷
    (1 ∷ 1 ∷ 0 ∷ 0 ∷ []) ∷ (1 ∷ 1 ∷ 0 ∷ 1 ∷ []) ∷ (1 ∷ 1 ∷ 1 ∷ 0 ∷ []) ∷ (1 ∷ 1 ∷ 1 ∷ 1 ∷ []) ∷ []) ∷ []) ∷
    -- two sequences of one length, which keep their order: in the other one the taps would be 1 1 0
    register 2 ((0 ∷ 1 ∷ []) ∷ (1 ∷ 1 ∷ []) ∷ []) (Finder.register 2 false) (1 ∷ 0 ∷ 0 ∷ [])
    ([] ∷ [] ∷ ((1 ∷ 0 ∷ 0 ∷ []) ∷ (1 ∷ 0 ∷ 1 ∷ []) ∷ (1 ∷ 1 ∷ 0 ∷ []) ∷ (1 ∷ 1 ∷ 1 ∷ []) ∷ []) ∷ []) ∷
    -- G: the frame of zeros is the only codeword at distance 1
    frame 4 (3 ∷ 2 ∷ []) 1 (0 ∷ 0 ∷ 5 ∷ 0 ∷ 0 ∷ 0 ∷ 7 ∷ 0 ∷ []) ((45 ∷ 148 ∷ 47 ∷ []) ∷ (63 ∷ 53 ∷ []) ∷ []) 1
    (1 ∷ 248 ∷ []) true (Calls.refused 26) [] ∷
    -- the same damage to a legal frame
    frame 4 (3 ∷ 2 ∷ []) 1 (42 ∷ 94 ∷ 223 ∷ 1 ∷ 255 ∷ 139 ∷ 9 ∷ 3 ∷ []) ((45 ∷ 148 ∷ 47 ∷ []) ∷ (63 ∷ 53 ∷ []) ∷ []) 1
    (1 ∷ 248 ∷ []) true (Calls.columns 1) (2 ∷ []) ∷
    -- no damage, but one symbol throughout, which of 256 columns is a codeword
    frame 256 (2 ∷ []) 1 (replicate 256 7) ((0 ∷ 0 ∷ []) ∷ []) 0 (1 ∷ []) true (Calls.refused 26) [] ∷
    -- H
    frame 4 (2 ∷ 2 ∷ []) 1 (1 ∷ 1 ∷ 0 ∷ 0 ∷ 0 ∷ 0 ∷ 0 ∷ 0 ∷ []) ((4 ∷ 10 ∷ []) ∷ (0 ∷ 0 ∷ []) ∷ []) 1
    (1 ∷ 126 ∷ []) true (Calls.refused 26) [] ∷
    -- I
    frame 4 (1 ∷ 1 ∷ []) 1 (5 ∷ 0 ∷ 0 ∷ 0 ∷ 0 ∷ 0 ∷ 0 ∷ 0 ∷ []) ((5 ∷ []) ∷ (0 ∷ []) ∷ []) 1
    (1 ∷ 0 ∷ []) false (Calls.refused 24) [] ∷
    -- J
    frame 6 (4 ∷ 1 ∷ []) 1 (1 ∷ 1 ∷ 0 ∷ 0 ∷ 0 ∷ 0 ∷ 0 ∷ 0 ∷ 0 ∷ 0 ∷ 0 ∷ 0 ∷ []) ((4 ∷ 10 ∷ 28 ∷ 82 ∷ []) ∷ (0 ∷ []) ∷ []) 2
    (1 ∷ 253 ∷ 3 ∷ []) true (Calls.refused 25) [] ∷
    -- K
    encoded 3 (1 ∷ []) 1 (0 ∷ 1 ∷ 1 ∷ []) Calls.done (245 ∷ 1 ∷ 1 ∷ []) ∷
    -- data of which the only codeword is uniform: nothing is written
    encoded 4 (1 ∷ 1 ∷ []) 64 (0 ∷ 5 ∷ 5 ∷ 5 ∷ 0 ∷ 5 ∷ 5 ∷ 5 ∷ []) (Calls.refused 34) (0 ∷ 5 ∷ 5 ∷ 5 ∷ 0 ∷ 5 ∷ 5 ∷ 5 ∷ []) ∷
    -- of one row, two columns and one check all data are so where the check sums begin at the exponent 128
    encoded 2 (1 ∷ []) 128 (0 ∷ 3 ∷ []) (Calls.refused 34) (0 ∷ 3 ∷ []) ∷
    -- the damage of G, and K, with check sums that begin at another exponent
    frame 4 (3 ∷ 2 ∷ []) 0 (230 ∷ 39 ∷ 249 ∷ 1 ∷ 42 ∷ 210 ∷ 9 ∷ 3 ∷ []) ((5 ∷ 45 ∷ 148 ∷ []) ∷ (7 ∷ 63 ∷ []) ∷ []) 1
    (1 ∷ 248 ∷ []) true (Calls.columns 1) (2 ∷ []) ∷
    encoded 3 (1 ∷ []) 255 (0 ∷ 1 ∷ 1 ∷ []) Calls.done (228 ∷ 1 ∷ 1 ∷ []) ∷
    -- one row of 256 columns, damaged in column 64, the first of a word of marks, and in the last one
    frame 256 (4 ∷ []) 1 (196 ∷ 138 ∷ 169 ∷ 137 ∷ 1 ∷ (replicate 59 0 ++ (1 ∷ (replicate 190 0 ++ (3 ∷ [])))))
    ((242 ∷ 85 ∷ 216 ∷ 239 ∷ []) ∷ []) 2 (1 ∷ 187 ∷ 166 ∷ []) true (Calls.columns 2) (64 ∷ 255 ∷ []) ∷
    -- the one named column is declared in row 2, which cannot be completed there; the repair that follows is refused
    declared 3 (2 ∷ 2 ∷ []) 1 (replicate 4 0 ++ (1 ∷ replicate 27 0)) (1 ∷ 0 ∷ 0 ∷ 65535 ∷ 1 ∷ 0 ∷ [])
    ((1 ∷ 1 ∷ []) ∷ (3 ∷ 9 ∷ []) ∷ []) ((1 ∷ 1 ∷ []) ∷ (6 ∷ []) ∷ []) 1 (1 ∷ 256 ∷ []) true (Calls.refused 26) []
    (1 ∷ 0 ∷ 0 ∷ 65535 ∷ 1 ∷ 0 ∷ []) ∷
    -- column 0 of row 1 declared; filled it would make the frame of zeros, whatever it holds
    declared 4 (3 ∷ 3 ∷ []) 1 (1 ∷ replicate 31 0) (65535 ∷ 0 ∷ 5 ∷ 0 ∷ 0 ∷ 0 ∷ 7 ∷ 0 ∷ [])
    ((45 ∷ 148 ∷ 47 ∷ []) ∷ (63 ∷ 53 ∷ 220 ∷ []) ∷ []) ((103 ∷ 156 ∷ []) ∷ (63 ∷ 53 ∷ 220 ∷ []) ∷ []) 1 (1 ∷ 248 ∷ []) true
    (Calls.refused 26) [] (65535 ∷ 0 ∷ 5 ∷ 0 ∷ 0 ∷ 0 ∷ 7 ∷ 0 ∷ []) ∷
    -- the same damage to a legal frame, where the check sums begin at the exponent 255; the declared cell is filled
    declared 4 (3 ∷ 3 ∷ []) 255 (1 ∷ replicate 31 0) (65535 ∷ 90 ∷ 172 ∷ 1 ∷ 255 ∷ 180 ∷ 84 ∷ 2 ∷ [])
    ((230 ∷ 6 ∷ 46 ∷ []) ∷ (115 ∷ 7 ∷ 63 ∷ []) ∷ []) ((33 ∷ 40 ∷ []) ∷ (115 ∷ 7 ∷ 63 ∷ []) ∷ []) 1 (1 ∷ 248 ∷ []) true
    (Calls.columns 1) (2 ∷ []) (256 ∷ 90 ∷ 167 ∷ 1 ∷ 255 ∷ 180 ∷ 77 ∷ 2 ∷ []) ∷
    []

abbrev pub Examples : Type 0
Examples = map computed table ≡ table
