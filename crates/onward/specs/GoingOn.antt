-- A step of a locate in slices that is not the last one: whether it can be made, and what it leaves.
use Rattle.std.specs.Prelude.{◌≡◌, Bool, cond, not, ◌&&◌}
use Rattle.frame.specs.Shape.{is_shape}
use Rattle.frame.specs.declared.Shape.{Shape}
use Rattle.slices.specs.Synthesis.{Synthesis, last_step_of, synthesis_sound, advanced}

-- The next step can be made of what is kept of the search, and is not the last one. What the last one reads besides plays no part. `unfinished` tells that the
-- phase of the job, whose shape is s, is so.
abbrev pub goes_onward : (unfinished : Bool) → Shape → Synthesis → Bool
goes_onward unfinished s x = unfinished && (is_shape s && (synthesis_sound s.rows x && not (last_step_of s.rows x)))

-- r tells whether it is made; y stands where x stood
pub record GoesOn (unfinished : Bool) (s : Shape) (x : Synthesis) (r : Bool) (y : Synthesis) : Type 0 where
  pub told : r ≡ goes_onward unfinished s x
  pub left : y ≡ cond r (advanced s.rows x) x
