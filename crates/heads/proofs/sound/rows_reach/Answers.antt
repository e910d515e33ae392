-- `heads::sound::rows_reach` meets its contract.
use native.Mathlib.Omega.{arith}
use lib.Dec.{leb}
use Rattle.std.proofs.Common.{◌↔◌, rules, take}
use Rattle.std.specs.Prelude.{IsTrue, EachIndex, slice_index}
use Rattle.decoding.specs.Locating.{rows_reach}
use Rattle.frame.proofs.Shapes.{shape-ranges}
use Rattle.lists.proofs.Every.{every-front}
use Rattle.heads.proofs.sound.rows_reach.Goals as goal

pub shared_ref_as_front-iter : goal.shared_ref_as_front-iter
shared_ref_as_front-iter c = let r = shape-ranges _ c.requires in omega arith

pub returns : goal.returns
unfolding rows_reach
returns c =
    let r = shape-ranges _ c.requires in
    let counts = take c.args.s.rows c.args.s.checks in
    let told : IsTrue c.all.result ↔ EachIndex counts (λ k. IsTrue (leb c.args.c (slice_index counts k))) = search rules in
    every-front (leb c.args.c) c.args.s.rows c.args.s.checks (omega arith) _ told
