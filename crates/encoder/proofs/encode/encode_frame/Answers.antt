-- `encoder::encode::encode_frame` meets its contract: by each way its answer and the frame that it leaves.
use Rattle.std.proofs.Common.{arith}
use Rattle.std.proofs.lemmas.Grind.{common_steps}
use Rattle.frame.proofs.RowPlace.{frame_small}
use Rattle.uniform.specs.Encodable.{EncodableFrame}
use Rattle.encoder.proofs.encode.encode_frame.Goals as goal
use Rattle.encoder.proofs.encode.encode_frame.Goals.{In_ok-require-2}

pub overflow_mul-s : goal.overflow_mul-s
overflow_mul-s c = omega (arith, frame_small _ c.requires)

encodable : (c : In_ok-require-2) → EncodableFrame c.args.s c.args.frame.now
encodable c =
    record {
      shape = c.requires;
      whole = grind (arith, common_steps);
      small = grind (arith, common_steps);
    }

pub encodes_uniform-requires : goal.encodes_uniform-requires
encodes_uniform-requires c = encodable c

pub fill_checks-requires : goal.fill_checks-requires
fill_checks-requires c = encodable (goal.at.fill_checks-requires c).In_ok-require-2
